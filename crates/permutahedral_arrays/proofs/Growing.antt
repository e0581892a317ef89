-- Lists that are made from a longer range of numbers.
use Rattle.std.proofs.Common.{◌≡◌, ℕ, zero, suc, ◌+◌, ◌-◌, ◌<◌, ◌≤◌, List, [], ◌∷◌, ◌++◌, Bool, true, false, cond, ◌==◌, ◌&&◌, map, filter, length, set, get_or, refl, ap, sym, ◌∙◌, subst, arith}
use Rattle.std.specs.List.{range_with_len, flat_map, list_all, list_any}
use Rattle.std.proofs.lemmas.Bool.{true≢false}
use Rattle.std.proofs.lemmas.List.{append-nil, append_assoc, map-append, length-append, get_or-set_other}
use Rattle.std.proofs.lemmas.List.FromFn.{get_or-map-range_with_len}
use Rattle.std.proofs.lemmas.List.Concat.{flat_map-append}
use Rattle.std.proofs.lemmas.List.Kept.{IsStrictlyIncreasing-filter}
use Rattle.face_poset.specs.Words.{upto}
use Rattle.face_poset.specs.Poset.{IsCell, count}
use Rattle.number_lists.specs.Cofaces.{cells_with, coface_lists}
use Rattle.number_lists.proofs.CallerLemmas.{increasing-upto, at-In, In-inside, upto-In}
use Rattle.number_lists.specs.Members.{In}
use Rattle.permutahedral_arrays.specs.Places.{holds_all, facets_of}
use Rattle.tuple_spaces.proofs.CallerLemmas.{filter-next, range-next}

pub flat_next : {A : Type 0} (f : ℕ → List A) (n : ℕ) → flat_map f (range_with_len 1 (n + 1)) ≡ flat_map f (range_with_len 1 n) ++ f (n + 1)
flat_next f n = ap (flat_map f) (range-next 1 n (n + 1) (omega arith)) ∙ (flat_map-append f (range_with_len 1 n) ((n + 1) ∷ []) ∙ ap (λ ys. flat_map f (range_with_len 1 n) ++ ys) (append-nil (f (n + 1))))

pub flat_grows : {A : Type 0} (f : ℕ → List A) (n k : ℕ) → length (flat_map f (range_with_len 1 n)) ≤ length (flat_map f (range_with_len 1 (n + k)))
flat_grows f n zero = let e : n ≡ n + zero = omega arith in subst (λ (m : ℕ). length (flat_map f (range_with_len 1 n)) ≤ length (flat_map f (range_with_len 1 m))) e (omega arith)
flat_grows f n (suc k) =
    let e : (n + k) + 1 ≡ n + suc k = omega arith in
    subst (λ (m : ℕ). length (flat_map f (range_with_len 1 n)) ≤ length (flat_map f (range_with_len 1 m))) e
    (omega (arith, flat_grows f n k, ap length (flat_next f (n + k)), length-append (flat_map f (range_with_len 1 (n + k))) (f (n + k + 1))))

pub flat_below : {A : Type 0} (f : ℕ → List A) (n most : ℕ) (found : List A) → n < most → found ≡ flat_map f (range_with_len 1 n) ++ f (n + 1) → length found ≤ length (flat_map f (range_with_len 1 most))
flat_below f n most found l e =
    let r : (n + 1) + (most - (n + 1)) ≡ most = omega (arith, l) in
    subst (λ (m : ℕ). length found ≤ length (flat_map f (range_with_len 1 m))) r
    (omega (arith, ap length (e ∙ sym (flat_next f n)), flat_grows f (n + 1) (most - (n + 1))))

pub filter_with : (p : ℕ → Bool) (a n k : ℕ) → a + n ≡ k → p k ≡ true → filter p (range_with_len a (n + 1)) ≡ filter p (range_with_len a n) ++ k ∷ []
filter_with p a n k e t = filter-next p a n k e ∙ ap (λ (b : Bool). filter p (range_with_len a n) ++ cond b (k ∷ []) []) t

pub filter_without : (p : ℕ → Bool) (a n k : ℕ) → a + n ≡ k → p k ≡ false → filter p (range_with_len a (n + 1)) ≡ filter p (range_with_len a n)
filter_without p a n k e t = filter-next p a n k e ∙ (ap (λ (b : Bool). filter p (range_with_len a n) ++ cond b (k ∷ []) []) t ∙ append-nil (filter p (range_with_len a n)))

-- what is made of each number that passes, after what stood
pub made_with : {A : Type 0} (g : ℕ → A) (p : ℕ → Bool) (before old new : List A) (n : ℕ) → old ≡ before ++ map g (filter p (range_with_len 0 n)) → new ≡ old ++ g n ∷ [] → p n ≡ true
    → new ≡ before ++ map g (filter p (range_with_len 0 (n + 1)))
made_with g p before old new n e h t =
    h ∙ (ap (λ xs. xs ++ g n ∷ []) e
    ∙ (append_assoc before (map g (filter p (range_with_len 0 n))) (g n ∷ [])
    ∙ ap (λ xs. before ++ xs) (sym (ap (map g) (filter_with p 0 n n (omega arith) t) ∙ map-append g (filter p (range_with_len 0 n)) (n ∷ [])))))

pub made_without : {A : Type 0} (g : ℕ → A) (p : ℕ → Bool) (before old new : List A) (n : ℕ) → old ≡ before ++ map g (filter p (range_with_len 0 n)) → new ≡ old → p n ≡ false
    → new ≡ before ++ map g (filter p (range_with_len 0 (n + 1)))
made_without g p before old new n e h t = h ∙ (e ∙ ap (λ xs. before ++ map g xs) (sym (filter_without p 0 n n (omega arith) t)))

-- the facets of a cell are facets for the builder, where there are some
pub facets-cell : (above : List (List ℕ)) (cell : List ℕ) (facets : List ℕ) → facets ≡ facets_of above cell → 1 ≤ length facets → IsCell (length above) facets
facets-cell above cell facets e some =
    let p : ℕ → Bool = λ n. holds_all (get_or above (n - 1) []) cell in
    let is : IsCell (length above) (facets_of above cell) = record {
      rises = IsStrictlyIncreasing-filter p (upto (length above)) (increasing-upto (length above));
      within = λ k d l. upto-In (length above) (get_or (facets_of above cell) k d) (In-inside p (upto (length above)) (at-In (facets_of above cell) k d l));
      some = omega (arith, some, ap length e);
    } in
    subst (IsCell (length above)) (sym e) is

-- another layer stays
pub count-other : (builder before : List (List (List ℕ))) (dim : ℕ) (cells : List (List ℕ)) → 1 ≤ dim → builder ≡ set before dim cells → count builder (dim - 1) ≡ count before (dim - 1)
count-other builder before dim cells some e = ap (λ (b : List (List (List ℕ))). count b (dim - 1)) e ∙ ap length (get_or-set_other before dim (dim - 1) cells [] (omega (arith, some)))

twice_at : (p q : ℕ → Bool) (x : ℕ) (xs : List ℕ) (a b : Bool) → (p x ≡ true → q x ≡ true) → filter p (filter q xs) ≡ filter p xs → p x ≡ a → q x ≡ b → filter p (filter q (x ∷ xs)) ≡ filter p (x ∷ xs)
twice_at p q x xs true true h r e t =
    ap (λ (c : Bool). filter p (cond c (x ∷ filter q xs) (filter q xs))) t
    ∙ (ap (λ (c : Bool). cond c (x ∷ filter p (filter q xs)) (filter p (filter q xs))) e
    ∙ (ap (λ (ys : List ℕ). x ∷ ys) r ∙ sym (ap (λ (c : Bool). cond c (x ∷ filter p xs) (filter p xs)) e)))
twice_at p q x xs true false h r e t = absurd (true≢false (sym (h e) ∙ t))
twice_at p q x xs false true h r e t =
    ap (λ (c : Bool). filter p (cond c (x ∷ filter q xs) (filter q xs))) t
    ∙ (ap (λ (c : Bool). cond c (x ∷ filter p (filter q xs)) (filter p (filter q xs))) e
    ∙ (r ∙ sym (ap (λ (c : Bool). cond c (x ∷ filter p xs) (filter p xs)) e)))
twice_at p q x xs false false h r e t =
    ap (λ (c : Bool). filter p (cond c (x ∷ filter q xs) (filter q xs))) t
    ∙ (r ∙ sym (ap (λ (c : Bool). cond c (x ∷ filter p xs) (filter p xs)) e))

-- the numbers that pass a test are among those that pass a weaker one
pub filter_twice : (p q : ℕ → Bool) → ((n : ℕ) → p n ≡ true → q n ≡ true) → (xs : List ℕ) → filter p (filter q xs) ≡ filter p xs
filter_twice p q h [] = refl
filter_twice p q h (x ∷ xs) = twice_at p q x xs (p x) (q x) (h x) (filter_twice p q h xs) refl refl

-- a cell that holds all points holds the first
first_held : (above cell : List ℕ) → 1 ≤ length cell → holds_all above cell ≡ true → list_any (λ q. q == get_or cell 0 0) above ≡ true
first_held above [] l e = absurd (omega (arith, l))
first_held above (p ∷ ps) l e = go (list_any (λ q. q == p) above) (list_all (λ r. list_any (λ q. q == r) above) ps) refl e
  where
    go : (a b : Bool) → list_any (λ q. q == p) above ≡ a → (a && b) ≡ true → list_any (λ q. q == p) above ≡ true
    go true b t h = t
    go false b t h = absurd (true≢false (sym h))

-- the facets of a cell are among the cells that hold its first point
pub facets_among : (above : List (List ℕ)) (cell listed : List ℕ) (most : ℕ) → 1 ≤ length cell → 1 ≤ get_or cell 0 0 → get_or cell 0 0 ≤ most
    → listed ≡ get_or (coface_lists most above) (get_or cell 0 0 - 1) [] → filter (λ n. holds_all (get_or above (n - 1) []) cell) listed ≡ facets_of above cell
facets_among above cell listed most some low high e =
    let v : ℕ = get_or cell 0 0 in
    let p : ℕ → Bool = λ n. holds_all (get_or above (n - 1) []) cell in
    ap (filter p) (e ∙ get_or-map-range_with_len (cells_with above) 1 most (v - 1) v [] (omega (arith, low, high)) (omega (arith, low)))
    ∙ filter_twice p (λ n. list_any (λ q. q == v) (get_or above (n - 1) [])) (λ n h. first_held (get_or above (n - 1) []) cell some h) (upto (length above))

pub listed-below : (above : List (List ℕ)) (listed : List ℕ) (most v i : ℕ) → 1 ≤ v → v ≤ most → listed ≡ get_or (coface_lists most above) (v - 1) [] → i < length listed
    → (1 ≤ get_or listed i 0) × (get_or listed i 0 ≤ length above)
listed-below above listed most v i low high e l =
    let is : listed ≡ cells_with above v = e ∙ get_or-map-range_with_len (cells_with above) 1 most (v - 1) v [] (omega (arith, low, high)) (omega (arith, low)) in
    upto-In (length above) (get_or listed i 0)
    (In-inside (λ n. list_any (λ q. q == v) (get_or above (n - 1) [])) (upto (length above)) (subst (λ (xs : List ℕ). In (get_or listed i 0) xs) is (at-In listed i 0 l)))
