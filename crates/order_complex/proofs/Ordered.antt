-- The chains of a degree stand in lexicographic order, each once.
use Rattle.std.proofs.Common.{◌≡◌, ◌≢◌, inl, inr, ℕ, zero, suc, ◌+◌, ◌-◌, ◌<◌, List, [], ◌∷◌, ◌++◌, Bool, true, false, cond, map, filter, length, get_or, refl, sym, subst, arith}
use Rattle.std.specs.Prelude.{⊤}
use Rattle.std.specs.List.{AllByRecursion, flat_map, range_with_len}
use Rattle.std.proofs.lemmas.List.Concat.{flat_map-cons}
use native.Mathlib.Decide.{dec_lt}
use Prim.{yes, no}
use Rattle.face_poset.specs.Words.{upto, holds}
use Rattle.number_lists.specs.Members.{In, here, there}
use Rattle.number_lists.proofs.CallerLemmas.{In-cases, flat_map-In, map-In}
use Rattle.order_complex.specs.Chains.{all_faces, above, chains_from, chains_of}
use Rattle.order_complex.specs.Order.{Before, IsOrdered}

abbrev pub Rises : List ℕ → Type 0
Rises [] = ⊤
Rises (x ∷ xs) = AllByRecursion (λ y. x < y) xs × Rises xs

all-weaker : {A : Type 0} (P Q : A → Type 0) (xs : List A) → ((x : A) → P x → Q x) → AllByRecursion P xs → AllByRecursion Q xs
all-weaker P Q [] f h = tt
all-weaker P Q (x ∷ xs) f h = (f x h.0, all-weaker P Q xs f h.1)

pub all-of : {A : Type 0} (P : A → Type 0) (xs : List A) → ((x : A) → In x xs → P x) → AllByRecursion P xs
all-of P [] f = tt
all-of P (x ∷ xs) f = (f x here, all-of P xs (λ y h. f y (there h)))

pub all-at : {A : Type 0} (P : A → Type 0) (xs : List A) (x : A) → AllByRecursion P xs → In x xs → P x
all-at P [] x h m = elim m [ ]
all-at P (y ∷ ys) x h m = elim (In-cases m) [ inl e ↦ subst P (sym e) h.0 | inr k ↦ all-at P ys x h.1 k ]

range-above : (low a n : ℕ) → low < a → AllByRecursion (λ y. low < y) (range_with_len a n)
range-above low a zero h = tt
range-above low a (suc n) h = (h, range-above low (a + 1) n (omega arith))

pub rises-range : (a n : ℕ) → Rises (range_with_len a n)
rises-range a zero = tt
rises-range a (suc n) = (range-above a (a + 1) n (omega arith), rises-range (a + 1) n)

all-cond : (P : ℕ → Type 0) (b : Bool) (y : ℕ) (ys : List ℕ) → P y → AllByRecursion P ys → AllByRecursion P (cond b (y ∷ ys) ys)
all-cond P true y ys h k = (h, k)
all-cond P false y ys h k = k

all-filter : (P : ℕ → Type 0) (p : ℕ → Bool) (xs : List ℕ) → AllByRecursion P xs → AllByRecursion P (filter p xs)
all-filter P p [] h = tt
all-filter P p (x ∷ xs) h = all-cond P (p x) x (filter p xs) h.0 (all-filter P p xs h.1)

rises-cond : (b : Bool) (y : ℕ) (ys : List ℕ) → AllByRecursion (λ z. y < z) ys → Rises ys → Rises (cond b (y ∷ ys) ys)
rises-cond true y ys h k = (h, k)
rises-cond false y ys h k = k

pub rises-filter : (p : ℕ → Bool) (xs : List ℕ) → Rises xs → Rises (filter p xs)
rises-filter p [] h = tt
rises-filter p (x ∷ xs) h = rises-cond (p x) x (filter p xs) (all-filter (λ z. x < z) p xs h.0) (rises-filter p xs h.1)

ordered-append : (xs ys : List (List ℕ)) → IsOrdered xs → IsOrdered ys → ((x y : List ℕ) → In x xs → In y ys → Before x y) → IsOrdered (xs ++ ys)
ordered-append [] ys h k f = k
ordered-append (x ∷ xs) ys h k f = (before-all xs h.0, ordered-append xs ys h.1 k (λ a b m n. f a b (there m) n))
  where
    before-all : (zs : List (List ℕ)) → AllByRecursion (Before x) zs → AllByRecursion (Before x) (zs ++ ys)
    before-all [] g = all-of (Before x) ys (λ y m. f x y here m)
    before-all (z ∷ zs) g = (g.0, before-all zs g.1)

ordered-cons : (c : ℕ) (xs : List (List ℕ)) → IsOrdered xs → IsOrdered (map (λ x. c ∷ x) xs)
ordered-cons c [] h = tt
ordered-cons c (x ∷ xs) h = (all-cons xs h.0, ordered-cons c xs h.1)
  where
    all-cons : (zs : List (List ℕ)) → AllByRecursion (Before x) zs → AllByRecursion (Before (c ∷ x)) (map (λ z. c ∷ z) zs)
    all-cons [] g = tt
    all-cons (z ∷ zs) g = (inr (refl, g.0), all-cons zs g.1)

-- lists that begin with rising numbers
ordered-flat_map : (f : ℕ → List (List ℕ)) (cs : List ℕ) → Rises cs → ((c : ℕ) → IsOrdered (f c)) → ((c : ℕ) (x : List ℕ) → In x (f c) → (rest : List ℕ) × (x ≡ c ∷ rest)) → IsOrdered (flat_map f cs)
ordered-flat_map f [] r h s = tt
ordered-flat_map f (c ∷ cs) r h s =
    subst IsOrdered (sym (flat_map-cons f c cs)) (ordered-append (f c) (flat_map f cs) (h c) (ordered-flat_map f cs r.1 h s) first)
  where
    first : (x y : List ℕ) → In x (f c) → In y (flat_map f cs) → Before x y
    first x y m n =
        let a = s c x m in
        let b = flat_map-In f cs n in
        let d = s b.0 y b.2 in
        let less : c < b.0 = all-at (λ z. c < z) cs b.0 r.0 b.1 in
        subst (λ u. Before u y) (sym a.1) (subst (Before (c ∷ a.0)) (sym d.1) (inl less))

begins : (faces : List (List ℕ)) (more cell : ℕ) (chain : List ℕ) → In chain (chains_from faces more cell) → (rest : List ℕ) × (chain ≡ cell ∷ rest)
begins faces zero cell chain h = elim (In-cases h) [ inl e ↦ ([], e) | inr n ↦ elim n [ ] ]
begins faces (suc more) cell chain h =
    let r = map-In (λ c. cell ∷ c) (flat_map (chains_from faces more) (above faces cell)) h in (r.0, r.2)

ordered-chains_from : (faces : List (List ℕ)) (more cell : ℕ) → IsOrdered (chains_from faces more cell)
ordered-chains_from faces zero cell = (tt, tt)
ordered-chains_from faces (suc more) cell =
    ordered-cons cell (flat_map (chains_from faces more) (above faces cell))
    (ordered-flat_map (chains_from faces more) (above faces cell) (rises-filter (λ u. holds (get_or faces (u - 1) []) cell) (upto (length faces)) (rises-range 1 (length faces)))
    (ordered-chains_from faces more) (begins faces more))

pub ordered-chains_of : (space : List (List (List ℕ))) (degree : ℕ) → IsOrdered (chains_of space degree)
ordered-chains_of space degree =
    ordered-flat_map (chains_from (all_faces space) degree) (upto (length (all_faces space))) (rises-range 1 (length (all_faces space))) (ordered-chains_from (all_faces space) degree) (begins (all_faces space) degree)

-- ---- by places

pub before-self : (x : List ℕ) → Before x x → ⊥
before-self [] h = h
before-self (x ∷ xs) (inl l) = omega arith
before-self (x ∷ xs) (inr h) = before-self xs h.1

pub ordered-at : (xs : List (List ℕ)) (i j : ℕ) → IsOrdered xs → i < j → j < length xs → Before (get_or xs i []) (get_or xs j [])
ordered-at [] i j h l m = absurd (omega arith)
ordered-at (x ∷ xs) zero zero h l m = absurd (omega arith)
ordered-at (x ∷ xs) zero (suc j) h l m = all_by_place xs j h.0 (omega arith)
  where
    all_by_place : (ys : List (List ℕ)) (k : ℕ) → AllByRecursion (Before x) ys → k < length ys → Before x (get_or ys k [])
    all_by_place [] k g b = absurd (omega arith)
    all_by_place (y ∷ ys) zero g b = g.0
    all_by_place (y ∷ ys) (suc k) g b = all_by_place ys k g.1 (omega arith)
ordered-at (x ∷ xs) (suc i) zero h l m = absurd (omega arith)
ordered-at (x ∷ xs) (suc i) (suc j) h l m = ordered-at xs i j h.1 (omega arith) (omega arith)

pub ordered-differ : (xs : List (List ℕ)) (i j : ℕ) → IsOrdered xs → i < length xs → j < length xs → i ≢ j → get_or xs i [] ≢ get_or xs j []
ordered-differ xs i j h l m ne e =
    elim (dec_lt i j) [
      | yes a ↦ before-self (get_or xs j []) (subst (λ u. Before u (get_or xs j [])) e (ordered-at xs i j h a m))
      | no b ↦ before-self (get_or xs i []) (subst (λ u. Before u (get_or xs i [])) (sym e) (ordered-at xs j i h (omega arith) l))
    ]
