-- Lists and ranges of numbers: what std and number_lists lack.
use Rattle.std.proofs.Common.{◌≡◌, ◌⊎◌, inl, inr, ℕ, zero, suc, ◌+◌, ◌*◌, ◌/◌, ◌%◌, ◌<◌, List, [], ◌∷◌, ◌++◌, Bool, true, false, cond, filter, map, refl, ap, sym, ◌∙◌, arith}
use Rattle.std.specs.List.{flat_map, range_with_len, items_where_true}
use Rattle.std.proofs.lemmas.Nat.{div-mul-add, mod-mul-add}
use Rattle.std.proofs.lemmas.List.{map-id, same_lists, append-nil}
use Rattle.std.proofs.lemmas.List.Concat.{flat_map-append}
use Rattle.std.proofs.lemmas.List.Elements.{filter-append}
use Rattle.std.proofs.lemmas.List.FromFn.{length-map-range_with_len, get_or-map-range_with_len, map-range_with_len_more}
use Rattle.number_lists.specs.Members.{In, here, there}
use Rattle.number_lists.proofs.CallerLemmas.{In-range, range-In, map-range_with_len_add}

-- ---- lists

pub map_same : {A B : Type 0} (f g : A → B) (xs : List A) → ((x : A) → In x xs → f x ≡ g x) → map f xs ≡ map g xs
map_same f g [] h = refl
map_same f g (x ∷ xs) h = ap (λ y. y ∷ map f xs) (h x here) ∙ ap (λ ys. g x ∷ ys) (map_same f g xs (λ y i. h y (there i)))

-- a list without members
pub none_in : {A : Type 0} (xs : List A) → ((x : A) → In x xs → ⊥) → xs ≡ []
none_in [] h = refl
none_in (x ∷ xs) h = absurd (h x here)

-- a member of two that stand there or not
pub two_of : {A : Type 0} (b : Bool) (x y : A) {z : A} → In z (cond b (x ∷ y ∷ []) []) → (b ≡ true) × ((z ≡ x) ⊎ (z ≡ y))
two_of true x y here = (refl, inl refl)
two_of true x y (there here) = (refl, inr refl)
two_of true x y (there (there i)) = elim i [ ]
two_of false x y i = elim i [ ]

-- ---- the items where bits are 1

pub where-map : {A B : Type 0} (f : A → B) (bits : List Bool) (xs : List A) → items_where_true bits (map f xs) ≡ map f (items_where_true bits xs)
where-map f [] xs = refl
where-map f (b ∷ bits) [] = refl
where-map f (true ∷ bits) (x ∷ xs) = ap (λ ys. f x ∷ ys) (where-map f bits xs)
where-map f (false ∷ bits) (x ∷ xs) = where-map f bits xs

pub where-In : {A : Type 0} {x : A} (bits : List Bool) (xs : List A) → In x (items_where_true bits xs) → In x xs
where-In [] xs i = elim i [ ]
where-In (b ∷ bits) [] i = elim i [ ]
where-In (true ∷ bits) (x ∷ xs) here = here
where-In (true ∷ bits) (x ∷ xs) (there i) = there (where-In bits xs i)
where-In (false ∷ bits) (x ∷ xs) i = there (where-In bits xs i)

-- ---- ranges

-- one number more
pub range-next : (a n k : ℕ) → a + n ≡ k → range_with_len a (n + 1) ≡ range_with_len a n ++ k ∷ []
range-next a n k e =
    sym (map-id (range_with_len a (n + 1))) ∙ (map-range_with_len_more (λ (x : ℕ). x) a n k e ∙ ap (λ (xs : List ℕ). xs ++ k ∷ []) (map-id (range_with_len a n)))

pub range-more : (n : ℕ) → range_with_len 0 (n + 1) ≡ range_with_len 0 n ++ n ∷ []
range-more n = range-next 0 n n (omega arith)

-- those of the range that pass
pub filter-next : (p : ℕ → Bool) (a n k : ℕ) → a + n ≡ k → filter p (range_with_len a (n + 1)) ≡ filter p (range_with_len a n) ++ cond (p k) (k ∷ []) []
filter-next p a n k e = ap (filter p) (range-next a n k e) ∙ filter-append p (range_with_len a n) (k ∷ [])

-- the numbers below n
pub In-below : (n k : ℕ) → k < n → In k (range_with_len 0 n)
In-below n k l = In-range 0 n k (omega arith) (omega arith)

pub below-In : (n k : ℕ) → In k (range_with_len 0 n) → k < n
below-In n k i = let r = range-In 0 n k i in omega (arith, r.1)

-- rows of the same length, one after another
pub rows_joined : {A : Type 0} (g : ℕ → ℕ → A) (height width : ℕ) → 0 < width → flat_map (λ c. map (g c) (range_with_len 0 width)) (range_with_len 0 height) ≡ map (λ i. g (i / width) (i % width)) (range_with_len 0 (height * width))
rows_joined g zero width l = let e : zero * width ≡ zero = omega arith in sym (ap (λ (n : ℕ). map (λ i. g (i / width) (i % width)) (range_with_len 0 n)) e)
rows_joined g (suc h) width l =
    let row : ℕ → List _ = λ c. map (g c) (range_with_len 0 width) in
    let f : ℕ → _ = λ i. g (i / width) (i % width) in
    let s : suc h ≡ h + 1 = omega arith in
    let e : suc h * width ≡ h * width + width = omega arith in
    ap (λ (n : ℕ). flat_map row (range_with_len 0 n)) s
    ∙ (ap (flat_map row) (range-more h)
    ∙ (flat_map-append row (range_with_len 0 h) (h ∷ [])
    ∙ (ap (λ ys. flat_map row (range_with_len 0 h) ++ ys) (append-nil (row h))
    ∙ (ap (λ ys. ys ++ row h) (rows_joined g h width l)
    ∙ (ap (λ ys. map f (range_with_len 0 (h * width)) ++ ys) last_row ∙ sym (ap (λ (n : ℕ). map f (range_with_len 0 n)) e ∙ map-range_with_len_add f (h * width) width))))))
  where
    last_row : map (g h) (range_with_len 0 width) ≡ map (λ j. g ((h * width + j) / width) ((h * width + j) % width)) (range_with_len 0 width)
    last_row =
        same_lists (map (g h) (range_with_len 0 width)) (map (λ j. g ((h * width + j) / width) ((h * width + j) % width)) (range_with_len 0 width)) (length-map-range_with_len (g h) 0 width ∙ sym (length-map-range_with_len (λ j. g ((h * width + j) / width) ((h * width + j) % width)) 0 width))
        (λ k d m.
        let lt : k < width = omega (arith, length-map-range_with_len (g h) 0 width) in
        get_or-map-range_with_len (g h) 0 width k k d lt (omega arith)
        ∙ (sym (ap (λ (q : ℕ). g q ((h * width + k) % width)) (div-mul-add h width k lt) ∙ ap (g h) (mod-mul-add h width k lt))
        ∙ sym (get_or-map-range_with_len (λ j. g ((h * width + j) / width) ((h * width + j) % width)) 0 width k k d lt (omega arith))))

-- ---- increasing lists
