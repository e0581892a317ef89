-- Lists of which each element stands in a relation to all later ones, and increasing lists of numbers.
use Rattle.std.proofs.Common.{◌≡◌, ◌≢◌, ◌⊎◌, inl, inr, ℕ, zero, suc, ◌+◌, ◌<◌, ◌≤◌, List, [], ◌∷◌, ◌++◌, Bool, true, false, cond, filter, map, length, get_or, refl, ap, sym, ◌∙◌, subst, arith, Contains, ◌==◌, nat_lt}
use Rattle.std.specs.List.Sorted.{IsStrictlyIncreasing}
use Rattle.std.proofs.lemmas.Bool.{eqb-true, eq-eqb, ne_eqb, ltb-true, lt-ltb, false≢true, cases_lt}
use Rattle.number_lists.specs.Members.{In, here, there}
use Rattle.number_lists.proofs.CallerLemmas.{In-cases, In-inside, append-In, at-In, In-at, map-In, In-Contains, Contains-In, increasing_tail, increasing_head, same_increasing, same_holds}
use Rattle.facet_reader.specs.Simplices.{put, in_order, number_in}

pub data Ranked {A : Type 0} (R : A → A → Type 0) : List A → Type 0 where
  no_rank : Ranked R []
  rank : {x : A} {xs : List A} → ((y : A) → In y xs → R x y) → Ranked R xs → Ranked R (x ∷ xs)

module _ {A : Type 0} (R : A → A → Type 0) where
  pub ranked-filter : (p : A → Bool) {xs : List A} → Ranked R xs → Ranked R (filter p xs)
  ranked-filter p no_rank = no_rank
  ranked-filter p (rank {x} {xs} h k) = by_test (p x) (ranked-filter p k)
    where
      by_test : (b : Bool) → Ranked R (filter p xs) → Ranked R (cond b (x ∷ filter p xs) (filter p xs))
      by_test true e = rank (λ y i. h y (In-inside p xs i)) e
      by_test false e = e

  pub ranked-append : {xs ys : List A} → Ranked R xs → Ranked R ys → ((x y : A) → In x xs → In y ys → R x y) → Ranked R (xs ++ ys)
  ranked-append no_rank e h = e
  ranked-append {ys = ys} (rank {x} {xs} n d) e h = rank (λ z i. elim (append-In xs ys i) [ inl p ↦ n z p | inr p ↦ h x z here p ]) (ranked-append d e (λ y z i j. h y z (there i) j))

pub ranked-map : {A B : Type 0} (R : A → A → Type 0) (S : B → B → Type 0) (f : A → B) {xs : List A} → ((x y : A) → In x xs → In y xs → R x y → S (f x) (f y)) → Ranked R xs → Ranked S (map f xs)
ranked-map R S f h no_rank = no_rank
ranked-map {A} {B} R S f h (rank {x} {xs} n d) =
    rank (λ z i. (let r = map-In f xs i in subst (S (f x)) (sym r.2) (h x r.0 here (there r.1) (n r.0 r.1)))) (ranked-map R S f (λ a b i j. h a b (there i) (there j)) d)

-- ---- increasing numbers

pub rises-increasing : {xs : List ℕ} → Ranked (λ x y. x < y) xs → IsStrictlyIncreasing xs
rises-increasing no_rank k l = absurd (omega arith)
rises-increasing (rank {x} {xs} h d) zero l = h (get_or xs 0 0) (at-In xs 0 0 (omega arith))
rises-increasing (rank {x} {xs} h d) (suc k) l =
    let e : suc k + 1 ≡ suc (k + 1) = omega arith in
    subst (λ (j : ℕ). get_or xs k 0 < get_or (x ∷ xs) j 0) (sym e) (rises-increasing d k (omega (arith, l)))

pub increasing-rises : (xs : List ℕ) → IsStrictlyIncreasing xs → Ranked (λ x y. x < y) xs
increasing-rises [] h = no_rank
increasing-rises (x ∷ xs) h = rank (λ y i. (let r = In-at i in subst (λ (z : ℕ). x < z) r.2 (increasing_head x xs h r.0 0 r.1))) (increasing-rises xs (increasing_tail x xs h))

-- ---- numbers in order

put-In : (x : ℕ) (ys : List ℕ) (z : ℕ) → In z (put x ys) → (z ≡ x) ⊎ In z ys
put-In x [] z i = In-cases i
put-In x (y ∷ ys) z i = by_tests (nat_lt x y) (x == y) refl (λ j. put-In x ys z j) i
  where
    by_tests : (a b : Bool) → x == y ≡ b → (In z (put x ys) → (z ≡ x) ⊎ In z ys) → In z (cond a (x ∷ y ∷ ys) (cond b (y ∷ ys) (y ∷ put x ys))) → (z ≡ x) ⊎ In z (y ∷ ys)
    by_tests true b e k j = In-cases j
    by_tests false true e k j = inr j
    by_tests false false e k j = elim (In-cases j) [ inl q ↦ inr (subst (λ w. In w (y ∷ ys)) (sym q) here) | inr q ↦ elim (k q) [ inl r ↦ inl r | inr r ↦ inr (there r) ] ]

In-put : (x : ℕ) (ys : List ℕ) (z : ℕ) → (z ≡ x) ⊎ In z ys → In z (put x ys)
In-put x [] z (inl e) = subst (λ w. In w (x ∷ [])) (sym e) here
In-put x [] z (inr i) = elim i [ ]
In-put x (y ∷ ys) z h = by_tests (nat_lt x y) (x == y) refl (λ j. In-put x ys z j) h
  where
    by_tests : (a b : Bool) → x == y ≡ b → ((z ≡ x) ⊎ In z ys → In z (put x ys)) → (z ≡ x) ⊎ In z (y ∷ ys) → In z (cond a (x ∷ y ∷ ys) (cond b (y ∷ ys) (y ∷ put x ys)))
    by_tests true b e k (inl q) = subst (λ w. In w (x ∷ y ∷ ys)) (sym q) here
    by_tests true b e k (inr i) = there i
    by_tests false true e k (inl q) = subst (λ w. In w (y ∷ ys)) (sym (q ∙ eqb-true x y e)) here
    by_tests false true e k (inr i) = i
    by_tests false false e k (inl q) = there (k (inl q))
    by_tests false false e k (inr i) = elim (In-cases i) [ inl q ↦ subst (λ w. In w (y ∷ put x ys)) (sym q) here | inr q ↦ there (k (inr q)) ]

put-rises : (x : ℕ) {ys : List ℕ} → Ranked (λ a b. a < b) ys → Ranked (λ a b. a < b) (put x ys)
put-rises x no_rank = rank (λ y i. elim i [ ]) no_rank
put-rises x (rank {x = y} {xs = ys} h d) = by_tests (nat_lt x y) (x == y) refl refl (put-rises x d)
  where
    by_tests : (a b : Bool) → nat_lt x y ≡ a → x == y ≡ b → Ranked (λ a b. a < b) (put x ys) → Ranked (λ a b. a < b) (cond a (x ∷ y ∷ ys) (cond b (y ∷ ys) (y ∷ put x ys)))
    by_tests true b p q e =
        let less : x < y = ltb-true x y p in
        rank (λ z i. elim (In-cases i) [ inl r ↦ subst (λ (w : ℕ). x < w) (sym r) less | inr j ↦ (let above : y < z = h z j in omega (arith, less, above)) ]) (rank h d)
    by_tests false true p q e = rank h d
    by_tests false false p q e =
        let more : y < x = elim (cases_lt x y) [ inl l ↦ absurd (false≢true (sym p ∙ lt-ltb x y l)) | inr l ↦ elim (cases_lt y x) [ inl m ↦ m | inr m ↦ absurd (false≢true (sym q ∙ eq-eqb x y (omega (arith, l, m)))) ] ] in
        rank (λ z i. elim (put-In x ys z i) [ inl r ↦ subst (λ (w : ℕ). y < w) (sym r) more | inr j ↦ h z j ]) e

pub In-order : (xs : List ℕ) (z : ℕ) → In z xs → In z (in_order xs)
In-order [] z i = i
In-order (x ∷ xs) z i = In-put x (in_order xs) z (elim (In-cases i) [ inl e ↦ inl e | inr j ↦ inr (In-order xs z j) ])

pub order-In : (xs : List ℕ) (z : ℕ) → In z (in_order xs) → In z xs
order-In [] z i = i
order-In (x ∷ xs) z i = elim (put-In x (in_order xs) z i) [ inl e ↦ subst (λ w. In w (x ∷ xs)) (sym e) here | inr j ↦ there (order-In xs z j) ]

pub order-rises : (xs : List ℕ) → Ranked (λ x y. x < y) (in_order xs)
order-rises [] = no_rank
order-rises (x ∷ xs) = put-rises x (order-rises xs)

-- what increases and has the same members is the list in order
pub sorted-is : (xs ys : List ℕ) → IsStrictlyIncreasing ys → ((z : ℕ) → Contains xs z → Contains ys z) → ((z : ℕ) → Contains ys z → Contains xs z) → ys ≡ in_order xs
sorted-is xs ys h to from =
    same_increasing ys (in_order xs) h (rises-increasing (order-rises xs))
    (λ n. same_holds ys (in_order xs) n (λ c. In-Contains (In-order xs n (Contains-In (from n c)))) (λ c. to n (In-Contains (order-In xs n (Contains-In c)))))

-- ---- numbers of members

pub number-at : (xs : List ℕ) (k : ℕ) → Ranked (λ x y. x < y) xs → k < length xs → number_in xs (get_or xs k 0) ≡ k + 1
number-at [] k h l = absurd (omega arith)
number-at (x ∷ xs) zero h l = ap (λ (b : Bool). cond b 1 (suc (number_in xs x))) (eq-eqb x x refl)
number-at (x ∷ xs) (suc k) (rank h d) l =
    let m : k < length xs = omega (arith, l) in
    let less : x < get_or xs k 0 = h (get_or xs k 0) (at-In xs k 0 m) in
    let differ : x ≢ get_or xs k 0 = λ e. omega (arith, less, e) in
    ap (λ (b : Bool). cond b 1 (suc (number_in xs (get_or xs k 0)))) (ne_eqb x (get_or xs k 0) differ) ∙ (let q : number_in xs (get_or xs k 0) ≡ k + 1 = number-at xs k d m in omega (arith, q))

pub number-low : (xs : List ℕ) (x : ℕ) → 1 ≤ number_in xs x
number-low [] x = omega arith
number-low (y ∷ xs) x = by_test (y == x)
  where
    by_test : (b : Bool) → 1 ≤ cond b 1 (suc (number_in xs x))
    by_test true = omega arith
    by_test false = omega arith

pub number-high : (xs : List ℕ) (x : ℕ) → In x xs → number_in xs x ≤ length xs
number-high [] x i = elim i [ ]
number-high (y ∷ xs) x i = by_test (y == x) refl (λ j. number-high xs x j)
  where
    by_test : (b : Bool) → y == x ≡ b → (In x xs → number_in xs x ≤ length xs) → cond b 1 (suc (number_in xs x)) ≤ length (y ∷ xs)
    by_test true e k = omega arith
    by_test false e k = elim (In-cases i) [ inl q ↦ absurd (differ q e) | inr j ↦ (let r = k j in omega (arith, r)) ]
      where
        differ : x ≡ y → y == x ≡ false → ⊥
        differ q e = false≢true (sym e ∙ eq-eqb y x (sym q))
