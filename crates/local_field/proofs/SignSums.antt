-- Signs as tests, and sums of signs over lists of different numbers.
use Rattle.std.proofs.Common.{◌≡◌, inl, inr, ℕ, List, [], ◌∷◌, Bool, true, false, not, cond, eqb, map, filter, refl, ap, sym, ◌∙◌, subst, arith}
use Rattle.std.specs.Prelude.{ℤ, pos, ◌+ℤ◌, ◌-ℤ◌, ◌*ℤ◌}
use Rattle.std.proofs.lemmas.Bool.{eqb-true, eq-eqb, ne_eqb, false≢true, not_from_false}
use Rattle.std.proofs.lemmas.Int.{ints}
use Rattle.number_lists.specs.Members.{In, here, there}
use Rattle.number_lists.proofs.CallerLemmas.{In-cases, In-filter, filter-In, In-inside, AreDistinct, more, distinct-filter}
use Rattle.face_poset.specs.Signs.{sign_of}
use Rattle.local_field.specs.Flags.{other_sign}

-- ---- signs

pub sign-product : (a b : Bool) → sign_of a *ℤ sign_of b ≡ sign_of (other_sign a b)
sign-product true true = refl
sign-product true false = refl
sign-product false true = refl
sign-product false false = refl

-- two steps down: the signs of the flags between cancel, and those of the dimensions differ
step-signs : (o m n : Bool) → other_sign (other_sign o m) (other_sign (not o) n) ≡ not (other_sign m n)
step-signs true true true = refl
step-signs true true false = refl
step-signs true false true = refl
step-signs true false false = refl
step-signs false true true = refl
step-signs false true false = refl
step-signs false false true = refl
step-signs false false false = refl

signs-mix : (x y s z t : Bool) → not (other_sign (other_sign x (other_sign s z)) (other_sign y (other_sign z t))) ≡ other_sign (not (other_sign s t)) (other_sign x y)
signs-mix true true true true true = refl
signs-mix true true true true false = refl
signs-mix true true true false true = refl
signs-mix true true true false false = refl
signs-mix true true false true true = refl
signs-mix true true false true false = refl
signs-mix true true false false true = refl
signs-mix true true false false false = refl
signs-mix true false true true true = refl
signs-mix true false true true false = refl
signs-mix true false true false true = refl
signs-mix true false true false false = refl
signs-mix true false false true true = refl
signs-mix true false false true false = refl
signs-mix true false false false true = refl
signs-mix true false false false false = refl
signs-mix false true true true true = refl
signs-mix false true true true false = refl
signs-mix false true true false true = refl
signs-mix false true true false false = refl
signs-mix false true false true true = refl
signs-mix false true false true false = refl
signs-mix false true false false true = refl
signs-mix false true false false false = refl
signs-mix false false true true true = refl
signs-mix false false true true false = refl
signs-mix false false true false true = refl
signs-mix false false true false false = refl
signs-mix false false false true true = refl
signs-mix false false false true false = refl
signs-mix false false false false true = refl
signs-mix false false false false false = refl

pub two-signs : (o x y s z t : Bool) → other_sign (other_sign o (other_sign x (other_sign s z))) (other_sign (not o) (other_sign y (other_sign z t))) ≡ other_sign (not (other_sign s t)) (other_sign x y)
two-signs o x y s z t = step-signs o (other_sign x (other_sign s z)) (other_sign y (other_sign z t)) ∙ signs-mix x y s z t

-- ---- sums

abbrev pub total : (ℕ → ℤ) → List ℕ → ℤ
total f [] = pos 0
total f (x ∷ xs) = f x +ℤ total f xs

abbrev pub turned : Bool → ℤ → ℤ
turned k n = cond k (pos 0 -ℤ n) n

pub sign-turned : (k a : Bool) → sign_of (other_sign k a) ≡ turned k (sign_of a)
sign-turned true true = refl
sign-turned true false = refl
sign-turned false a = refl

pub total-turned : (k : Bool) (f g : ℕ → ℤ) (xs : List ℕ) → ((x : ℕ) → In x xs → f x ≡ turned k (g x)) → total f xs ≡ turned k (total g xs)
total-turned true f g [] h = refl
total-turned false f g [] h = refl
total-turned true f g (x ∷ xs) h = let a = h x here in let b = total-turned true f g xs (λ y i. h y (there i)) in omega (arith, ints, a, b)
total-turned false f g (x ∷ xs) h = let a = h x here in let b = total-turned false f g xs (λ y i. h y (there i)) in omega (arith, ints, a, b)

pub total-same : (f g : ℕ → ℤ) (xs : List ℕ) → ((x : ℕ) → In x xs → f x ≡ g x) → total f xs ≡ total g xs
total-same f g [] h = refl
total-same f g (x ∷ xs) h = let a = h x here in let b = total-same f g xs (λ y i. h y (there i)) in omega (arith, ints, a, b)

pub total-zero : (f : ℕ → ℤ) (xs : List ℕ) → ((x : ℕ) → In x xs → f x ≡ pos 0) → total f xs ≡ pos 0
total-zero f [] h = refl
total-zero f (x ∷ xs) h = let a = h x here in let b = total-zero f xs (λ y i. h y (there i)) in omega (arith, ints, a, b)

pub total-map : (f : ℕ → ℤ) (r : ℕ → ℕ) (xs : List ℕ) → total f (map r xs) ≡ total (λ x. f (r x)) xs
total-map f r [] = refl
total-map f r (x ∷ xs) = ap (λ n. f (r x) +ℤ n) (total-map f r xs)

abbrev less : (x : ℕ) → List ℕ → List ℕ
less x ys = filter (λ y. not (eqb y x)) ys

-- nothing is taken away where the number is not there
less-none : (x : ℕ) (ys : List ℕ) → (In x ys → ⊥) → less x ys ≡ ys
less-none x [] h = refl
less-none x (y ∷ ys) h =
    ap (λ (b : Bool). cond (not b) (y ∷ less x ys) (less x ys)) (ne_eqb y x (λ e. h (subst (λ (z : ℕ). In z (y ∷ ys)) e here)))
    ∙ ap (λ (zs : List ℕ). y ∷ zs) (less-none x ys (λ i. h (there i)))

total-less : (f : ℕ → ℤ) (x : ℕ) (ys : List ℕ) → AreDistinct ys → In x ys → total f ys ≡ f x +ℤ total f (less x ys)
total-less f x [] d i = elim i [ ]
total-less f x (y ∷ ys) (more n d) i = by (eqb y x) refl (λ (j : In x ys). total-less f x ys d j)
  where
    by : (b : Bool) → eqb y x ≡ b → (In x ys → total f ys ≡ f x +ℤ total f (less x ys)) → total f (y ∷ ys) ≡ f x +ℤ total f (less x (y ∷ ys))
    by true e again =
        let s : y ≡ x = eqb-true y x e in
        let gone : less x (y ∷ ys) ≡ ys = ap (λ (b : Bool). cond (not b) (y ∷ less x ys) (less x ys)) e ∙ less-none x ys (λ j. n (subst (λ (z : ℕ). In z ys) (sym s) j)) in
        ap (λ (z : ℕ). f z +ℤ total f ys) s ∙ ap (λ (zs : List ℕ). f x +ℤ total f zs) (sym gone)
    by false e again =
        let stays : less x (y ∷ ys) ≡ y ∷ less x ys = ap (λ (b : Bool). cond (not b) (y ∷ less x ys) (less x ys)) e in
        let kept : In x ys = elim (In-cases i) [ inl q ↦ absurd (false≢true (sym e ∙ eq-eqb y x (sym q))) | inr j ↦ j ] in
        let a = again kept in
        let b = ap (λ (zs : List ℕ). total f zs) stays in
        omega (arith, ints, a, b)

-- lists of different numbers with the same members
pub total-members : (f : ℕ → ℤ) (xs ys : List ℕ) → AreDistinct xs → AreDistinct ys → ((x : ℕ) → In x xs → In x ys) → ((y : ℕ) → In y ys → In y xs) → total f xs ≡ total f ys
total-members f [] [] d e to from = refl
total-members f [] (y ∷ ys) d e to from = elim (from y here) [ ]
total-members f (x ∷ xs) ys (more n d) e to from =
    let test : ℕ → Bool = λ y. not (eqb y x) in
    let rest = total-members f xs (less x ys) d (distinct-filter test e)
    (λ y i. In-filter test (to y (there i)) (not_from_false (eqb y x) (ne_eqb y x (λ q. n (subst (λ (z : ℕ). In z xs) q i)))))
    (λ y i. elim (In-cases (from y (In-inside test ys i))) [ inl q ↦ absurd (not-true-at y q (filter-In test ys i)) | inr j ↦ j ]) in
    let a = total-less f x ys e (to x here) in
    omega (arith, ints, rest, a)
  where
    not-true-at : (y : ℕ) → y ≡ x → not (eqb y x) ≡ true → ⊥
    not-true-at y q h = false≢true (sym (ap not (eq-eqb y x q)) ∙ h)
