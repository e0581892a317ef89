-- One cell less.
use Rattle.std.proofs.Common.{◌≡◌, ℕ, ◌+◌, List, [], ◌∷◌, length, refl, ap, arith, sym, Bool, true, false, cond, ◌||◌, ◌⊎◌, inl, inr}
use Rattle.std.specs.Prelude.{◌==◌, not}
use Rattle.std.proofs.lemmas.Bool.{eqb-true, eq-eqb, not-true}
use Rattle.number_lists.specs.Members.{In}
use Rattle.number_lists.specs.Words.{holds}
use Rattle.number_lists.proofs.CallerLemmas.{and-left, and-right, In-cases}
use Rattle.pair_laws.specs.Counts.{with_facet, left_out, CountFalls}

unchanged : (b : ℕ) (xs : List ℕ) → holds xs b ≡ false → left_out b xs ≡ xs
unchanged b [] e = refl
unchanged b (x ∷ xs) e = by (x == b) refl (unchanged b xs)
  where
    neither : (a c : Bool) → (a || c) ≡ false → (a ≡ false) × (c ≡ false)
    neither true c k = absurd (grind (arith, k))
    neither false c k = (refl, k)

    by : (c : Bool) → (x == b) ≡ c → (holds xs b ≡ false → left_out b xs ≡ xs) → left_out b (x ∷ xs) ≡ x ∷ xs
    by true k h = absurd (grind (arith, k, (neither (x == b) _ e).0))
    by false k h = rw k (ap (λ l. x ∷ l) (h ((neither (x == b) _ e).1)))

pub count_falls : CountFalls
count_falls F f b [] d i = elim i [ ]
count_falls F f b (x ∷ rest) d i = by (x == b) refl (holds (F x) f) refl (λ j. count_falls F f b rest (and-right _ _ d) j) (In-cases i)
  where
    by : (c : Bool) → (x == b) ≡ c → (h : Bool) → holds (F x) f ≡ h → (In b rest → length (with_facet F (left_out b rest) f) + cond (holds (F b) f) 1 0 ≡ length (with_facet F rest f)) → (b ≡ x) ⊎ In b rest
        → length (with_facet F (left_out b (x ∷ rest)) f) + cond (holds (F b) f) 1 0 ≡ length (with_facet F (x ∷ rest) f)
    by true e true k h z = rw (e, unchanged b rest (rw (eqb-true x b e) at (not-true (holds rest x) (and-left (not (holds rest x)) _ d))), k, rw (eqb-true x b e) at k) (omega arith)
    by true e false k h z = rw (e, unchanged b rest (rw (eqb-true x b e) at (not-true (holds rest x) (and-left (not (holds rest x)) _ d))), k, rw (eqb-true x b e) at k) (omega arith)
    by false e c k h (inl z) = absurd (grind (arith, e, eq-eqb x b (sym z)))
    by false e true k h (inr z) = rw (e, k) (omega (arith, h z))
    by false e false k h (inr z) = rw (e, k) (h z)
