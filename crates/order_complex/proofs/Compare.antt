-- Comparing sequences.
use Rattle.std.proofs.Common.{◌≡◌, inl, inr, ℕ, ◌<◌, List, [], ◌∷◌, refl, ap, sym, ◌∙◌, subst, arith}
use Rattle.std.specs.declared.cmp.Ordering.{Ordering}
use Rattle.std.specs.declared.cmp.Ordering.TheVariants.{Less, Equal, Greater}
use Rattle.std.specs.Ordering.{MatchOrdering, nat_cmp, ordering_then}
use Rattle.std.specs.Cmp.{ranked}
use Rattle.std.specs.Cmp.Lexicographic.{slice_cmp}
use Rattle.order_complex.specs.Order.{Before}

pub before-trans : (a b c : List ℕ) → Before a b → Before b c → Before a c
before-trans [] [] c h k = absurd h
before-trans [] (y ∷ ys) [] h k = absurd k
before-trans [] (y ∷ ys) (z ∷ zs) h k = tt
before-trans (x ∷ xs) [] c h k = absurd h
before-trans (x ∷ xs) (y ∷ ys) [] h k = absurd k
before-trans (x ∷ xs) (y ∷ ys) (z ∷ zs) (inl h) (inl k) = inl (omega arith)
before-trans (x ∷ xs) (y ∷ ys) (z ∷ zs) (inl h) (inr k) = inl (omega (arith, k.0))
before-trans (x ∷ xs) (y ∷ ys) (z ∷ zs) (inr h) (inl k) = inl (omega (arith, h.0))
before-trans (x ∷ xs) (y ∷ ys) (z ∷ zs) (inr h) (inr k) = inr (h.0 ∙ k.0, before-trans xs ys zs h.1 k.1)

cons-case : (x y : ℕ) (xs ys : List ℕ) (o s : Ordering) → MatchOrdering o (x < y) (x ≡ y) (y < x) → MatchOrdering s (Before xs ys) (xs ≡ ys) (Before ys xs)
    → MatchOrdering (ordering_then o s) (Before (x ∷ xs) (y ∷ ys)) (x ∷ xs ≡ y ∷ ys) (Before (y ∷ ys) (x ∷ xs))
cons-case x y xs ys Less s h k = inl h
cons-case x y xs ys Greater s h k = inl h
cons-case x y xs ys Equal Less h k = inr (h, k)
cons-case x y xs ys Equal Equal h k = ap (λ z. z ∷ xs) h ∙ ap (λ zs. y ∷ zs) k
cons-case x y xs ys Equal Greater h k = inr (sym h, k)

compare-is : (xs ys : List ℕ) → MatchOrdering (slice_cmp nat_cmp xs ys) (Before xs ys) (xs ≡ ys) (Before ys xs)
compare-is [] [] = refl
compare-is [] (y ∷ ys) = tt
compare-is (x ∷ xs) [] = tt
compare-is (x ∷ xs) (y ∷ ys) = cons-case x y xs ys (nat_cmp x y) (slice_cmp nat_cmp xs ys) (ranked x y (nat_cmp x y) refl) (compare-is xs ys)

pub compared : (xs ys : List ℕ) (r : Ordering) → r ≡ slice_cmp nat_cmp xs ys → MatchOrdering r (Before xs ys) (xs ≡ ys) (Before ys xs)
compared xs ys r e = subst (λ o. MatchOrdering o (Before xs ys) (xs ≡ ys) (Before ys xs)) (sym e) (compare-is xs ys)
