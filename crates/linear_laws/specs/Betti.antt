-- Cocycles modulo coboundaries, by the rows of two coboundaries that follow one another. The coboundary of x is the combination
-- of the rows `next`, each of m numbers, with the coefficients x; the coboundaries of one degree less are the span of the rows `last`.
--   IsCohomologyBasis k m last next zs   the zs are cocycles, and each cocycle is a combination of them plus a coboundary, in one way
--   HasBasis k m last next r s           there is such a basis, and its length and the ranks r and s are together the number of rows `next`
use Rattle.std.specs.Prelude.{◌≡◌, ℕ, ◌+◌, List, length, replicate}
use Rattle.std.specs.List.{AllByRecursion}
use Rattle.small_field.specs.Field.{Ops}
use Rattle.linear_laws.specs.Vectors.{IsVector, plus_scaled, combination, InSpan, IsInKernel}

pub record IsCohomologyBasis (k : Ops) (m : ℕ) (last next zs : List (List ℕ)) : Type 0 where
  pub cocycles : AllByRecursion (IsInKernel k m next) zs
  pub spans : (z : List ℕ) → IsInKernel k m next z → (cs : List ℕ) × (b : List ℕ) × IsVector k (length zs) cs × InSpan k (length next) last b × (z ≡ plus_scaled k 1 b (combination k (length next) cs zs))
  pub unique : (cs : List ℕ) → IsVector k (length zs) cs → InSpan k (length next) last (combination k (length next) cs zs) → cs ≡ replicate (length zs) 0

pub record HasBasis (k : Ops) (m : ℕ) (last next : List (List ℕ)) (rank_last rank_next : ℕ) : Type 0 where
  pub zs : List (List ℕ)
  pub basis : IsCohomologyBasis k m last next zs
  pub count : length zs + rank_last + rank_next ≡ length next
