-- The units of a reduction: for each pair its lower with the value 1, and its upper with the value 1. s and next are two degrees.
--   pair_at pairs index              the pair of an index, which counts from 0
--   unit_of p                        the unit of the pair p
--   IsUnitOf p u                     u is this unit
--   filled n entries                 the n numbers with these entries, which stand at numbers of cells, and 0 elsewhere
--   value_on F s next u v            the value of the coboundary of the left side of u on the right side of v
--   IsTriangular F s next index u    that is not zero on its own right side, and zero on that of each smaller index
--   IsIndexOf pairs place index      the index is the one whose pair has the upper at a place
--   MatchUppers pairs us             each index has an upper, and each upper has exactly one index
use Rattle.std.specs.Prelude.{◌≡◌, ◌≢◌, ℕ, ◌+◌, ◌-◌, ◌<◌, List, [], ◌∷◌, length, replicate, set, slice_index_or}
use Rattle.small_field.specs.Field.{Ops}
use Rattle.linear_laws.specs.Vectors.{combination, dot}
use Rattle.split_laws.specs.declared.kind.Kind.{Kind}
use Rattle.split_laws.specs.declared.kind.Kind.TheVariants.{Upper}
use Rattle.split_laws.specs.declared.matching.Match.{Match}
use Rattle.split_laws.specs.Pairs.{kind_at}
use Rattle.pair_stages.specs.declared.unit.Unit.{Unit}
use Rattle.pair_stages.specs.Stages.{Stage}

-- a match that stands for none
abbrev pub no_match : Match
no_match = record { lower = 0; upper = 0 }

-- the pair of an index, which counts from 0
abbrev pub pair_at : List Match → ℕ → Match
pair_at pairs index = slice_index_or pairs index no_match

-- the lower of the pair with the value 1, and its upper with the value 1, at the numbers of the cells
abbrev pub unit_of : Match → Unit
unit_of p = record { left = (p.lower + 1, 1) ∷ []; right = (p.upper + 1, 1) ∷ [] }

pub record IsUnitOf (p : Match) (u : Unit) : Type 0 where
  pub left : u.left ≡ (p.lower + 1, 1) ∷ []
  pub right : u.right ≡ (p.upper + 1, 1) ∷ []

-- ---- the units are triangular

-- the n numbers with these entries, which stand at the numbers of cells, and 0 elsewhere
abbrev pub filled : (n : ℕ) → List (ℕ × ℕ) → List ℕ
filled n [] = replicate n 0
filled n (e ∷ es) = set (filled n es) (e.0 - 1) e.1

-- the value of the coboundary of the left side of u on the right side of v
abbrev pub value_on : Ops → (s next : Stage) → (u v : Unit) → ℕ
value_on F s next u v = dot F (combination F (length next.kinds) (filled (length s.kinds) u.left) s.rows) (filled (length next.kinds) v.right)

-- the coboundary of the left side of the unit of an index is not zero on its own right side, and zero on the right side of the unit of
-- each smaller index
pub record IsTriangular (F : Ops) (s next : Stage) (index : ℕ) (u : Unit) : Type 0 where
  pub own : value_on F s next u u ≢ 0
  pub smaller : (i : ℕ) → i < index → (v : Unit) → IsUnitOf (pair_at s.pairs i) v → value_on F s next u v ≡ 0

-- ---- each upper has its unit

-- the index is the one whose pair has the upper at a place
pub record IsIndexOf (pairs : List Match) (place index : ℕ) : Type 0 where
  pub within : index < length pairs
  pub upper : (pair_at pairs index).upper ≡ place
  pub one : (i : ℕ) → i < length pairs → (pair_at pairs i).upper ≡ place → i ≡ index

-- each index has an upper, and each upper has exactly one index
pub record MatchUppers (pairs : List Match) (us : List Kind) : Type 0 where
  pub upper : (index : ℕ) → index < length pairs → ((pair_at pairs index).upper < length us) × (kind_at us (pair_at pairs index).upper ≡ Upper)
  pub index : (place : ℕ) → place < length us → kind_at us place ≡ Upper → (i : ℕ) × IsIndexOf pairs place i
