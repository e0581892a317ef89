-- The coboundary of a signed set over a field, and what the pairs of a field say of its cells. F is the arithmetic of a field, space
-- a graded set, `negative dim cell facet` tells whether the sign of a facet is -1; cells are numbered from 1.
--   sign_element F negative                       a sign as an element: 1, or its negative
--   signed_entry F space negative dim lower upper the sign of a cell in a cell of one dimension more, or 0 where it is no facet
--   signed_rows F space negative dim              the rows of the coboundary: one for each cell, an entry for each of one dimension more
--   IsKind pairs dim cell kind                    how a cell stands in the pairs
--   AreKinds pairs dim cells kinds                the kinds of the cells from 1 on
--   match_of pair                                 a pair by places, which count from 0
--   matches_of pairs dim                          the pairs of a dimension, in their order
--   IsStageOf F space negative pairs dim s        s is what is kept of a dimension of a signed set with a field of pairs
--   AreDegrees F space negative dim s next        two degrees, one after the other, of a signed set
use Rattle.std.specs.Prelude.{◌≡◌, ℕ, ◌+◌, ◌-◌, ◌<◌, ◌==◌, List, Bool, false, cond, filter, map, length, slice_index_or}
use Rattle.small_field.specs.Field.{Ops}
use Rattle.number_lists.specs.Members.{In}
use Rattle.face_poset.specs.declared.cells.Pair.{Pair}
use Rattle.face_poset.specs.Words.{upto, holds}
use Rattle.face_poset.specs.Poset.{Layers, count, facets_of}
use Rattle.vector_field.specs.Pairs.{pair, is_used}
use Rattle.split_laws.specs.declared.kind.Kind.{Kind}
use Rattle.split_laws.specs.declared.kind.Kind.TheVariants.{Critical, Lower, Upper}
use Rattle.split_laws.specs.declared.matching.Match.{Match}
use Rattle.pair_stages.specs.Stages.{Stage}

-- a sign as an element: 1, or its negative
abbrev pub sign_element : Ops → (negative : Bool) → ℕ
sign_element F negative = cond negative (F.neg 1) 1

-- the sign of a cell in a cell of one dimension more, or 0 where it is no facet
abbrev pub signed_entry : Ops → Layers → (ℕ → ℕ → ℕ → Bool) → (dim lower upper : ℕ) → ℕ
signed_entry F space negative dim lower upper = cond (holds (facets_of space (dim + 1) upper) lower) (sign_element F (negative (dim + 1) upper lower)) 0

-- the rows of the coboundary of a dimension: one for each cell, with an entry for each cell of one dimension more
abbrev pub signed_rows : Ops → Layers → (ℕ → ℕ → ℕ → Bool) → (dim : ℕ) → List (List ℕ)
signed_rows F space negative dim = map (λ lower. map (signed_entry F space negative dim lower) (upto (count space (dim + 1)))) (upto (count space dim))

-- how a cell stands in the pairs
abbrev pub IsKind : List Pair → (dim cell : ℕ) → Kind → Type 0
IsKind pairs dim cell Critical = is_used pairs dim cell ≡ false
IsKind pairs dim cell Lower = (upper : ℕ) × In (pair dim cell upper) pairs
IsKind pairs dim cell Upper = (below : ℕ) × (lower : ℕ) × (dim ≡ below + 1) × In (pair below lower cell) pairs

-- the kinds of the cells from 1 on
pub record AreKinds (pairs : List Pair) (dim cells : ℕ) (kinds : List Kind) : Type 0 where
  pub long : length kinds ≡ cells
  pub each : (i : ℕ) → i < cells → IsKind pairs dim (i + 1) (slice_index_or kinds i Critical)

-- a pair by places, which count from 0
abbrev pub match_of : Pair → Match
match_of p = record { lower = p.lower - 1; upper = p.upper - 1 }

-- the pairs of a dimension, in their order
abbrev pub matches_of : List Pair → (dim : ℕ) → List Match
matches_of pairs dim = map match_of (filter (λ p. p.dim == dim) pairs)

-- what is kept of a dimension of a signed set with a field of pairs
pub record IsStageOf (F : Ops) (space : Layers) (negative : ℕ → ℕ → ℕ → Bool) (pairs : List Pair) (dim : ℕ) (s : Stage) : Type 0 where
  pub rows : s.rows ≡ signed_rows F space negative dim
  pub cols : s.cols ≡ count space (dim + 1)
  pub kinds : AreKinds pairs dim (count space dim) s.kinds
  pub pairs_are : s.pairs ≡ matches_of pairs dim

-- two degrees, one after the other, of a signed set
pub record AreDegrees (F : Ops) (space : Layers) (negative : ℕ → ℕ → ℕ → Bool) (dim : ℕ) (s next : Stage) : Type 0 where
  pub rows : s.rows ≡ signed_rows F space negative dim
  pub cells : length s.kinds ≡ count space dim
  pub above : length next.kinds ≡ count space (dim + 1)
