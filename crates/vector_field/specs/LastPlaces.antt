-- The last place of each lower in a list of pairs. Indices are counted from 0.
--   pair_at pairs index                          the pair at an index
--   IsLastPlace pairs first dim cell place       among the first pairs, so many, this is the last index of one with the lower, if there is one
--   AreLast space pairs first last               so it is for all cells that can be a lower
use Rattle.std.specs.Prelude.{◌≡◌, ℕ, ◌<◌, ◌≤◌, List, true, false, slice_index_or, Option, MatchOption}
use Rattle.face_poset.specs.declared.cells.Pair.{Pair}
use Rattle.face_poset.specs.Poset.{Layers, count}
use Rattle.vector_field.specs.CellMaps.{at}
use Rattle.vector_field.specs.Pairs.{pair, has_lower}

abbrev pub pair_at : List Pair → (index : ℕ) → Pair
pair_at pairs index = slice_index_or pairs index (pair 0 0 0)

abbrev pub IsLastPlace : List Pair → (first : ℕ) → (dim cell : ℕ) → Option ℕ → Type 0
IsLastPlace pairs first dim cell place =
    MatchOption place
    ((k : ℕ) → k < first → has_lower dim cell (pair_at pairs k) ≡ false)
    (λ i. (i < first) × (has_lower dim cell (pair_at pairs i) ≡ true) × ((k : ℕ) → i < k → k < first → has_lower dim cell (pair_at pairs k) ≡ false))

abbrev pub AreLast : Layers → List Pair → (first : ℕ) → List (List (Option ℕ)) → Type 0
AreLast space pairs first last = (dim cell : ℕ) → dim < 3 → 1 ≤ cell → cell ≤ count space dim → IsLastPlace pairs first dim cell (at last dim cell)
