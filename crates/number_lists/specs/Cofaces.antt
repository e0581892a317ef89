-- Which of the lists hold a number: the cofaces, where each list has the facets of a cell. Cells are
-- lists, numbered from 1; facets are numbers from 1 to `most`.
--   IsRising most numbers          strictly increasing numbers from 1 to `most`
--   cells_with cells facet         the numbers of the cells that have the facet, in increasing order
--   coface_lists most cells        for each of the facets 1 to `most` the cells that have it
use Rattle.std.specs.Prelude.{ℕ, ◌-◌, ◌≤◌, All, List, [], map, length, filter, slice_index_or}
use Rattle.std.specs.List.Sorted.{IsStrictlyIncreasing}
use Rattle.number_lists.specs.Words.{upto, holds}

pub record IsRising (most : ℕ) (numbers : List ℕ) : Type 0 where
  pub rises : IsStrictlyIncreasing numbers
  pub within : All (λ n. (1 ≤ n) × (n ≤ most)) numbers

abbrev pub cells_with : List (List ℕ) → (facet : ℕ) → List ℕ
cells_with cells facet = filter (λ n. holds (slice_index_or cells (n - 1) []) facet) (upto (length cells))

abbrev pub coface_lists : ℕ → List (List ℕ) → List (List ℕ)
coface_lists most cells = map (cells_with cells) (upto most)
