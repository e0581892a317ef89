-- Tallies of the cells that have a facet: how many, and the sum of their numbers, by facet. Facets and cells are numbered from 1; the
-- tally of facet f stands at index f - 1.
--   none                                no cell
--   tally_at tallies index              the tally at an index
--   with_cell cell tally                one cell more
--   gained tally has cell               one cell more, if it has the facet
--   AllGain facets cell old new         a cell more is counted at each of these facets
--   AllClear facets old new             the tallies of these facets are taken back
--   IsBlank tallies                     no cell is counted
--   IsModest tallies                    a cell more can be counted at each facet
--   tally_of cells                      the tally of a list of cells
--   IsTally space dim cells tallies     the cells, of a dimension, are counted at their facets
--   all_double tallies facets           whether two cells are counted at each of these facets
--   other tallies cell facet            the other one of two cells that are counted at a facet
--   AreOthers tallies facets cell most  across each of these facets of the cell there is another cell, at most `most`
use Rattle.std.specs.Prelude.{◌≡◌, ℕ, ◌+◌, ◌-◌, ◌<◌, ◌^◌, ◌==◌, ◌≤◌, All, List, length, cond, slice_index_or, Bool}
use Rattle.std.specs.List.{list_all, sum}
use Rattle.number_lists.specs.Words.{holds}
use Rattle.face_poset.specs.Poset.{Layers}
use Rattle.regular_check.specs.declared.tally.Tally.{Tally}
use Rattle.regular_check.specs.Rules.{sharing}

abbrev pub none : Tally
none = record { count = 0; sum = 0 }

abbrev pub tally_at : List Tally → (index : ℕ) → Tally
tally_at tallies index = slice_index_or tallies index none

abbrev pub with_cell : (cell : ℕ) → Tally → Tally
with_cell cell tally = record { count = tally.count + 1; sum = tally.sum + cell }

abbrev pub gained : Tally → Bool → (cell : ℕ) → Tally
gained tally has cell = cond has (with_cell cell tally) tally

abbrev pub AllGain : (facets : List ℕ) → (cell : ℕ) → (old new : List Tally) → Type 0
AllGain facets cell old new = (k : ℕ) → k < length old → tally_at new k ≡ gained (tally_at old k) (holds facets (k + 1)) cell

abbrev pub AllClear : (facets : List ℕ) → (old new : List Tally) → Type 0
AllClear facets old new = (k : ℕ) → k < length old → tally_at new k ≡ cond (holds facets (k + 1)) none (tally_at old k)

abbrev pub IsBlank : List Tally → Type 0
IsBlank tallies = (k : ℕ) → k < length tallies → tally_at tallies k ≡ none

abbrev pub IsModest : List Tally → Type 0
IsModest tallies = (k : ℕ) → k < length tallies → ((tally_at tallies k).count < 4294967295) × ((tally_at tallies k).sum < 2 ^ 63)

abbrev pub tally_of : List ℕ → Tally
tally_of cells = record { count = length cells; sum = sum cells }

abbrev pub IsTally : Layers → (dim : ℕ) → (cells : List ℕ) → List Tally → Type 0
IsTally space dim cells tallies = (k : ℕ) → k < length tallies → tally_at tallies k ≡ tally_of (sharing space dim cells (k + 1))

abbrev pub all_double : List Tally → (facets : List ℕ) → Bool
all_double tallies facets = list_all (λ f. (tally_at tallies (f - 1)).count == 2) facets

abbrev pub other : List Tally → (cell facet : ℕ) → ℕ
other tallies cell facet = (tally_at tallies (facet - 1)).sum - cell

abbrev pub AreOthers : List Tally → (facets : List ℕ) → (cell most : ℕ) → Type 0
AreOthers tallies facets cell most = All (λ f. (cell + 1 ≤ (tally_at tallies (f - 1)).sum) × (other tallies cell f ≤ most) × (other tallies cell f ≤ 4294967295)) facets
