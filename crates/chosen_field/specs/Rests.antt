-- What is left while pairs are made, with counts. Cells are numbered from 1; a number at a cell stands at its number less one.
--   Counted                                  for each cell whether it is left, and for each facet how many of the cells that are left have it
--   left_of cells                            the cells that are left
--   is_single counts cell                    whether the number at the cell is 1
--   AreSingle counts set                     the set has the cells with this number
--   IsGoneBelow cells most                   the first cells, so many, are not left
--   AreCounts space dim most cells counts    the numbers at the first facets, so many, are right
use Rattle.std.specs.Prelude.{◌≡◌, ℕ, ◌-◌, ◌≤◌, ◌&&◌, ◌==◌, List, length, nat_le, filter, slice_index, Bool, false}
use Rattle.std.specs.Ordering.{nat_cmp}
use Rattle.std.specs.BTreeSet.{BTreeSet, contains}
use Rattle.number_lists.specs.Words.{upto}
use Rattle.face_poset.specs.Poset.{Layers}
use Rattle.vector_field.specs.Stages.{is_left}
use Rattle.chosen_field.specs.Chosen.{has_facet}

pub record Counted : Type 0 where
  pub cells : List Bool
  pub shared : List ℕ

abbrev pub left_of : List Bool → List ℕ
left_of cells = filter (is_left cells) (upto (length cells))

abbrev pub is_single : (counts : List ℕ) → (cell : ℕ) → Bool
is_single counts cell = nat_le 1 cell && (slice_index counts (cell - 1) == 1)

abbrev pub AreSingle : (counts : List ℕ) → BTreeSet ℕ → Type 0
AreSingle counts set = (cell : ℕ) → contains nat_cmp set cell ≡ is_single counts cell

abbrev pub IsGoneBelow : List Bool → (most : ℕ) → Type 0
IsGoneBelow cells most = (cell : ℕ) → 1 ≤ cell → cell ≤ most → is_left cells cell ≡ false

abbrev pub AreCounts : Layers → (dim most : ℕ) → (cells : List Bool) → (counts : List ℕ) → Type 0
AreCounts space dim most cells counts =
    (facet : ℕ)
    → 1 ≤ facet
    → facet ≤ most
    → slice_index counts (facet - 1) ≡ length (filter (has_facet space dim facet) (left_of cells))
