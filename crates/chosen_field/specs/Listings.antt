-- Pairs of one dimension that are listed one after another. uppers and lowers have at each cell the other of its pair, or 0 where it is in
-- none; cells are numbered from 1, and what is at a cell stands at its number less one.
--   at numbers cell                      the number at a cell
--   positive_at numbers                  the cells at which it is at least 1
--   links_at uppers cells                these cells with their uppers
--   AreUppers space dim uppers           for each cell of dimension dim its upper, which has it as a facet, or 0, and no upper twice
--   AreLowers uppers first lowers        at each cell of dimension dim + 1 its lower, if that is one of the first cells, so many, or else 0
--   AreWaits F uppers waits              at each cell that is to be listed how many facets of its upper are to be listed, it among them
--   leaving lowers cofaces cell          how many of the cofaces have the cell as their lower
--   upper_in partner                     the upper of a cell with this partner, or 0
use Rattle.std.specs.Prelude.{◌≡◌, ℕ, ◌+◌, ◌-◌, ◌≤◌, ◌==◌, List, length, map, nat_le, filter, slice_index}
use Rattle.number_lists.specs.Words.{upto, holds}
use Rattle.number_lists.specs.Members.{In}
use Rattle.face_poset.specs.Poset.{Layers, count, facets_of}
use Rattle.pair_laws.specs.Tree.{Link}
use Rattle.vector_field.specs.declared.partner.Partner.{Partner}
use Rattle.vector_field.specs.declared.partner.Partner.TheVariants.{Critical, Upper, Lower}
use Rattle.chosen_field.specs.Chosen.{link}

abbrev pub at : List ℕ → (cell : ℕ) → ℕ
at numbers cell = slice_index numbers (cell - 1)

abbrev pub positive_at : List ℕ → List ℕ
positive_at numbers = filter (λ cell. nat_le 1 (at numbers cell)) (upto (length numbers))

abbrev pub links_at : (uppers cells : List ℕ) → List Link
links_at uppers cells = map (λ cell. link cell (at uppers cell)) cells

pub record AreUppers (space : Layers) (dim : ℕ) (uppers : List ℕ) : Type 0 where
  pub long : length uppers ≡ count space dim
  pub last : (cell : ℕ) → 1 ≤ cell → at uppers cell ≤ count space (dim + 1)
  pub facet : (cell : ℕ) → 1 ≤ cell → 1 ≤ at uppers cell → In cell (facets_of space (dim + 1) (at uppers cell))
  pub once : (x y : ℕ) → 1 ≤ x → 1 ≤ y → 1 ≤ at uppers x → at uppers x ≡ at uppers y → x ≡ y

pub record AreLowers (uppers : List ℕ) (first : ℕ) (lowers : List ℕ) : Type 0 where
  pub only : (u : ℕ) → 1 ≤ u → 1 ≤ at lowers u → (at lowers u ≤ first) × (at uppers (at lowers u) ≡ u)
  pub all : (cell : ℕ) → 1 ≤ cell → cell ≤ first → 1 ≤ at uppers cell → at lowers (at uppers cell) ≡ cell

pub record AreWaits (F : ℕ → List ℕ) (uppers waits : List ℕ) : Type 0 where
  pub long : length waits ≡ length uppers
  pub inside : (cell : ℕ) → 1 ≤ cell → 1 ≤ at waits cell → 1 ≤ at uppers cell
  pub counts :
      (cell : ℕ)
      → 1 ≤ cell
      → 1 ≤ at waits cell
      → at waits cell ≡ length (filter (holds (F (at uppers cell))) (positive_at waits))

abbrev pub leaving : (lowers cofaces : List ℕ) → (cell : ℕ) → ℕ
leaving lowers cofaces cell = length (filter (λ u. at lowers u == cell) cofaces)

abbrev pub upper_in : Partner → ℕ
upper_in Critical = 0
upper_in (Upper upper) = upper
upper_in (Lower lower) = 0
