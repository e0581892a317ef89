-- The cells of a space numbered anew, in each dimension by the numbers of their flags as chains. (What is left of the
-- order complex when the chains inside each cell are paired.) space is the lists of a space; a place is a new number,
-- counted from 1; cells gives for each dimension the cells in the order of their places.
--   other_sign a b                     exactly one of two tests holds
--   flags_in_order space dim           the numbers of the flags of the cells of a dimension, in increasing order
--   top_number space dim k             the number of the last cell of a chain among the cells of its dimension
--   flag_cells space dim               the cells of a dimension in the order of the numbers of their flags
--   all_flag_cells space               so for each dimension
--   cells_at cells dim                 the cells of a dimension
--   cell_at_place cells dim place      the cell at a place
--   facets_at space cells dim place    the places of the facets of the cell at a place, in increasing order
--   facets_by_place space cells dim    so for all places of a dimension
--   renumbered space cells             the space by places
--   is_odd dim                         whether the dimension is odd
--   flag_negative space negative dim n     the sign of the flag of a cell, the product of the signs of its steps, is -1
--   AreFlagSigns space negative dim signs    so for each cell of a dimension
--   negative_at space negative cells dim place facet    the sign of the facet at a place in the cell at a place is -1:
--                                      (-1)^dim times its sign times those of both flags
--   minus_at space negative cells dim place    the places of the facets with the sign -1
--   minus_by_place space negative cells dim    so for all places of a dimension
--   minus_of space negative cells      so for all dimensions
--   FlagCells                          the cells in the order of places, the space by places, and of each cell the facets
--                                      with the sign -1
--   flags_of space negative            those by the numbers of the flags
--   negative_in minus dim place facet  the signs by places
--   HaveCells cells facets             as many cells of each dimension
--   Rise minus                         such lists increase
--   AreFlags cells facets cofaces minus    a space by places with its cofaces and signs
--   IsOf space cells                   these are the cells of the space in some order, each with a place
--   IsOrderOf n cells places           the numbers 1 to n in some order, and of each its place
--   IsOrderPut space dim old new       such places of the cells of a dimension were put behind the old lists
--   HasPlaces cells places             so for the cells of each dimension
use Rattle.std.specs.Prelude.{◌≡◌, ℕ, zero, suc, ◌-◌, ◌≤◌, Bool, false, not, if◌then◌else◌, List, [], ◌∷◌, ◌++◌, map, filter, length, slice_index, slice_index_or}
use Rattle.std.specs.List.Sorted.{IsStrictlyIncreasing}
use Rattle.number_lists.specs.Words.{upto, holds}
use Rattle.face_poset.specs.Poset.{Layers, count, facets_of, coface_layers, IsSpace}
use Rattle.face_poset.specs.Signs.{SignsCancel}
use Rattle.order_complex.specs.Chains.{chains_of}
use Rattle.order_complex.specs.Complex.{last_of}
use Rattle.local_field.specs.Buildings.{number_at}
use Rattle.local_field.specs.Numbered.{flag_numbers}

abbrev pub other_sign : Bool → Bool → Bool
other_sign a b = if a then not b else b

abbrev pub flags_in_order : Layers → (dim : ℕ) → List ℕ
flags_in_order space dim = filter (holds (flag_numbers space dim)) (upto (length (chains_of space dim)))

abbrev pub top_number : Layers → (dim k : ℕ) → ℕ
top_number space dim k = number_at space (last_of (slice_index_or (chains_of space dim) (k - 1) []))

abbrev pub flag_cells : Layers → (dim : ℕ) → List ℕ
flag_cells space dim = map (top_number space dim) (flags_in_order space dim)

abbrev pub all_flag_cells : Layers → List (List ℕ)
all_flag_cells space = map (flag_cells space) (0 ∷ 1 ∷ 2 ∷ 3 ∷ [])

abbrev pub cells_at : List (List ℕ) → (dim : ℕ) → List ℕ
cells_at cells dim = slice_index_or cells dim []

abbrev pub cell_at_place : List (List ℕ) → (dim place : ℕ) → ℕ
cell_at_place cells dim place = slice_index (cells_at cells dim) (place - 1)

pub record IsOrderOf (n : ℕ) (cells places : List ℕ) : Type 0 where
  pub many : length cells ≡ n
  pub each : length places ≡ n
  pub place : (c : ℕ) → 1 ≤ c → c ≤ n → (1 ≤ slice_index places (c - 1)) × (slice_index places (c - 1) ≤ n)
  pub cell : (c : ℕ) → 1 ≤ c → c ≤ n → slice_index cells (slice_index places (c - 1) - 1) ≡ c
  pub within : (p : ℕ) → 1 ≤ p → p ≤ n → (1 ≤ slice_index cells (p - 1)) × (slice_index cells (p - 1) ≤ n)
  pub back : (p : ℕ) → 1 ≤ p → p ≤ n → slice_index places (slice_index cells (p - 1) - 1) ≡ p

pub record IsOrderPut (space : Layers) (dim : ℕ) (old new : List (List ℕ)) : Type 0 where
  pub places : List ℕ
  pub put : new ≡ old ++ places ∷ []
  pub order : IsOrderOf (count space dim) (flag_cells space dim) places

pub record HasPlaces (cells places : List (List ℕ)) : Type 0 where
  pub four : length cells ≡ 4
  pub as_many : length places ≡ 4
  pub order : (dim : ℕ) → IsOrderOf (length (cells_at cells dim)) (cells_at cells dim) (cells_at places dim)

abbrev pub facets_at : Layers → (cells : List (List ℕ)) → (dim place : ℕ) → List ℕ
facets_at space cells dim place =
    filter (λ q. holds (facets_of space dim (cell_at_place cells dim place)) (cell_at_place cells (dim - 1) q)) (upto (length (cells_at cells (dim - 1))))

abbrev pub facets_by_place : Layers → (cells : List (List ℕ)) → (dim : ℕ) → List (List ℕ)
facets_by_place space cells dim = map (facets_at space cells dim) (upto (length (cells_at cells dim)))

abbrev pub is_odd : (dim : ℕ) → Bool
is_odd zero = false
is_odd (suc dim) = not (is_odd dim)

abbrev pub flag_negative : Layers → (negative : ℕ → ℕ → ℕ → Bool) → (dim number : ℕ) → Bool
flag_negative space negative zero number = false
flag_negative space negative (suc dim) number =
    other_sign (negative (suc dim) number (slice_index (facets_of space (suc dim) number) 0))
    (flag_negative space negative dim (slice_index (facets_of space (suc dim) number) 0))

abbrev pub AreFlagSigns : Layers → (negative : ℕ → ℕ → ℕ → Bool) → (dim : ℕ) → List Bool → Type 0
AreFlagSigns space negative dim signs = signs ≡ map (flag_negative space negative dim) (upto (count space dim))

abbrev pub negative_at : Layers → (negative : ℕ → ℕ → ℕ → Bool) → (cells : List (List ℕ)) → (dim place facet : ℕ) → Bool
negative_at space negative cells dim place facet =
    other_sign (is_odd dim)
    (other_sign (negative dim (cell_at_place cells dim place) (cell_at_place cells (dim - 1) facet))
    (other_sign (flag_negative space negative dim (cell_at_place cells dim place))
    (flag_negative space negative (dim - 1) (cell_at_place cells (dim - 1) facet))))

abbrev pub minus_at : Layers → (negative : ℕ → ℕ → ℕ → Bool) → (cells : List (List ℕ)) → (dim place : ℕ) → List ℕ
minus_at space negative cells dim place = filter (negative_at space negative cells dim place) (facets_at space cells dim place)

abbrev pub minus_by_place : Layers → (negative : ℕ → ℕ → ℕ → Bool) → (cells : List (List ℕ)) → (dim : ℕ) → List (List ℕ)
minus_by_place space negative cells dim = map (minus_at space negative cells dim) (upto (length (cells_at cells dim)))

abbrev pub minus_of : Layers → (negative : ℕ → ℕ → ℕ → Bool) → (cells : List (List ℕ)) → Layers
minus_of space negative cells =
    [] ∷ minus_by_place space negative cells 1 ∷ minus_by_place space negative cells 2 ∷ minus_by_place space negative cells 3 ∷ []

abbrev pub renumbered : Layers → (cells : List (List ℕ)) → Layers
renumbered space cells =
    map (λ place. []) (upto (length (cells_at cells 0))) ∷ facets_by_place space cells 1 ∷ facets_by_place space cells 2 ∷ facets_by_place space cells 3 ∷ []

pub record IsOf (space : Layers) (cells : List (List ℕ)) : Type 0 where
  pub counts : (dim : ℕ) → length (cells_at cells dim) ≡ count space dim
  pub places : List (List ℕ)
  pub order : HasPlaces cells places

pub record FlagCells : Type 0 where
  pub cells : List (List ℕ)
  pub space : Layers
  pub minus : Layers

abbrev pub flags_of : Layers → (negative : ℕ → ℕ → ℕ → Bool) → FlagCells
flags_of space negative =
    record {
      cells = all_flag_cells space;
      space = renumbered space (all_flag_cells space);
      minus = minus_of space negative (all_flag_cells space);
    }

abbrev pub negative_in : Layers → (dim place facet : ℕ) → Bool
negative_in minus dim place facet = holds (facets_of minus dim place) facet

abbrev pub HaveCells : List (List ℕ) → Layers → Type 0
HaveCells cells facets = (dim : ℕ) → length (cells_at cells dim) ≡ count facets dim

abbrev pub Rise : Layers → Type 0
Rise minus = (dim place : ℕ) → IsStrictlyIncreasing (facets_of minus dim place)

pub record AreFlags (cells : List (List ℕ)) (facets cofaces minus : Layers) : Type 0 where
  pub valid : IsSpace facets
  pub cofaces_are : cofaces ≡ coface_layers facets
  pub counts : HaveCells cells facets
  pub four : length minus ≡ 4
  pub cancel : SignsCancel facets (negative_in minus)
  pub rise : Rise minus
