-- What the parts of a space keep of it: for each cell its component and its number in that part, and the cells by component. numbers
-- are the components of the cells of a dimension, in order; space is the lists of a space; all are numbered from 1.
--   numbers_of space dim                  the components of the cells of a dimension
--   with_number numbers number most       those of the cells from 1 to `most` that have this number
--   grouped numbers most                  for each number from 1 to `most` the cells that have it
--   own_place numbers cell                how many cells up to this one have its number
--   own_places numbers                    that of each cell
--   below_of space dim                    the numbers in their parts of the cells one dimension below; none below dimension 0
--   places_below places dim               the same, of lists of such numbers by dimension
--   IsListing space cells places          by dimension the cells by component, and the numbers of cells in their parts
--   AreParts space number cells places    a regular space, how many components it has, and what is listed of it
use Rattle.std.specs.Prelude.{◌≡◌, ℕ, zero, suc, ◌-◌, ◌≤◌, ◌==◌, List, [], length, filter, map, slice_index, slice_index_or}
use Rattle.number_lists.specs.Words.{upto}
use Rattle.face_poset.specs.Poset.{Layers, IsLimited, IsSpace, count}
use Rattle.regular_check.specs.Rules.{IsRegular}
use Rattle.regular_check.specs.Components.{component_count}
use Rattle.space_parts.specs.Parts.{component_at}

abbrev pub numbers_of : Layers → (dim : ℕ) → List ℕ
numbers_of space dim = map (component_at space dim) (upto (count space dim))

abbrev pub with_number : List ℕ → (number upto : ℕ) → List ℕ
with_number numbers number most = filter (λ c. slice_index numbers (c - 1) == number) (upto most)

abbrev pub grouped : List ℕ → (most : ℕ) → List (List ℕ)
grouped numbers most = map (λ n. with_number numbers n (length numbers)) (upto most)

abbrev pub own_place : List ℕ → (cell : ℕ) → ℕ
own_place numbers cell = length (with_number numbers (slice_index numbers (cell - 1)) cell)

abbrev pub own_places : List ℕ → List ℕ
own_places numbers = map (own_place numbers) (upto (length numbers))

abbrev pub below_of : Layers → (dim : ℕ) → List ℕ
below_of space zero = []
below_of space (suc dim) = own_places (numbers_of space dim)

abbrev pub places_below : List (List ℕ) → (dim : ℕ) → List ℕ
places_below places zero = []
places_below places (suc dim) = slice_index_or places dim []

pub record IsListing (space : Layers) (cells : List (List (List ℕ))) (places : List (List ℕ)) : Type 0 where
  pub cells_four : length cells ≡ 4
  pub places_four : length places ≡ 4
  pub cells_are : (dim : ℕ) → dim ≤ 3 → slice_index_or cells dim [] ≡ grouped (numbers_of space dim) (component_count space)
  pub places_are : (dim : ℕ) → dim ≤ 3 → slice_index_or places dim [] ≡ own_places (numbers_of space dim)

pub record AreParts (space : Layers) (number : ℕ) (cells : List (List (List ℕ))) (places : List (List ℕ)) : Type 0 where
  pub valid : IsSpace space
  pub limited : IsLimited space
  pub regular : IsRegular space
  pub number_is : number ≡ component_count space
  pub listing : IsListing space cells places
