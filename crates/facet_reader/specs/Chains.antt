-- How the code holds orders and chains. relations is a list of pairs of points from 1 to n.
--   pair_of row, pairs_of rows       the pair that a list of two is; so for each list
--   second_of a row                  the second of two points, where the first is a
--   IsPair n row                     two points, the first smaller than the second
--   order_by n vs, order_with n v    the order of so many points with these relations, or its first fault
--   IsOrder wanted n rows            the order that is wanted has these relations, as lists of two
--   AreNext relations a next         the second points of the relations of a
--   points_above n relations a       the points above a, in increasing order
--   first_above n relations count    those of n, of n - 1, and so on, of so many points
--   all_above n relations            those of all points
--   row_at rows x                    the list of the point x among lists in this order, from the last point to 1
--   joined rows n next               the points of a list and those of their lists, in increasing order
--   places_from rows size high next  the places of the lists of a size of which the first member is one of next, and each further one stands
--                                    in the list of the one before; after others with the place high
use Rattle.std.specs.Prelude.{◌≡◌, ◌≤◌, ◌+◌, ◌-◌, ◌*◌, ◌==◌, if◌then◌else◌, ℕ, zero, suc, List, [], ◌∷◌, length, map, filter, slice_index_or, All, Result, Ok}
use Rattle.std.specs.List.{flat_map, range_with_len}
use Rattle.number_lists.specs.Words.{upto}
use Rattle.number_lists.specs.Members.{In}
use Rattle.number_lists.specs.Cofaces.{IsRising}
use Rattle.gap_text.specs.Value.{Value}
use Rattle.facet_reader.specs.declared.fault.FacetFault.{FacetFault}
use Rattle.facet_reader.specs.Labels.{unless_fault}
use Rattle.facet_reader.specs.Simplices.{in_order}
use Rattle.facet_reader.specs.Orders.{go_on, relations_in, pair_in, order_fault, is_below}

abbrev pub pair_of : List ℕ → ℕ × ℕ
pair_of row = (slice_index_or row 0 0, slice_index_or row 1 0)

abbrev pub pairs_of : List (List ℕ) → List (ℕ × ℕ)
pairs_of rows = map pair_of rows

abbrev pub second_of : (a : ℕ) → List ℕ → List ℕ
second_of a row = if slice_index_or row 0 0 == a then slice_index_or row 1 0 ∷ [] else []

pub record IsPair (n : ℕ) (row : List ℕ) : Type 0 where
  pub two : length row ≡ 2
  pub rising : IsRising n row

abbrev pub order_by : (n : ℕ) → List Value → Result (ℕ × List (ℕ × ℕ)) FacetFault
order_by n vs = unless_fault (order_fault n vs) (n, flat_map pair_in vs)

abbrev pub order_with : (n : ℕ) → Value → Result (ℕ × List (ℕ × ℕ)) FacetFault
order_with n v = go_on (relations_in v) (order_by n)

pub record IsOrder (wanted : Result (ℕ × List (ℕ × ℕ)) FacetFault) (n : ℕ) (rows : List (List ℕ)) : Type 0 where
  pub is : wanted ≡ Ok (n, pairs_of rows)
  pub pairs : All (IsPair n) rows
  pub some : 1 ≤ n

pub record AreNext (relations : List (ℕ × ℕ)) (a : ℕ) (next : List ℕ) : Type 0 where
  pub leads : (b : ℕ) → In b next → In (a, b) relations
  pub all : (b : ℕ) → In (a, b) relations → In b next

abbrev pub points_above : (n : ℕ) → List (ℕ × ℕ) → ℕ → List ℕ
points_above n relations a = filter (is_below n relations a) (upto n)

abbrev pub first_above : (n : ℕ) → List (ℕ × ℕ) → (count : ℕ) → List (List ℕ)
first_above n relations count = map (λ k. points_above n relations (n - k)) (range_with_len 0 count)

abbrev pub all_above : (n : ℕ) → List (ℕ × ℕ) → List (List ℕ)
all_above n relations = first_above n relations n

abbrev pub row_at : List (List ℕ) → ℕ → List ℕ
row_at rows x = slice_index_or rows (length rows - x) []

abbrev pub joined : (rows : List (List ℕ)) → (n : ℕ) → (next : List ℕ) → List ℕ
joined rows n next = in_order (flat_map (λ y. y ∷ slice_index_or rows (n - y) []) next)

abbrev pub places_from : (rows : List (List ℕ)) → (size high : ℕ) → (next : List ℕ) → List ℕ
places_from rows zero high next = high ∷ []
places_from rows (suc size) high next = flat_map (λ x. places_from rows size (high * 65536 + x) (row_at rows x)) next
