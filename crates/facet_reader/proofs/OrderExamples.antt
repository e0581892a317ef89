-- Worked examples of the definitions of partial orders.
use Rattle.std.proofs.Common.{◌≡◌, ℕ, List, [], ◌∷◌, refl, Ok, Err}
use Rattle.gap_text.specs.Value.{Value, number, list, values}
use Rattle.facet_reader.specs.declared.fault.FacetFault.TheVariants.{Shape, Empty, BadLabel, Repeated}
use Rattle.facet_reader.specs.Orders.{order_complex, order_of, poset_of}

abbrev at : ℕ → List Value → Value
at p vs = list p (values vs)

-- three points in a line: a triangle, since the first lies below the third
line : order_complex (3, (1, 2) ∷ (2, 3) ∷ []) ≡ ([] ∷ [] ∷ [] ∷ []) ∷ ((1 ∷ 2 ∷ []) ∷ (1 ∷ 3 ∷ []) ∷ (2 ∷ 3 ∷ []) ∷ []) ∷ ((1 ∷ 2 ∷ 3 ∷ []) ∷ []) ∷ [] ∷ []
line = refl

-- two points below two others: a circle
circle : order_complex (4, (1, 3) ∷ (1, 4) ∷ (2, 3) ∷ (2, 4) ∷ []) ≡ ([] ∷ [] ∷ [] ∷ [] ∷ []) ∷ ((1 ∷ 3 ∷ []) ∷ (1 ∷ 4 ∷ []) ∷ (2 ∷ 3 ∷ []) ∷ (2 ∷ 4 ∷ []) ∷ []) ∷ [] ∷ [] ∷ []
circle = refl

-- [2,[[1,2],[1,2]]]
twice : poset_of (at 0 (number 1 2 ∷ at 3 (at 4 (number 5 1 ∷ number 7 2 ∷ []) ∷ at 10 (number 11 1 ∷ number 13 2 ∷ []) ∷ []) ∷ [])) ≡ Ok (([] ∷ [] ∷ []) ∷ ((1 ∷ 2 ∷ []) ∷ []) ∷ [] ∷ [] ∷ [])
twice = refl

-- [3,[[2,1]]], [3,[[2,2]]], [3,[[2,4]]], [3,[[0,1]]]
falling : order_of (at 0 (number 1 3 ∷ at 3 (at 4 (number 5 2 ∷ number 7 1 ∷ []) ∷ []) ∷ [])) ≡ Err (BadLabel 7)
falling = refl

equal : order_of (at 0 (number 1 3 ∷ at 3 (at 4 (number 5 2 ∷ number 7 2 ∷ []) ∷ []) ∷ [])) ≡ Err (Repeated 7)
equal = refl

above_all : order_of (at 0 (number 1 3 ∷ at 3 (at 4 (number 5 2 ∷ number 7 4 ∷ []) ∷ []) ∷ [])) ≡ Err (BadLabel 7)
above_all = refl

no_point : order_of (at 0 (number 1 3 ∷ at 3 (at 4 (number 5 0 ∷ number 7 1 ∷ []) ∷ []) ∷ [])) ≡ Err (BadLabel 5)
no_point = refl

-- [3], [[3],[]], [3,[[1,2,3]]], [0,[]]
one_item : order_of (at 0 (number 1 3 ∷ [])) ≡ Err (Shape 0)
one_item = refl

list_of_points : order_of (at 0 (at 1 (number 2 3 ∷ []) ∷ at 5 [] ∷ [])) ≡ Err (Shape 1)
list_of_points = refl

three_items : order_of (at 0 (number 1 3 ∷ at 3 (at 4 (number 5 1 ∷ number 7 2 ∷ number 9 3 ∷ []) ∷ []) ∷ [])) ≡ Err (Shape 4)
three_items = refl

no_points : order_of (at 0 (number 1 0 ∷ at 3 [] ∷ [])) ≡ Err Empty
no_points = refl
