-- Worked examples of the definitions.
use Rattle.std.proofs.Common.{◌≡◌, [], ◌∷◌, refl, Ok, Err}
use Rattle.gap_text.specs.Value.{number, list, none, more}
use Rattle.facet_reader.specs.declared.fault.FacetFault.TheVariants.{Shape, Empty, BadLabel, Repeated}
use Rattle.facet_reader.specs.SetSpaces.{choices, leave_one}
use Rattle.facet_reader.specs.Simplices.{in_order, simplicial, simplices_of}

chosen : choices 2 (1 ∷ 2 ∷ 3 ∷ []) ≡ (1 ∷ 2 ∷ []) ∷ (1 ∷ 3 ∷ []) ∷ (2 ∷ 3 ∷ []) ∷ []
chosen = refl

one_left_out : leave_one (1 ∷ 2 ∷ 3 ∷ []) ≡ (1 ∷ 2 ∷ []) ∷ (1 ∷ 3 ∷ []) ∷ (2 ∷ 3 ∷ []) ∷ []
one_left_out = refl

ordered : in_order (5 ∷ 3 ∷ 9 ∷ 3 ∷ []) ≡ 3 ∷ 5 ∷ 9 ∷ []
ordered = refl

-- [[2,9],[2]]: an edge with two ends
edge : simplices_of (list 0 (more (list 1 (more (number 2 2) (more (number 4 9) none))) (more (list 7 (more (number 8 2) none)) none))) ≡ Ok (([] ∷ [] ∷ []) ∷ ((1 ∷ 2 ∷ []) ∷ []) ∷ [] ∷ [] ∷ [])
edge = refl

-- the boundary of the triangle with the labels 4, 5 and 7
triangle_boundary : simplicial ((7 ∷ 5 ∷ []) ∷ (4 ∷ 5 ∷ []) ∷ (4 ∷ 7 ∷ []) ∷ []) ≡ ([] ∷ [] ∷ [] ∷ []) ∷ ((1 ∷ 2 ∷ []) ∷ (1 ∷ 3 ∷ []) ∷ (2 ∷ 3 ∷ []) ∷ []) ∷ [] ∷ [] ∷ []
triangle_boundary = refl

-- a triangle and an edge at its last vertex
triangle_and_edge : simplicial ((1 ∷ 3 ∷ 2 ∷ []) ∷ (3 ∷ 8 ∷ []) ∷ []) ≡ ([] ∷ [] ∷ [] ∷ [] ∷ []) ∷ ((1 ∷ 2 ∷ []) ∷ (1 ∷ 3 ∷ []) ∷ (2 ∷ 3 ∷ []) ∷ (3 ∷ 4 ∷ []) ∷ []) ∷ ((1 ∷ 2 ∷ 3 ∷ []) ∷ []) ∷ [] ∷ []
triangle_and_edge = refl

-- 7, [], [1], [[1],[]], [[1,[2]]]
number_alone : simplices_of (number 0 7) ≡ Err (Shape 0)
number_alone = refl

no_list : simplices_of (list 0 none) ≡ Err Empty
no_list = refl

label_alone : simplices_of (list 0 (more (number 1 1) none)) ≡ Err (Shape 1)
label_alone = refl

empty_list : simplices_of (list 0 (more (list 1 (more (number 2 1) none)) (more (list 5 none) none))) ≡ Err (Shape 5)
empty_list = refl

list_as_label : simplices_of (list 0 (more (list 1 (more (number 2 1) (more (list 4 (more (number 5 2) none)) none))) none)) ≡ Err (Shape 4)
list_as_label = refl

-- [[3,3,0]] and [[0,3,3]], and a wrong shape behind a bad label
repeated_first : simplices_of (list 0 (more (list 1 (more (number 2 3) (more (number 4 3) (more (number 6 0) none)))) none)) ≡ Err (Repeated 4)
repeated_first = refl

bad_first : simplices_of (list 0 (more (list 1 (more (number 2 0) (more (number 4 3) (more (number 6 3) none)))) none)) ≡ Err (BadLabel 2)
bad_first = refl

shape_first : simplices_of (list 0 (more (list 1 (more (number 2 0) none)) (more (number 5 7) none))) ≡ Err (Shape 5)
shape_first = refl
