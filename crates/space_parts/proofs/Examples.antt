-- Worked examples, by computation.
use Rattle.std.proofs.Common.{◌≡◌, ℕ, List, [], ◌∷◌, refl}
use Rattle.regular_check.specs.Components.{component_count}
use Rattle.space_parts.specs.Parts.{cells_in, part_of, piece_of, whole_of}

-- two edges between the vertices 1 and 3, three between 2 and 5, and the vertex 4 alone
abbrev tangle : List (List (List ℕ))
tangle = ([] ∷ [] ∷ [] ∷ [] ∷ [] ∷ []) ∷ ((1 ∷ 3 ∷ []) ∷ (2 ∷ 5 ∷ []) ∷ (1 ∷ 3 ∷ []) ∷ (2 ∷ 5 ∷ []) ∷ (2 ∷ 5 ∷ []) ∷ []) ∷ [] ∷ [] ∷ []

three : component_count tangle ≡ 3
three = refl

circle : part_of tangle 1 ≡ ([] ∷ [] ∷ []) ∷ ((1 ∷ 2 ∷ []) ∷ (1 ∷ 2 ∷ []) ∷ []) ∷ [] ∷ [] ∷ []
circle = refl

graph : part_of tangle 2 ≡ ([] ∷ [] ∷ []) ∷ ((1 ∷ 2 ∷ []) ∷ (1 ∷ 2 ∷ []) ∷ (1 ∷ 2 ∷ []) ∷ []) ∷ [] ∷ [] ∷ []
graph = refl

point : part_of tangle 3 ≡ ([] ∷ []) ∷ [] ∷ [] ∷ [] ∷ []
point = refl

graph_edges : cells_in tangle 2 1 ≡ 2 ∷ 4 ∷ 5 ∷ []
graph_edges = refl

second_edge : whole_of (piece_of tangle 1) 1 2 ≡ 3
second_edge = refl

last_vertex : whole_of (piece_of tangle 2) 0 2 ≡ 5
last_vertex = refl
