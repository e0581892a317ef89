-- The space of lists of labels. Its vertices are the labels that occur, numbered from 1 by increasing label; its cells are the sets of one
-- to four vertices that lie together in one of the lists.
-- rows is a list of lists of labels, or of numbers of vertices.
--   put x xs               an increasing list with a number more
--   in_order xs            the numbers, each once, in increasing order
--   vertices_of rows       the labels that occur, in increasing order
--   number_in xs x         the number of x among these, counted from 1
--   numbered rows          the lists of the numbers of the vertices, each in increasing order
--   numbered_row vertices row   the increasing list of the numbers of the labels of a list
--   is_face rows set       whether one of the lists has all members of the set
--   simplicial rows        the space
--   limited space          the space, where it does not have too many cells
--   and_limited rows       that of the lists, or their fault
--   simplices_of v         the space of a value, or its first fault
use Rattle.std.specs.Prelude.{ℕ, suc, ◌==◌, List, [], ◌∷◌, length, map, Bool, if◌then◌else◌, nat_lt, Result, Ok, Err}
use Rattle.std.specs.List.{list_all, list_any, concat}
use Rattle.number_lists.specs.Words.{holds}
use Rattle.gap_text.specs.Value.{Value}
use Rattle.face_poset.specs.Poset.{Layers, cell_count}
use Rattle.facet_reader.specs.declared.fault.FacetFault.{FacetFault}
use Rattle.facet_reader.specs.declared.fault.FacetFault.TheVariants.{TooManyCells}
use Rattle.facet_reader.specs.SetSpaces.{sets_of, set_space}
use Rattle.facet_reader.specs.Labels.{rows_of}

abbrev pub put : ℕ → List ℕ → List ℕ
put x [] = x ∷ []
put x (y ∷ ys) = if nat_lt x y then x ∷ y ∷ ys else (if x == y then y ∷ ys else y ∷ put x ys)

abbrev pub in_order : List ℕ → List ℕ
in_order [] = []
in_order (x ∷ xs) = put x (in_order xs)

abbrev pub vertices_of : List (List ℕ) → List ℕ
vertices_of rows = in_order (concat rows)

abbrev pub number_in : List ℕ → ℕ → ℕ
number_in [] x = 1
number_in (y ∷ ys) x = if y == x then 1 else suc (number_in ys x)

abbrev pub numbered_row : (vertices : List ℕ) → List ℕ → List ℕ
numbered_row vertices row = in_order (map (number_in vertices) row)

abbrev pub numbered : List (List ℕ) → List (List ℕ)
numbered rows = map (numbered_row (vertices_of rows)) rows

abbrev pub is_face : List (List ℕ) → List ℕ → Bool
is_face rows set = list_any (λ row. list_all (holds row) set) rows

abbrev pub simplicial : List (List ℕ) → Layers
simplicial rows = set_space (sets_of (length (vertices_of rows)) (is_face (numbered rows)))

abbrev pub limited : Layers → Result Layers FacetFault
limited space = if nat_lt 60000 (cell_count space) then Err TooManyCells else Ok space

abbrev pub and_limited : Result (List (List ℕ)) FacetFault → Result Layers FacetFault
and_limited (Ok rows) = limited (simplicial rows)
and_limited (Err fault) = Err fault

abbrev pub simplices_of : Value → Result Layers FacetFault
simplices_of v = and_limited (rows_of v)
