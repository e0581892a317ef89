-- The rules of a regular space, which has dimension at most 3. (The face posets of regular CW-complexes: boundaries of 2-cells are
-- circles, those of 3-cells are closed connected surfaces with the Euler characteristic of the sphere. Textbook.)
-- space is the lists of a space, dim a dimension, cells a list of cells of that dimension; all cells are numbered from 1.
--   sharing space dim cells facet     those of the cells that have the facet
--   each_twice space dim cells        whether each facet of the cells is a facet of exactly two of them
--   meet space dim a b                whether the cells a and b have a facet in common
--   connected space dim cells         whether the cells are connected across their facets
--   two_ends space edge               the rule of an edge: it has two ends
--   one_cycle space cell              the rule of a 2-cell: its edges form one cycle that repeats no vertex, that is two of them
--                                     meet at each of their vertices, and they are connected across vertices
--   faces_count space cell dim        how many cells of a dimension are in the closed 3-cell
--   boundary_euler space cell         vertices less edges plus 2-cells in the boundary of a 3-cell
--   is_spherical space cell           whether that number is 2
--   Rule                              a rule at a cell: whether it is kept, and the fault where it is not
--   rule kept fault                   that record
--   edge_rules space edge             the rules at an edge, in their order
--   disk_rules space cell             those at a 2-cell
--   solid_rules space cell            those at a 3-cell: each edge of its 2-cells lies in exactly two of them, these are connected across
--                                     edges, and the boundary has the Euler characteristic of the sphere
--   all_rules space                   all rules, by dimension, then by cell, then in their order
--   fault_in rules                    the fault of the first rule in a list that is not kept
--   first_fault space                 the first fault of a space
--   IsRegular space                   no rule is broken
--   IsFault first fault               the fault is want of memory, or the first one
--   Finds rules result                a result: no rule is broken, or the fault is the first one's, or want of memory
use Rattle.std.specs.Prelude.{◌≡◌, ⊤, ℕ, ◌+◌, ◌&&◌, ◌==◌, List, [], ◌∷◌, ◌++◌, length, filter, find, slice_index, Bool, not, ℤ, pos, ◌+ℤ◌, ◌-ℤ◌, option_map, Option, Some, None, Result, MatchResult}
use Rattle.std.specs.List.{list_all, list_any, flat_map}
use Rattle.face_poset.specs.declared.cells.Cell.{Cell}
use Rattle.number_lists.specs.Words.{upto, holds}
use Rattle.face_poset.specs.Poset.{Layers, count, facets_of}
use Rattle.face_poset.specs.Below.{closed_cell}
use Rattle.regular_check.specs.declared.fault.RegularFault.{RegularFault}
use Rattle.regular_check.specs.declared.fault.RegularFault.TheVariants.{EdgeEnds, NotCycle, EdgeNotTwice, Apart, NotSphere, Memory}
use Rattle.number_lists.specs.Reach.{reaches}

abbrev pub sharing : Layers → (dim : ℕ) → (cells : List ℕ) → (facet : ℕ) → List ℕ
sharing space dim cells facet = filter (λ c. holds (facets_of space dim c) facet) cells

abbrev pub each_twice : Layers → (dim : ℕ) → (cells : List ℕ) → Bool
each_twice space dim cells = list_all (λ c. list_all (λ f. length (sharing space dim cells f) == 2) (facets_of space dim c)) cells

abbrev pub meet : Layers → (dim : ℕ) → (a b : ℕ) → Bool
meet space dim a b = list_any (λ f. holds (facets_of space dim b) f) (facets_of space dim a)

abbrev pub connected : Layers → (dim : ℕ) → (cells : List ℕ) → Bool
connected space dim cells = list_all (reaches (meet space dim) cells (slice_index cells 0)) cells

abbrev pub two_ends : Layers → (edge : ℕ) → Bool
two_ends space edge = length (facets_of space 1 edge) == 2

abbrev pub one_cycle : Layers → (cell : ℕ) → Bool
one_cycle space cell = each_twice space 1 (facets_of space 2 cell) && connected space 1 (facets_of space 2 cell)

abbrev pub faces_count : Layers → (cell dim : ℕ) → ℕ
faces_count space cell dim = length (filter (λ (face : Cell). face.dim == dim) (closed_cell space 3 cell))

abbrev pub boundary_euler : Layers → (cell : ℕ) → ℤ
boundary_euler space cell = (pos (faces_count space cell 0) -ℤ pos (faces_count space cell 1)) +ℤ pos (faces_count space cell 2)

abbrev pub is_spherical : Layers → (cell : ℕ) → Bool
is_spherical space cell = (faces_count space cell 0 + faces_count space cell 2) == (faces_count space cell 1 + 2)

pub record Rule : Type 0 where
  pub kept : Bool
  pub fault : RegularFault

abbrev pub rule : Bool → RegularFault → Rule
rule kept fault = record { kept = kept; fault = fault }

abbrev pub edge_rules : Layers → (edge : ℕ) → List Rule
edge_rules space edge = rule (two_ends space edge) (EdgeEnds edge) ∷ []

abbrev pub disk_rules : Layers → (cell : ℕ) → List Rule
disk_rules space cell = rule (one_cycle space cell) (NotCycle cell) ∷ []

abbrev pub solid_rules : Layers → (cell : ℕ) → List Rule
solid_rules space cell =
    rule (each_twice space 2 (facets_of space 3 cell)) (EdgeNotTwice cell)
    ∷ rule (connected space 2 (facets_of space 3 cell)) (Apart cell)
    ∷ rule (is_spherical space cell) (NotSphere cell (boundary_euler space cell))
    ∷ []

abbrev pub all_rules : Layers → List Rule
all_rules space =
    flat_map (edge_rules space) (upto (count space 1)) ++ (flat_map (disk_rules space) (upto (count space 2)) ++ flat_map (solid_rules space) (upto (count space 3)))

abbrev pub fault_in : List Rule → Option RegularFault
fault_in rules = option_map (λ (r : Rule). r.fault) (find (λ (r : Rule). not r.kept) rules)

abbrev pub first_fault : Layers → Option RegularFault
first_fault space = fault_in (all_rules space)

abbrev pub IsRegular : Layers → Type 0
IsRegular space = first_fault space ≡ None

abbrev pub IsFault : Option RegularFault → RegularFault → Type 0
IsFault first Memory = ⊤
IsFault first (EdgeEnds edge) = first ≡ Some (EdgeEnds edge)
IsFault first (NotCycle cell) = first ≡ Some (NotCycle cell)
IsFault first (EdgeNotTwice cell) = first ≡ Some (EdgeNotTwice cell)
IsFault first (Apart cell) = first ≡ Some (Apart cell)
IsFault first (NotSphere cell value) = first ≡ Some (NotSphere cell value)

abbrev pub Finds : {A : Type 0} → List Rule → Result A RegularFault → Type 0
Finds rules result = MatchResult result (λ _. fault_in rules ≡ None) (IsFault (fault_in rules))
