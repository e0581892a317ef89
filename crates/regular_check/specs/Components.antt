-- The connected components of a space, by its vertices and edges. They are numbered from 1 in the order of their least vertices. space is
-- the lists of a space; vertices are numbered from 1.
--   vertices space                     the vertices
--   share_edge space x y               whether some edge has both vertices
--   are_joined space x y               whether edges lead from one vertex to the other
--   least_of space vertex              the least vertex from which edges lead to this one
--   is_least space vertex              whether the vertex is the least of its component
--   leasts_upto space vertex           how many of the vertices from 1 to this one are the least of their components
--   component_of space vertex          the number of the component of a vertex
--   component_count space              how many components there are
--   Numbering                          how many components there are, and for each vertex the number of its own
--   components_of space                these numbers of a space
--   SameComponentIsAPath               two vertices have the same number exactly where a path of edges leads from one to the other
--   IsLeastVertex space vertex least   a path leads from the vertex to `least`, and to no vertex below that
--   AreNumbers space                   each vertex has a number from 1 to the number of components, each of these is the number of some
--                                      vertex, and of two components the one with the lesser least vertex has the lesser number
--   ComponentsAreNumbered              so it is in any space
use Rattle.std.specs.Prelude.{◌≡◌, ◌↔◌, ℕ, ◌≤◌, ◌<◌, ◌==◌, ◌&&◌, List, length, filter, map, slice_index, Bool}
use Rattle.std.specs.List.{list_any}
use Rattle.number_lists.specs.Words.{upto, holds}
use Rattle.face_poset.specs.Poset.{Layers, count, facets_of}
use Rattle.number_lists.specs.Reach.{reaches, Reaches}

abbrev pub vertices : Layers → List ℕ
vertices space = upto (count space 0)

abbrev pub share_edge : Layers → (x y : ℕ) → Bool
share_edge space x y = list_any (λ e. holds (facets_of space 1 e) x && holds (facets_of space 1 e) y) (upto (count space 1))

abbrev pub are_joined : Layers → (x y : ℕ) → Bool
are_joined space x y = reaches (share_edge space) (vertices space) x y

abbrev pub least_of : Layers → (vertex : ℕ) → ℕ
least_of space vertex = slice_index (filter (λ x. are_joined space x vertex) (vertices space)) 0

abbrev pub is_least : Layers → (vertex : ℕ) → Bool
is_least space vertex = least_of space vertex == vertex

abbrev pub leasts_upto : Layers → (vertex : ℕ) → ℕ
leasts_upto space vertex = length (filter (is_least space) (upto vertex))

abbrev pub component_of : Layers → (vertex : ℕ) → ℕ
component_of space vertex = leasts_upto space (least_of space vertex)

abbrev pub component_count : Layers → ℕ
component_count space = leasts_upto space (count space 0)

pub record Numbering : Type 0 where
  pub count : ℕ
  pub numbers : List ℕ

abbrev pub components_of : Layers → Numbering
components_of space = record { count = component_count space; numbers = map (component_of space) (vertices space) }

abbrev pub SameComponentIsAPath : Type 0
SameComponentIsAPath =
    (space : Layers) (x y : ℕ)
    → 1 ≤ x
    → x ≤ count space 0
    → 1 ≤ y
    → y ≤ count space 0
    → (component_of space x ≡ component_of space y) ↔ Reaches (share_edge space) (vertices space) x y

pub record IsLeastVertex (space : Layers) (vertex least : ℕ) : Type 0 where
  pub there : Reaches (share_edge space) (vertices space) vertex least
  pub low : (x : ℕ) → Reaches (share_edge space) (vertices space) vertex x → least ≤ x

pub record AreNumbers (space : Layers) : Type 0 where
  pub within : (x : ℕ) → 1 ≤ x → x ≤ count space 0 → (1 ≤ component_of space x) × (component_of space x ≤ component_count space)
  pub taken : (n : ℕ) → 1 ≤ n → n ≤ component_count space → (x : ℕ) × (1 ≤ x) × (x ≤ count space 0) × (component_of space x ≡ n)
  pub least : (x : ℕ) → 1 ≤ x → x ≤ count space 0 → IsLeastVertex space x (least_of space x)
  pub ordered :
      (x y : ℕ)
      → 1 ≤ x
      → x ≤ count space 0
      → 1 ≤ y
      → y ≤ count space 0
      → (component_of space x < component_of space y) ↔ (least_of space x < least_of space y)

abbrev pub ComponentsAreNumbered : Type 0
ComponentsAreNumbered = (space : Layers) → AreNumbers space
