-- A graph of nodes and links by their numbers from 1, and a tree in the making. links are the lists of the two nodes of each link; found are
-- the nodes that were taken, in order, tree the nodes but the first, each with the link along which it was taken.
--   IsLink nodes link                  a link: two nodes of so many, the lesser first
--   from_end, to_end links e           the two nodes of a link
--   link_of t                          the pair of a node and a link
--   HasEnds links found e              both nodes of the link were taken
--   IsGrowing links root found tree    the nodes were taken from the root on, each along its link, one of `links`
--   IsTaken node link ..               the node is taken along the link, if it was not there
--   IsLonger old new                   what was in a list is at its place
--   across_of ends node                of two nodes the one that is not this one
--   IsPassed links root head found tree    the tree so far, where the links at the first `head` of the nodes that were taken were passed
--   IsCrossing links old before at i found tree    so far from `old` and `before` on, where the nodes across the first i of the links `at` were taken
--   IsPlaced nodes links t             a node of so many, taken along one of so many links
--   IsTree links nodes root tree       a tree from the root as far as links lead: the nodes are of so many, and of each link both nodes were
--                                      taken, or neither
--   IsWithin links t                   the link of a node that was taken is one of so many
--   edges_left edges tree              the edges whose places are no links of the tree
--   disk_pair_at disks edges t         the pair of an edge and a 2-cell with these places
--   vertex_pair_at vertices left t     the pair of a vertex and an edge with these places
--   IsDualTree space disks edges face tree    a tree of 2-cells from the face on, by places; the links are the edges with the places of the two
--                                      2-cells in which each lies
use Rattle.std.specs.Prelude.{◌≡◌, ℕ, ◌-◌, ◌≤◌, ◌<◌, ◌==◌, if◌then◌else◌, List, [], ◌∷◌, ◌++◌, length, map, filter, take, reverse, slice_index, slice_index_or, All, true, false, not}
use Rattle.number_lists.specs.Words.{upto, holds}
use Rattle.number_lists.specs.Cofaces.{IsRising, cells_with, coface_lists}
use Rattle.face_poset.specs.declared.cells.Pair.{Pair}
use Rattle.face_poset.specs.Poset.{Layers}
use Rattle.pair_laws.specs.Tree.{Link, Grown}
use Rattle.sphere_collapses.specs.declared.tree.Taken.{Taken}
use Rattle.sphere_collapses.specs.Places.{number_at, AreFacetPlaces}

pub record IsLink (nodes : ℕ) (link : List ℕ) : Type 0 where
  pub rising : IsRising nodes link
  pub two : length link ≡ 2

abbrev pub from_end : List (List ℕ) → (e : ℕ) → ℕ
from_end links e = slice_index (slice_index_or links (e - 1) []) 0

abbrev pub to_end : List (List ℕ) → (e : ℕ) → ℕ
to_end links e = slice_index (slice_index_or links (e - 1) []) 1

abbrev pub link_of : Taken → Link
link_of t = record { lower = t.node; upper = t.link }

pub record HasEnds (links : List (List ℕ)) (found : List ℕ) (e : ℕ) : Type 0 where
  pub from_there : holds found (from_end links e) ≡ true
  pub to_there : holds found (to_end links e) ≡ true

pub record IsWithin (links : ℕ) (t : Taken) : Type 0 where
  pub low : 1 ≤ t.link
  pub high : t.link ≤ links

pub record IsGrowing (links : List (List ℕ)) (root : ℕ) (found : List ℕ) (tree : List Taken) : Type 0 where
  pub grown : Grown (from_end links) (to_end links) root (map link_of (reverse tree)) (reverse found)
  pub within : All (IsWithin (length links)) tree

pub record IsTaken (node link : ℕ) (old new : List ℕ) (before after : List Taken) : Type 0 where
  pub there : holds old node ≡ true → (new ≡ old) × (after ≡ before)
  pub fresh : holds old node ≡ false → (new ≡ old ++ node ∷ []) × (after ≡ before ++ record { node = node; link = link } ∷ [])

pub record IsLonger (old new : List ℕ) : Type 0 where
  pub stays : (k : ℕ) → k < length old → slice_index new k ≡ slice_index old k
  pub longer : length old ≤ length new

abbrev pub across_of : (ends : List ℕ) → (node : ℕ) → ℕ
across_of ends node = if slice_index ends 0 == node then slice_index ends 1 else slice_index ends 0

pub record IsPassed (links : List (List ℕ)) (root head : ℕ) (found : List ℕ) (tree : List Taken) : Type 0 where
  pub growing : IsGrowing links root found tree
  pub passed : (k : ℕ) → k < head → k < length found → All (HasEnds links found) (cells_with links (slice_index found k))

pub record IsCrossing (links : List (List ℕ)) (old : List ℕ) (before : List Taken) (at : List ℕ) (i : ℕ) (found : List ℕ) (tree : List Taken) : Type 0 where
  pub longer : IsLonger old found
  pub grows : (root : ℕ) → IsGrowing links root old before → IsGrowing links root found tree
  pub taken : All (HasEnds links found) (take i at)

pub record IsPlaced (nodes links : ℕ) (t : Taken) : Type 0 where
  pub node_low : 1 ≤ t.node
  pub node_high : t.node ≤ nodes
  pub link_low : 1 ≤ t.link
  pub link_high : t.link ≤ links

pub record IsTree (links : List (List ℕ)) (nodes root : ℕ) (tree : List Taken) : Type 0 where
  pub taken : List ℕ
  pub growing : IsGrowing links root taken tree
  pub few : length tree ≤ nodes
  pub inside : (n : ℕ) → holds taken n ≡ true → (1 ≤ n) × (n ≤ nodes)
  pub closed : (e : ℕ) → 1 ≤ e → e ≤ length links → holds taken (from_end links e) ≡ true → holds taken (to_end links e) ≡ true
  pub closed_back : (e : ℕ) → 1 ≤ e → e ≤ length links → holds taken (to_end links e) ≡ true → holds taken (from_end links e) ≡ true

abbrev pub edges_left : List ℕ → List Taken → List ℕ
edges_left edges tree = map (number_at edges) (filter (λ p. not (holds (map (λ (t : Taken). t.link) tree) p)) (upto (length edges)))

abbrev pub disk_pair_at : (disks edges : List ℕ) → Taken → Pair
disk_pair_at disks edges t = record { dim = 1; lower = number_at edges t.link; upper = number_at disks t.node }

abbrev pub vertex_pair_at : (vertices left : List ℕ) → Taken → Pair
vertex_pair_at vertices left t = record { dim = 0; lower = number_at vertices t.node; upper = number_at left t.link }

pub record IsDualTree (space : Layers) (disks edges : List ℕ) (face : ℕ) (tree : List Taken) : Type 0 where
  pub borders : List (List ℕ)
  pub borders_are : AreFacetPlaces space 2 edges disks borders
  pub root : ℕ
  pub root_is : number_at disks root ≡ face
  pub tree_is : IsTree (coface_lists (length edges) borders) (length disks) root tree
