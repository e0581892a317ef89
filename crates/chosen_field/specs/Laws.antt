-- What the chosen field is. space is the lists of a space, pairs a list of pairs; cells are numbered from 1 in each dimension.
--   IsConnected space               a regular space with one component
--   ChosenIsGood                    its chosen field is valid and maximal, and leaves one vertex critical
--   IsLeastFirst space pairs        each pair may come before all after it, and its lower is below those of the later ones that may come
--                                   before all that are left there
--   IsListing space pairs list      the list has each of the pairs once, those of dimension 0 first, then 1, then 2, each as IsLeastFirst says
--   ListingNeverStops               the chosen field is such a list of all pairs that are made
--   Loose space x y                 loose edges lead from one vertex to the other
--   LooseEdgesJoin                  so they do from each vertex to each
--   Path space n v                  so many loose edges, one after another, lead from vertex 1 to a vertex
--   IsDistance space v n            this is the least number of loose edges that lead to the vertex
--   GoesNearer space v              the vertex is paired with a loose edge that joins it to a vertex whose distance is smaller by one, and
--                                   with the least that does
--   TreeGoesNearer                  so is each vertex but the first
use Rattle.std.specs.Prelude.{◌≡◌, ◌≢◌, ◌↔◌, ℕ, ◌+◌, ◌≤◌, ◌<◌, List, ◌∷◌, ◌++◌, AllPairs, true}
use Rattle.face_poset.specs.declared.cells.Pair.{Pair}
use Rattle.number_lists.specs.Members.{In}
use Rattle.number_lists.specs.Reach.{Reaches}
use Rattle.face_poset.specs.Poset.{Layers, count, facets_of, IsSpace}
use Rattle.regular_check.specs.Rules.{IsRegular}
use Rattle.regular_check.specs.Components.{vertices, component_count}
use Rattle.vector_field.specs.Pairs.{pair, comes_before}
use Rattle.vector_field.specs.Maximal.{IsGood}
use Rattle.chosen_field.specs.Chosen.{high, loose, joined_by, tree, chosen}

pub record IsConnected (space : Layers) : Type 0 where
  pub valid : IsSpace space
  pub regular : IsRegular space
  pub one : component_count space ≡ 1

abbrev pub ChosenIsGood : Type 0
ChosenIsGood = (space : Layers) → IsConnected space → IsGood space (chosen space)

abbrev pub IsLeastFirst : Layers → List Pair → Type 0
IsLeastFirst space pairs =
    (earlier later : List Pair) (p : Pair)
    → pairs ≡ earlier ++ p ∷ later
    → (comes_before space p later ≡ true) × ((q : Pair) → In q later → comes_before space q (p ∷ later) ≡ true → p.lower < q.lower)

pub record IsListing (space : Layers) (pairs list : List Pair) : Type 0 where
  pub all : (p : Pair) → In p list ↔ In p pairs
  pub once : AllPairs (λ p q. p ≢ q) list
  pub parts : List Pair × List Pair × List Pair
  pub joined : list ≡ parts.0 ++ (parts.1 ++ parts.2)
  pub vertices : (p : Pair) → In p parts.0 → p.dim ≡ 0
  pub edges : (p : Pair) → In p parts.1 → p.dim ≡ 1
  pub disks : (p : Pair) → In p parts.2 → p.dim ≡ 2
  pub least_vertex : IsLeastFirst space parts.0
  pub least_edge : IsLeastFirst space parts.1
  pub least_disk : IsLeastFirst space parts.2

abbrev pub ListingNeverStops : Type 0
ListingNeverStops = (space : Layers) → IsConnected space → IsListing space (high space ++ tree space) (chosen space)

abbrev pub Loose : Layers → (x y : ℕ) → Type 0
Loose space x y = Reaches (joined_by space (loose space)) (vertices space) x y

abbrev pub LooseEdgesJoin : Type 0
LooseEdgesJoin =
    (space : Layers) (x y : ℕ)
    → IsConnected space
    → 1 ≤ x
    → x ≤ count space 0
    → 1 ≤ y
    → y ≤ count space 0
    → Loose space x y

pub data Path (space : Layers) : ℕ → ℕ → Type 0 where
  at_first : Path space 0 1
  along_edge : {n v : ℕ} (edge w : ℕ) → Path space n v → In edge (loose space) → In v (facets_of space 1 edge) → In w (facets_of space 1 edge) → Path space (n + 1) w

pub record IsDistance (space : Layers) (v n : ℕ) : Type 0 where
  pub path : Path space n v
  pub least : (m : ℕ) → Path space m v → n ≤ m

pub record GoesNearer (space : Layers) (v : ℕ) : Type 0 where
  pub edge : ℕ
  pub paired : In (pair 0 v edge) (chosen space)
  pub loose_edge : In edge (loose space)
  pub nearer : ℕ
  pub here : In v (facets_of space 1 edge)
  pub there : In nearer (facets_of space 1 edge)
  pub distance : ℕ
  pub of_nearer : IsDistance space nearer distance
  pub of_vertex : IsDistance space v (distance + 1)
  pub least :
      (other w : ℕ)
      → In other (loose space)
      → In v (facets_of space 1 other)
      → In w (facets_of space 1 other)
      → IsDistance space w distance
      → edge ≤ other

abbrev pub TreeGoesNearer : Type 0
TreeGoesNearer = (space : Layers) (v : ℕ) → IsConnected space → 2 ≤ v → v ≤ count space 0 → GoesNearer space v
