-- The cycle of a 2-cell: from its least vertex, first along the lower-numbered of the two edges there. space is the lists of a space,
-- edges a list of edges, step a step along an edge; cells are numbered from 1.
--   end_of space step                    the vertex where a step ends
--   start_of space step                  the vertex where it begins
--   step_from space vertex edge          the step from a vertex along an edge: forward where the vertex is the first of the edge's two
--   edge_at space edges vertex           the first of the edges at a vertex
--   other_edge space edges vertex edge   the first of the edges at a vertex other than this one
--   walk space edges n vertex edge       n steps along the edges, on from a vertex along an edge
--   least_vertex space edges             the least vertex of the edges
--   cycle_along space edges              once round along the edges
--   cycle space cell                     the cycle of a 2-cell
--   GoesRound space edges steps          the steps go once round: each of the edges occurs, and only once; each step ends where the next
--                                        one begins, and the last one where the first begins; no two begin at the same vertex
--   CyclesGoRound                        in a regular space the cycle of each 2-cell goes once round
--   edges_have_ends space cell           whether each edge of a 2-cell has two ends
--   OneCycleGoesRound                    over any space: the edges of a 2-cell, if each has two ends, can be listed as steps that go once
--                                        round exactly where the test of the rule on 2-cells holds
--   AreCycles space cells ends steps     the cycles of the first 2-cells stand one after another in the steps; cycle c from where c - 1 ends
--   HasEnds space edges                  each of the first edges, so many, has two ends
--   IsFirstEdge space edges upto edge    the edge stands in the list, its first vertex is the least of those of the first `upto` edges, and
--                                        of those with that vertex it is the first
use Rattle.std.specs.Prelude.{◌≡◌, ◌≢◌, ◌↔◌, ℕ, zero, suc, ◌+◌, ◌-◌, ◌≤◌, ◌<◌, ◌==◌, List, [], ◌∷◌, ◌++◌, length, cond, filter, not, map, slice_index, take, drop, AllPairs, Bool, true}
use Rattle.std.specs.List.{list_all}
use Rattle.number_lists.specs.Words.{holds}
use Rattle.face_poset.specs.Poset.{Layers, count, facets_of, IsSpace}
use Rattle.face_poset.specs.Below.{facets_of_all}
use Rattle.regular_check.specs.declared.cycles.Step.{Step}
use Rattle.regular_check.specs.Rules.{sharing, two_ends, one_cycle, IsRegular}

abbrev pub end_of : Layers → Step → ℕ
end_of space step = slice_index (facets_of space 1 step.edge) (cond step.forward 1 0)

abbrev pub start_of : Layers → Step → ℕ
start_of space step = slice_index (facets_of space 1 step.edge) (cond step.forward 0 1)

abbrev pub step_from : Layers → (vertex edge : ℕ) → Step
step_from space vertex edge = record { edge = edge; forward = slice_index (facets_of space 1 edge) 0 == vertex }

abbrev pub edge_at : Layers → (edges : List ℕ) → (vertex : ℕ) → ℕ
edge_at space edges vertex = slice_index (sharing space 1 edges vertex) 0

abbrev pub other_edge : Layers → (edges : List ℕ) → (vertex edge : ℕ) → ℕ
other_edge space edges vertex edge = slice_index (filter (λ e. not (e == edge)) (sharing space 1 edges vertex)) 0

abbrev pub walk : Layers → (edges : List ℕ) → (steps vertex edge : ℕ) → List Step
walk space edges zero vertex edge = []
walk space edges (suc steps) vertex edge =
    step_from space vertex edge
    ∷ walk space edges steps (end_of space (step_from space vertex edge)) (other_edge space edges (end_of space (step_from space vertex edge)) edge)

abbrev pub least_vertex : Layers → (edges : List ℕ) → ℕ
least_vertex space edges = slice_index (facets_of_all space 0 edges) 0

abbrev pub cycle_along : Layers → (edges : List ℕ) → List Step
cycle_along space edges = walk space edges (length edges) (least_vertex space edges) (edge_at space edges (least_vertex space edges))

abbrev pub cycle : Layers → (cell : ℕ) → List Step
cycle space cell = cycle_along space (facets_of space 2 cell)

pub record GoesRound (space : Layers) (edges : List ℕ) (steps : List Step) : Type 0 where
  pub edges_are : (e : ℕ) → holds (map (λ (step : Step). step.edge) steps) e ≡ holds edges e
  pub edges_once : AllPairs (λ a b. a ≢ b) (map (λ (step : Step). step.edge) steps)
  pub closes : map (end_of space) steps ≡ drop 1 (map (start_of space) steps) ++ take 1 (map (start_of space) steps)
  pub vertices_once : AllPairs (λ a b. a ≢ b) (map (start_of space) steps)

abbrev pub CyclesGoRound : Type 0
CyclesGoRound =
    (space : Layers) (cell : ℕ) → IsSpace space → IsRegular space → 1 ≤ cell → cell ≤ count space 2 → GoesRound space (facets_of space 2 cell) (cycle space cell)

abbrev pub edges_have_ends : Layers → (cell : ℕ) → Bool
edges_have_ends space cell = list_all (two_ends space) (facets_of space 2 cell)

abbrev pub OneCycleGoesRound : Type 0
OneCycleGoesRound =
    (space : Layers) (cell : ℕ)
    → IsSpace space
    → 1 ≤ cell
    → cell ≤ count space 2
    → edges_have_ends space cell ≡ true
    → (one_cycle space cell ≡ true) ↔ ((steps : List Step) × GoesRound space (facets_of space 2 cell) steps)

pub record AreCycles (space : Layers) (cells : ℕ) (ends : List ℕ) (steps : List Step) : Type 0 where
  pub long : length ends ≡ cells + 1
  pub last : slice_index ends cells ≡ length steps
  pub rise : (c : ℕ) → 1 ≤ c → c ≤ cells → slice_index ends (c - 1) ≤ slice_index ends c
  pub within : (c : ℕ) → c ≤ cells → slice_index ends c ≤ length steps
  pub parts : (c : ℕ) → 1 ≤ c → c ≤ cells → take (slice_index ends c - slice_index ends (c - 1)) (drop (slice_index ends (c - 1)) steps) ≡ cycle space c

abbrev pub HasEnds : Layers → (edges : ℕ) → Type 0
HasEnds space edges = (e : ℕ) → 1 ≤ e → e ≤ edges → length (facets_of space 1 e) ≡ 2

pub record IsFirstEdge (space : Layers) (edges : List ℕ) (upto : ℕ) (edge : ℕ) : Type 0 where
  pub place : ℕ
  pub within : place < length edges
  pub here : slice_index edges place ≡ edge
  pub before : (j : ℕ) → j < place → slice_index (facets_of space 1 edge) 0 < slice_index (facets_of space 1 (slice_index edges j)) 0
  pub least : (j : ℕ) → j < upto → slice_index (facets_of space 1 edge) 0 ≤ slice_index (facets_of space 1 (slice_index edges j)) 0
