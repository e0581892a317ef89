use Rattle.std.proofs.Common.{◌≡◌, ◌<◌, ◌≤◌, ◌+◌, ℕ, List, length, get_or, ap, ◌∙◌, sym, subst, arith}
use Rattle.std.specs.List.{flat_map}
use Rattle.number_lists.specs.Words.{upto, holds}
use Rattle.face_poset.specs.Poset.{IsSpace, count, facets_of, cofaces_of}
use Rattle.number_lists.proofs.CallerLemmas.{length-upto, In-inside, at-In, In-upto, upto-In}
use Rattle.regular_check.specs.Components.{share_edge, vertices}
use Rattle.number_lists.specs.Found.{inserted, inserted_all}
use Rattle.number_lists.specs.Members.{In}
use Rattle.regular_check.proofs.Joined.{edge_nexts}
use Rattle.regular_check.proofs.Spreading.{IsSearch, search_begun, search_more, few_found, search_tells}
use Rattle.regular_check.proofs.components.find_joined.Goals as goal

pub loop-head-init : goal.loop-head-init
loop-head-init c = (
  c.insert.ensures.most ∙ c.clear.ensures.most,
  subst (IsSearch (share_edge c.args.space.now) (vertices c.args.space.now) c.args.start 0)
      (sym (c.in_ok-insert.ensures.found ∙ ap (λ (ns : List ℕ). inserted ns c.args.start) c.clear.ensures.found))
      (search_begun (share_edge c.args.space.now) (vertices c.args.space.now) c.args.start (In-upto (count c.args.space.now 0) c.args.start c.requires.first c.requires.last)),
)

-- what was found at a place is a vertex
found_vertex : (space : List (List (List ℕ))) (start head : ℕ) (found : List ℕ) (vertex : ℕ) → IsSearch (share_edge space) (vertices space) start head found → head < length found → vertex ≡ get_or found head 0
    → (vertex ≡ get_or found head 0) × (1 ≤ vertex) × (vertex ≤ count space 0)
found_vertex space start head found vertex s l e =
    let w = upto-In (count space 0) (get_or found head 0) (s.inside (get_or found head 0) (at-In found head 0 l)) in
    (e, omega (arith, w.0, e), omega (arith, w.1, e))

pub cofaces-edges-requires-clause-first : goal.cofaces-edges-requires-clause-first
cofaces-edges-requires-clause-first c =
    (found_vertex c.args.space.now c.args.start c.loop-head.head c.loop-head.found.found c.get.result c.loop-head.invariant.1 (omega (arith, c.loop-head-test.true, c.len.ensures.len)) c.get.ensures.number).1

pub cofaces-edges-requires-clause-last : goal.cofaces-edges-requires-clause-last
cofaces-edges-requires-clause-last c =
    (found_vertex c.args.space.now c.args.start c.loop-head.head c.loop-head.found.found c.get.result c.loop-head.invariant.1 (omega (arith, c.loop-head-test.true, c.len.ensures.len)) c.get.ensures.number).2

-- the edges at a vertex are edges
edges_within : (space : List (List (List ℕ))) (vertex : ℕ) (edges : List ℕ) → edges ≡ cofaces_of space 0 vertex → (k d : ℕ) → k < length edges → (1 ≤ get_or edges k d) × (get_or edges k d ≤ count space 1)
edges_within space vertex edges e k d l =
    upto-In (count space 1) (get_or edges k d)
    (In-inside (λ n. holds (facets_of space 1 n) vertex) (upto (count space 1)) (subst (λ (es : List ℕ). In (get_or edges k d) es) e (at-In edges k d l)))

pub insert_facets-requires-clause-cells : goal.insert_facets-requires-clause-cells
insert_facets-requires-clause-cells c = edges_within c.args.space.now c.get.result c.cofaces-edges.result.now c.cofaces-edges.ensures.cofaces

pub loop-head-smaller : goal.loop-head-smaller
loop-head-smaller c =
    let few : length c.loop-head.found.found ≤ length (vertices c.args.space.now) = few_found (share_edge c.args.space.now) (vertices c.args.space.now) c.args.start c.loop-head.head c.loop-head.found.found c.loop-head.invariant.1 in
    omega (arith, few, length-upto (count c.args.space.now 0), c.requires.most, c.loop-head.invariant.0, c.insert_facets.ensures.most, c.loop-head-test.true, c.len.ensures.len)

-- the state after a turn
found_more : (space : List (List (List ℕ))) (start head : ℕ) (found new edges : List ℕ) (vertex : ℕ) → IsSpace space → IsSearch (share_edge space) (vertices space) start head found → head < length found
    → vertex ≡ get_or found head 0 → edges ≡ cofaces_of space 0 vertex → new ≡ inserted_all found (flat_map (facets_of space 1) edges) → IsSearch (share_edge space) (vertices space) start (head + 1) new
found_more space start head found new edges vertex h s l same e is =
    let c : ℕ = get_or found head 0 in
    subst (IsSearch (share_edge space) (vertices space) start (head + 1))
    (sym (is ∙ ap (λ (es : List ℕ). inserted_all found (flat_map (facets_of space 1) es)) (e ∙ ap (cofaces_of space 0) same)))
    (search_more (share_edge space) (vertices space) start head found l s (flat_map (facets_of space 1) (cofaces_of space 0 c)) (edge_nexts space c h (s.inside c (at-In found head 0 l))))

pub loop-head-preserved : goal.loop-head-preserved
loop-head-preserved c =
    let lt : c.loop-head.head < length c.loop-head.found.found = omega (arith, c.loop-head-test.true, c.len.ensures.len) in
    let f = found_vertex c.args.space.now c.args.start c.loop-head.head c.loop-head.found.found c.get.result c.loop-head.invariant.1 lt c.get.ensures.number in (
      c.insert_facets.ensures.most ∙ c.loop-head.invariant.0,
      found_more c.args.space.now c.args.start c.loop-head.head c.loop-head.found.found c.insert_facets.new.found.found c.cofaces-edges.result.now c.get.result c.cofaces-edges.ensures.valid c.loop-head.invariant.1 lt f.0
          c.cofaces-edges.ensures.cofaces c.in_ok-insert_facets.ensures.numbers,
    )

pub returns-clause-found : goal.returns-clause-found
returns-clause-found c =
    search_tells (share_edge c.args.space.now) (vertices c.args.space.now) c.args.start c.loop-head.head c.loop-head.found.found (omega (arith, c.loop-head-test.false, c.len.ensures.len)) c.loop-head.invariant.1
