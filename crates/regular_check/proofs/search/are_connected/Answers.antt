use Rattle.std.proofs.Common.{◌≡◌, ◌<◌, ◌≤◌, ◌+◌, ℕ, List, map, length, get_or, ap, sym, ◌∙◌, subst, arith}
use Rattle.face_poset.specs.Poset.{IsCell, count, facets_of}
use Rattle.regular_check.specs.declared.tally.Tally.{Tally}
use Rattle.regular_check.specs.Rules.{meet}
use Rattle.number_lists.specs.Found.{Numbers, inserted, inserted_all}
use Rattle.regular_check.specs.Tally.{AreOthers, other}
use Rattle.number_lists.specs.Members.{In}
use Rattle.number_lists.proofs.CallerLemmas.{at-In, In-at}
use Rattle.regular_check.proofs.Cells.{facets-cell}
use Rattle.regular_check.proofs.Spreading.{IsSearch, search_begun, search_idle, search_more, few_found, search_tells}
use Rattle.regular_check.proofs.Searching.{IsReady, across_nexts, connected_tells, others_are}
use Rattle.regular_check.proofs.search.are_connected.Goals as goal
use Rattle.regular_check.proofs.search.are_connected.Goals.{then-head-len+in_ok-find_across, else-head-len}

pub loop-head-init : goal.loop-head-init
loop-head-init c = (
  c.insert.ensures.most ∙ c.clear.ensures.most,
  subst (IsSearch (meet c.args.space.now c.args.dim) c.args.cells.now (get_or c.args.cells.now 0 0) 0)
      (sym (c.in_ok-insert.ensures.found ∙ ap (λ (ns : List ℕ). inserted ns (get_or c.args.cells.now 0 0)) c.clear.ensures.found))
      (search_begun (meet c.args.space.now c.args.dim) c.args.cells.now (get_or c.args.cells.now 0 0) (at-In c.args.cells.now 0 0 (omega (arith, c.requires.cells.some)))),
)

-- the cell that was found at a place is one of the cells
found_cell : (space : List (List (List ℕ))) (dim : ℕ) (cells : List ℕ) (tallies : List Tally) (head : ℕ) (found : List ℕ) (cell : ℕ) → IsCell (count space dim) cells → IsSearch (meet space dim) cells (get_or cells 0 0) head found
    → head < length found → cell ≡ get_or found head 0 → (cell ≡ get_or found head 0) × (1 ≤ cell) × (cell ≤ count space dim) × In cell cells
found_cell space dim cells tallies head found cell h s l e =
    let m : In cell cells = subst (λ (z : ℕ). In z cells) (sym e) (s.inside (get_or found head 0) (at-In found head 0 l)) in
    let a = In-at m in
    let w = h.within a.0 0 a.1 in
    (e, omega (arith, w.0, a.2), omega (arith, w.1, a.2), m)

pub facets-requires-clause-first : goal.facets-requires-clause-first
facets-requires-clause-first c =
    (found_cell c.args.space.now c.args.dim c.args.cells.now c.args.tallies.now c.loop-head.head c.loop-head.found.found c.get-cell.result c.requires.cells c.loop-head.invariant.1 (omega (arith, c.if-head-len.true, c.len.ensures.len)) c.get-cell.ensures.number).1

pub facets-requires-clause-last : goal.facets-requires-clause-last
facets-requires-clause-last c =
    (found_cell c.args.space.now c.args.dim c.args.cells.now c.args.tallies.now c.loop-head.head c.loop-head.found.found c.get-cell.result c.requires.cells c.loop-head.invariant.1 (omega (arith, c.if-head-len.true, c.len.ensures.len)) c.get-cell.ensures.number).2

pub find_across-requires-clause-facets : goal.find_across-requires-clause-facets
find_across-requires-clause-facets c =
    let w = found_cell c.args.space.now c.args.dim c.args.cells.now c.args.tallies.now c.loop-head.head c.loop-head.found.found c.get-cell.result c.requires.cells c.loop-head.invariant.1 (omega (arith, c.if-head-len.true, c.len.ensures.len)) c.get-cell.ensures.number in
    subst (IsCell (length c.args.tallies.now)) (sym c.facets.ensures.facets) (facets-cell c.args.space.now c.args.dim c.get-cell.result (length c.args.tallies.now) c.facets.ensures.valid c.requires.low w.1 w.2 c.requires.room)

pub find_across-requires-clause-others : goal.find_across-requires-clause-others
find_across-requires-clause-others c =
    let w = found_cell c.args.space.now c.args.dim c.args.cells.now c.args.tallies.now c.loop-head.head c.loop-head.found.found c.get-cell.result c.requires.cells c.loop-head.invariant.1 (omega (arith, c.if-head-len.true, c.len.ensures.len)) c.get-cell.ensures.number in
    let ready : IsReady c.args.space.now c.args.dim c.args.cells.now c.args.tallies.now = record { valid = c.facets.ensures.valid; low = c.requires.low; cell = c.requires.cells; few = c.requires.few; room = c.requires.room; tally = c.requires.tally; twice = c.requires.twice } in
    subst (λ (fs : List ℕ). AreOthers c.args.tallies.now fs c.get-cell.result c.loop-head.found.most) (sym c.facets.ensures.facets)
    (others_are c.args.space.now c.args.dim c.args.cells.now c.args.tallies.now ready c.get-cell.result c.loop-head.found.most w.3 (omega (arith, c.loop-head.invariant.0, c.requires.most)))

-- the state after a turn
found_more : (space : List (List (List ℕ))) (dim : ℕ) (cells : List ℕ) (tallies : List Tally) (head : ℕ) (found new facets : List ℕ) (cell : ℕ) → IsReady space dim cells tallies → IsSearch (meet space dim) cells (get_or cells 0 0) head found
    → head < length found → cell ≡ get_or found head 0 → facets ≡ facets_of space dim cell → new ≡ inserted_all found (map (other tallies cell) facets) → IsSearch (meet space dim) cells (get_or cells 0 0) (head + 1) new
found_more space dim cells tallies head found new facets cell ready s l same e is =
    subst (IsSearch (meet space dim) cells (get_or cells 0 0) (head + 1))
    (sym (is ∙ (ap (λ (fs : List ℕ). inserted_all found (map (other tallies cell) fs)) e ∙ ap (λ (x : ℕ). inserted_all found (map (other tallies x) (facets_of space dim x))) same)))
    (search_more (meet space dim) cells (get_or cells 0 0) head found l s (map (other tallies (get_or found head 0)) (facets_of space dim (get_or found head 0))) (across_nexts space dim cells tallies ready (get_or found head 0) (s.inside (get_or found head 0) (at-In found head 0 l))))

pub loop-head-preserved : goal.loop-head-preserved
loop-head-preserved c =
    elim c.if-head-len.branch [
      | then-head-len+in_ok-find_across w ↦
          let lt : c.loop-head.head < length c.loop-head.found.found = omega (arith, w.if-head-len.true, c.len.ensures.len) in
          let f = found_cell c.args.space.now c.args.dim c.args.cells.now c.args.tallies.now c.loop-head.head c.loop-head.found.found w.get-cell.result c.requires.cells c.loop-head.invariant.1 lt w.get-cell.ensures.number in
          let ready : IsReady c.args.space.now c.args.dim c.args.cells.now c.args.tallies.now = record { valid = w.facets.ensures.valid; low = c.requires.low; cell = c.requires.cells; few = c.requires.few; room = c.requires.room; tally = c.requires.tally; twice = c.requires.twice } in (
            ap (λ (m : Numbers). m.most) w.found-is ∙ (w.find_across.ensures.most ∙ c.loop-head.invariant.0),
            found_more c.args.space.now c.args.dim c.args.cells.now c.args.tallies.now c.loop-head.head c.loop-head.found.found c.if-head-len.found.found w.facets.result.now w.get-cell.result ready c.loop-head.invariant.1 lt f.0 w.facets.ensures.facets
                (ap (λ (m : Numbers). m.found) w.found-is ∙ w.in_ok-find_across.ensures.numbers),
          )
      | else-head-len w ↦ (
        ap (λ (m : Numbers). m.most) w.found-is ∙ c.loop-head.invariant.0,
        subst (IsSearch (meet c.args.space.now c.args.dim) c.args.cells.now (get_or c.args.cells.now 0 0) (c.loop-head.head + 1)) (sym (ap (λ (m : Numbers). m.found) w.found-is))
            (search_idle (meet c.args.space.now c.args.dim) c.args.cells.now (get_or c.args.cells.now 0 0) c.loop-head.head c.loop-head.found.found (omega (arith, w.if-head-len.false, c.len.ensures.len)) c.loop-head.invariant.1),
      )
    ]

pub returns-clause-connected : goal.returns-clause-connected
returns-clause-connected c =
    let found : List ℕ = c.loop-head.found.found in
    let few : length found ≤ length c.args.cells.now = few_found (meet c.args.space.now c.args.dim) c.args.cells.now (get_or c.args.cells.now 0 0) c.loop-head.head found c.loop-head.invariant.1 in
    c.are_found.ensures
    ∙ connected_tells c.args.space.now c.args.dim c.args.cells.now c.args.tallies.now found
    (search_tells (meet c.args.space.now c.args.dim) c.args.cells.now (get_or c.args.cells.now 0 0) c.loop-head.head found (omega (arith, c.loop-head-test.false, few)) c.loop-head.invariant.1)
