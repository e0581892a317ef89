use Rattle.std.proofs.Common.{◌∙◌, ◌≤◌, ◌-◌, ap, sym, subst, arith, take, drop, filter, map}
use Rattle.std.specs.Prelude.{slice_index}
use Rattle.std.proofs.lemmas.List.{length-take-le}
use Rattle.std.specs.List.{flat_map}
use Rattle.number_lists.proofs.CallerLemmas.{length-filter-le}
use Rattle.hap_outside.proofs.CallerLemmas.{gathers_next, gathers_break}
use Rattle.live_laws.specs.Live.{Relations, is_listed}
use Rattle.cover_search.specs.Searches.{left}
use Rattle.cover_listing.specs.Events.{Finds, counts_of}
use Rattle.cover_listing.specs.Nths.{found}
use Rattle.cover_listing.proofs.Running.{so_far, turned, found-is, done-long, done-found, done-ran, spent-found, spent-ran, bare-ran, bare-done, nonzero}
use Rattle.cover_listing.proofs.Seeking.{found-one, by-place, takes-units}
use Rattle.cover_listing.proofs.Counting.{count-within, counted-more}
use Rattle.cover_listing.proofs.Telling.{told-next, told-broken, gathers_same}
use Rattle.cover_listing.proofs.listing.put_tables.Goals as goal

pub returns-then-columns-eq0-clause-ran : goal.returns-then-columns-eq0-clause-ran
returns-then-columns-eq0-clause-ran g c = bare-ran c.args.search.now c.args.budget.now (sym c.table.ensures.columns ∙ (sym c.columns.ensures ∙ c.if-columns-eq0.true))

pub returns-then-columns-eq0-clause-done : goal.returns-then-columns-eq0-clause-done
returns-then-columns-eq0-clause-done g c = bare-done c.args.search.now c.args.budget.now (sym c.table.ensures.columns ∙ (sym c.columns.ensures ∙ c.if-columns-eq0.true))

pub put_found-requires-in-Found : goal.put_found-requires-in-Found
put_found-requires-in-Found g c =
    let r = c.turns.invariant.runs in
    let some = nonzero c.args.search.now.relations.generators (λ e. c.if-columns-eq0.false (c.columns.ensures ∙ (c.table.ensures.columns ∙ e))) in
    let turn = c.next.ensures.turn (subst (λ (P : Relations). 1 ≤ P.generators) (sym r.relations) some) in
    let units = takes-units c.turns.search c.next.new.self (c.turns.budget - c.next.new.budget) (turn.found.0 c.in-Found.is) in
    let few = count-within (so_far c.args.search.now c.args.budget.now c.turns.budget) (c.next.new.self.table.0 - 1) in
    let within = length-filter-le (is_listed c.args.search.now.relations) (take (c.args.budget.now - c.turns.budget) (left c.args.search.now)) in
    let taken = length-take-le (c.args.budget.now - c.turns.budget) (left c.args.search.now) r.few in
    let same = ap (λ ns. slice_index ns (c.next.new.self.table.0 - 1)) c.turns.invariant.counted in
    record { room = omega (arith, units, few, within, taken, same, r.within, c.next.ensures.budget, c.requires.word) }

pub turns-preserved : goal.turns-preserved
turns-preserved g c =
    let r = c.turns.invariant.runs in
    let some = nonzero c.args.search.now.relations.generators (λ e. c.if-columns-eq0.false (c.columns.ensures ∙ (c.table.ensures.columns ∙ e))) in
    let turn = c.next.ensures.turn (subst (λ (P : Relations). 1 ≤ P.generators) (sym r.relations) some) in
    let more = found-one _ _ _ _ _ _ r c.next.ensures.budget c.next.ensures.goes some (turn.found.0 c.in-Found.is) in
    let new = turned _ _ _ _ _ _ r c.next.ensures.budget c.next.ensures.goes in
    record {
      runs = new;
      counted = counted-more _ _ _ _ c.next.new.self.table c.next.new.self.position c.turns.invariant.counted more (turn.table c.in-Found.is) c.put_found-in-Found.ensures.sheets c.put_found-in-Found.ensures.counts;
      bytes = gathers_next _ _ _ _ _ _ _ _ _ _ _
          (told-next (g.T.Taker.text c.args.taker.now) c.args.search.now.relations.generators c.next.new.self.relations.generators _ _ c.next.new.self.table c.next.new.self.position more (ap (λ (P : Relations). P.generators) new.relations) (turn.table c.in-Found.is))
          c.turns.invariant.bytes c.in_ok-put_found-in-Found.ensures.bytes;
      still = c.in_ok-put_found-in-Found.ensures.cause.kept ∙ c.turns.invariant.still;
    }

pub returns-in_err-put_found-in-Found-clause-bytes : goal.returns-in_err-put_found-in-Found-clause-bytes
returns-in_err-put_found-in-Found-clause-bytes g c =
    let r = c.turns.invariant.runs in
    let some = nonzero c.args.search.now.relations.generators (λ e. c.if-columns-eq0.false (c.columns.ensures ∙ (c.table.ensures.columns ∙ e))) in
    let turn = c.next.ensures.turn (subst (λ (P : Relations). 1 ≤ P.generators) (sym r.relations) some) in
    let new = turned _ _ _ _ _ _ r c.next.ensures.budget c.next.ensures.goes in
    gathers_break _ _ _ _ _ _
    (flat_map (g.T.Taker.text c.args.taker.now) (map (Finds c.args.search.now.relations.generators) (so_far c.args.search.now c.args.budget.now c.turns.budget)))
    (g.T.Taker.text c.args.taker.now (Finds c.next.new.self.relations.generators c.next.new.self.table))
    (flat_map (g.T.Taker.text c.args.taker.now) (map (Finds c.args.search.now.relations.generators) (filter (is_listed c.args.search.now.relations) (take c.next.new.budget (drop (c.args.budget.now - c.next.new.budget) (left c.args.search.now))))))
    (flat_map (g.T.Taker.text c.args.taker.now) (map (Finds c.args.search.now.relations.generators) (found c.args.search.now.relations c.args.search.now.most c.args.search.now.position c.args.budget.now)))
    _ _ c.from_residual-in_err-put_found-in-Found.result c.turns.invariant.bytes c.from_residual-in_err-put_found-in-Found.ensures.0 c.in_err-put_found-in-Found.ensures.bytes
    (told-broken (g.T.Taker.text c.args.taker.now) c.args.search.now.relations.generators c.next.new.self.relations.generators _ _ _ c.next.new.self.table c.next.new.self.position
    (by-place _ _ _ _ _ _ r c.next.ensures.budget c.next.ensures.goes some (turn.found.0 c.in-Found.is)) (ap (λ (P : Relations). P.generators) new.relations) (turn.table c.in-Found.is))

pub returns-in-Done-clause-bytes : goal.returns-in-Done-clause-bytes
returns-in-Done-clause-bytes g c =
    let r = c.turns.invariant.runs in
    let some = nonzero c.args.search.now.relations.generators (λ e. c.if-columns-eq0.false (c.columns.ensures ∙ (c.table.ensures.columns ∙ e))) in
    let turn = c.next.ensures.turn (subst (λ (P : Relations). 1 ≤ P.generators) (sym r.relations) some) in
    gathers_same _ _ _ _ _ _ _ _
    (ap (λ ts. flat_map (g.T.Taker.text c.args.taker.now) (map (Finds c.args.search.now.relations.generators) ts))
    (sym (found-is c.args.search.now.relations c.args.search.now.most c.args.search.now.position c.args.budget.now some ∙ done-found _ _ _ _ _ _ r c.next.ensures.budget c.next.ensures.goes (turn.done.0 c.in-Done.is))))
    c.turns.invariant.bytes

pub returns-in-Done-clause-ran : goal.returns-in-Done-clause-ran
returns-in-Done-clause-ran g c =
    let r = c.turns.invariant.runs in
    let some = nonzero c.args.search.now.relations.generators (λ e. c.if-columns-eq0.false (c.columns.ensures ∙ (c.table.ensures.columns ∙ e))) in
    let turn = c.next.ensures.turn (subst (λ (P : Relations). 1 ≤ P.generators) (sym r.relations) some) in
    done-ran _ _ _ _ _ _ r c.next.ensures.budget c.next.ensures.goes (turn.done.0 c.in-Done.is)

pub returns-in-Done-clause-done : goal.returns-in-Done-clause-done
returns-in-Done-clause-done g c =
    let r = c.turns.invariant.runs in
    let some = nonzero c.args.search.now.relations.generators (λ e. c.if-columns-eq0.false (c.columns.ensures ∙ (c.table.ensures.columns ∙ e))) in
    let turn = c.next.ensures.turn (subst (λ (P : Relations). 1 ≤ P.generators) (sym r.relations) some) in
    let long = done-long _ _ _ _ _ _ r c.next.ensures.budget c.next.ensures.goes (turn.done.0 c.in-Done.is) in
    sym (grind (arith, long))

pub returns-in-Done-clause-counts : goal.returns-in-Done-clause-counts
returns-in-Done-clause-counts g c =
    let r = c.turns.invariant.runs in
    let some = nonzero c.args.search.now.relations.generators (λ e. c.if-columns-eq0.false (c.columns.ensures ∙ (c.table.ensures.columns ∙ e))) in
    let turn = c.next.ensures.turn (subst (λ (P : Relations). 1 ≤ P.generators) (sym r.relations) some) in
    c.turns.invariant.counted ∙ ap (counts_of 8) (sym (found-is c.args.search.now.relations c.args.search.now.most c.args.search.now.position c.args.budget.now some ∙ done-found _ _ _ _ _ _ r c.next.ensures.budget c.next.ensures.goes (turn.done.0 c.in-Done.is)))

pub returns-in-Spent-clause-bytes : goal.returns-in-Spent-clause-bytes
returns-in-Spent-clause-bytes g c =
    let r = c.turns.invariant.runs in
    let some = nonzero c.args.search.now.relations.generators (λ e. c.if-columns-eq0.false (c.columns.ensures ∙ (c.table.ensures.columns ∙ e))) in
    let turn = c.next.ensures.turn (subst (λ (P : Relations). 1 ≤ P.generators) (sym r.relations) some) in
    gathers_same _ _ _ _ _ _ _ _
    (ap (λ ts. flat_map (g.T.Taker.text c.args.taker.now) (map (Finds c.args.search.now.relations.generators) ts))
    (sym (found-is c.args.search.now.relations c.args.search.now.most c.args.search.now.position c.args.budget.now some ∙ spent-found _ _ _ _ _ _ r c.next.ensures.budget c.next.ensures.goes (turn.spent.0 c.in-Spent.is))))
    c.turns.invariant.bytes

pub returns-in-Spent-clause-ran : goal.returns-in-Spent-clause-ran
returns-in-Spent-clause-ran g c =
    let r = c.turns.invariant.runs in
    let some = nonzero c.args.search.now.relations.generators (λ e. c.if-columns-eq0.false (c.columns.ensures ∙ (c.table.ensures.columns ∙ e))) in
    let turn = c.next.ensures.turn (subst (λ (P : Relations). 1 ≤ P.generators) (sym r.relations) some) in
    spent-ran _ _ _ _ _ _ r c.next.ensures.budget c.next.ensures.goes (turn.spent.0 c.in-Spent.is)

pub returns-in-Spent-clause-counts : goal.returns-in-Spent-clause-counts
returns-in-Spent-clause-counts g c =
    let r = c.turns.invariant.runs in
    let some = nonzero c.args.search.now.relations.generators (λ e. c.if-columns-eq0.false (c.columns.ensures ∙ (c.table.ensures.columns ∙ e))) in
    let turn = c.next.ensures.turn (subst (λ (P : Relations). 1 ≤ P.generators) (sym r.relations) some) in
    c.turns.invariant.counted ∙ ap (counts_of 8) (sym (found-is c.args.search.now.relations c.args.search.now.most c.args.search.now.position c.args.budget.now some ∙ spent-found _ _ _ _ _ _ r c.next.ensures.budget c.next.ensures.goes (turn.spent.0 c.in-Spent.is)))
