use Rattle.std.proofs.Common.{◌∙◌, ◌++◌, [], ◌+◌, List, Some, ap, sym, subst, refl, arith}
use Rattle.std.specs.Prelude.{nat_lt, option_map}
use Rattle.std.specs.List.{flat_map}
use Rattle.std.specs.Vec.Iter.{into_iter_items}
use Rattle.hap_outside.proofs.CallerLemmas.{gathers_next, gathers_break, gathers_nothing}
use Rattle.cover_search.specs.Searches.{Searching, at}
use Rattle.cover_listing.specs.Listings.{spot_at}
use Rattle.cover_listing.specs.Events.{section}
use Rattle.cover_listing.specs.Nths.{found}
use Rattle.cover_listing.specs.Passes.{pass, pass_spent, relations_in_all, first_position}
use Rattle.cover_listing.proofs.Going.{IsLeft, begins-left, this-some, front-text, this-front, stop-text, stop-spent, goes-left, goes-spent, goes-text}
use Rattle.cover_listing.proofs.Starting.{stop-proper}
use Rattle.cover_listing.proofs.Telling.{gathers_same}
use Rattle.cover_listing.proofs.listing.put_components.Goals as goal

pub components-init : goal.components-init
components-init g c = record {
  next = tt;
  finite = tt;
  rest = subst (λ (rs : List Searching). IsLeft c.args.sheets c.args.budget c.args.until 0 c.args.first rs) (sym c.into_iter-search-iterator.ensures.into_iter_gives.0) (begins-left c.args.first c.args.sheets c.args.budget c.args.until c.args.searches.items c.requires.plan c.requires.until c.requires.some);
  spent = refl;
  bytes = ([], gathers_nothing _ _ tt, refl);
  still = refl;
  units = omega arith;
}

pub returns-in_err-stop-clause-bytes : goal.returns-in_err-stop-clause-bytes
returns-in_err-stop-clause-bytes g c =
    let text = g.T.Taker.text c.args.taker.now in
    let s = c.in-Some.search in
    let us = into_iter_items c.next.new.self in
    let e = c.in-Some.ensures.steps.0 in
    let h = subst (λ (rs : List Searching). IsLeft c.args.sheets c.components.budget c.args.until c.components.index c.components.component rs) e c.components.invariant.rest in
    let whole = ap (λ (rs : List Searching). flat_map text (pass c.args.sheets c.args.budget (first_position rs) c.args.first (relations_in_all rs))) c.into_iter-search-iterator.ensures.into_iter_gives.0 in
    let told = ap (λ (rs : List Searching). c.components.invariant.bytes.0 ++ flat_map text (pass c.args.sheets c.components.budget (first_position rs) c.components.component (relations_in_all rs))) (sym e) ∙ (c.components.invariant.bytes.2 ∙ whole) in
    gathers_break _ _ _ _ _ _ c.components.invariant.bytes.0
    (flat_map text (section c.args.sheets c.components.component s.relations.generators (found s.relations c.args.sheets s.position c.components.budget)))
    (flat_map text (this-front c.args.sheets c.components.budget c.args.until c.components.index c.components.component s us h (nat_lt (c.components.index + 1) c.args.until) refl))
    (flat_map text (pass c.args.sheets c.args.budget (first_position c.args.searches.items) c.args.first (relations_in_all c.args.searches.items))) _ _ c.from_residual.result
    c.components.invariant.bytes.1 c.from_residual.ensures.0 c.in_err-stop.ensures.bytes
    (front-text c.args.sheets c.components.budget c.args.until c.components.index c.components.component s us h (nat_lt (c.components.index + 1) c.args.until) refl text c.components.invariant.bytes.0 _ told)

pub new-requires-clause-proper : goal.new-requires-clause-proper
new-requires-clause-proper g c =
    let s = c.in-Some.search in
    let us = into_iter_items c.next.new.self in
    let h = subst (λ (rs : List Searching). IsLeft c.args.sheets c.components.budget c.args.until c.components.index c.components.component rs) c.in-Some.ensures.steps.0 c.components.invariant.rest in
    stop-proper s.relations (nat_lt (c.components.index + 1) c.args.until) c.args.sheets s.position c.components.budget (at c.in-Some-stop.position) c.requires.plan.most
    (this-some c.args.sheets c.components.budget c.args.until c.components.index c.components.component s us h (nat_lt (c.components.index + 1) c.args.until) refl)
    (sym (ap (option_map at) c.in-Some-stop.is) ∙ c.in_ok-stop.ensures.stop)

pub returns-in-Some-stop-clause-bytes : goal.returns-in-Some-stop-clause-bytes
returns-in-Some-stop-clause-bytes g c =
    let text = g.T.Taker.text c.args.taker.now in
    let s = c.in-Some.search in
    let us = into_iter_items c.next.new.self in
    let e = c.in-Some.ensures.steps.0 in
    let h = subst (λ (rs : List Searching). IsLeft c.args.sheets c.components.budget c.args.until c.components.index c.components.component rs) e c.components.invariant.rest in
    let whole = ap (λ (rs : List Searching). flat_map text (pass c.args.sheets c.args.budget (first_position rs) c.args.first (relations_in_all rs))) c.into_iter-search-iterator.ensures.into_iter_gives.0 in
    let told = ap (λ (rs : List Searching). c.components.invariant.bytes.0 ++ flat_map text (pass c.args.sheets c.components.budget (first_position rs) c.components.component (relations_in_all rs))) (sym e) ∙ (c.components.invariant.bytes.2 ∙ whole) in
    let stop = sym (ap (option_map at) c.in-Some-stop.is) ∙ c.in_ok-stop.ensures.stop in
    gathers_same _ _ _ _ _ _ _ _ refl
    (gathers_next _ _ _ _ _ _ c.components.invariant.bytes.0
    (flat_map text (section c.args.sheets c.components.component s.relations.generators (found s.relations c.args.sheets s.position c.components.budget)))
    (flat_map text (pass c.args.sheets c.args.budget (first_position c.args.searches.items) c.args.first (relations_in_all c.args.searches.items))) _ _
    (stop-text c.args.sheets c.components.budget c.args.until c.components.index c.components.component s us h (nat_lt (c.components.index + 1) c.args.until) refl (at c.in-Some-stop.position) stop text c.components.invariant.bytes.0 _ told)
    c.components.invariant.bytes.1 c.in_ok-stop.ensures.bytes)

pub returns-in-Some-stop-clause-ending : goal.returns-in-Some-stop-clause-ending
returns-in-Some-stop-clause-ending g c =
    let s = c.in-Some.search in
    let us = into_iter_items c.next.new.self in
    let e = c.in-Some.ensures.steps.0 in
    let h = subst (λ (rs : List Searching). IsLeft c.args.sheets c.components.budget c.args.until c.components.index c.components.component rs) e c.components.invariant.rest in
    let stop = sym (ap (option_map at) c.in-Some-stop.is) ∙ c.in_ok-stop.ensures.stop in
    ap (λ m. Some (spot_at m)) c.new.ensures
    ∙ (stop-spent c.args.sheets c.components.budget c.args.until c.components.index c.components.component s us h (nat_lt (c.components.index + 1) c.args.until) refl (at c.in-Some-stop.position) stop
    ∙ (ap (λ (rs : List Searching). pass_spent c.args.sheets c.components.budget (first_position rs) c.components.component (relations_in_all rs)) (sym e)
    ∙ (c.components.invariant.spent
    ∙ ap (λ (rs : List Searching). pass_spent c.args.sheets c.args.budget (first_position rs) c.args.first (relations_in_all rs)) c.into_iter-search-iterator.ensures.into_iter_gives.0)))

pub components-preserved : goal.components-preserved
components-preserved g c =
    let text = g.T.Taker.text c.args.taker.now in
    let s = c.in-Some.search in
    let us = into_iter_items c.next.new.self in
    let e = c.in-Some.ensures.steps.0 in
    let h = subst (λ (rs : List Searching). IsLeft c.args.sheets c.components.budget c.args.until c.components.index c.components.component rs) e c.components.invariant.rest in
    let stop = sym (ap (option_map at) c.in-None-stop.is) ∙ c.in_ok-stop.ensures.stop in
    let told = ap (λ (rs : List Searching). c.components.invariant.bytes.0 ++ flat_map text (pass c.args.sheets c.components.budget (first_position rs) c.components.component (relations_in_all rs))) (sym e) ∙ c.components.invariant.bytes.2 in
    record {
      next = tt;
      finite = tt;
      rest = goes-left c.args.sheets c.components.budget c.args.until c.components.index c.components.component s us h (nat_lt (c.components.index + 1) c.args.until) refl stop c.put_component.new.budget c.in_ok-stop.ensures.budget;
      spent = goes-spent c.args.sheets c.components.budget c.args.until c.components.index c.components.component s us h (nat_lt (c.components.index + 1) c.args.until) refl stop c.put_component.new.budget c.in_ok-stop.ensures.budget
          ∙ (ap (λ (rs : List Searching). pass_spent c.args.sheets c.components.budget (first_position rs) c.components.component (relations_in_all rs)) (sym e) ∙ c.components.invariant.spent);
      bytes = (
        c.components.invariant.bytes.0 ++ flat_map text (section c.args.sheets c.components.component s.relations.generators (found s.relations c.args.sheets s.position c.components.budget)),
        gathers_same _ _ _ _ _ _ _ _ refl (gathers_next _ _ _ _ _ _ _ _ _ _ _ refl c.components.invariant.bytes.1 c.in_ok-stop.ensures.bytes),
        goes-text c.args.sheets c.components.budget c.args.until c.components.index c.components.component s us h (nat_lt (c.components.index + 1) c.args.until) refl stop text c.components.invariant.bytes.0 _ c.put_component.new.budget c.in_ok-stop.ensures.budget told,
      );
      still = c.in_ok-stop.ensures.cause.kept ∙ c.components.invariant.still;
      units = let b = c.in_ok-stop.ensures.budget in let u = c.components.invariant.units in omega (arith, b, u);
    }
