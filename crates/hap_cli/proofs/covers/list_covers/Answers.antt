use Rattle.std.proofs.Common.{List, map, sym, subst}
use Rattle.edge_words.specs.Words.{Presented, relations_of}
use Rattle.hap_outside.specs.Causes.{Rose}
use Rattle.hap_words.specs.Asked.{covers_of}
use Rattle.hap_ends.specs.declared.outcome.Outcome.{Outcome}
use Rattle.hap_cli.specs.CoverTexts.{Lists}
use Rattle.hap_cli.proofs.CoverEnds.{begun_end, unbegun_end, keeps}
use Rattle.hap_cli.proofs.covers.list_covers.Goals as goal

pub returns-in-Ok-clause-lists : goal.returns-in-Ok-clause-lists
returns-in-Ok-clause-lists g c =
    let ps = c.deref.result.now in
    let o = covers_of c.args.options.now in
    let old = g.K.Sink.written c.args.out.now in
    let new = g.K.Sink.written c.write_listing.new.out in
    let before = g.K.Sink.faults c.args.out.now in
    let now = g.K.Sink.faults c.write_listing.new.out in
    subst
    (λ (xs : List Presented). Lists c.args.plan.now.several (map relations_of xs) o (Rose before now) old new c.ended.result)
    c.deref.ensures.value
    (subst (λ (x : Outcome). Lists c.args.plan.now.several (map relations_of ps) o (Rose before now) old new x) (sym c.ended.ensures)
    (begun_end c.args.plan.now.several (map relations_of ps) o c.in-Ok.listing old new before now c.write_listing.result
    c.in-Ok.ensures.listing c.in-Ok.ensures.begins c.write_listing.ensures.bytes c.write_listing.ensures.cause c.write_listing.ensures.ending))

pub returns-in-Err-clause-lists : goal.returns-in-Err-clause-lists
returns-in-Err-clause-lists g c =
    let ps = c.deref.result.now in
    let o = covers_of c.args.options.now in
    let old = g.K.Sink.written c.args.out.now in
    let before = g.K.Sink.faults c.args.out.now in
    subst
    (λ (xs : List Presented). Lists c.args.plan.now.several (map relations_of xs) o (Rose before before) old old c.from.result)
    c.deref.ensures.value
    (subst (λ (x : Outcome). Lists c.args.plan.now.several (map relations_of ps) o (Rose before before) old old x) (sym c.from.ensures)
    (unbegun_end c.args.plan.now.several (map relations_of ps) o (Rose before before) old c.in-Err.fault c.in-Err.ensures.fault (keeps old)))
