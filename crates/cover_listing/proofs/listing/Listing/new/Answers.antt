use Rattle.std.proofs.Common.{◌∙◌, ap, map, arith, sym}
use Rattle.std.proofs.lemmas.List.{length-map}
use Rattle.edge_words.specs.Words.{relations_of}
use Rattle.live_laws.specs.Live.{Relations, Position}
use Rattle.cover_search.specs.Searches.{at}
use Rattle.cover_listing.proofs.Starting.{no-parts}
use Rattle.cover_listing.proofs.Going.{plans, planned}
use Rattle.cover_listing.proofs.listing.Listing.new.Goals as goal

pub invariant_of-result : goal.invariant_of-result
invariant_of-result c =
    let Ps = map {B = Relations} relations_of c.args.presentations.now in
    let long = length-map {B = Relations} c.args.presentations.now relations_of in
    let empty = no-parts c.args.from.now.component c.args.from.now.sheets c.args.from.now.cells c.args.presentations.now (at c.position.result.now) c.component.ensures.valid (ap at c.position.ensures) (sym c.is_missing.ensures ∙ c.if-is_missing.false) in
    plans c.component.result c.args.sheets (at c.position.result.now) Ps c.in_ok-begin_each.field-0.items c.in_ok-begin_each.ensures.searches empty
    (let v = c.component.ensures.valid.first in let k = c.component.ensures.component in omega (arith, v, k)) c.requires.least c.requires.most
    (let k = c.component.ensures.component in let r = c.requires.components in omega (arith, long, k, r))
    (λ l. c.in_ok-begin_each.ensures.begins (omega (arith, l, long)))

pub returns-clause-listing : goal.returns-clause-listing
returns-clause-listing c =
    let Ps = map {B = Relations} relations_of c.args.presentations.now in
    let empty = no-parts c.args.from.now.component c.args.from.now.sheets c.args.from.now.cells c.args.presentations.now (at c.position.result.now) c.component.ensures.valid (ap at c.position.ensures) (sym c.is_missing.ensures ∙ c.if-is_missing.false) in
    planned c.component.result c.args.sheets (at c.position.result.now) Ps c.in_ok-begin_each.field-0.items c.in_ok-begin_each.ensures.searches empty c.args.from.now.component c.component.ensures.component
    ∙ ap (λ (t : Position). record { parts = Ps; most = c.args.sheets; from = (c.args.from.now.component, t) }) (ap at c.position.ensures)
