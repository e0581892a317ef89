use Rattle.std.proofs.Common.{◌∙◌, inl, List, ℕ, ap, sym, subst}
use Rattle.std.specs.List.{flat_map}
use Rattle.std.proofs.lemmas.Result.{IfOk-weaker}
use Rattle.hap_outside.specs.Gathers.{Gathers}
use Rattle.live_laws.proofs.CallerLemmas.{live_resumes}
use Rattle.cover_listing.specs.Listings.{Planned, listing}
use Rattle.cover_listing.specs.Events.{events}
use Rattle.cover_listing.specs.Passes.{relations_in_all, first_position}
use Rattle.cover_listing.proofs.Firsts.{alone, some-live}
use Rattle.cover_listing.proofs.Passing.{pass_is}
use Rattle.cover_listing.proofs.listing.Listing.write.Goals as goal

pub returns-clause-bytes : goal.returns-clause-bytes
returns-clause-bytes g c =
    let text = g.T.Taker.text c.args.taker.now in
    let ss = c.self.inside.searches.items in
    let is = pass_is alone some-live live_resumes c.self.inside.sheets c.self.invariant.least c.args.budget (first_position ss) c.self.inside.first (relations_in_all ss) (inl c.requires) c.self.invariant.begins in
    subst (λ (bytes : List ℕ). Gathers (g.K.Sink.written c.args.sink.now) (g.K.Sink.written c.put_components.new.sink) c.args.held.now c.put_components.new.held bytes c.put_components.result)
    (ap (flat_map text) (sym is.events) ∙ ap (λ (p : Planned). flat_map text (events p.parts p.most p.from c.args.budget)) c.self.view_is)
    c.put_components.ensures.bytes

pub returns-clause-ending : goal.returns-clause-ending
returns-clause-ending g c =
    let ss = c.self.inside.searches.items in
    let is = pass_is alone some-live live_resumes c.self.inside.sheets c.self.invariant.least c.args.budget (first_position ss) c.self.inside.first (relations_in_all ss) (inl c.requires) c.self.invariant.begins in
    IfOk-weaker c.put_components.result _ _
    (λ ending h. h ∙ (sym is.spent ∙ ap (λ (p : Planned). (listing p.parts p.most p.from c.args.budget).spent) c.self.view_is))
    c.put_components.ensures.ending
