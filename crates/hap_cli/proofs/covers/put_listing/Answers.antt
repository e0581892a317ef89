use Rattle.std.proofs.Common.{◌++◌, [], List, ℕ, refl, ap, append-nil, ◌∙◌}
use Rattle.std.specs.List.{flat_map}
use Rattle.hap_outside.proofs.CallerLemmas.{gathers_next, gathers_fail, gathers_break}
use Rattle.cover_listing.specs.Listings.{listing, spot_in}
use Rattle.cover_listing.specs.Events.{events}
use Rattle.hap_cli.specs.CoverTexts.{event_text, ending_text, listing_text}
use Rattle.hap_cli.proofs.Texts.{gathers_done}
use Rattle.hap_cli.proofs.covers.put_listing.Goals as goal

pub returns-in_err-ending-clause-bytes : goal.returns-in_err-ending-clause-bytes
returns-in_err-ending-clause-bytes g c =
    let l = c.args.planned in
    gathers_fail _ _ _ _ (flat_map (event_text c.args.several) (events l.parts l.most l.from c.args.budget)) (ending_text (listing l.parts l.most l.from c.args.budget).spent) (listing_text c.args.several l.parts l.most l.from c.args.budget) _ c.from_residual.result c.from_residual.ensures.0 c.in_err-ending.ensures.bytes refl

pub returns-in_err-put_ending-clause-bytes : goal.returns-in_err-put_ending-clause-bytes
returns-in_err-put_ending-clause-bytes g c =
    let l = c.args.planned in
    let front : List ℕ = flat_map (event_text c.args.several) (events l.parts l.most l.from c.args.budget) in
    let last : List ℕ = ending_text (spot_in c.in_ok-ending.ending) in
    gathers_break _ _ _ _ _ _ front last [] (listing_text c.args.several l.parts l.most l.from c.args.budget) _ _ c.from_residual-in_err-put_ending.result
    c.in_ok-ending.ensures.bytes c.from_residual-in_err-put_ending.ensures.0 c.in_err-put_ending.ensures.bytes
    (append-nil (front ++ last) ∙ ap (λ s. front ++ ending_text s) c.in_ok-ending.ensures.ending)

pub returns-clause-bytes : goal.returns-clause-bytes
returns-clause-bytes g c =
    let l = c.args.planned in
    let front : List ℕ = flat_map (event_text c.args.several) (events l.parts l.most l.from c.args.budget) in
    let last : List ℕ = ending_text (spot_in c.in_ok-ending.ending) in
    gathers_done _ _ _ _ _ _ _
    (gathers_next _ _ _ _ _ _ front last (listing_text c.args.several l.parts l.most l.from c.args.budget) _ _ (ap (λ s. front ++ ending_text s) c.in_ok-ending.ensures.ending) c.in_ok-ending.ensures.bytes c.in_ok-put_ending.ensures.bytes)
