use Rattle.std.proofs.Common.{◌++◌, ◌∙◌, ap}
use Rattle.std.specs.List.{flat_map}
use Rattle.hap_outside.proofs.CallerLemmas.{gathers_next, gathers_fail}
use Rattle.cover_listing.specs.Events.{Begins, section, rest_of_section}
use Rattle.cover_listing.specs.Nths.{found}
use Rattle.cover_listing.proofs.listing.put_section.Goals as goal

pub returns-in_err-begin-clause-bytes : goal.returns-in_err-begin-clause-bytes
returns-in_err-begin-clause-bytes g c =
    let tables = found c.args.search.now.relations c.args.sheets c.args.search.now.position c.args.budget.now in
    let columns = c.args.search.now.relations.generators in
    let text = g.T.Taker.text c.args.taker.now in
    gathers_fail _ _ _ _ (text (Begins c.args.component c.columns.result)) (flat_map text (rest_of_section c.args.sheets columns tables)) (flat_map text (section c.args.sheets c.args.component columns tables)) _ c.from_residual.result
    c.from_residual.ensures.0 c.in_err-begin.ensures.bytes (ap (λ k. text (Begins c.args.component k) ++ flat_map text (rest_of_section c.args.sheets columns tables)) (c.columns.ensures ∙ c.table.ensures.columns))

pub returns-clause-bytes : goal.returns-clause-bytes
returns-clause-bytes g c =
    let tables = found c.args.search.now.relations c.args.sheets c.args.search.now.position c.args.budget.now in
    let columns = c.args.search.now.relations.generators in
    let text = g.T.Taker.text c.args.taker.now in
    gathers_next _ _ _ _ _ _ (text (Begins c.args.component c.columns.result)) (flat_map text (rest_of_section c.args.sheets columns tables)) (flat_map text (section c.args.sheets c.args.component columns tables)) _ c.put_rest.result
    (ap (λ k. text (Begins c.args.component k) ++ flat_map text (rest_of_section c.args.sheets columns tables)) (c.columns.ensures ∙ c.table.ensures.columns)) c.in_ok-begin.ensures.bytes c.put_rest.ensures.bytes
