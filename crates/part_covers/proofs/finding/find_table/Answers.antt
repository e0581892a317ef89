use Rattle.std.proofs.Common.{◌≡◌, Ok, Result, ap, sym, ◌∙◌}
use Rattle.edge_words.specs.Words.{relations_of}
use Rattle.sheet_tables.specs.Tables.{Rows}
use Rattle.cover_search.specs.Searches.{at}
use Rattle.live_laws.specs.Live.{Position, Relations}
use Rattle.part_covers.specs.declared.fault.CoverFault.{CoverFault}
use Rattle.part_covers.specs.Covered.{table_stage}
use Rattle.part_covers.proofs.Stages.{found_stage, found_columns, spent_sheet}
use Rattle.part_covers.proofs.finding.find_table.Goals as goal

pub spot_of-requires-clause-placed : goal.spot_of-requires-clause-placed
spot_of-requires-clause-placed c =
    spent_sheet (relations_of c.args.presentation.now) c.args.wanted c.in_ok-search.search c.nth_cover.new.search c.in_ok-search.ensures
    (at c.into_position.result) c.into_position.ensures c.requires.some_budget c.in-Spent.ensures

pub returns-in_ok-copy_of-in-Found : goal.returns-in_ok-copy_of-in-Found
returns-in_ok-copy_of-in-Found c =
    let P : Relations = relations_of c.args.presentation.now in
    let t : Rows = c.in_ok-copy_of-in-Found.field-0 in
    let q : Position = (t.sheets, t.cells) in
    let same : q ≡ c.nth_cover.new.search.table = ap (λ (r : Rows). let p : Position = (r.sheets, r.cells) in p) c.in_ok-copy_of-in-Found.ensures.same ∙ c.table.ensures.table in
    let stage : table_stage P c.args.wanted ≡ Ok q = found_stage P c.args.wanted c.in_ok-search.search c.nth_cover.new.search c.in_ok-search.ensures c.in-Found.ensures
    ∙ ap (λ (p : Position). let r : Result Position CoverFault = Ok p in r) (sym same) in
    let table = c.in_ok-copy_of-in-Found.ensures.table in
    (stage, found_columns P c.args.wanted q t.columns c.requires.first_index stage table.some_sheet table.full)
