use Rattle.std.proofs.Common.{◌∙◌, ap, arith}
use Rattle.sheet_tables.specs.Tables.{Rows}
use Rattle.pair_laws.specs.Letters.{follow}
use Rattle.live_laws.specs.Walks.{move}
use Rattle.edge_words.proofs.Led.{values-more, values-all}
use Rattle.edge_words.proofs.moves.Moves.list_label.Goals as goal

pub loop-index-preserved : goal.loop-index-preserved
loop-index-preserved c =
    values-more (follow (move c.args.self.now.columns c.args.self.now.sheets c.args.self.now.cells) c.args.word.now) c.loop-index.label.items c.push.new.self.items c.loop-index.index c.from.result c.loop-index.invariant c.in_ok-push.ensures.items
    (c.from.ensures ∙ c.follow.ensures)

pub returns : goal.returns
returns c =
    values-all (follow (move c.args.self.now.columns c.args.self.now.sheets c.args.self.now.cells) c.args.word.now) c.loop-index.label.items c.loop-index.index c.args.self.now.sheets c.loop-index.invariant
    (omega (arith, c.loop-index-test.false, c.loop-index.auto.index-end, c.sheets-index-end.ensures.sheets, ap (λ (t : Rows). t.sheets) c.self.view_is))
