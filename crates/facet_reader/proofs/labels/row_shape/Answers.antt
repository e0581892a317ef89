use Rattle.std.proofs.Common.{ap, sym, ◌∙◌}
use Rattle.gap_text.specs.Nest.{view}
use Rattle.facet_reader.proofs.RowLemmas.{row-shape-list}
use Rattle.facet_reader.proofs.labels.row_shape.Goals as goal

pub returns-in-List : goal.returns-in-List
returns-in-List c = c.find_list.ensures ∙ sym (row-shape-list (view c.args.nest.now) c.in-List.place c.in-List.items (ap view c.in-List.is))
