use Rattle.chosen_field.proofs.Whole.{critical_within, critical_pairs}
use Rattle.chosen_field.proofs.pairs.free_pairs.Goals as goal

pub collapsed_pairs-requires-clause-within : goal.collapsed_pairs-requires-clause-within
collapsed_pairs-requires-clause-within g c = critical_within (g.G.Graded.space c.args.graded.now) c.args.field.now c.args.dim c.requires.dim c.requires.field c.critical.result.now c.critical.ensures.cells

pub returns : goal.returns
returns g c = critical_pairs (g.G.Graded.space c.args.graded.now) c.args.field.now c.args.dim c.requires.dim c.requires.field c.critical.result.now c.in_ok-made.made.items c.reverse.new.self.items c.critical.ensures.cells c.in_ok-made.ensures c.reverse.ensures.items
