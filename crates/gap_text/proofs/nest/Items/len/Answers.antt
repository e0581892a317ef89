use Rattle.std.proofs.Common.{length, arith, ap}
use Rattle.std.proofs.lemmas.List.{length-map}
use Rattle.gap_text.specs.Nest.{view}
use Rattle.gap_text.proofs.nest.Items.len.Goals as goal

pub overflow_cast-result : goal.overflow_cast-result
overflow_cast-result c = omega (arith, c.self.invariant, c.len.ensures)

pub returns : goal.returns
returns c = omega (arith, c.len.ensures, ap length c.self.view_is, length-map c.self.inside.nests.items view)
