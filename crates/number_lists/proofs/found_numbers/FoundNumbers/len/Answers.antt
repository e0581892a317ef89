use Rattle.std.proofs.Common.{ap, arith}
use Rattle.number_lists.specs.Found.{Numbers}
use Rattle.number_lists.proofs.Marked.{few-found}
use Rattle.number_lists.proofs.found_numbers.FoundNumbers.len.Goals as goal

pub returns-clause-few : goal.returns-clause-few
returns-clause-few c = omega (arith, few-found c.self.inside.marks.items c.self.inside.numbers.items c.self.invariant, c.len.ensures, c.self.inside.numbers.ok.0, ap (λ (n : Numbers). n.most) c.self.view_is)
