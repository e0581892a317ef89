use Rattle.std.proofs.Common.{◌≡◌, ◌-◌, take, get_or}
use Rattle.order_complex.specs.Complex.{negative_in}
use Rattle.order_complex.proofs.Cofaces.{signed_sum}
use Rattle.order_complex.proofs.chains.Chains.boundary_at.Given as goal

abbrev pub invariant-loop-coface : goal.invariant-loop-coface
invariant-loop-coface g l = g.F.Field.number_of l.total ≡ signed_sum g.F.Field.ops (λ n. negative_in l.self l.degree n l.chain) (λ n. get_or l.c (n - 1) 0) (take l.coface-index l.coface-items)
