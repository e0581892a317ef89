use Rattle.std.proofs.Common.{length}
use Rattle.order_complex.proofs.chains.+stands_odd_from_end.Given as goal

abbrev pub decreases-stands_odd_from_end : goal.decreases-stands_odd_from_end
decreases-stands_odd_from_end l = length l.facets.now
