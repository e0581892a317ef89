use Rattle.std.proofs.Common.{◌≡◌, take}
use Rattle.vector_field.proofs.Led.{IsAdding}
use Rattle.vector_field.proofs.search.find_steps.Given as goal

abbrev pub invariant-loop-upper : goal.invariant-loop-upper
invariant-loop-upper g l = (l.found.most ≡ l.fn.found.most) × IsAdding l.pairing.pairs l.dim l.facet (take l.upper-index l.uppers) l.fn.found.found l.found.found
