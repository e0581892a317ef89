use Rattle.std.proofs.Common.{◌≡◌, take, map}
use Rattle.number_lists.specs.Words.{upto}
use Rattle.number_lists.proofs.Counting.{times}
use Rattle.number_lists.proofs.cofaces.tally.Given as goal

abbrev pub invariant-loop-number : goal.invariant-loop-number
invariant-loop-number l = l.counts.items ≡ map (λ n. times n (take l.number-index l.numbers)) (upto l.most)
