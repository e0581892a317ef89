use Rattle.std.proofs.Common.{◌≡◌}
use Rattle.cert_lines.specs.Readers.{many}
use Rattle.cert_text.specs.Reading.{read_pair}
use Rattle.cert_text.specs.Taking.{onto}
use Rattle.cert_text.proofs.pairs.read_pairs.Given as goal

abbrev pub invariant-pairs : goal.invariant-pairs
invariant-pairs l = many l.count (read_pair l.version l.space) l.fn.lines ≡ onto l.pairs (many l.left (read_pair l.version l.space) l.lines)

abbrev pub decreases-pairs : goal.decreases-pairs
decreases-pairs l = l.left
