use Rattle.std.proofs.Common.{◌≡◌}
use Rattle.std.specs.Prelude.{slice_set}
use Rattle.certificates.specs.Degrees.{at}
use Rattle.cert_lines.specs.Readers.{many}
use Rattle.cert_text.specs.Reading.{read_sides}
use Rattle.cert_text.specs.Taking.{lists_if}
use Rattle.cert_text.specs.Taking.{onto}
use Rattle.cert_text.proofs.homology.read_sides_of.Given as goal

abbrev pub invariant-lines : goal.invariant-lines
invariant-lines l =
    record {
      read : many l.count (read_sides l.version (lists_if l.kind) l.modulus l.low l.high) l.fn.lines ≡ onto (at l.into l.degree) (many l.left (read_sides l.version (lists_if l.kind) l.modulus l.low l.high) l.lines);
      lists : l.into ≡ slice_set l.fn.into l.degree (at l.into l.degree);
    }

abbrev pub decreases-lines : goal.decreases-lines
decreases-lines l = l.left
