use Rattle.std.proofs.Common.{◌≡◌, [], map, length}
use Rattle.certificates.specs.Cert.{section_of}
use Rattle.cert_text.specs.Reading.{frame, read_listed}
use Rattle.cert_text.specs.Steps.{grown}
use Rattle.cert_text.proofs.listing.read_entries.Given as goal

abbrev pub invariant-entries : goal.invariant-entries
invariant-entries l =
    grown [] (section_of l.fn.first) (read_listed (frame l.version l.columns l.most) l.fn.first.component l.fn.lines)
    ≡ grown (map section_of l.sections) (section_of l.section) (read_listed (frame l.version l.columns l.most) l.section.component l.lines)

abbrev pub decreases-entries : goal.decreases-entries
decreases-entries l = length l.lines.pieces
