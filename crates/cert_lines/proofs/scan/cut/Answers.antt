use Rattle.std.proofs.Common.{sym}
use Rattle.cert_lines.proofs.CutLemmas.{cut-none, cut-some}
use Rattle.cert_lines.proofs.scan.cut.Goals as goal

pub returns-in-None-clause-pieces : goal.returns-in-None-clause-pieces
returns-in-None-clause-pieces c = cut-none c.args.separator c.args.text.now (sym c.in-None.ensures)

pub returns-in-Some-clause-pieces : goal.returns-in-Some-clause-pieces
returns-in-Some-clause-pieces c = (cut-some c.args.separator c.args.text.now c.in-Some.at (sym c.in-Some.ensures)).cut
