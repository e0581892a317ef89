use Rattle.cert_laws.proofs.FieldLines.{lines_fit}
use Rattle.cert_laws.proofs.lines_fit_where_valid.Goals as goal

pub returns : goal.returns
returns c space pairs = lines_fit space pairs
