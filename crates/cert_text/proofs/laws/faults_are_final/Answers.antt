use Rattle.cert_text.proofs.Final.{faults-final}
use Rattle.cert_text.proofs.Whole.{texts-read}
use Rattle.cert_text.proofs.laws.faults_are_final.Goals as goal

pub returns : goal.returns
returns c = faults-final texts-read
