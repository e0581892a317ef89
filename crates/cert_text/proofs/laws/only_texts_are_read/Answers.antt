use Rattle.cert_text.proofs.Whole.{only-texts}
use Rattle.cert_text.proofs.laws.only_texts_are_read.Goals as goal

pub returns : goal.returns
returns c = only-texts
