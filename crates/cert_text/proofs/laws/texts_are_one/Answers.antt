use Rattle.cert_text.proofs.Whole.{texts-one}
use Rattle.cert_text.proofs.laws.texts_are_one.Goals as goal

pub returns : goal.returns
returns c = texts-one
