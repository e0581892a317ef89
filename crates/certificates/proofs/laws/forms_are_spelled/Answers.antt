use Rattle.certificates.proofs.FormLemmas.{form-is, form-back}
use Rattle.certificates.proofs.laws.forms_are_spelled.Goals as goal

pub returns : goal.returns
returns c = λ version line f. (form-is version line f, λ h. form-back version line f h.0 h.1)
