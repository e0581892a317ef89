use Rattle.hap_words.proofs.Forms.{form-free}
use Rattle.hap_words.proofs.laws.form_is_free.Goals as goal

pub returns : goal.returns
returns c = form-free
