use Rattle.hap_words.proofs.Spelled.{asked-back}
use Rattle.hap_words.proofs.laws.each_is_asked.Goals as goal

pub returns : goal.returns
returns c = asked-back
