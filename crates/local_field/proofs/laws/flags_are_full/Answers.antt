use Rattle.local_field.proofs.FlagLaw.{flags_full}
use Rattle.local_field.proofs.laws.flags_are_full.Goals as goal

pub returns : goal.returns
returns c space dim number valid small low high = flags_full space dim number valid small low high
