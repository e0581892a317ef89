use Rattle.live_laws.proofs.Sound.{sound_closed}
use Rattle.live_laws.proofs.prefixes_are_sound.Goals as goal

pub returns : goal.returns
returns c = sound_closed
