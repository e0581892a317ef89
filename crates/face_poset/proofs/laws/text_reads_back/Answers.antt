use Rattle.face_poset.proofs.ReadBack.{reads_back}
use Rattle.face_poset.proofs.laws.text_reads_back.Goals as goal

pub returns : goal.returns
returns c = reads_back
