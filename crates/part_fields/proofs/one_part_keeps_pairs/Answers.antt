use Rattle.part_fields.proofs.Joined.{pairs_kept}
use Rattle.part_fields.proofs.one_part_keeps_pairs.Goals as goal

pub returns : goal.returns
returns c space pairs hs one valid = pairs_kept space c.components_are_numbered.ensures pairs hs one valid
