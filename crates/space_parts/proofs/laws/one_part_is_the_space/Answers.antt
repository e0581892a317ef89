use Rattle.space_parts.proofs.Whole.{part_is_space}
use Rattle.space_parts.proofs.laws.one_part_is_the_space.Goals as goal

pub returns : goal.returns
returns c space hs one = part_is_space space hs c.components_are_numbered.ensures one
