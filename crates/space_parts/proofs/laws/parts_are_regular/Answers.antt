use Rattle.space_parts.proofs.OneComponent.{part_whole}
use Rattle.space_parts.proofs.laws.parts_are_regular.Goals as goal

pub returns : goal.returns
returns c space number hs regular low high = part_whole space number hs regular c.same_component_is_a_path.ensures c.components_are_numbered.ensures low high
