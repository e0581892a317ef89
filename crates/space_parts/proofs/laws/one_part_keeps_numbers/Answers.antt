use Rattle.space_parts.proofs.Whole.{numbers_kept}
use Rattle.space_parts.proofs.laws.one_part_keeps_numbers.Goals as goal

pub returns : goal.returns
returns c space dim cell hs one low high = numbers_kept space hs c.components_are_numbered.ensures one dim cell low high
