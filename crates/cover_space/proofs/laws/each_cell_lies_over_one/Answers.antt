use Rattle.cover_space.proofs.Components.{are_over}
use Rattle.cover_space.proofs.laws.each_cell_lies_over_one.Goals as goal

pub returns : goal.returns
returns c X m u hs some = are_over X m u hs some
