use Rattle.part_covers.proofs.Numbered.{numbered}
use Rattle.part_covers.proofs.laws.numbered_are_covers.Goals as goal

pub returns : goal.returns
returns c =
    numbered c.listed_are_covers.ensures c.parts_are_regular.ensures c.chosen_is_good.ensures c.connected_is_exact.ensures c.total_is_regular.ensures c.total_has_components.ensures
