use Rattle.part_fields.proofs.Wholes.{good_in_each}
use Rattle.part_fields.proofs.good_in_each_part.Goals as goal

pub returns : goal.returns
returns c space pairs hs regular good = good_in_each space c.same_component_is_a_path.ensures c.components_are_numbered.ensures pairs hs regular good
