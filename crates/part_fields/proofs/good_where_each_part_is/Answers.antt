use Rattle.part_fields.proofs.Wholes.{good_whole}
use Rattle.part_fields.proofs.good_where_each_part_is.Goals as goal

pub returns : goal.returns
returns c space pairs hs regular h = good_whole space c.same_component_is_a_path.ensures c.components_are_numbered.ensures pairs hs regular h
