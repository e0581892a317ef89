use Rattle.part_fields.proofs.Joined.{fields_apart, fields_together}
use Rattle.part_fields.proofs.good_together.Goals as goal

pub returns-clause-apart : goal.returns-clause-apart
returns-clause-apart c space fields number hs regular h low high = fields_apart space c.same_component_is_a_path.ensures fields number hs regular h low high

pub returns-clause-good : goal.returns-clause-good
returns-clause-good c space fields hs regular h = fields_together space c.same_component_is_a_path.ensures c.components_are_numbered.ensures fields hs regular h
