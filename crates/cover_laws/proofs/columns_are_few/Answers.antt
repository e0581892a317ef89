use Rattle.cover_laws.proofs.Roots.{columns_are_few}
use Rattle.cover_laws.proofs.columns_are_few.Goals as goal

pub returns : goal.returns
returns c = columns_are_few c.components_are_numbered.ensures
