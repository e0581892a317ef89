use Rattle.least_tables.proofs.Numbers.{begun-numbering}
use Rattle.least_tables.proofs.numbering.Numbering.begun_at.Goals as goal

pub returns : goal.returns
returns c = begun-numbering c.args.count c.args.first c.requires.first c.requires.most
