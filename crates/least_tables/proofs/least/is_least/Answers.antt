use Rattle.least_tables.proofs.Rules.{grown-by-rules}
use Rattle.least_tables.proofs.least.is_least.Goals as goal

pub none_is_smaller-requires-clause-grown : goal.none_is_smaller-requires-clause-grown
none_is_smaller-requires-clause-grown c = grown-by-rules c.args.columns c.args.sheets c.args.cells.now c.requires.some c.requires.whole c.requires.rules
