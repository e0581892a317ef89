use Rattle.facet_reader.proofs.Powers.{power-most}
use Rattle.facet_reader.proofs.chains.list_chains.Goals as goal

pub push_chains-requires-clause-room : goal.push_chains-requires-clause-room
push_chains-requires-clause-room c = power-most c.args.size c.requires.size
