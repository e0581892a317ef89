use Rattle.order_complex.proofs.Chained.{chains_of-member, member-chains_of}
use Rattle.order_complex.proofs.laws.chains_are_sequences.Goals as goal

pub returns : goal.returns
returns c = record { sequences = chains_of-member; all = member-chains_of }
