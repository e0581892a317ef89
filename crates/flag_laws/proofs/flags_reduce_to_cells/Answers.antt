use Rattle.flag_laws.proofs.ReducedRows.{flags_reduce}
use Rattle.flag_laws.proofs.flags_reduce_to_cells.Goals as goal

pub returns : goal.returns
returns g c =
    flags_reduce c.cycles_go_round.ensures c.faces_are_below.ensures c.chains_are_sequences.ensures c.chains_are_ordered.ensures g.F.Field.ops g.met.F.Field.laws
