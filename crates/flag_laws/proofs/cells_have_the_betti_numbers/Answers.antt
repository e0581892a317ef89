use Rattle.flag_laws.proofs.Betti.{cells_have}
use Rattle.flag_laws.proofs.cells_have_the_betti_numbers.Goals as goal

pub returns : goal.returns
returns g c =
    cells_have c.cycles_go_round.ensures c.boundaries_collapse.ensures c.faces_are_below.ensures c.chains_are_sequences.ensures c.chains_are_ordered.ensures
    c.local_pairs_are_fields.ensures g.F.Field.ops g.met.F.Field.laws c.bases_extend.ensures c.solutions_are_one.ensures
