use Rattle.local_field.proofs.AllCells.{is-local}
use Rattle.local_field.proofs.laws.local_pairs_are_fields.Goals as goal

pub returns : goal.returns
returns c space collapse valid regular collapsing = is-local c.cycles_go_round.ensures c.faces_are_below.ensures c.chains_are_sequences.ensures space collapse valid regular collapsing
