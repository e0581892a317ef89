use Rattle.field_matrix.proofs.solve.eliminate_with.Goals as goal

pub returns-clause-elimination : goal.returns-clause-elimination
returns-clause-elimination g c = record { is_matrix = c.requires.matrix; is_reduced = c.in_ok-elimination.ensures.reduced; is_history = c.in_ok-elimination.ensures.history }
