use Rattle.field_matrix.proofs.solve.eliminate_uncounted.Given as goal

abbrev pub ghosts-eliminate_with : goal.ghosts-eliminate_with
ghosts-eliminate_with g a = record { name = a.blank.name; parts = a.blank.parts }
