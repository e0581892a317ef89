use Rattle.tests_base.proofs.matrices.eliminated.Given as goal

abbrev pub ghosts-eliminate_with : goal.ghosts-eliminate_with
ghosts-eliminate_with g a = record { name = a.blank.name; parts = a.blank.parts }
