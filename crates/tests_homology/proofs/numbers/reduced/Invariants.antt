use Rattle.tests_homology.proofs.numbers.reduced.Given as goal

abbrev pub ghosts-reduced_with : goal.ghosts-reduced_with
ghosts-reduced_with a = record { name = a.blank.name; parts = a.blank.parts }
