use Rattle.tests_homology.proofs.numbers.plain.Given as goal

abbrev pub ghosts-plain_with : goal.ghosts-plain_with
ghosts-plain_with a = record { name = a.blank.name; parts = a.blank.parts }
