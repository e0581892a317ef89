use Rattle.tests_homology.proofs.classes.modulo_two.Given as goal

abbrev pub ghosts-classes_with : goal.ghosts-classes_with
ghosts-classes_with a = record { name = a.blank.name; parts = a.blank.parts }
