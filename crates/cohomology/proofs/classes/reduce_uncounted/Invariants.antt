use Rattle.cohomology.proofs.classes.reduce_uncounted.Given as goal

abbrev pub ghosts-reduce_with : goal.ghosts-reduce_with
ghosts-reduce_with g a = record { name = a.blank.name; parts = a.blank.parts }
