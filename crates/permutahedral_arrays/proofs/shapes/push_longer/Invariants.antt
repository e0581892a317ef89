use Rattle.std.proofs.Common.{◌≡◌, ◌++◌, ◌∷◌, [], map, filter}
use Rattle.std.specs.List.{range_with_len}
use Rattle.permutahedral_arrays.specs.Places.{is_below, last_of}
use Rattle.permutahedral_arrays.proofs.shapes.push_longer.Given as goal

abbrev pub invariant-loop-vector : goal.invariant-loop-vector
invariant-loop-vector l = l.shapes ≡ l.initial.shapes ++ map (λ v. l.shape ++ v ∷ []) (filter (is_below (last_of l.shape)) (range_with_len 0 l.vector))
