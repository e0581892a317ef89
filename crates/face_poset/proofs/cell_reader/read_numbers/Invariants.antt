use Rattle.std.proofs.Common.{◌≡◌, ◌∷◌, take, Ok}
use Rattle.face_poset.specs.Reader.{each_from, as_number}
use Rattle.face_poset.proofs.cell_reader.read_numbers.Given as goal

abbrev pub invariant-loop-index : goal.invariant-loop-index
invariant-loop-index l = each_from 0 (λ _ w. as_number w) (take l.index l.items) ≡ Ok (l.count ∷ l.numbers.items)
