use Rattle.std.proofs.Common.{◌≡◌, take, map, Ok}
use Rattle.face_poset.specs.Reader.{each_from, as_list}
use Rattle.face_poset.specs.Tops.{inner}
use Rattle.face_poset.proofs.reader.check_lists.Given as goal

abbrev pub invariant-loop-index : goal.invariant-loop-index
invariant-loop-index l = each_from 0 (λ _ w. as_list w) (take l.index l.tops) ≡ Ok (map inner (take l.index l.tops))
