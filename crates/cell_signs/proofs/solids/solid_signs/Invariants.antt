use Rattle.std.proofs.Common.{◌≡◌, map, take}
use Rattle.face_poset.specs.Poset.{facets_of}
use Rattle.cell_signs.specs.Along.{solid_negative}
use Rattle.cell_signs.proofs.solids.solid_signs.Given as goal

abbrev pub invariant-loop-index : goal.invariant-loop-index
invariant-loop-index l = l.signs.items ≡ map (solid_negative l.regular l.cell (take l.index l.pairs)) (facets_of l.regular 3 l.cell)
