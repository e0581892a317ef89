use Rattle.std.proofs.Common.{◌≡◌, map, take}
use Rattle.pair_stages.specs.Signed.{sign_element}
use Rattle.pair_stages.proofs.listing.put_signs.Given as goal

abbrev pub invariant-loop-facet : goal.invariant-loop-facet
invariant-loop-facet g l = l.signs.items ≡ map (λ facet. sign_element g.F.Field.ops (g.G.Signed.negative l.graded l.dim l.cell facet)) (take l.facet-index l.facet-items)
