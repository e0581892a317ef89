use Rattle.std.proofs.Common.{◌≡◌, ℕ, List, ap, subst, arith}
use Rattle.face_poset.specs.Poset.{count}
use Rattle.local_field.specs.Listed.{AreSolidsPut}
use Rattle.local_field.proofs.Layers.{solids-none, solids-more}
use Rattle.local_field.proofs.field.push_solids.Goals as goal

pub loop-index-init : goal.loop-index-init
loop-index-init c = solids-none c.args.regular.now c.args.pairs.now.items

pub loop-index-preserved : goal.loop-index-preserved
loop-index-preserved c = solids-more c.args.regular.now c.loop-index.index c.args.pairs.now.items c.loop-index.pairs.items c.push_solid.new.pairs.items c.loop-index.invariant c.in_ok-push_solid.ensures

pub returns : goal.returns
returns c =
    let all : c.loop-index.index ≡ count c.args.regular.now 3 = omega (arith, c.loop-index-test.false, c.loop-index.auto.index-end, c.cells-index-end.ensures.cells, ap (λ (s : List (List (List ℕ))). count s 3) c.space.ensures.same) in
    subst (λ (k : ℕ). AreSolidsPut c.args.regular.now k c.args.pairs.now.items c.loop-index.pairs.items) all c.loop-index.invariant
