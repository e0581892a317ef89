use Rattle.std.proofs.Common.{◌-◌, ◌∷◌, [], ap, ◌∙◌, arith, get_or}
use Rattle.std.specs.List.{flat_map}
use Rattle.std.proofs.lemmas.List.{take_all}
use Rattle.facet_reader.specs.Simplices.{in_order}
use Rattle.facet_reader.proofs.Ranked.{sorted-is}
use Rattle.facet_reader.proofs.above.join.Goals as goal

pub returns : goal.returns
returns c =
    sorted-is _ _ c.sort_once.ensures.rises c.sort_once.ensures.keeps c.sort_once.ensures.adds_none
    ∙ ap in_order
    (c.loop-point.invariant
    ∙ ap (flat_map (λ y. y ∷ get_or c.args.above.now (c.args.points - y) [])) (take_all c.loop-point.point-index c.args.next.now (omega (arith, c.loop-point-test.false))))
