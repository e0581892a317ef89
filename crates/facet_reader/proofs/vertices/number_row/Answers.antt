use Rattle.std.proofs.Common.{map, ap, ◌∙◌, arith}
use Rattle.std.proofs.lemmas.List.{take_all}
use Rattle.facet_reader.specs.Simplices.{in_order, number_in}
use Rattle.facet_reader.proofs.Ranked.{sorted-is}
use Rattle.facet_reader.proofs.vertices.number_row.Goals as goal

pub returns : goal.returns
returns c =
    sorted-is _ _ c.sort_once.ensures.rises c.sort_once.ensures.keeps c.sort_once.ensures.adds_none
    ∙ ap in_order (c.loop-label.invariant ∙ ap (map (number_in c.args.vertices.now)) (take_all c.loop-label.label-index c.args.labels.now (omega (arith, c.loop-label-test.false))))
