use Rattle.std.proofs.Common.{ap, ◌∙◌}
use Rattle.facet_reader.specs.Simplices.{in_order}
use Rattle.facet_reader.proofs.Ranked.{sorted-is}
use Rattle.facet_reader.proofs.vertices.list_vertices.Goals as goal

pub returns : goal.returns
returns c =
    sorted-is _ _ c.sort_indexes_once.ensures.rises c.sort_indexes_once.ensures.keeps c.sort_indexes_once.ensures.adds_none
    ∙ ap in_order (c.in_ok-vertices.ensures ∙ c.entries.ensures)
