-- Each item of a list has fewer levels than the list.
--   most_le-levels nests    the items are no deeper than the levels of the list
use Rattle.std.specs.Prelude.{◌≤◌, max, List, [], ◌∷◌, map}
use Rattle.std.proofs.Common.{arith}
use denote.Param.Weighed.{most}
use Rattle.gap_text.specs.declared.nest.Nest.{Nest}
use Rattle.gap_text.specs.declared.nest.Nest.TheVariants.{Number, List as ListOf}
use Rattle.gap_text.specs.declared.nest.Items.TheDeep.{deep-Nest}
use Rattle.gap_text.specs.Value.{levels}
use Rattle.gap_text.specs.Nest.{view}

pub most_le-levels : (nests : List Nest) → max (most deep-Nest nests) 0 ≤ levels (map view nests)
most_le-levels [] = omega arith
most_le-levels (Number p n ∷ nests) = omega (arith, most_le-levels nests)
most_le-levels (ListOf p items ∷ nests) = omega (arith, most_le-levels nests)
