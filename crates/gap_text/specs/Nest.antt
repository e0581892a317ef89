-- The value that a `Nest` is.
--   view nest    the value
use Rattle.gap_text.specs.declared.nest.Nest.{Nest}
use Rattle.gap_text.specs.declared.nest.Nest.TheVariants.{Number, List}
use Rattle.gap_text.specs.Value.{Value, number, list, values}

abbrev pub view : Nest → Value
view (Number place value) = number place value
view (List place items) = list place (values items)
