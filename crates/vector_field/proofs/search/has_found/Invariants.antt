use Rattle.std.proofs.Common.{◌≡◌, false, take}
use Rattle.vector_field.specs.Searches.{reaches_found}
use Rattle.vector_field.proofs.search.has_found.Given as goal

abbrev pub invariant-loop-facet : goal.invariant-loop-facet
invariant-loop-facet l = reaches_found l.found.found l.lower (take l.facet-index l.facets) ≡ false
