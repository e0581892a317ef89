use Rattle.std.proofs.Common.{◌≡◌, ◌≢◌, ℕ, ◌+◌, take, drop, true, false}
use Rattle.std.specs.List.{list_any}
use Rattle.number_lists.specs.Words.{holds}
use Rattle.vector_field.specs.Pairs.{has_lower}
use Rattle.vector_field.proofs.checking.comes_before_later.Given as goal

abbrev pub invariant-loop-facet : goal.invariant-loop-facet
invariant-loop-facet g l =
    (f : ℕ) → holds (take l.facet-index l.facets) f ≡ true → f ≢ l.pair.lower → list_any (has_lower l.pair.dim f) (drop (l.index + 1) l.pairs) ≡ false
