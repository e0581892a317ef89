use Rattle.std.proofs.Common.{◌≡◌, filter, take}
use Rattle.local_field.specs.Flags.{negative_at}
use Rattle.local_field.proofs.flag_signs.list_minus.Given as goal

abbrev pub invariant-loop-facet : goal.invariant-loop-facet
invariant-loop-facet g l = l.minus.items ≡ filter (negative_at (g.S.Graded.space l.signed) (g.S.Signed.negative l.signed) l.numbering l.dim l.place) (take l.facet-index l.facets)
