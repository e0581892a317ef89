use Rattle.std.proofs.Common.{◌≡◌, ◌+◌, map}
use Rattle.face_poset.specs.Words.{upto}
use Rattle.face_poset.specs.Poset.{facets_of}
use Rattle.pair_stages.specs.Signed.{sign_element}
use Rattle.pair_stages.proofs.columns.Columns.of_signed.Given as goal

abbrev pub invariant-loop-index : goal.invariant-loop-index
invariant-loop-index g l = record {
  cells : l.parts.cells ≡ map (facets_of (g.G.Graded.space l.graded) (l.dim + 1)) (upto l.index);
  values : l.parts.values ≡ map (λ cell. map (λ facet. sign_element g.F.Field.ops (g.G.Signed.negative l.graded (l.dim + 1) cell facet)) (facets_of (g.G.Graded.space l.graded) (l.dim + 1) cell)) (upto l.index);
}
