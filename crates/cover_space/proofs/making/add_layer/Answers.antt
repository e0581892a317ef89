use Rattle.std.proofs.Common.{◌≡◌, ℕ, ◌+◌, ◌≤◌, List, length, get_or, ap, ◌∙◌, arith}
use Rattle.std.proofs.lemmas.List.{get_or_default}
use Rattle.cover_space.specs.Total.{least_vertex, below}
use Rattle.cover_space.proofs.Inside.{first-below}
use Rattle.cover_space.proofs.Walked.{some-vertex}
use Rattle.cover_space.proofs.Layered.{layer-end, numbered-more}
use Rattle.cover_space.proofs.making.add_layer.Goals as goal

pub index-requires : goal.index-requires
index-requires c =
    omega
    (arith, ap length c.in_ok-inside.ensures.vertices_are, some-vertex c.args.space.now c.requires.labelled.valid c.requires.labelled.limited c.requires.labelled.regular c.args.dim (c.loop-index.index + 1) (omega arith, omega (arith, c.loop-index-test.true, c.cells-index-end.ensures.cells)))

-- the first vertex that is read
first_read : (vertices wanted : List ℕ) (v w : ℕ) → v ≡ get_or vertices 0 v → vertices ≡ wanted → 1 ≤ length wanted → get_or wanted 0 0 ≡ w → v ≡ w
first_read vertices wanted v w e q l f = e ∙ (get_or_default vertices 0 v 0 (omega (arith, l, ap length q)) ∙ (ap (λ (xs : List ℕ). get_or xs 0 0) q ∙ f))

pub loop-index-preserved : goal.loop-index-preserved
loop-index-preserved c = (
  c.in_ok-add_over.ensures,
  numbered-more (least_vertex c.args.space.now c.args.dim) c.loop-index.index c.index.result.now c.loop-index.least.items c.push.new.self.items c.loop-index.invariant.1 c.in_ok-push.ensures.items
      (first_read c.in_ok-inside.inside.vertices.items (below c.args.space.now c.args.dim (c.loop-index.index + 1) 0) c.index.result.now (least_vertex c.args.space.now c.args.dim (c.loop-index.index + 1)) c.index.ensures c.in_ok-inside.ensures.vertices_are
      (some-vertex c.args.space.now c.requires.labelled.valid c.requires.labelled.limited c.requires.labelled.regular c.args.dim (c.loop-index.index + 1) (omega arith, omega (arith, c.loop-index-test.true, c.cells-index-end.ensures.cells)))
      (first-below c.args.space.now c.requires.labelled.valid c.args.dim (c.loop-index.index + 1) (omega arith, omega (arith, c.loop-index-test.true, c.cells-index-end.ensures.cells)))),
)

pub returns-clause-after : goal.returns-clause-after
returns-clause-after c =
    c.loop-index.invariant.0 ∙ layer-end c.args.space.now c.args.labels.now c.args.dim c.loop-index.index c.requires.dim (omega (arith, c.loop-index-test.false, c.cells-index-end.ensures.cells))
