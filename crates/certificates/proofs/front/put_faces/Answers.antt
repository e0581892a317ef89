use Rattle.std.proofs.Common.{[], ◌∙◌, ap, take, drop, get_or, ◌≡◌, ◌+◌, ◌-◌, ℕ, arith}
use Rattle.hap_outside.proofs.CallerLemmas.{gathers_next, gathers_break}
use Rattle.std.specs.List.{flat_map}
use Rattle.certificates.proofs.ListLemmas.{part-more, part-split}
use Rattle.face_poset.specs.Poset.{layer}
use Rattle.certificates.specs.Written.{face_text}
use Rattle.certificates.proofs.front.put_faces.Goals as goal

pub returns-in_err-put_face-clause-bytes : goal.returns-in_err-put_face-clause-bytes
returns-in_err-put_face-clause-bytes g c =
    gathers_break _ _ _ _ _ _ (flat_map (face_text c.args.dim) (take c.loop-index.index (layer c.args.space.now c.args.dim))) ((face_text c.args.dim) (c.facets-facets.result.now)) (flat_map (face_text c.args.dim) (drop (c.loop-index.index + 1) (layer c.args.space.now c.args.dim))) (flat_map (face_text c.args.dim) (layer c.args.space.now c.args.dim)) _ _ c.from_residual.result
    c.loop-index.invariant.bytes c.from_residual.ensures.0 c.in_err-put_face.ensures.bytes (part-split (face_text c.args.dim) (layer c.args.space.now c.args.dim) c.loop-index.index (c.facets-facets.result.now) ([]) (omega (arith, c.cells-index-end.ensures.cells, c.loop-index-test.true)) (c.facets-facets.ensures.facets ∙ ap (λ (n : ℕ). get_or (layer c.args.space.now c.args.dim) n []) (let e : c.loop-index.index + 1 - 1 ≡ c.loop-index.index = omega arith in e)))

pub loop-index-preserved : goal.loop-index-preserved
loop-index-preserved g c = record {
  bytes = gathers_next _ _ _ _ _ _ _ _ _ _ _ (part-more (face_text c.args.dim) (layer c.args.space.now c.args.dim) c.loop-index.index (c.facets-facets.result.now) ([]) (omega (arith, c.cells-index-end.ensures.cells, c.loop-index-test.true)) (c.facets-facets.ensures.facets ∙ ap (λ (n : ℕ). get_or (layer c.args.space.now c.args.dim) n []) (let e : c.loop-index.index + 1 - 1 ≡ c.loop-index.index = omega arith in e))) c.loop-index.invariant.bytes c.in_ok-put_face.ensures.bytes;
  still = c.in_ok-put_face.ensures.cause.kept ∙ c.loop-index.invariant.still;
}
