use Rattle.std.proofs.Common.{ℕ, List, ap, append-nil, ◌++◌, ◌∙◌, ◌+◌, take, drop, get_or, codes, decimal, refl}
use Rattle.std.specs.List.{flat_map}
use Rattle.hap_outside.proofs.CallerLemmas.{gathers_next, gathers_break}
use Rattle.hap_cli.proofs.Texts.{gathers_as, flat-more, flat-split}
use Rattle.hap_cli.proofs.covers.put_counts.Goals as goal

pub returns-in_err-put-clause-bytes : goal.returns-in_err-put-clause-bytes
returns-in_err-put-clause-bytes g c =
    gathers_break _ _ _ _ _ _ (flat_map (λ k. codes " " ++ decimal k) (take c.loop-index.index c.args.counts.now)) (codes " " ++ decimal (get_or c.args.counts.now c.loop-index.index 0)) (flat_map (λ k. codes " " ++ decimal k) (drop (c.loop-index.index + 1) c.args.counts.now)) (flat_map (λ k. codes " " ++ decimal k) c.args.counts.now) _ _ c.from_residual.result
    c.loop-index.invariant.bytes c.from_residual.ensures.0 (gathers_as _ _ _ _ _ _ _ (ap (λ (ys : List ℕ). codes " " ++ ys) (append-nil (decimal (get_or c.args.counts.now c.loop-index.index 0)))) c.in_err-put.ensures.bytes) (flat-split (λ k. codes " " ++ decimal k) c.args.counts.now c.loop-index.index (get_or c.args.counts.now c.loop-index.index 0) 0 c.loop-index-test.true refl)

pub loop-index-preserved : goal.loop-index-preserved
loop-index-preserved g c = record {
  bytes = gathers_next _ _ _ _ _ _ _ _ _ _ _ (flat-more (λ k. codes " " ++ decimal k) c.args.counts.now c.loop-index.index (get_or c.args.counts.now c.loop-index.index 0) 0 c.loop-index-test.true refl) c.loop-index.invariant.bytes (gathers_as _ _ _ _ _ _ _ (ap (λ (ys : List ℕ). codes " " ++ ys) (append-nil (decimal (get_or c.args.counts.now c.loop-index.index 0)))) c.in_ok-put.ensures.bytes);
  still = c.in_ok-put.ensures.cause.kept ∙ c.loop-index.invariant.still;
}
