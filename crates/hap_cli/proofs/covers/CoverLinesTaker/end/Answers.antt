use Rattle.std.proofs.Common.{◌++◌, codes, decimal, append_assoc, refl}
use Rattle.std.specs.List.{flat_map}
use Rattle.hap_outside.proofs.CallerLemmas.{gathers_next, gathers_fail, gathers_break}
use Rattle.hap_cli.specs.CoverTexts.{counts_text}
use Rattle.hap_cli.proofs.covers.CoverLinesTaker.end.Goals as goal

pub returns-in_err-put-clause-bytes : goal.returns-in_err-put-clause-bytes
returns-in_err-put-clause-bytes g c =
    gathers_fail _ _ _ _ (codes "counts") (flat_map (λ k. codes " " ++ decimal k) c.args.counts.now ++ codes "\n") (counts_text c.args.counts.now) _ c.from_residual.result c.from_residual.ensures.0 c.in_err-put.ensures.bytes refl

pub returns-in_err-put_counts-clause-bytes : goal.returns-in_err-put_counts-clause-bytes
returns-in_err-put_counts-clause-bytes g c =
    gathers_break _ _ _ _ _ _ (codes "counts") (flat_map (λ k. codes " " ++ decimal k) c.args.counts.now) (codes "\n") (counts_text c.args.counts.now) _ _ c.from_residual-in_err-put_counts.result
    c.in_ok-put.ensures.bytes c.from_residual-in_err-put_counts.ensures.0 c.in_err-put_counts.ensures.bytes (append_assoc (codes "counts") (flat_map (λ k. codes " " ++ decimal k) c.args.counts.now) (codes "\n"))

pub returns-clause-bytes : goal.returns-clause-bytes
returns-clause-bytes g c =
    gathers_next _ _ _ _ _ _ (codes "counts" ++ flat_map (λ k. codes " " ++ decimal k) c.args.counts.now) (codes "\n") (counts_text c.args.counts.now) _ c.put-2.result
    (append_assoc (codes "counts") (flat_map (λ k. codes " " ++ decimal k) c.args.counts.now) (codes "\n")) (gathers_next _ _ _ _ _ _ _ _ _ _ _ refl c.in_ok-put.ensures.bytes c.in_ok-put_counts.ensures.bytes) c.put-2.ensures.bytes
