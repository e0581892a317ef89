use Rattle.std.proofs.Common.{◌++◌, ◌∷◌, [], ◌∙◌, ap, take, drop, ◌+◌, ℕ, arith}
use Rattle.hap_outside.proofs.CallerLemmas.{gathers_next, gathers_break}
use Rattle.certificates.specs.declared.kind.Kind.TheVariants as kind
use Rattle.certificates.specs.Written.{numbered_line, columns_text}
use Rattle.certificates.proofs.TextLemmas.{columns-more, columns-split}
use Rattle.certificates.proofs.cover.put_columns.Goals as goal

pub returns-in_err-put_line-clause-bytes : goal.returns-in_err-put_line-clause-bytes
returns-in_err-put_line-clause-bytes g c =
    gathers_break _ _ _ _ _ _ (columns_text 1 (take c.loop-index.index c.args.columns.now)) (numbered_line kind.Columns ((c.loop-index.index + 1) ∷ c.get-column.result ∷ [])) (columns_text (c.loop-index.index + 2) (drop (c.loop-index.index + 1) c.args.columns.now)) (columns_text 1 c.args.columns.now) _ _ c.from_residual.result
    c.loop-index.invariant.bytes c.from_residual.ensures.0 c.in_err-put_line.ensures.bytes (ap (λ (n : ℕ). columns_text 1 (take c.loop-index.index c.args.columns.now) ++ numbered_line kind.Columns ((c.loop-index.index + 1) ∷ n ∷ []) ++ columns_text (c.loop-index.index + 2) (drop (c.loop-index.index + 1) c.args.columns.now)) c.get-column.ensures ∙ columns-split c.args.columns.now c.loop-index.index (omega (arith, c.len-index-end.ensures, c.loop-index-test.true)))

pub loop-index-preserved : goal.loop-index-preserved
loop-index-preserved g c = record {
  bytes = gathers_next _ _ _ _ _ _ _ _ _ _ _ (ap (λ (n : ℕ). columns_text 1 (take c.loop-index.index c.args.columns.now) ++ numbered_line kind.Columns ((c.loop-index.index + 1) ∷ n ∷ [])) c.get-column.ensures ∙ columns-more c.args.columns.now c.loop-index.index (omega (arith, c.len-index-end.ensures, c.loop-index-test.true))) c.loop-index.invariant.bytes c.in_ok-put_line.ensures.bytes;
  still = c.in_ok-put_line.ensures.cause.kept ∙ c.loop-index.invariant.still;
}
