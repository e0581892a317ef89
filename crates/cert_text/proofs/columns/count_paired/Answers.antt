use Rattle.std.proofs.Common.{◌∙◌, ◌+◌, ℕ, ap, arith, take}
use Rattle.certificates.specs.WellFormed.{paired}
use Rattle.cert_text.proofs.ColumnLemmas.{paired-more, paired-one}
use Rattle.cert_text.proofs.columns.count_paired.Goals as goal

pub loop-index-preserved : goal.loop-index-preserved
loop-index-preserved c = record {
  found = ap (λ (n : ℕ). n + c.cells_in-found.result) c.loop-index.invariant.found
      ∙ (ap (λ (n : ℕ). paired c.args.dim (take c.loop-index.index c.args.pairs.now) + n) c.cells_in-found.ensures
      ∙ paired-more c.args.dim c.args.pairs.now c.loop-index.index c.get.result.now (omega (arith, c.len-index-end.ensures, c.loop-index-test.true)) c.get.ensures);
  within = omega (arith, c.loop-index.invariant.within, c.cells_in-found.ensures, paired-one c.args.dim c.get.result.now);
}
