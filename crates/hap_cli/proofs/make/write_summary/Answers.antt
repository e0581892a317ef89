use Rattle.std.proofs.Common.{◌++◌, refl}
use Rattle.hap_outside.proofs.CallerLemmas.{writes_last, writes_stop}
use Rattle.hap_cli.specs.Answers.{cells_text, torus_text, chains_text, betti_text, summary_text}
use Rattle.hap_cli.proofs.make.write_summary.Goals as goal

pub returns-in_err-write_torus-clause-bytes : goal.returns-in_err-write_torus-clause-bytes
returns-in_err-write_torus-clause-bytes g c =
    writes_stop _ _ (torus_text c.args.summary.now.size ++ cells_text c.args.summary.now.space) (chains_text c.args.summary.now.chains ++ betti_text c.args.summary.now.numbers) (summary_text c.args.summary.now) _ c.from_residual.result c.from_residual.ensures.0
    c.in_err-write_torus.ensures.bytes refl

pub returns-clause-bytes : goal.returns-clause-bytes
returns-clause-bytes g c =
    writes_last _ _ _ (torus_text c.args.summary.now.size ++ cells_text c.args.summary.now.space) (chains_text c.args.summary.now.chains ++ betti_text c.args.summary.now.numbers) (summary_text c.args.summary.now) c.write_homology.result
    c.in_ok-write_torus.ensures.bytes.whole c.write_homology.ensures.bytes refl
