use Rattle.std.proofs.Common.{◌++◌, refl}
use Rattle.hap_outside.proofs.CallerLemmas.{writes_last, writes_stop}
use Rattle.hap_cli.specs.Answers.{chains_text, betti_text}
use Rattle.hap_cli.proofs.make.write_homology.Goals as goal

pub returns-in_err-write_chains-clause-bytes : goal.returns-in_err-write_chains-clause-bytes
returns-in_err-write_chains-clause-bytes g c =
    writes_stop _ _ (chains_text c.args.chains) (betti_text c.args.numbers.now) (chains_text c.args.chains ++ betti_text c.args.numbers.now) _ c.from_residual.result c.from_residual.ensures.0 c.in_err-write_chains.ensures.bytes refl

pub returns-clause-bytes : goal.returns-clause-bytes
returns-clause-bytes g c =
    writes_last _ _ _ (chains_text c.args.chains) (betti_text c.args.numbers.now) (chains_text c.args.chains ++ betti_text c.args.numbers.now) c.write_betti.result c.in_ok-write_chains.ensures.bytes.whole c.write_betti.ensures.bytes refl
