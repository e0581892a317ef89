use Rattle.std.proofs.Common.{refl}
use Rattle.hap_outside.proofs.CallerLemmas.{writes_last, writes_stop}
use Rattle.hap_cli.specs.Answers.{betti_text, told_cover_text}
use Rattle.hap_cli.specs.OneCover.{cover_front}
use Rattle.hap_cli.proofs.cover.write_told_cover.Goals as goal

pub returns-in_err-write_cover_front-clause-bytes : goal.returns-in_err-write_cover_front-clause-bytes
returns-in_err-write_cover_front-clause-bytes g c =
    writes_stop _ _ (cover_front c.args.told.now.cover) (betti_text c.args.told.now.numbers) (told_cover_text c.args.told.now) _ c.from_residual.result c.from_residual.ensures.0
    c.in_err-write_cover_front.ensures.bytes refl

pub returns-clause-bytes : goal.returns-clause-bytes
returns-clause-bytes g c =
    writes_last _ _ _ (cover_front c.args.told.now.cover) (betti_text c.args.told.now.numbers) (told_cover_text c.args.told.now) c.write_betti.result
    c.in_ok-write_cover_front.ensures.bytes.whole c.write_betti.ensures.bytes refl
