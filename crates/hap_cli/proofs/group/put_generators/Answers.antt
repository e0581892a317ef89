use Rattle.std.proofs.Common.{codes, length, refl}
use Rattle.hap_outside.proofs.CallerLemmas.{gathers_next, gathers_fail}
use Rattle.hap_cli.specs.GroupTexts.{generators_text, generator_line, counted_line, numbered_text}
use Rattle.hap_cli.proofs.group.put_generators.Goals as goal

pub returns-in_err-put_count-clause-bytes : goal.returns-in_err-put_count-clause-bytes
returns-in_err-put_count-clause-bytes g c =
    gathers_fail _ _ _ _ (counted_line (codes "generators ") (length c.args.edges.now)) (numbered_text generator_line 1 c.args.edges.now) (generators_text c.args.edges.now) _ c.from_residual.result c.from_residual.ensures.0 c.in_err-put_count.ensures.bytes refl

pub returns-clause-bytes : goal.returns-clause-bytes
returns-clause-bytes g c =
    gathers_next _ _ _ _ _ _ (counted_line (codes "generators ") (length c.args.edges.now)) (numbered_text generator_line 1 c.args.edges.now) (generators_text c.args.edges.now) _ c.put_each_generator.result refl c.in_ok-put_count.ensures.bytes c.put_each_generator.ensures.bytes
