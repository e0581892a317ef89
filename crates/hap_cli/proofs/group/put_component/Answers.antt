use Rattle.std.proofs.Common.{codes, refl}
use Rattle.hap_outside.proofs.CallerLemmas.{gathers_next, gathers_fail}
use Rattle.hap_cli.specs.GroupTexts.{component_lines, group_lines, counted_line}
use Rattle.hap_cli.proofs.group.put_component.Goals as goal

pub returns-in_err-put_count-clause-bytes : goal.returns-in_err-put_count-clause-bytes
returns-in_err-put_count-clause-bytes g c =
    gathers_fail _ _ _ _ (counted_line (codes "component ") c.args.number) (group_lines c.args.group.now) (component_lines c.args.number c.args.group.now) _ c.from_residual.result c.from_residual.ensures.0 c.in_err-put_count.ensures.bytes refl

pub returns-clause-bytes : goal.returns-clause-bytes
returns-clause-bytes g c =
    gathers_next _ _ _ _ _ _ (counted_line (codes "component ") c.args.number) (group_lines c.args.group.now) (component_lines c.args.number c.args.group.now) _ c.put_group.result refl c.in_ok-put_count.ensures.bytes c.put_group.ensures.bytes
