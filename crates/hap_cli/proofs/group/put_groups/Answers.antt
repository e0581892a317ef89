use Rattle.hap_cli.specs.GroupTexts.{groups_text, group_lines, component_lines, numbered_text}
use Rattle.hap_cli.proofs.Texts.{gathers_as, one-group, many-groups}
use Rattle.hap_cli.proofs.group.put_groups.Goals as goal

pub returns-then-groups-eq1-clause-bytes : goal.returns-then-groups-eq1-clause-bytes
returns-then-groups-eq1-clause-bytes g c =
    gathers_as _ _ _ _ (group_lines c.index-groups-0.result) (groups_text c.args.groups.now) c.put_group.result
    (one-group c.args.groups.now c.index-groups-0.result c.index-groups-0.result c.if-groups-eq1.true c.index-groups-0.is) c.put_group.ensures.bytes

pub returns-else-groups-eq1-clause-bytes : goal.returns-else-groups-eq1-clause-bytes
returns-else-groups-eq1-clause-bytes g c =
    gathers_as _ _ _ _ (numbered_text component_lines 1 c.args.groups.now) (groups_text c.args.groups.now) c.put_components.result
    (many-groups c.args.groups.now c.if-groups-eq1.false) c.put_components.ensures.bytes
