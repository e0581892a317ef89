use Rattle.std.proofs.Common.{◌≡◌}
use Rattle.part_groups.specs.Groups.{groups_of}
use Rattle.hap_inputs.specs.Spaces.{only_worded}
use Rattle.hap_cli.proofs.Stages.{gives_past}
use Rattle.hap_cli.proofs.group.regular_groups.Goals as goal

pub returns : goal.returns
returns c =
    gives_past only_worded c.args.space.now c.in_ok-regular.regular (λ s groups. groups.items ≡ groups_of s) c.worded_groups.result
    c.in_ok-regular.ensures.stage c.in_ok-regular.ensures.regular c.worded_groups.ensures
