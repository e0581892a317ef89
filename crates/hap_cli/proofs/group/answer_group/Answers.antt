use Rattle.std.proofs.Common.{Result, ap}
use Rattle.face_poset.specs.Poset.{Layers}
use Rattle.hap_ends.specs.declared.refusal.Refusal.{Refusal}
use Rattle.hap_inputs.specs.Spaces.{space_in, only_regular, only_worded, fault_in}
use Rattle.hap_inputs.proofs.CallerLemmas.{passes_next}
use Rattle.hap_cli.specs.GroupTexts.{groups_text}
use Rattle.hap_cli.proofs.Stages.{worded_is}
use Rattle.hap_cli.proofs.group.answer_group.Goals as goal

pub returns : goal.returns
returns c =
    let space = c.in_ok-space.space in
    let read = space_in c.args.options.now.input.kind c.args.bytes.now in
    let worded = passes_next read (λ (r : Result Layers Refusal). only_worded (only_regular r)) space space c.in_ok-space.ensures c.in_ok-groups.ensures.0 in
    (ap fault_in worded, (space, worded_is (only_regular read) space worded, ap groups_text c.in_ok-groups.ensures.1))
