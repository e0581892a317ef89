use Rattle.std.proofs.Common.{◌≡◌, ◌<◌, ◌+◌, ◌++◌, ◌∷◌, [], None, List, map, ap, sym, subst, ◌∙◌, arith}
use Rattle.std.proofs.lemmas.List.FromFn.{map-range_with_len_more}
use Rattle.std.proofs.lemmas.Result.{err_from_is_err_and}
use Rattle.number_lists.specs.Words.{upto}
use Rattle.face_poset.specs.Poset.{Layers}
use Rattle.regular_check.specs.Components.{component_count}
use Rattle.edge_words.specs.Limits.{IsFault}
use Rattle.part_groups.specs.Groups.{Generated, group_in, long_in}
use Rattle.part_groups.proofs.Lists.{first-more, fault-found}
use Rattle.part_groups.proofs.listing.all_groups.Goals as goal

pub returns-in_err-group-clause-limits : goal.returns-in_err-group-clause-limits
returns-in_err-group-clause-limits c =
    let p = err_from_is_err_and c.from_residual-in_err-group.result c.from_residual-in_err-group.ensures.1 in
    let space = c.args.regular.now in
    let i = c.loop-index.index in
    let below : i < component_count space = omega (arith, c.loop-index-test.true, c.count-index-end.ensures ∙ ap component_count c.in_ok-parts.ensures) in
    let here = subst (λ (s : Layers). IsFault (long_in s (i + 1)) c.in_err-group.field-0.0) c.in_ok-parts.ensures c.in_err-group.ensures.limits in
    rw (p.1, p.2) (fault-found (long_in space) i (component_count space) c.in_err-group.field-0.0 below c.loop-index.invariant.short here)

pub loop-index-preserved : goal.loop-index-preserved
loop-index-preserved c =
    let space = c.args.regular.now in
    let i = c.loop-index.index in
    let group : c.in_ok-group.group ≡ group_in space (i + 1) = c.in_ok-group.ensures.group ∙ ap (λ (s : Layers). group_in s (i + 1)) c.in_ok-parts.ensures in
    let short : long_in space (i + 1) ≡ None = subst (λ (s : Layers). long_in s (i + 1) ≡ None) c.in_ok-parts.ensures c.in_ok-group.ensures.limits in
    record {
      groups = c.in_ok-push.ensures.items
          ∙ (ap (λ (gs : List Generated). gs ++ c.in_ok-group.group ∷ []) c.loop-index.invariant.groups
          ∙ (ap (λ (g : Generated). map (group_in space) (upto i) ++ g ∷ []) group ∙ sym (map-range_with_len_more (group_in space) 1 i (i + 1) (omega arith))));
      short = first-more (long_in space) i c.loop-index.invariant.short short;
    }
