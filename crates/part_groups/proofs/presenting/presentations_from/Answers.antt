use Rattle.std.proofs.Common.{◌≡◌, ◌<◌, ◌≤◌, ◌+◌, ◌-◌, ◌++◌, ◌∷◌, [], ℕ, None, List, map, ap, sym, subst, ◌∙◌, arith}
use Rattle.std.specs.List.{range_with_len}
use Rattle.std.proofs.lemmas.List.FromFn.{map-range_with_len_more}
use Rattle.std.proofs.lemmas.Result.{err_from_is_err_and}
use Rattle.face_poset.specs.Poset.{Layers}
use Rattle.regular_check.specs.Components.{component_count}
use Rattle.edge_words.specs.Words.{Presented}
use Rattle.edge_words.specs.Limits.{IsFault}
use Rattle.part_groups.specs.Groups.{presented_in, long_in, first_of}
use Rattle.part_groups.proofs.Lists.{first-more-from, fault-found-from}
use Rattle.part_groups.proofs.presenting.presentations_from.Goals as goal

pub returns-in_err-presentation-clause-limits : goal.returns-in_err-presentation-clause-limits
returns-in_err-presentation-clause-limits c =
    let p = err_from_is_err_and c.from_residual-in_err-presentation.result c.from_residual-in_err-presentation.ensures.1 in
    let space = c.args.regular.now in
    let first = c.args.first in
    let i = c.loop-index.index in
    let from : first ≤ i + 1 = c.loop-index.invariant.from in
    let below : i < component_count space = omega (arith, c.loop-index-test.true, c.count-index-end.ensures ∙ ap component_count c.in_ok-parts.ensures) in
    let value : i + 1 ≡ first + (i + 1 - first) = omega (arith, from) in
    let inside : i + 1 - first < component_count space + 1 - first = omega (arith, from, below) in
    let here = subst (λ (s : Layers). IsFault (long_in s (i + 1)) c.in_err-presentation.field-0.0) c.in_ok-parts.ensures c.in_err-presentation.ensures.limits in
    rw (p.1, p.2)
    (fault-found-from (long_in space) first (i + 1 - first) (component_count space + 1 - first) (i + 1) c.in_err-presentation.field-0.0 value inside c.loop-index.invariant.short here)

pub loop-index-preserved : goal.loop-index-preserved
loop-index-preserved c =
    let space = c.args.regular.now in
    let first = c.args.first in
    let i = c.loop-index.index in
    let n = i + 1 - first in
    let from : first ≤ i + 1 = c.loop-index.invariant.from in
    let below : i < component_count space = omega (arith, c.loop-index-test.true, c.count-index-end.ensures ∙ ap component_count c.in_ok-parts.ensures) in
    let value : first + n ≡ i + 1 = omega (arith, from) in
    let next : n + 1 ≡ i + 1 + 1 - first = omega (arith, from) in
    let presentation : c.in_ok-presentation.presentation ≡ presented_in space (i + 1) =
    c.in_ok-presentation.ensures.presentation ∙ ap (λ (s : Layers). presented_in s (i + 1)) c.in_ok-parts.ensures in
    let short : long_in space (i + 1) ≡ None = subst (λ (s : Layers). long_in s (i + 1) ≡ None) c.in_ok-parts.ensures c.in_ok-presentation.ensures.limits in
    record {
      from = omega (arith, from);
      within = omega (arith, from, below);
      presentations = c.in_ok-push.ensures.items
          ∙ (ap (λ (ps : List Presented). ps ++ c.in_ok-presentation.presentation ∷ []) c.loop-index.invariant.presentations
          ∙ (ap (λ (p : Presented). map (presented_in space) (range_with_len first n) ++ p ∷ []) presentation
          ∙ (sym (map-range_with_len_more (presented_in space) first n (i + 1) value)
          ∙ ap (λ (m : ℕ). map (presented_in space) (range_with_len first m)) next)));
      short = subst (λ (m : ℕ). first_of (map (long_in space) (range_with_len first m)) ≡ None) next
          (first-more-from (long_in space) first n (i + 1) (sym value) c.loop-index.invariant.short short);
    }
