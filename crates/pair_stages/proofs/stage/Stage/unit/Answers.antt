use Rattle.std.proofs.Common.{◌≡◌, ◌+◌, ◌<◌, ◌≤◌, ℕ, List, [], ◌∷◌, ◌++◌, length, get_or, ap, ◌∙◌, arith}
use Rattle.split_laws.specs.declared.matching.Match.{Match}
use Rattle.pair_stages.specs.Stages.{Stage}
use Rattle.pair_stages.specs.Units.{pair_at}
use Rattle.pair_stages.proofs.Filling.{pair_small}
use Rattle.pair_stages.proofs.UnitLemmas.{triangular_is}
use Rattle.pair_stages.proofs.stage.Stage.unit.Goals as goal

pub overflow_add-pair : goal.overflow_add-pair
overflow_add-pair g c =
    let d : Match = record { lower = 0; upper = 0 } in
    let p : Match = get_or c.deref-pairs.result.now c.args.index d in
    let h = pair_small g.F.Field.ops c.args.self.now c.args.next.now c.requires.paired c.args.index p d c.requires.index (ap (λ (ps : List Match). get_or ps c.args.index d) (c.deref-pairs.ensures.value ∙ ap (λ (s : Stage). s.pairs) c.self.view_is)) in
    let l : p.lower < length c.args.self.now.kinds = h.0 in
    let b : length c.args.self.now.kinds ≤ 4294967295 = c.len-few.ensures.small.cells in
    omega arith

pub returns-clause-triangular : goal.returns-clause-triangular
returns-clause-triangular g c =
    let ps : c.deref-pairs.result.now ≡ c.args.self.now.pairs = c.deref-pairs.ensures.value ∙ ap (λ (s : Stage). s.pairs) c.self.view_is in
    let p : Match = pair_at c.deref-pairs.result.now c.args.index in
    triangular_is g.F.Field.ops g.met.F.Field.laws c.args.self.now c.args.next.now c.requires.paired c.args.index (record { left = c.push.new.self; right = c.push-2.new.self }) c.requires.index
    (record {
      left = c.in_ok-push.ensures.pushed ∙ (ap (λ (xs : List (ℕ × ℕ)). xs ++ (p.lower + 1, 1) ∷ []) c.new-left.ensures ∙ ap (λ (qs : List Match). ((pair_at qs c.args.index).lower + 1, 1) ∷ []) ps);
      right = c.in_ok-push-2.ensures.pushed ∙ (ap (λ (xs : List (ℕ × ℕ)). xs ++ (p.upper + 1, 1) ∷ []) c.new-right.ensures ∙ ap (λ (qs : List Match). ((pair_at qs c.args.index).upper + 1, 1) ∷ []) ps);
    })
