use Rattle.std.proofs.Common.{◌≡◌, ◌≤◌, ℕ, suc, ◌+◌, ◌-◌, List, [], ◌∷◌, ◌++◌, get_or, ap, sym, ◌∙◌, subst, arith}
use Rattle.face_poset.specs.Poset.{count}
use Rattle.face_poset.specs.Below.{cell_at}
use Rattle.order_complex.specs.Chains.{id_of}
use Rattle.local_field.specs.Buildings.{flag_of}
use Rattle.local_field.proofs.FlagSteps.{flag-more, first-range}
use Rattle.local_field.proofs.cell_ids.flag_of.Goals as goal

pub loop-step-preserved : goal.loop-step-preserved
loop-step-preserved g c =
    let space : List (List (List ℕ)) = g.G.Graded.space c.args.space.now in
    let d : ℕ = c.args.dim - c.loop-step.step in
    let k : ℕ = c.args.dim - (c.loop-step.step + 1) in
    let flag : List ℕ = c.loop-step.flag.items in
    let e : d ≡ suc k = omega (arith, c.loop-step-test.true) in
    let facets = c.facets.ensures.facets in
    let r = first-range space c.facets.ensures.valid d k c.loop-step.cell e c.loop-step.invariant.first c.loop-step.invariant.last in
    record {
      first = subst (λ (fs : List ℕ). 1 ≤ get_or fs 0 0) (sym facets) r.0;
      last = subst (λ (fs : List ℕ). get_or fs 0 0 ≤ count space k) (sym facets) r.1;
      is = ap (λ (xs : List ℕ). xs ++ flag_of space k (get_or c.facets.result.now 0 0)) c.in_ok-push.ensures.items
          ∙ (ap (λ (n : ℕ). (flag ++ n ∷ []) ++ flag_of space k (get_or c.facets.result.now 0 0)) c.id_of.ensures
          ∙ (ap (λ (fs : List ℕ). (flag ++ id_of space (cell_at d c.loop-step.cell) ∷ []) ++ flag_of space k (get_or fs 0 0)) facets ∙ (flag-more space flag d k c.loop-step.cell e ∙ c.loop-step.invariant.is)));
    }
