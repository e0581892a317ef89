use Rattle.std.proofs.Common.{◌≡◌, ℕ, List, Bool, true, false, cond, eqb, map, take, length, get_or, refl, ap, sym, ◌∙◌, arith}
use Rattle.std.proofs.lemmas.List.{take_all, with_items_is, length-map}
use Rattle.face_poset.specs.Poset.{facets_of}
use Rattle.regular_check.specs.declared.cycles.Step.{Step}
use Rattle.regular_check.specs.Cycle.{cycle}
use Rattle.cell_signs.specs.Along.{goes_back}
use Rattle.cell_signs.proofs.Placed.{none_back, back_more, back_same}
use Rattle.cell_signs.proofs.disks.disk_signs.Goals.{then-not-step, else-not-step}
use Rattle.cell_signs.proofs.disks.disk_signs.Goals as goal

pub loop-step-init : goal.loop-step-init
loop-step-init c = c.in_ok-signs.ensures.items_if_clones_equal (λ y e. e) ∙ none_back (length c.facets-edges.result.now) c.facets-edges.result.now refl

pub loop-step-preserved : goal.loop-step-preserved
loop-step-preserved c =
    let steps : List Step = cycle c.args.regular.now c.args.cell in
    let none : Step = record { edge = 0; forward = false } in
    elim c.if-not-step.branch [
      | then-not-step w ↦
          let put = w.put_sign.ensures.put (goes_back (take c.loop-step.step-index steps)) (w.deref_mut.ensures.value ∙ c.loop-step.invariant) in
          let edge : ℕ = (get_or c.cycle_of-step-items.result.now c.loop-step.step-index none).edge in
          let long : length w.put_sign.new.signs ≡ c.loop-step.signs.len =
          ap (λ (bs : List Bool). length bs) put
          ∙ (length-map c.facets-edges.result.now (λ n. cond (eqb n edge) true (goes_back (take c.loop-step.step-index steps) n))
          ∙ (sym (ap (λ (bs : List Bool). length bs) c.loop-step.invariant ∙ length-map c.facets-edges.result.now (goes_back (take c.loop-step.step-index steps))) ∙ sym c.loop-step.signs.ok.0)) in
          ap (λ v. v.items) w.signs-is
          ∙ (with_items_is c.loop-step.signs w.put_sign.new.signs long
          ∙ (put
          ∙ back_more c.cycle_of-step-items.result.now steps c.cycle_of-step-items.ensures.cycle c.loop-step.step-index none c.loop-step-test.true w.if-not-step.true c.facets-edges.result.now))
      | else-not-step w ↦
          ap (λ v. v.items) w.signs-is
          ∙ (c.loop-step.invariant
          ∙ back_same c.cycle_of-step-items.result.now steps c.cycle_of-step-items.ensures.cycle c.loop-step.step-index none c.loop-step-test.true w.if-not-step.false c.facets-edges.result.now)
    ]

pub returns : goal.returns
returns c =
    let steps : List Step = cycle c.args.regular.now c.args.cell in
    c.loop-step.invariant
    ∙ (ap (λ (ss : List Step). map (goes_back ss) c.facets-edges.result.now) (take_all c.loop-step.step-index steps (omega (arith, c.loop-step-test.false, ap (λ (ss : List Step). length ss) c.cycle_of-step-items.ensures.cycle)))
    ∙ ap (map (goes_back steps)) (c.facets-edges.ensures.facets ∙ ap (λ (space : List (List (List ℕ))). facets_of space 2 c.args.cell) c.space.ensures.same))
