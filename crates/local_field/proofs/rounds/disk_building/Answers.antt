use Rattle.std.proofs.Common.{ℕ, ◌+◌, List, ◌++◌, All, take, map, get_or, ap, sym, ◌∙◌, subst}
use Rattle.std.proofs.lemmas.List.Elements.{All-take, All-drop}
use Rattle.regular_check.specs.declared.cycles.Step.{Step}
use Rattle.regular_check.specs.Cycle.{start_of}
use Rattle.local_field.specs.Buildings.{steps_after, steps_before}
use Rattle.local_field.specs.Listed.{step_pair, IsOnEdge}
use Rattle.local_field.proofs.StepParts.{on-edges-at, parts-built}
use Rattle.local_field.proofs.rounds.disk_building.Goals as goal

pub push_steps-requires : goal.push_steps-requires
push_steps-requires c = record {
  real = subst (λ (ss : List Step). All (IsOnEdge c.space-space.result.now) ss) (sym c.behind-after.ensures)
      (All-drop (IsOnEdge c.space-space.result.now) (c.place_of-place.result + 1) c.cycle_of-steps.result.now
      (on-edges-at c.cycles_go_round.ensures c.space-space.result.now c.args.regular.now c.args.disk c.cycle_of-steps.result.now c.space-space.ensures.same c.cycle_of-steps.ensures.cycle c.cells-edges.ensures.valid c.space-space.ensures.regular c.requires.first c.requires.last));
}

pub push_steps-requires-2 : goal.push_steps-requires-2
push_steps-requires-2 c = record {
  real = All-take (IsOnEdge c.space-space.result.now) c.place_of-place.result c.cycle_of-steps.result.now
      (on-edges-at c.cycles_go_round.ensures c.space-space.result.now c.args.regular.now c.args.disk c.cycle_of-steps.result.now c.space-space.ensures.same c.cycle_of-steps.ensures.cycle c.cells-edges.ensures.valid c.space-space.ensures.regular c.requires.first c.requires.last);
}

pub first_start-requires-clause-real : goal.first_start-requires-clause-real
first_start-requires-clause-real c =
    subst (λ (ss : List Step). All (IsOnEdge c.space-space.result.now) ss) (sym c.behind-after.ensures)
    (All-drop (IsOnEdge c.space-space.result.now) (c.place_of-place.result + 1) c.cycle_of-steps.result.now
    (on-edges-at c.cycles_go_round.ensures c.space-space.result.now c.args.regular.now c.args.disk c.cycle_of-steps.result.now c.space-space.ensures.same c.cycle_of-steps.ensures.cycle c.cells-edges.ensures.valid c.space-space.ensures.regular c.requires.first c.requires.last))

pub first_start-requires-clause-others : goal.first_start-requires-clause-others
first_start-requires-clause-others c =
    All-take (IsOnEdge c.space-space.result.now) c.place_of-place.result c.cycle_of-steps.result.now
    (on-edges-at c.cycles_go_round.ensures c.space-space.result.now c.args.regular.now c.args.disk c.cycle_of-steps.result.now c.space-space.ensures.same c.cycle_of-steps.ensures.cycle c.cells-edges.ensures.valid c.space-space.ensures.regular c.requires.first c.requires.last)

pub returns : goal.returns
returns c = λ f e.
    let space : List (List (List ℕ)) = c.args.regular.now in
    let same = c.space-space.ensures.same in
    let front : List Step = take c.place_of-place.result c.cycle_of-steps.result.now in
    parts-built space c.args.disk c.args.edge f c.first_start.result c.behind-after.result.now front c.push_steps-2.new.pairs.items e
    (ap (λ (ss : List Step). steps_after c.args.edge ss) (sym c.cycle_of-steps.ensures.cycle) ∙ (c.place_of-place.ensures.after ∙ sym c.behind-after.ensures))
    (ap (λ (ss : List Step). steps_before c.args.edge ss) (sym c.cycle_of-steps.ensures.cycle) ∙ c.place_of-place.ensures.before)
    (c.first_start.ensures ∙ ap (λ (s : List (List (List ℕ))). get_or (map (start_of s) (c.behind-after.result.now ++ front)) 0 0) same)
    (c.in_ok-push_steps-2.ensures
    ∙ (ap (λ (ps : List (ℕ × ℕ)). ps ++ map (step_pair c.space-space.result.now) front) (c.in_ok-push_steps.ensures ∙ ap (λ (ps : List (ℕ × ℕ)). ps ++ map (step_pair c.space-space.result.now) c.behind-after.result.now) c.new-pairs.ensures.items)
    ∙ ap (λ (s : List (List (List ℕ))). map (step_pair s) c.behind-after.result.now ++ map (step_pair s) front) same))
    c.new.result c.new.ensures.root c.new.ensures.pairs
