use Rattle.std.proofs.Common.{ℕ, ◌-◌, ◌≤◌, List, Bool, false, cond, get_or, set, length, All, sym, ◌∙◌, ap, subst, arith}
use Rattle.face_poset.specs.declared.cells.Pair.{Pair}
use Rattle.number_lists.specs.Words.{holds}
use Rattle.chosen_field.specs.Rests.{Counted}
use Rattle.chosen_field.proofs.Begun.{cofaces_all}
use Rattle.chosen_field.proofs.Turns.{single_there, left_there, coface_there, facets_rise, facets_all, turn_pair, turn_none, turn_drop, turn_over}
use Rattle.chosen_field.proofs.pairs.collapsed_pairs.Goals as goal
use Rattle.chosen_field.proofs.pairs.collapsed_pairs.Goals.{in-Some+in-Some-first_of+in_ok-push-in-Some-first_of+in_ok-remove-in-Some-first_of, in-Some+in-None-first_of}
use Rattle.chosen_field.proofs.pairs.collapsed_pairs.Goals.{in-None+in-Some-first_left+in_ok-remove-in-Some-first_left, in-None+in-None-first_left}

pub cofaces-requires-clause-first : goal.cofaces-requires-clause-first
cofaces-requires-clause-first g c = (single_there c.loop-turn.rest.shared c.in-Some.lower (sym c.in-Some.ensures)).0

pub cofaces-requires-clause-last : goal.cofaces-requires-clause-last
cofaces-requires-clause-last g c = omega (arith, (single_there c.loop-turn.rest.shared c.in-Some.lower (sym c.in-Some.ensures)).1, c.loop-turn.invariant.wide)

pub first_of-requires : goal.first_of-requires
first_of-requires g c =
    subst (λ (us : List ℕ). All (λ cell. (1 ≤ cell) × (cell ≤ length c.loop-turn.rest.cells)) us) (sym c.cofaces.ensures.cofaces)
    (cofaces_all (g.G.Graded.space c.args.graded.now) c.args.dim c.in-Some.lower (length c.loop-turn.rest.cells) c.loop-turn.invariant.long)

pub facets-requires-clause-first : goal.facets-requires-clause-first
facets-requires-clause-first g c =
    (coface_there (g.G.Graded.space c.args.graded.now) c.args.dim c.loop-turn.rest.cells c.cofaces.result.now c.in-Some.lower c.in-Some-first_of.upper (length c.loop-turn.rest.cells) c.cofaces.ensures.cofaces c.loop-turn.invariant.long (sym c.in-Some-first_of.ensures)).0

pub facets-requires-clause-last : goal.facets-requires-clause-last
facets-requires-clause-last g c =
    omega (
      arith,
      (coface_there (g.G.Graded.space c.args.graded.now) c.args.dim c.loop-turn.rest.cells c.cofaces.result.now c.in-Some.lower c.in-Some-first_of.upper (length c.loop-turn.rest.cells) c.cofaces.ensures.cofaces c.loop-turn.invariant.long (sym c.in-Some-first_of.ensures)).1,
      c.loop-turn.invariant.long,
    )

pub remove-requires-clause-first : goal.remove-requires-clause-first
remove-requires-clause-first g c =
    (coface_there (g.G.Graded.space c.args.graded.now) c.args.dim c.loop-turn.rest.cells c.cofaces.result.now c.in-Some.lower c.in-Some-first_of.upper (length c.loop-turn.rest.cells) c.cofaces.ensures.cofaces c.loop-turn.invariant.long (sym c.in-Some-first_of.ensures)).0

pub remove-requires-clause-last : goal.remove-requires-clause-last
remove-requires-clause-last g c =
    (coface_there (g.G.Graded.space c.args.graded.now) c.args.dim c.loop-turn.rest.cells c.cofaces.result.now c.in-Some.lower c.in-Some-first_of.upper (length c.loop-turn.rest.cells) c.cofaces.ensures.cofaces c.loop-turn.invariant.long (sym c.in-Some-first_of.ensures)).1

pub remove-requires-clause-rise : goal.remove-requires-clause-rise
remove-requires-clause-rise g c =
    let r = coface_there (g.G.Graded.space c.args.graded.now) c.args.dim c.loop-turn.rest.cells c.cofaces.result.now c.in-Some.lower c.in-Some-first_of.upper (length c.loop-turn.rest.cells) c.cofaces.ensures.cofaces c.loop-turn.invariant.long (sym c.in-Some-first_of.ensures) in
    facets_rise (g.G.Graded.space c.args.graded.now) c.args.dim c.in-Some-first_of.upper c.facets.result.now c.facets.ensures.valid r.0 (omega (arith, r.1, c.loop-turn.invariant.long)) c.facets.ensures.facets

pub remove-requires-clause-facets : goal.remove-requires-clause-facets
remove-requires-clause-facets g c =
    let r = coface_there (g.G.Graded.space c.args.graded.now) c.args.dim c.loop-turn.rest.cells c.cofaces.result.now c.in-Some.lower c.in-Some-first_of.upper (length c.loop-turn.rest.cells) c.cofaces.ensures.cofaces c.loop-turn.invariant.long (sym c.in-Some-first_of.ensures) in
    facets_all (g.G.Graded.space c.args.graded.now) c.args.dim c.in-Some-first_of.upper (length c.loop-turn.rest.shared) c.facets.result.now c.facets.ensures.valid r.0 (omega (arith, r.1, c.loop-turn.invariant.long)) c.facets.ensures.facets c.loop-turn.invariant.wide

pub facets-requires-in-Some-first_left-clause-first : goal.facets-requires-in-Some-first_left-clause-first
facets-requires-in-Some-first_left-clause-first g c = (left_there c.loop-turn.rest.cells c.in-Some-first_left.cell (sym c.in-Some-first_left.ensures.cell)).0

pub facets-requires-in-Some-first_left-clause-last : goal.facets-requires-in-Some-first_left-clause-last
facets-requires-in-Some-first_left-clause-last g c = omega (arith, (left_there c.loop-turn.rest.cells c.in-Some-first_left.cell (sym c.in-Some-first_left.ensures.cell)).1, c.loop-turn.invariant.long)

pub remove-requires-in-Some-first_left-clause-first : goal.remove-requires-in-Some-first_left-clause-first
remove-requires-in-Some-first_left-clause-first g c = (left_there c.loop-turn.rest.cells c.in-Some-first_left.cell (sym c.in-Some-first_left.ensures.cell)).0

pub remove-requires-in-Some-first_left-clause-last : goal.remove-requires-in-Some-first_left-clause-last
remove-requires-in-Some-first_left-clause-last g c =
    omega (arith, (left_there c.loop-turn.rest.cells c.in-Some-first_left.cell (sym c.in-Some-first_left.ensures.cell)).1, ap (λ (bs : List Bool). length bs) c.in-Some-first_left.ensures.cells)

pub remove-requires-in-Some-first_left-clause-rise : goal.remove-requires-in-Some-first_left-clause-rise
remove-requires-in-Some-first_left-clause-rise g c =
    let r = left_there c.loop-turn.rest.cells c.in-Some-first_left.cell (sym c.in-Some-first_left.ensures.cell) in
    facets_rise (g.G.Graded.space c.args.graded.now) c.args.dim c.in-Some-first_left.cell c.facets-in-Some-first_left.result.now c.facets-in-Some-first_left.ensures.valid r.0 (omega (arith, r.1, c.loop-turn.invariant.long)) c.facets-in-Some-first_left.ensures.facets

pub remove-requires-in-Some-first_left-clause-facets : goal.remove-requires-in-Some-first_left-clause-facets
remove-requires-in-Some-first_left-clause-facets g c =
    let r = left_there c.loop-turn.rest.cells c.in-Some-first_left.cell (sym c.in-Some-first_left.ensures.cell) in
    facets_all (g.G.Graded.space c.args.graded.now) c.args.dim c.in-Some-first_left.cell (length c.first_left.new.self.shared) c.facets-in-Some-first_left.result.now c.facets-in-Some-first_left.ensures.valid r.0 (omega (arith, r.1, c.loop-turn.invariant.long)) c.facets-in-Some-first_left.ensures.facets
    (ap (λ (ss : List ℕ). length ss) c.first_left.ensures.shared ∙ c.loop-turn.invariant.wide)

pub loop-turn-preserved : goal.loop-turn-preserved
loop-turn-preserved g c =
    let space : List (List (List ℕ)) = g.G.Graded.space c.args.graded.now in
    let dim : ℕ = c.args.dim in
    let total : ℕ = length c.args.cells.now in
    let turn : ℕ = c.loop-turn._turn in
    let cells : List Bool = c.loop-turn.rest.cells in
    let shared : List ℕ = c.loop-turn.rest.shared in
    let made : List Pair = c.loop-turn.made.items in
    let whole : List ℕ = c.args.cells.now in
    elim c.match-first_free.branch [
      | in-Some+in-Some-first_of+in_ok-push-in-Some-first_of+in_ok-remove-in-Some-first_of w ↦
          turn_pair space dim total turn cells shared made whole c.loop-turn.invariant c.loop-turn-test.true w.in-Some.lower w.in-Some-first_of.upper w.cofaces.result.now w.facets.result.now
          c.match-first_free.rest.cells c.match-first_free.rest.shared c.match-first_free.made.items w.in-Some.ensures w.cofaces.ensures.cofaces w.in-Some-first_of.ensures w.facets.ensures.facets
          (ap (λ (r : Counted). r.cells) w.rest-is ∙ w.remove.ensures.cells) (ap (λ (r : Counted). length r.shared) w.rest-is ∙ w.remove.ensures.len)
          (λ f a. ap (λ (r : Counted). get_or r.shared (f - 1) 0) w.rest-is ∙ w.in_ok-remove-in-Some-first_of.ensures.shared f a)
          (ap (λ v. v.items) w.made-is ∙ w.in_ok-push-in-Some-first_of.ensures.items)
      | in-Some+in-None-first_of w ↦
          absurd (turn_none space dim total turn cells shared made whole c.loop-turn.invariant c.loop-turn-test.true w.in-Some.lower w.cofaces.result.now w.in-Some.ensures w.cofaces.ensures.cofaces w.in-None-first_of.ensures)
      | in-None+in-Some-first_left+in_ok-remove-in-Some-first_left w ↦
          turn_drop space dim total turn cells shared made whole c.loop-turn.invariant c.loop-turn-test.true w.in-Some-first_left.cell w.facets-in-Some-first_left.result.now
          c.match-first_free.rest.cells c.match-first_free.rest.shared c.match-first_free.made.items w.in-None.ensures w.in-Some-first_left.ensures.cell w.facets-in-Some-first_left.ensures.facets
          (ap (λ (r : Counted). r.cells) w.rest-is ∙ (w.remove-in-Some-first_left.ensures.cells ∙ ap (λ (bs : List Bool). set bs (w.in-Some-first_left.cell - 1) false) w.first_left.ensures.cells))
          (ap (λ (r : Counted). length r.shared) w.rest-is ∙ (w.remove-in-Some-first_left.ensures.len ∙ ap (λ (ss : List ℕ). length ss) w.first_left.ensures.shared))
          (λ f a. ap (λ (r : Counted). get_or r.shared (f - 1) 0) w.rest-is
          ∙ (w.in_ok-remove-in-Some-first_left.ensures.shared f a ∙ ap (λ (ss : List ℕ). get_or ss (f - 1) 0 - cond (holds w.facets-in-Some-first_left.result.now f) 1 0) w.first_left.ensures.shared))
          (ap (λ v. v.items) w.made-is)
      | in-None+in-None-first_left w ↦
          turn_over space dim total turn cells shared made whole c.loop-turn.invariant c.loop-turn-test.true c.match-first_free.rest.cells c.match-first_free.rest.shared c.match-first_free.made.items
          w.in-None.ensures w.in-None-first_left.ensures.cell (ap (λ (r : Counted). r.cells) w.rest-is ∙ w.first_left.ensures.cells) (ap (λ (r : Counted). r.shared) w.rest-is ∙ w.first_left.ensures.shared) (ap (λ v. v.items) w.made-is)
    ]
