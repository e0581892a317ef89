use Rattle.std.proofs.Common.{◌≤◌, ◌-◌, ℕ, List, length, All, sym, ◌∙◌, ap, subst, arith}
use Rattle.chosen_field.specs.Chosen.{in_turn}
use Rattle.chosen_field.specs.Listings.{at, positive_at, links_at, leaving, AreLowers}
use Rattle.chosen_field.proofs.Begun.{cofaces_all}
use Rattle.chosen_field.proofs.Turns.{single_there}
use Rattle.chosen_field.proofs.Waits.{IsListedTurn, listed-turn, listed-done}
use Rattle.chosen_field.proofs.listing.list_pairs.Goals as goal

pub overflow_sub-upper : goal.overflow_sub-upper
overflow_sub-upper g c = (single_there c.loop-lower.waits c.in-Some.lower (sym c.in-Some.ensures)).0

pub bounds-uppers-lower : goal.bounds-uppers-lower
bounds-uppers-lower g c = let r = single_there c.loop-lower.waits c.in-Some.lower (sym c.in-Some.ensures) in omega (arith, r.0, r.1, c.loop-lower.invariant.0.long)

pub cofaces-requires-clause-first : goal.cofaces-requires-clause-first
cofaces-requires-clause-first g c = (single_there c.loop-lower.waits c.in-Some.lower (sym c.in-Some.ensures)).0

pub cofaces-requires-clause-last : goal.cofaces-requires-clause-last
cofaces-requires-clause-last g c = let r = single_there c.loop-lower.waits c.in-Some.lower (sym c.in-Some.ensures) in omega (arith, r.1, c.loop-lower.invariant.0.long, c.requires.uppers.long)

pub pass-requires-clause-cells : goal.pass-requires-clause-cells
pass-requires-clause-cells g c =
    subst (λ (us : List ℕ). All (λ u. (1 ≤ u) × (u ≤ length c.deref.result.now)) us) (sym c.cofaces.ensures.cofaces)
    (cofaces_all (g.G.Graded.space c.args.graded.now) c.args.dim c.in-Some.lower (length c.deref.result.now) (ap (λ (xs : List ℕ). length xs) c.deref.ensures.value ∙ c.in_ok-lowers.ensures.len))

pub loop-lower-smaller : goal.loop-lower-smaller
loop-lower-smaller g c =
    (listed-turn (g.G.Graded.space c.args.graded.now) c.args.dim c.args.uppers.now c.deref.result.now c.loop-lower.waits c.pass.new.waits c.loop-lower.made.items c.push.new.self.items c.in-Some.lower c.requires.uppers
    (subst (AreLowers c.args.uppers.now (length c.args.uppers.now)) (sym c.deref.ensures.value) c.in_ok-lowers.ensures.lowers) c.loop-lower.invariant.0 c.in-Some.ensures c.pass.ensures.len
    (λ d a. c.in_ok-pass.ensures.counts d a ∙ ap (λ (us : List ℕ). at c.loop-lower.waits d - leaving c.deref.result.now us d) c.cofaces.ensures.cofaces) c.in_ok-push.ensures.items).fewer

pub loop-lower-preserved : goal.loop-lower-preserved
loop-lower-preserved g c =
    let t : IsListedTurn (g.G.Graded.space c.args.graded.now) c.args.dim c.args.uppers.now c.loop-lower.waits c.pass.new.waits c.loop-lower.made.items c.push.new.self.items =
    listed-turn (g.G.Graded.space c.args.graded.now) c.args.dim c.args.uppers.now c.deref.result.now c.loop-lower.waits c.pass.new.waits c.loop-lower.made.items c.push.new.self.items c.in-Some.lower c.requires.uppers
    (subst (AreLowers c.args.uppers.now (length c.args.uppers.now)) (sym c.deref.ensures.value) c.in_ok-lowers.ensures.lowers) c.loop-lower.invariant.0 c.in-Some.ensures c.pass.ensures.len
    (λ d a. c.in_ok-pass.ensures.counts d a ∙ ap (λ (us : List ℕ). at c.loop-lower.waits d - leaving c.deref.result.now us d) c.cofaces.ensures.cofaces) c.in_ok-push.ensures.items in
    (t.waits_are, t.kept ∙ c.loop-lower.invariant.1)

pub returns : goal.returns
returns g c =
    listed-done (g.G.Graded.space c.args.graded.now) c.args.dim c.args.uppers.now c.loop-lower.waits c.loop-lower.made.items
    (in_turn (g.G.Graded.space c.args.graded.now) c.args.dim (links_at c.args.uppers.now (positive_at c.args.uppers.now))) c.requires.uppers c.loop-lower.invariant.0 c.in_default.ensures c.loop-lower.invariant.1
