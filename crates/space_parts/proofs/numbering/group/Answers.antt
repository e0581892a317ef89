use Rattle.std.proofs.Common.{◌≡◌, ◌∙◌, ℕ, List, Result, Ok, Err, IfOk, map, take, [], ◌∷◌, ◌≤◌, length}
use Rattle.number_lists.specs.Cofaces.{coface_lists}
use Rattle.space_parts.specs.Listings.{grouped}
use Rattle.space_parts.proofs.Numbers.{singles_rise, grouped_is}
use Rattle.space_parts.proofs.numbering.group.Goals as goal

pub cofaces_in-requires-clause-cells : goal.cofaces_in-requires-clause-cells
cofaces_in-requires-clause-cells c = singles_rise c.args.numbers.now c.args.count c.loop-number.number-index c.loop-number.singles c.loop-number.invariant c.loop-number-test.false c.requires.within

-- what the call lists
listed : {E : Type 0} (r : Result (List (List ℕ)) E) (numbers : List ℕ) (most i : ℕ) (singles : List (List ℕ)) → singles ≡ map (λ n. n ∷ []) (take i numbers) → length numbers ≤ i
    → IfOk r (λ lists. lists ≡ coface_lists most singles) → IfOk r (λ lists. lists ≡ grouped numbers most)
listed (Ok v) numbers most i singles e l h = h ∙ grouped_is numbers most i singles e l
listed (Err e) numbers most i singles f l h = h

pub returns : goal.returns
returns c = listed c.cofaces_in.result c.args.numbers.now c.args.count c.loop-number.number-index c.loop-number.singles c.loop-number.invariant c.loop-number-test.false c.cofaces_in.ensures
