use Rattle.std.proofs.Common.{◌≡◌, ◌+◌, ◌-◌, ◌<◌, ℕ, List, [], ◌∷◌, ◌++◌, length, get_or, Contains, ap, sym, ◌∙◌, subst, arith, rules}
use Rattle.std.specs.List.Sorted.{IsStrictlyIncreasing}
use Rattle.order_complex.specs.Chains.{chains_of}
use Rattle.order_complex.specs.Complex.{facet_numbers}
use Rattle.order_complex.specs.Listing.{first_places, uppers_of}
use Rattle.order_complex.proofs.Growing.{two-entries, grown, ended}
use Rattle.order_complex.proofs.Placing.{uppers-rise, above-again, EdgeAt, edge-at, triangle-facets}
use Rattle.order_complex.proofs.ValueLemmas.{chain-long}
use Rattle.order_complex.proofs.facets.push_triangle_facets.Goals as goal

-- the chain at the index
pub record Facts (space : List (List (List ℕ))) (edges : List (List ℕ)) (starts : List ℕ) (index a b : ℕ) : Type 0 where
  pub is : get_or edges index [] ≡ a ∷ b ∷ []
  pub there : get_or (chains_of space 1) index [] ≡ a ∷ b ∷ []
  pub within : index < length (chains_of space 1)
  pub at : EdgeAt space starts a b

facts : (space : List (List (List ℕ))) (edges : List (List ℕ)) (starts : List ℕ) (index : ℕ) → edges ≡ chains_of space 1 → starts ≡ first_places (uppers_of space) (chains_of space 0) → index < length edges
    → Facts space edges starts index (get_or (get_or edges index []) 0 0) (get_or (get_or edges index []) 1 0)
facts space edges starts index e s l =
    let within : index < length (chains_of space 1) = subst (λ (xs : List (List ℕ)). index < length xs) e l in
    let same : get_or edges index [] ≡ get_or (chains_of space 1) index [] = ap (λ xs. get_or xs index []) e in
    let is = two-entries (get_or edges index []) (ap (λ (x : List ℕ). length x) same ∙ chain-long space 1 index within) in
    record { is = is; there = sym same ∙ is; within = within; at = edge-at space starts index (get_or (get_or edges index []) 0 0) (get_or (get_or edges index []) 1 0) within (sym same ∙ is) s }

pub above-before-requires-clause-first : goal.above-before-requires-clause-first
above-before-requires-clause-first c =
    let f = facts c.args.uppers.now c.args.edges.now c.args.starts.now c.args.index c.requires.edges c.requires.starts c.requires.index in
    f.at.low

pub above-before-requires-clause-last : goal.above-before-requires-clause-last
above-before-requires-clause-last c =
    let f = facts c.args.uppers.now c.args.edges.now c.args.starts.now c.args.index c.requires.edges c.requires.starts c.requires.index in
    f.at.high

pub above-after-requires-clause-first : goal.above-after-requires-clause-first
above-after-requires-clause-first c =
    let f = facts c.args.uppers.now c.args.edges.now c.args.starts.now c.args.index c.requires.edges c.requires.starts c.requires.index in
    f.at.above.low

pub above-after-requires-clause-last : goal.above-after-requires-clause-last
above-after-requires-clause-last c =
    let f = facts c.args.uppers.now c.args.edges.now c.args.starts.now c.args.index c.requires.edges c.requires.starts c.requires.index in
    f.at.above.high

pub overflow_sub-before_start : goal.overflow_sub-before_start
overflow_sub-before_start c =
    let f = facts c.args.uppers.now c.args.edges.now c.args.starts.now c.args.index c.requires.edges c.requires.starts c.requires.index in
    f.at.low

pub bounds-starts-first : goal.bounds-starts-first
bounds-starts-first c =
    let f = facts c.args.uppers.now c.args.edges.now c.args.starts.now c.args.index c.requires.edges c.requires.starts c.requires.index in
    f.at.first

pub overflow_sub-after_start : goal.overflow_sub-after_start
overflow_sub-after_start c =
    let f = facts c.args.uppers.now c.args.edges.now c.args.starts.now c.args.index c.requires.edges c.requires.starts c.requires.index in
    f.at.above.low

pub bounds-starts-second : goal.bounds-starts-second
bounds-starts-second c =
    let f = facts c.args.uppers.now c.args.edges.now c.args.starts.now c.args.index c.requires.edges c.requires.starts c.requires.index in
    f.at.second

pub place_in-requires-clause-rises : goal.place_in-requires-clause-rises
place_in-requires-clause-rises c =
    let f = facts c.args.uppers.now c.args.edges.now c.args.starts.now c.args.index c.requires.edges c.requires.starts c.requires.index in
    subst IsStrictlyIncreasing (sym c.above-before.ensures) (uppers-rise c.args.uppers.now (get_or (get_or c.args.edges.now c.args.index []) 0 0) f.at.low f.at.high)

pub place_in-requires-clause-there : goal.place_in-requires-clause-there
place_in-requires-clause-there c =
    let f = facts c.args.uppers.now c.args.edges.now c.args.starts.now c.args.index c.requires.edges c.requires.starts c.requires.index in
    subst (λ (xs : List ℕ). Contains xs (get_or c.above-after.result.now c.loop-place.place 0)) (sym c.above-before.ensures)
    (above-again c.args.uppers.now (get_or (get_or c.args.edges.now c.args.index []) 0 0) (get_or (get_or c.args.edges.now c.args.index []) 1 0) c.loop-place.place (get_or c.above-after.result.now c.loop-place.place 0) f.at.low f.at.high f.at.above (subst (λ (xs : List ℕ). c.loop-place.place < length xs) c.above-after.ensures (omega arith)) (ap (λ xs. get_or xs c.loop-place.place 0) (sym c.above-after.ensures)))

pub overflow_cast-skipped : goal.overflow_cast-skipped
overflow_cast-skipped c =
    let f = facts c.args.uppers.now c.args.edges.now c.args.starts.now c.args.index c.requires.edges c.requires.starts c.requires.index in
    let t = triangle-facets c.args.uppers.now c.args.starts.now c.args.index (get_or (get_or c.args.edges.now c.args.index []) 0 0) (get_or (get_or c.args.edges.now c.args.index []) 1 0) c.loop-place.place (get_or c.above-after.result.now c.loop-place.place 0) c.place_in.result f.within f.there c.requires.starts
    (subst (λ (xs : List ℕ). c.loop-place.place < length xs) c.above-after.ensures (omega arith)) (ap (λ xs. get_or xs c.loop-place.place 0) (sym c.above-after.ensures))
    (subst (λ (xs : List ℕ). c.place_in.result < length xs) c.above-before.ensures c.place_in.ensures.within) (ap (λ xs. get_or xs c.place_in.result 0) (sym c.above-before.ensures) ∙ c.place_in.ensures.is) in
    omega (arith, t.turned_small, c.requires.few)

pub overflow_add-skipped : goal.overflow_add-skipped
overflow_add-skipped c =
    let f = facts c.args.uppers.now c.args.edges.now c.args.starts.now c.args.index c.requires.edges c.requires.starts c.requires.index in
    let t = triangle-facets c.args.uppers.now c.args.starts.now c.args.index (get_or (get_or c.args.edges.now c.args.index []) 0 0) (get_or (get_or c.args.edges.now c.args.index []) 1 0) c.loop-place.place (get_or c.above-after.result.now c.loop-place.place 0) c.place_in.result f.within f.there c.requires.starts
    (subst (λ (xs : List ℕ). c.loop-place.place < length xs) c.above-after.ensures (omega arith)) (ap (λ xs. get_or xs c.loop-place.place 0) (sym c.above-after.ensures))
    (subst (λ (xs : List ℕ). c.place_in.result < length xs) c.above-before.ensures c.place_in.ensures.within) (ap (λ xs. get_or xs c.place_in.result 0) (sym c.above-before.ensures) ∙ c.place_in.ensures.is) in
    omega (arith, t.turned_small, c.requires.few)

pub overflow_add-skipped-in-loop-place : goal.overflow_add-skipped-in-loop-place
overflow_add-skipped-in-loop-place c =
    let f = facts c.args.uppers.now c.args.edges.now c.args.starts.now c.args.index c.requires.edges c.requires.starts c.requires.index in
    let t = triangle-facets c.args.uppers.now c.args.starts.now c.args.index (get_or (get_or c.args.edges.now c.args.index []) 0 0) (get_or (get_or c.args.edges.now c.args.index []) 1 0) c.loop-place.place (get_or c.above-after.result.now c.loop-place.place 0) c.place_in.result f.within f.there c.requires.starts
    (subst (λ (xs : List ℕ). c.loop-place.place < length xs) c.above-after.ensures (omega arith)) (ap (λ xs. get_or xs c.loop-place.place 0) (sym c.above-after.ensures))
    (subst (λ (xs : List ℕ). c.place_in.result < length xs) c.above-before.ensures c.place_in.ensures.within) (ap (λ xs. get_or xs c.place_in.result 0) (sym c.above-before.ensures) ∙ c.place_in.ensures.is) in
    omega (arith, t.turned_small, c.requires.few)

pub overflow_cast-moved : goal.overflow_cast-moved
overflow_cast-moved c =
    let f = facts c.args.uppers.now c.args.edges.now c.args.starts.now c.args.index c.requires.edges c.requires.starts c.requires.index in
    let t = triangle-facets c.args.uppers.now c.args.starts.now c.args.index (get_or (get_or c.args.edges.now c.args.index []) 0 0) (get_or (get_or c.args.edges.now c.args.index []) 1 0) c.loop-place.place (get_or c.above-after.result.now c.loop-place.place 0) c.place_in.result f.within f.there c.requires.starts
    (subst (λ (xs : List ℕ). c.loop-place.place < length xs) c.above-after.ensures (omega arith)) (ap (λ xs. get_or xs c.loop-place.place 0) (sym c.above-after.ensures))
    (subst (λ (xs : List ℕ). c.place_in.result < length xs) c.above-before.ensures c.place_in.ensures.within) (ap (λ xs. get_or xs c.place_in.result 0) (sym c.above-before.ensures) ∙ c.place_in.ensures.is) in
    omega (arith, t.moved_small, c.requires.few)

pub overflow_add-moved : goal.overflow_add-moved
overflow_add-moved c =
    let f = facts c.args.uppers.now c.args.edges.now c.args.starts.now c.args.index c.requires.edges c.requires.starts c.requires.index in
    let t = triangle-facets c.args.uppers.now c.args.starts.now c.args.index (get_or (get_or c.args.edges.now c.args.index []) 0 0) (get_or (get_or c.args.edges.now c.args.index []) 1 0) c.loop-place.place (get_or c.above-after.result.now c.loop-place.place 0) c.place_in.result f.within f.there c.requires.starts
    (subst (λ (xs : List ℕ). c.loop-place.place < length xs) c.above-after.ensures (omega arith)) (ap (λ xs. get_or xs c.loop-place.place 0) (sym c.above-after.ensures))
    (subst (λ (xs : List ℕ). c.place_in.result < length xs) c.above-before.ensures c.place_in.ensures.within) (ap (λ xs. get_or xs c.place_in.result 0) (sym c.above-before.ensures) ∙ c.place_in.ensures.is) in
    omega (arith, t.moved_small, c.requires.few)

pub overflow_add-moved-in-loop-place : goal.overflow_add-moved-in-loop-place
overflow_add-moved-in-loop-place c =
    let f = facts c.args.uppers.now c.args.edges.now c.args.starts.now c.args.index c.requires.edges c.requires.starts c.requires.index in
    let t = triangle-facets c.args.uppers.now c.args.starts.now c.args.index (get_or (get_or c.args.edges.now c.args.index []) 0 0) (get_or (get_or c.args.edges.now c.args.index []) 1 0) c.loop-place.place (get_or c.above-after.result.now c.loop-place.place 0) c.place_in.result f.within f.there c.requires.starts
    (subst (λ (xs : List ℕ). c.loop-place.place < length xs) c.above-after.ensures (omega arith)) (ap (λ xs. get_or xs c.loop-place.place 0) (sym c.above-after.ensures))
    (subst (λ (xs : List ℕ). c.place_in.result < length xs) c.above-before.ensures c.place_in.ensures.within) (ap (λ xs. get_or xs c.place_in.result 0) (sym c.above-before.ensures) ∙ c.place_in.ensures.is) in
    omega (arith, t.moved_small, c.requires.few)

pub loop-place-preserved : goal.loop-place-preserved
loop-place-preserved c =
    let f = facts c.args.uppers.now c.args.edges.now c.args.starts.now c.args.index c.requires.edges c.requires.starts c.requires.index in
    let t = triangle-facets c.args.uppers.now c.args.starts.now c.args.index (get_or (get_or c.args.edges.now c.args.index []) 0 0) (get_or (get_or c.args.edges.now c.args.index []) 1 0) c.loop-place.place (get_or c.above-after.result.now c.loop-place.place 0) c.place_in.result f.within f.there c.requires.starts
    (subst (λ (xs : List ℕ). c.loop-place.place < length xs) c.above-after.ensures (omega arith)) (ap (λ xs. get_or xs c.loop-place.place 0) (sym c.above-after.ensures))
    (subst (λ (xs : List ℕ). c.place_in.result < length xs) c.above-before.ensures c.place_in.ensures.within) (ap (λ xs. get_or xs c.place_in.result 0) (sym c.above-before.ensures) ∙ c.place_in.ensures.is) in
    grown (facet_numbers (chains_of c.args.uppers.now 1)) (get_or c.args.edges.now c.args.index []) c.args.facets.now.items c.loop-place.facets.items c.push.new.self.items c.above-after.result.now c.loop-place.place
    ((c.args.index + 1) ∷ (get_or c.args.starts.now ((get_or (get_or c.args.edges.now c.args.index []) 0 0) - 1) 0 + c.place_in.result + 1) ∷ (get_or c.args.starts.now ((get_or (get_or c.args.edges.now c.args.index []) 1 0) - 1) 0 + c.loop-place.place + 1) ∷ [])
    c.loop-place.invariant c.in_ok-push.ensures.items (omega arith) (sym t.is ∙ ap (λ (y : List ℕ). facet_numbers (chains_of c.args.uppers.now 1) (y ++ (get_or c.above-after.result.now c.loop-place.place 0) ∷ [])) (sym f.is))

pub returns : goal.returns
returns c =
    let f = facts c.args.uppers.now c.args.edges.now c.args.starts.now c.args.index c.requires.edges c.requires.starts c.requires.index in
    ended (facet_numbers (chains_of c.args.uppers.now 1)) (uppers_of c.args.uppers.now) (get_or c.args.edges.now c.args.index []) (get_or (get_or c.args.edges.now c.args.index []) 1 0) c.args.facets.now.items c.loop-place.facets.items c.above-after.result.now c.loop-place.place
    c.loop-place.invariant (search rules) c.above-after.ensures (ap (λ (y : List ℕ). get_or y (length y - 1) 0) f.is)
