use Rattle.std.proofs.Common.{◌≡◌, ◌+◌, ◌-◌, ◌<◌, ◌≤◌, ℕ, List, [], ◌∷◌, ◌++◌, length, get_or, Contains, ap, sym, ◌∙◌, subst, arith, rules}
use Rattle.std.specs.List.Sorted.{IsStrictlyIncreasing}
use Rattle.order_complex.specs.Chains.{chains_of}
use Rattle.order_complex.specs.Complex.{facet_numbers, facet_lists}
use Rattle.order_complex.specs.Listing.{first_places, uppers_of}
use Rattle.order_complex.proofs.Growing.{three-entries, grown, ended}
use Rattle.std.proofs.lemmas.List.{get_or-map}
use Rattle.order_complex.proofs.Fronts.{length-facet_numbers}
use Rattle.order_complex.proofs.Placing.{uppers-rise, above-again, TriangleAt, triangle-at, tetrahedron-facets}
use Rattle.order_complex.proofs.ValueLemmas.{chain-long}
use Rattle.order_complex.proofs.facets.push_tetrahedron_facets.Goals as goal

-- the chain at the index and its facets
pub record Facts (space : List (List (List ℕ))) (triangles : List (List ℕ)) (starts : List ℕ) (index a b c front mid back : ℕ) : Type 0 where
  pub is : get_or triangles index [] ≡ a ∷ b ∷ c ∷ []
  pub there : get_or (chains_of space 2) index [] ≡ a ∷ b ∷ c ∷ []
  pub within : index < length (chains_of space 2)
  pub at : TriangleAt space starts a b c front mid back
  pub b_low : 1 ≤ b

facts : (space : List (List (List ℕ))) (triangles lower : List (List ℕ)) (starts : List ℕ) (index : ℕ) → triangles ≡ chains_of space 2 → lower ≡ facet_lists space 2 → starts ≡ first_places (uppers_of space) (chains_of space 1) → index < length triangles
    → Facts space triangles starts index (get_or (get_or triangles index []) 0 0) (get_or (get_or triangles index []) 1 0) (get_or (get_or triangles index []) 2 0)
    (get_or (get_or lower index []) 0 0) (get_or (get_or lower index []) 1 0) (get_or (get_or lower index []) 2 0)
facts space triangles lower starts index e m s l =
    let within : index < length (chains_of space 2) = subst (λ (xs : List (List ℕ)). index < length xs) e l in
    let same : get_or triangles index [] ≡ get_or (chains_of space 2) index [] = ap (λ xs. get_or xs index []) e in
    let is = three-entries (get_or triangles index []) (ap (λ (x : List ℕ). length x) same ∙ chain-long space 2 index within) in
    let row : get_or lower index [] ≡ facet_numbers (chains_of space 1) (get_or (chains_of space 2) index []) = ap (λ xs. get_or xs index []) m ∙ get_or-map (facet_numbers (chains_of space 1)) (chains_of space 2) index [] [] within in
    let row_is = three-entries (get_or lower index []) (ap (λ (x : List ℕ). length x) row ∙ length-facet_numbers (chains_of space 1) (get_or (chains_of space 2) index []) ∙ chain-long space 2 index within) in
    let at = triangle-at space starts index (get_or (get_or triangles index []) 0 0) (get_or (get_or triangles index []) 1 0) (get_or (get_or triangles index []) 2 0)
    (get_or (get_or lower index []) 0 0) (get_or (get_or lower index []) 1 0) (get_or (get_or lower index []) 2 0) within (sym same ∙ is) (sym (ap (λ xs. get_or xs index []) m) ∙ row_is) s in
    record { is = is; there = sym same ∙ is; within = within; at = at; b_low = at.cells.first.low }

pub above-before-requires-clause-first : goal.above-before-requires-clause-first
above-before-requires-clause-first c =
    let f = facts c.args.uppers.now c.args.triangles.now c.args.lower.now c.args.starts.now c.args.index c.requires.triangles c.requires.lower c.requires.starts c.requires.index in
    f.at.cells.first.low

pub above-before-requires-clause-last : goal.above-before-requires-clause-last
above-before-requires-clause-last c =
    let f = facts c.args.uppers.now c.args.triangles.now c.args.lower.now c.args.starts.now c.args.index c.requires.triangles c.requires.lower c.requires.starts c.requires.index in
    f.at.cells.first.high

pub above-after-requires-clause-first : goal.above-after-requires-clause-first
above-after-requires-clause-first c =
    let f = facts c.args.uppers.now c.args.triangles.now c.args.lower.now c.args.starts.now c.args.index c.requires.triangles c.requires.lower c.requires.starts c.requires.index in
    f.at.cells.second.low

pub above-after-requires-clause-last : goal.above-after-requires-clause-last
above-after-requires-clause-last c =
    let f = facts c.args.uppers.now c.args.triangles.now c.args.lower.now c.args.starts.now c.args.index c.requires.triangles c.requires.lower c.requires.starts c.requires.index in
    f.at.cells.second.high

pub overflow_sub-front_start : goal.overflow_sub-front_start
overflow_sub-front_start c =
    let f = facts c.args.uppers.now c.args.triangles.now c.args.lower.now c.args.starts.now c.args.index c.requires.triangles c.requires.lower c.requires.starts c.requires.index in
    f.at.front_low

pub bounds-starts-front : goal.bounds-starts-front
bounds-starts-front c =
    let f = facts c.args.uppers.now c.args.triangles.now c.args.lower.now c.args.starts.now c.args.index c.requires.triangles c.requires.lower c.requires.starts c.requires.index in
    omega (arith, f.at.front_low, f.at.front_high)

pub overflow_sub-skipped_start : goal.overflow_sub-skipped_start
overflow_sub-skipped_start c =
    let f = facts c.args.uppers.now c.args.triangles.now c.args.lower.now c.args.starts.now c.args.index c.requires.triangles c.requires.lower c.requires.starts c.requires.index in
    f.at.mid_low

pub bounds-starts-skipped : goal.bounds-starts-skipped
bounds-starts-skipped c =
    let f = facts c.args.uppers.now c.args.triangles.now c.args.lower.now c.args.starts.now c.args.index c.requires.triangles c.requires.lower c.requires.starts c.requires.index in
    omega (arith, f.at.mid_low, f.at.mid_high)

pub overflow_sub-back_start : goal.overflow_sub-back_start
overflow_sub-back_start c =
    let f = facts c.args.uppers.now c.args.triangles.now c.args.lower.now c.args.starts.now c.args.index c.requires.triangles c.requires.lower c.requires.starts c.requires.index in
    f.at.back_low

pub bounds-starts-back : goal.bounds-starts-back
bounds-starts-back c =
    let f = facts c.args.uppers.now c.args.triangles.now c.args.lower.now c.args.starts.now c.args.index c.requires.triangles c.requires.lower c.requires.starts c.requires.index in
    omega (arith, f.at.back_low, f.at.back_high)

pub place_in-requires-clause-rises : goal.place_in-requires-clause-rises
place_in-requires-clause-rises c =
    let f = facts c.args.uppers.now c.args.triangles.now c.args.lower.now c.args.starts.now c.args.index c.requires.triangles c.requires.lower c.requires.starts c.requires.index in
    subst IsStrictlyIncreasing (sym c.above-before.ensures) (uppers-rise c.args.uppers.now (get_or (get_or c.args.triangles.now c.args.index []) 1 0) f.at.cells.first.low f.at.cells.first.high)

pub place_in-requires-clause-there : goal.place_in-requires-clause-there
place_in-requires-clause-there c =
    let f = facts c.args.uppers.now c.args.triangles.now c.args.lower.now c.args.starts.now c.args.index c.requires.triangles c.requires.lower c.requires.starts c.requires.index in
    subst (λ (xs : List ℕ). Contains xs (get_or c.above-after.result.now c.loop-place.place 0)) (sym c.above-before.ensures)
    (above-again c.args.uppers.now (get_or (get_or c.args.triangles.now c.args.index []) 1 0) (get_or (get_or c.args.triangles.now c.args.index []) 2 0) c.loop-place.place (get_or c.above-after.result.now c.loop-place.place 0) f.at.cells.first.low f.at.cells.first.high f.at.cells.second (subst (λ (xs : List ℕ). c.loop-place.place < length xs) c.above-after.ensures (omega arith)) (ap (λ xs. get_or xs c.loop-place.place 0) (sym c.above-after.ensures)))

pub overflow_cast-turned : goal.overflow_cast-turned
overflow_cast-turned c =
    let f = facts c.args.uppers.now c.args.triangles.now c.args.lower.now c.args.starts.now c.args.index c.requires.triangles c.requires.lower c.requires.starts c.requires.index in
    let t = tetrahedron-facets c.args.uppers.now c.args.starts.now c.args.index (get_or (get_or c.args.triangles.now c.args.index []) 0 0) (get_or (get_or c.args.triangles.now c.args.index []) 1 0) (get_or (get_or c.args.triangles.now c.args.index []) 2 0) (get_or (get_or c.args.lower.now c.args.index []) 0 0) (get_or (get_or c.args.lower.now c.args.index []) 1 0) (get_or (get_or c.args.lower.now c.args.index []) 2 0) c.loop-place.place (get_or c.above-after.result.now c.loop-place.place 0) c.place_in.result f.within f.there f.at c.requires.starts
    (subst (λ (xs : List ℕ). c.loop-place.place < length xs) c.above-after.ensures (omega arith)) (ap (λ xs. get_or xs c.loop-place.place 0) (sym c.above-after.ensures))
    (subst (λ (xs : List ℕ). c.place_in.result < length xs) c.above-before.ensures c.place_in.ensures.within) (ap (λ xs. get_or xs c.place_in.result 0) (sym c.above-before.ensures) ∙ c.place_in.ensures.is) in
    omega (arith, t.turned_small, c.requires.few)

pub overflow_add-turned : goal.overflow_add-turned
overflow_add-turned c =
    let f = facts c.args.uppers.now c.args.triangles.now c.args.lower.now c.args.starts.now c.args.index c.requires.triangles c.requires.lower c.requires.starts c.requires.index in
    let t = tetrahedron-facets c.args.uppers.now c.args.starts.now c.args.index (get_or (get_or c.args.triangles.now c.args.index []) 0 0) (get_or (get_or c.args.triangles.now c.args.index []) 1 0) (get_or (get_or c.args.triangles.now c.args.index []) 2 0) (get_or (get_or c.args.lower.now c.args.index []) 0 0) (get_or (get_or c.args.lower.now c.args.index []) 1 0) (get_or (get_or c.args.lower.now c.args.index []) 2 0) c.loop-place.place (get_or c.above-after.result.now c.loop-place.place 0) c.place_in.result f.within f.there f.at c.requires.starts
    (subst (λ (xs : List ℕ). c.loop-place.place < length xs) c.above-after.ensures (omega arith)) (ap (λ xs. get_or xs c.loop-place.place 0) (sym c.above-after.ensures))
    (subst (λ (xs : List ℕ). c.place_in.result < length xs) c.above-before.ensures c.place_in.ensures.within) (ap (λ xs. get_or xs c.place_in.result 0) (sym c.above-before.ensures) ∙ c.place_in.ensures.is) in
    omega (arith, t.turned_small, c.requires.few)

pub overflow_add-turned-in-loop-place : goal.overflow_add-turned-in-loop-place
overflow_add-turned-in-loop-place c =
    let f = facts c.args.uppers.now c.args.triangles.now c.args.lower.now c.args.starts.now c.args.index c.requires.triangles c.requires.lower c.requires.starts c.requires.index in
    let t = tetrahedron-facets c.args.uppers.now c.args.starts.now c.args.index (get_or (get_or c.args.triangles.now c.args.index []) 0 0) (get_or (get_or c.args.triangles.now c.args.index []) 1 0) (get_or (get_or c.args.triangles.now c.args.index []) 2 0) (get_or (get_or c.args.lower.now c.args.index []) 0 0) (get_or (get_or c.args.lower.now c.args.index []) 1 0) (get_or (get_or c.args.lower.now c.args.index []) 2 0) c.loop-place.place (get_or c.above-after.result.now c.loop-place.place 0) c.place_in.result f.within f.there f.at c.requires.starts
    (subst (λ (xs : List ℕ). c.loop-place.place < length xs) c.above-after.ensures (omega arith)) (ap (λ xs. get_or xs c.loop-place.place 0) (sym c.above-after.ensures))
    (subst (λ (xs : List ℕ). c.place_in.result < length xs) c.above-before.ensures c.place_in.ensures.within) (ap (λ xs. get_or xs c.place_in.result 0) (sym c.above-before.ensures) ∙ c.place_in.ensures.is) in
    omega (arith, t.turned_small, c.requires.few)

pub overflow_cast-next : goal.overflow_cast-next
overflow_cast-next c =
    let f = facts c.args.uppers.now c.args.triangles.now c.args.lower.now c.args.starts.now c.args.index c.requires.triangles c.requires.lower c.requires.starts c.requires.index in
    let t = tetrahedron-facets c.args.uppers.now c.args.starts.now c.args.index (get_or (get_or c.args.triangles.now c.args.index []) 0 0) (get_or (get_or c.args.triangles.now c.args.index []) 1 0) (get_or (get_or c.args.triangles.now c.args.index []) 2 0) (get_or (get_or c.args.lower.now c.args.index []) 0 0) (get_or (get_or c.args.lower.now c.args.index []) 1 0) (get_or (get_or c.args.lower.now c.args.index []) 2 0) c.loop-place.place (get_or c.above-after.result.now c.loop-place.place 0) c.place_in.result f.within f.there f.at c.requires.starts
    (subst (λ (xs : List ℕ). c.loop-place.place < length xs) c.above-after.ensures (omega arith)) (ap (λ xs. get_or xs c.loop-place.place 0) (sym c.above-after.ensures))
    (subst (λ (xs : List ℕ). c.place_in.result < length xs) c.above-before.ensures c.place_in.ensures.within) (ap (λ xs. get_or xs c.place_in.result 0) (sym c.above-before.ensures) ∙ c.place_in.ensures.is) in
    omega (arith, t.skipped_small, c.requires.few)

pub overflow_add-next : goal.overflow_add-next
overflow_add-next c =
    let f = facts c.args.uppers.now c.args.triangles.now c.args.lower.now c.args.starts.now c.args.index c.requires.triangles c.requires.lower c.requires.starts c.requires.index in
    let t = tetrahedron-facets c.args.uppers.now c.args.starts.now c.args.index (get_or (get_or c.args.triangles.now c.args.index []) 0 0) (get_or (get_or c.args.triangles.now c.args.index []) 1 0) (get_or (get_or c.args.triangles.now c.args.index []) 2 0) (get_or (get_or c.args.lower.now c.args.index []) 0 0) (get_or (get_or c.args.lower.now c.args.index []) 1 0) (get_or (get_or c.args.lower.now c.args.index []) 2 0) c.loop-place.place (get_or c.above-after.result.now c.loop-place.place 0) c.place_in.result f.within f.there f.at c.requires.starts
    (subst (λ (xs : List ℕ). c.loop-place.place < length xs) c.above-after.ensures (omega arith)) (ap (λ xs. get_or xs c.loop-place.place 0) (sym c.above-after.ensures))
    (subst (λ (xs : List ℕ). c.place_in.result < length xs) c.above-before.ensures c.place_in.ensures.within) (ap (λ xs. get_or xs c.place_in.result 0) (sym c.above-before.ensures) ∙ c.place_in.ensures.is) in
    omega (arith, t.skipped_small, c.requires.few)

pub overflow_add-skipped_start : goal.overflow_add-skipped_start
overflow_add-skipped_start c =
    let f = facts c.args.uppers.now c.args.triangles.now c.args.lower.now c.args.starts.now c.args.index c.requires.triangles c.requires.lower c.requires.starts c.requires.index in
    let t = tetrahedron-facets c.args.uppers.now c.args.starts.now c.args.index (get_or (get_or c.args.triangles.now c.args.index []) 0 0) (get_or (get_or c.args.triangles.now c.args.index []) 1 0) (get_or (get_or c.args.triangles.now c.args.index []) 2 0) (get_or (get_or c.args.lower.now c.args.index []) 0 0) (get_or (get_or c.args.lower.now c.args.index []) 1 0) (get_or (get_or c.args.lower.now c.args.index []) 2 0) c.loop-place.place (get_or c.above-after.result.now c.loop-place.place 0) c.place_in.result f.within f.there f.at c.requires.starts
    (subst (λ (xs : List ℕ). c.loop-place.place < length xs) c.above-after.ensures (omega arith)) (ap (λ xs. get_or xs c.loop-place.place 0) (sym c.above-after.ensures))
    (subst (λ (xs : List ℕ). c.place_in.result < length xs) c.above-before.ensures c.place_in.ensures.within) (ap (λ xs. get_or xs c.place_in.result 0) (sym c.above-before.ensures) ∙ c.place_in.ensures.is) in
    omega (arith, t.skipped_small, c.requires.few)

pub overflow_add-back_start : goal.overflow_add-back_start
overflow_add-back_start c =
    let f = facts c.args.uppers.now c.args.triangles.now c.args.lower.now c.args.starts.now c.args.index c.requires.triangles c.requires.lower c.requires.starts c.requires.index in
    let t = tetrahedron-facets c.args.uppers.now c.args.starts.now c.args.index (get_or (get_or c.args.triangles.now c.args.index []) 0 0) (get_or (get_or c.args.triangles.now c.args.index []) 1 0) (get_or (get_or c.args.triangles.now c.args.index []) 2 0) (get_or (get_or c.args.lower.now c.args.index []) 0 0) (get_or (get_or c.args.lower.now c.args.index []) 1 0) (get_or (get_or c.args.lower.now c.args.index []) 2 0) c.loop-place.place (get_or c.above-after.result.now c.loop-place.place 0) c.place_in.result f.within f.there f.at c.requires.starts
    (subst (λ (xs : List ℕ). c.loop-place.place < length xs) c.above-after.ensures (omega arith)) (ap (λ xs. get_or xs c.loop-place.place 0) (sym c.above-after.ensures))
    (subst (λ (xs : List ℕ). c.place_in.result < length xs) c.above-before.ensures c.place_in.ensures.within) (ap (λ xs. get_or xs c.place_in.result 0) (sym c.above-before.ensures) ∙ c.place_in.ensures.is) in
    omega (arith, t.moved_small, c.requires.few)

pub loop-place-preserved : goal.loop-place-preserved
loop-place-preserved c =
    let f = facts c.args.uppers.now c.args.triangles.now c.args.lower.now c.args.starts.now c.args.index c.requires.triangles c.requires.lower c.requires.starts c.requires.index in
    let t = tetrahedron-facets c.args.uppers.now c.args.starts.now c.args.index (get_or (get_or c.args.triangles.now c.args.index []) 0 0) (get_or (get_or c.args.triangles.now c.args.index []) 1 0) (get_or (get_or c.args.triangles.now c.args.index []) 2 0) (get_or (get_or c.args.lower.now c.args.index []) 0 0) (get_or (get_or c.args.lower.now c.args.index []) 1 0) (get_or (get_or c.args.lower.now c.args.index []) 2 0) c.loop-place.place (get_or c.above-after.result.now c.loop-place.place 0) c.place_in.result f.within f.there f.at c.requires.starts
    (subst (λ (xs : List ℕ). c.loop-place.place < length xs) c.above-after.ensures (omega arith)) (ap (λ xs. get_or xs c.loop-place.place 0) (sym c.above-after.ensures))
    (subst (λ (xs : List ℕ). c.place_in.result < length xs) c.above-before.ensures c.place_in.ensures.within) (ap (λ xs. get_or xs c.place_in.result 0) (sym c.above-before.ensures) ∙ c.place_in.ensures.is) in
    grown (facet_numbers (chains_of c.args.uppers.now 2)) (get_or c.args.triangles.now c.args.index []) c.args.facets.now.items c.loop-place.facets.items c.push.new.self.items c.above-after.result.now c.loop-place.place
    ((c.args.index + 1) ∷ (get_or c.args.starts.now ((get_or (get_or c.args.lower.now c.args.index []) 0 0) - 1) 0 + c.place_in.result + 1) ∷ (get_or c.args.starts.now ((get_or (get_or c.args.lower.now c.args.index []) 1 0) - 1) 0 + (c.loop-place.place + 1)) ∷ (get_or c.args.starts.now ((get_or (get_or c.args.lower.now c.args.index []) 2 0) - 1) 0 + (c.loop-place.place + 1)) ∷ [])
    c.loop-place.invariant c.in_ok-push.ensures.items (omega arith) (sym t.is ∙ ap (λ (y : List ℕ). facet_numbers (chains_of c.args.uppers.now 2) (y ++ (get_or c.above-after.result.now c.loop-place.place 0) ∷ [])) (sym f.is))

pub returns : goal.returns
returns c =
    let f = facts c.args.uppers.now c.args.triangles.now c.args.lower.now c.args.starts.now c.args.index c.requires.triangles c.requires.lower c.requires.starts c.requires.index in
    ended (facet_numbers (chains_of c.args.uppers.now 2)) (uppers_of c.args.uppers.now) (get_or c.args.triangles.now c.args.index []) (get_or (get_or c.args.triangles.now c.args.index []) 2 0) c.args.facets.now.items c.loop-place.facets.items c.above-after.result.now c.loop-place.place
    c.loop-place.invariant (search rules) c.above-after.ensures (ap (λ (y : List ℕ). get_or y (length y - 1) 0) f.is)
