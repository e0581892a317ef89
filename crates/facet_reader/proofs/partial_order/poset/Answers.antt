use Rattle.std.proofs.Common.{◌≡◌, ◌≤◌, ◌<◌, ℕ, List, length, ap, sym, ◌∙◌, subst, arith, All, Bool, Result, Err}
use Rattle.std.proofs.lemmas.Result.{err_from_is_err_and}
use Rattle.number_lists.specs.Words.{upto}
use Rattle.number_lists.proofs.CallerLemmas.{All-upto}
use Rattle.face_poset.specs.Poset.{Layers}
use Rattle.gap_text.specs.Nest.{view}
use Rattle.facet_reader.specs.declared.fault.FacetFault.{FacetFault}
use Rattle.facet_reader.specs.declared.fault.FacetFault.TheVariants.{TooManyCells}
use Rattle.facet_reader.specs.Orders.{is_below, is_chain, poset_of}
use Rattle.facet_reader.specs.Places.{AreSets, IsComplex}
use Rattle.facet_reader.specs.Chains.{pairs_of, places_from}
use Rattle.facet_reader.proofs.WholeOrder.{many-points, many-above, many-places, many-cells, above-long, above-points, complex-is, sets-are, all-cells, regular-cells}
use Rattle.facet_reader.proofs.partial_order.poset.Goals as goal

-- the only fault
one_fault : (r : Result Layers FacetFault) (f : FacetFault) → r ≡ Err TooManyCells → f ≡ TooManyCells → r ≡ Err f
one_fault r f h e = subst (λ (g : FacetFault). r ≡ Err g) (sym e) h

-- the points that were handed over
few_points : (n : ℕ) (above : List (List ℕ)) → length above ≡ n → n ≤ 60000 → length above ≤ 60000
few_points n above e l = omega (arith, e, l)

points_are : (n : ℕ) (above : List (List ℕ)) (given : List ℕ) → length above ≡ n → given ≡ upto n → All (λ x. (1 ≤ x) × (x ≤ length above)) given
points_are n above given e h = subst (All (λ x. (1 ≤ x) × (x ≤ length above))) (sym h) (subst (λ (k : ℕ). All (λ x. (1 ≤ x) × (x ≤ k)) (upto n)) (sym e) (All-upto n))

places_given : (n size : ℕ) (above : List (List ℕ)) (given places : List ℕ) → given ≡ upto n → places ≡ places_from above size 0 given → places ≡ places_from above size 0 (upto n)
places_given n size above given places e h = h ∙ ap (places_from above size 0) e

many_given : (n size : ℕ) (above : List (List ℕ)) (given : List ℕ) → given ≡ upto n → 60000 < length (places_from above size 0 given) → 60000 < length (places_from above size 0 (upto n))
many_given n size above given e l = subst (λ (xs : List ℕ). 60000 < length (places_from above size 0 xs)) e l

-- what was handed over is what was made
handed_complex : (n : ℕ) (a b c x y z : List ℕ) → x ≡ a → y ≡ b → z ≡ c → IsComplex n a b c → IsComplex n x y z
handed_complex n a b c x y z p q r h =
    subst (λ (w : List ℕ). IsComplex n w y z) (sym p) (subst (λ (w : List ℕ). IsComplex n a w z) (sym q) (subst (λ (w : List ℕ). IsComplex n a b w) (sym r) h))

handed_sets : (test : List ℕ → Bool) (n : ℕ) (a b c x y z : List ℕ) → x ≡ a → y ≡ b → z ≡ c → AreSets n test a b c → AreSets n test x y z
handed_sets test n a b c x y z p q r h =
    subst (λ (w : List ℕ). AreSets n test w y z) (sym p) (subst (λ (w : List ℕ). AreSets n test a w z) (sym q) (subst (λ (w : List ℕ). AreSets n test a b w) (sym r) h))

pub returns-then-vertices-gt-MOST_CELLS-clause-fault : goal.returns-then-vertices-gt-MOST_CELLS-clause-fault
returns-then-vertices-gt-MOST_CELLS-clause-fault c = λ _. many-points (view c.args.nest.now) c.in_ok-order.order.points c.in_ok-order.order.pairs c.in_ok-order.ensures.order c.if-vertices-gt-MOST_CELLS.true

pub returns-in_err-above-clause-fault : goal.returns-in_err-above-clause-fault
returns-in_err-above-clause-fault c =
    let p = err_from_is_err_and c.from_residual-in_err-above.result c.from_residual-in_err-above.ensures.1 in
    rw (p.1, p.2) (λ ne. one_fault (poset_of (view c.args.nest.now)) c.in_err-above.field-0.0 (many-above (view c.args.nest.now) c.in_ok-order.order.points c.in_ok-order.order.pairs c.in_ok-order.ensures.order (c.in_err-above.ensures.many ne)) (c.in_err-above.ensures.cause ne))

pub list_chains-requires-clause-few : goal.list_chains-requires-clause-few
list_chains-requires-clause-few c = few_points c.in_ok-order.order.points c.in_ok-above.above (above-long (view c.args.nest.now) c.in_ok-order.order.points c.in_ok-order.order.pairs c.in_ok-order.ensures.order c.in_ok-above.above c.in_ok-above.ensures.above) (omega (arith, c.if-vertices-gt-MOST_CELLS.false))

pub list_chains-requires-clause-points : goal.list_chains-requires-clause-points
list_chains-requires-clause-points c = above-points (view c.args.nest.now) c.in_ok-order.order.points c.in_ok-order.order.pairs c.in_ok-order.ensures.order c.in_ok-above.above c.in_ok-above.ensures.above

pub list_chains-requires-clause-next : goal.list_chains-requires-clause-next
list_chains-requires-clause-next c = points_are c.in_ok-order.order.points c.in_ok-above.above c.deref.result.now (above-long (view c.args.nest.now) c.in_ok-order.order.points c.in_ok-order.order.pairs c.in_ok-order.ensures.order c.in_ok-above.above c.in_ok-above.ensures.above) (c.deref.ensures.value ∙ c.in_ok-points.ensures)

pub returns-in_err-edges-clause-fault : goal.returns-in_err-edges-clause-fault
returns-in_err-edges-clause-fault c =
    let p = err_from_is_err_and c.from_residual-in_err-edges.result c.from_residual-in_err-edges.ensures.1 in
    rw (p.1, p.2) (λ ne. one_fault (poset_of (view c.args.nest.now)) c.in_err-edges.field-0.0
    (many-places (view c.args.nest.now) c.in_ok-order.order.points c.in_ok-order.order.pairs c.in_ok-order.ensures.order c.in_ok-above.above c.in_ok-above.ensures.above 1 (omega arith) (many_given c.in_ok-order.order.points 2 c.in_ok-above.above c.deref.result.now (c.deref.ensures.value ∙ c.in_ok-points.ensures) (c.in_err-edges.ensures.many ne))) (c.in_err-edges.ensures.cause ne))

pub list_chains-requires-2-clause-few : goal.list_chains-requires-2-clause-few
list_chains-requires-2-clause-few c = few_points c.in_ok-order.order.points c.in_ok-above.above (above-long (view c.args.nest.now) c.in_ok-order.order.points c.in_ok-order.order.pairs c.in_ok-order.ensures.order c.in_ok-above.above c.in_ok-above.ensures.above) (omega (arith, c.if-vertices-gt-MOST_CELLS.false))

pub list_chains-requires-2-clause-points : goal.list_chains-requires-2-clause-points
list_chains-requires-2-clause-points c = above-points (view c.args.nest.now) c.in_ok-order.order.points c.in_ok-order.order.pairs c.in_ok-order.ensures.order c.in_ok-above.above c.in_ok-above.ensures.above

pub list_chains-requires-2-clause-next : goal.list_chains-requires-2-clause-next
list_chains-requires-2-clause-next c = points_are c.in_ok-order.order.points c.in_ok-above.above c.deref-2.result.now (above-long (view c.args.nest.now) c.in_ok-order.order.points c.in_ok-order.order.pairs c.in_ok-order.ensures.order c.in_ok-above.above c.in_ok-above.ensures.above) (c.deref-2.ensures.value ∙ c.in_ok-points.ensures)

pub returns-in_err-triangles-clause-fault : goal.returns-in_err-triangles-clause-fault
returns-in_err-triangles-clause-fault c =
    let p = err_from_is_err_and c.from_residual-in_err-triangles.result c.from_residual-in_err-triangles.ensures.1 in
    rw (p.1, p.2) (λ ne. one_fault (poset_of (view c.args.nest.now)) c.in_err-triangles.field-0.0
    (many-places (view c.args.nest.now) c.in_ok-order.order.points c.in_ok-order.order.pairs c.in_ok-order.ensures.order c.in_ok-above.above c.in_ok-above.ensures.above 2 (omega arith) (many_given c.in_ok-order.order.points 3 c.in_ok-above.above c.deref-2.result.now (c.deref-2.ensures.value ∙ c.in_ok-points.ensures) (c.in_err-triangles.ensures.many ne))) (c.in_err-triangles.ensures.cause ne))

pub list_chains-requires-3-clause-few : goal.list_chains-requires-3-clause-few
list_chains-requires-3-clause-few c = few_points c.in_ok-order.order.points c.in_ok-above.above (above-long (view c.args.nest.now) c.in_ok-order.order.points c.in_ok-order.order.pairs c.in_ok-order.ensures.order c.in_ok-above.above c.in_ok-above.ensures.above) (omega (arith, c.if-vertices-gt-MOST_CELLS.false))

pub list_chains-requires-3-clause-points : goal.list_chains-requires-3-clause-points
list_chains-requires-3-clause-points c = above-points (view c.args.nest.now) c.in_ok-order.order.points c.in_ok-order.order.pairs c.in_ok-order.ensures.order c.in_ok-above.above c.in_ok-above.ensures.above

pub list_chains-requires-3-clause-next : goal.list_chains-requires-3-clause-next
list_chains-requires-3-clause-next c = points_are c.in_ok-order.order.points c.in_ok-above.above c.deref-3.result.now (above-long (view c.args.nest.now) c.in_ok-order.order.points c.in_ok-order.order.pairs c.in_ok-order.ensures.order c.in_ok-above.above c.in_ok-above.ensures.above) (c.deref-3.ensures.value ∙ c.in_ok-points.ensures)

pub returns-in_err-solids-clause-fault : goal.returns-in_err-solids-clause-fault
returns-in_err-solids-clause-fault c =
    let p = err_from_is_err_and c.from_residual-in_err-solids.result c.from_residual-in_err-solids.ensures.1 in
    rw (p.1, p.2) (λ ne. one_fault (poset_of (view c.args.nest.now)) c.in_err-solids.field-0.0
    (many-places (view c.args.nest.now) c.in_ok-order.order.points c.in_ok-order.order.pairs c.in_ok-order.ensures.order c.in_ok-above.above c.in_ok-above.ensures.above 3 (omega arith) (many_given c.in_ok-order.order.points 4 c.in_ok-above.above c.deref-3.result.now (c.deref-3.ensures.value ∙ c.in_ok-points.ensures) (c.in_err-solids.ensures.many ne))) (c.in_err-solids.ensures.cause ne))

pub returns-then-vertices-len-gt-MOST_CELLS-clause-fault : goal.returns-then-vertices-len-gt-MOST_CELLS-clause-fault
returns-then-vertices-len-gt-MOST_CELLS-clause-fault c =
    λ _. many-cells (view c.args.nest.now) c.in_ok-order.order.points c.in_ok-order.order.pairs c.in_ok-order.ensures.order c.in_ok-above.above c.in_ok-above.ensures.above c.in_ok-edges.edges.items c.in_ok-triangles.triangles.items c.in_ok-solids.solids.items
    (places_given c.in_ok-order.order.points 2 c.in_ok-above.above c.deref.result.now c.in_ok-edges.edges.items (c.deref.ensures.value ∙ c.in_ok-points.ensures) c.in_ok-edges.ensures.places)
    (places_given c.in_ok-order.order.points 3 c.in_ok-above.above c.deref-2.result.now c.in_ok-triangles.triangles.items (c.deref-2.ensures.value ∙ c.in_ok-points.ensures) c.in_ok-triangles.ensures.places)
    (places_given c.in_ok-order.order.points 4 c.in_ok-above.above c.deref-3.result.now c.in_ok-solids.solids.items (c.deref-3.ensures.value ∙ c.in_ok-points.ensures) c.in_ok-solids.ensures.places)
    (omega (arith, c.len.ensures, c.len-2.ensures, c.len-3.ensures, c.if-vertices-len-gt-MOST_CELLS.true))

pub build-requires-clause-complex : goal.build-requires-clause-complex
build-requires-clause-complex c =
    handed_complex c.in_ok-order.order.points c.in_ok-edges.edges.items c.in_ok-triangles.triangles.items c.in_ok-solids.solids.items c.deref-4.result.now c.deref-5.result.now c.deref-6.result.now c.deref-4.ensures.value c.deref-5.ensures.value c.deref-6.ensures.value
    (complex-is (view c.args.nest.now) c.in_ok-order.order.points c.in_ok-order.order.pairs c.in_ok-order.ensures.order c.in_ok-above.above c.in_ok-above.ensures.above c.in_ok-edges.edges.items c.in_ok-triangles.triangles.items c.in_ok-solids.solids.items
    (places_given c.in_ok-order.order.points 2 c.in_ok-above.above c.deref.result.now c.in_ok-edges.edges.items (c.deref.ensures.value ∙ c.in_ok-points.ensures) c.in_ok-edges.ensures.places)
    (places_given c.in_ok-order.order.points 3 c.in_ok-above.above c.deref-2.result.now c.in_ok-triangles.triangles.items (c.deref-2.ensures.value ∙ c.in_ok-points.ensures) c.in_ok-triangles.ensures.places)
    (places_given c.in_ok-order.order.points 4 c.in_ok-above.above c.deref-3.result.now c.in_ok-solids.solids.items (c.deref-3.ensures.value ∙ c.in_ok-points.ensures) c.in_ok-solids.ensures.places))

pub returns-clause-space : goal.returns-clause-space
returns-clause-space c =
    all-cells (view c.args.nest.now) c.in_ok-order.order.points c.in_ok-order.order.pairs c.in_ok-order.ensures.order c.in_ok-above.above c.in_ok-above.ensures.above c.in_ok-edges.edges.items c.in_ok-triangles.triangles.items c.in_ok-solids.solids.items
    (places_given c.in_ok-order.order.points 2 c.in_ok-above.above c.deref.result.now c.in_ok-edges.edges.items (c.deref.ensures.value ∙ c.in_ok-points.ensures) c.in_ok-edges.ensures.places)
    (places_given c.in_ok-order.order.points 3 c.in_ok-above.above c.deref-2.result.now c.in_ok-triangles.triangles.items (c.deref-2.ensures.value ∙ c.in_ok-points.ensures) c.in_ok-triangles.ensures.places)
    (places_given c.in_ok-order.order.points 4 c.in_ok-above.above c.deref-3.result.now c.in_ok-solids.solids.items (c.deref-3.ensures.value ∙ c.in_ok-points.ensures) c.in_ok-solids.ensures.places)
    c.in_ok-space.space (omega (arith, c.len.ensures, c.len-2.ensures, c.len-3.ensures, c.if-vertices-len-gt-MOST_CELLS.false))
    (c.in_ok-space.ensures (is_chain (is_below c.in_ok-order.order.points (pairs_of c.in_ok-order.order.pairs)))
    (handed_sets (is_chain (is_below c.in_ok-order.order.points (pairs_of c.in_ok-order.order.pairs))) c.in_ok-order.order.points c.in_ok-edges.edges.items c.in_ok-triangles.triangles.items c.in_ok-solids.solids.items c.deref-4.result.now c.deref-5.result.now c.deref-6.result.now c.deref-4.ensures.value c.deref-5.ensures.value c.deref-6.ensures.value
    (sets-are (view c.args.nest.now) c.in_ok-order.order.points c.in_ok-order.order.pairs c.in_ok-order.ensures.order c.in_ok-above.above c.in_ok-above.ensures.above c.in_ok-edges.edges.items c.in_ok-triangles.triangles.items c.in_ok-solids.solids.items
    (places_given c.in_ok-order.order.points 2 c.in_ok-above.above c.deref.result.now c.in_ok-edges.edges.items (c.deref.ensures.value ∙ c.in_ok-points.ensures) c.in_ok-edges.ensures.places)
    (places_given c.in_ok-order.order.points 3 c.in_ok-above.above c.deref-2.result.now c.in_ok-triangles.triangles.items (c.deref-2.ensures.value ∙ c.in_ok-points.ensures) c.in_ok-triangles.ensures.places)
    (places_given c.in_ok-order.order.points 4 c.in_ok-above.above c.deref-3.result.now c.in_ok-solids.solids.items (c.deref-3.ensures.value ∙ c.in_ok-points.ensures) c.in_ok-solids.ensures.places))))

pub returns-clause-regular : goal.returns-clause-regular
returns-clause-regular c =
    regular-cells (view c.args.nest.now) c.in_ok-order.order.points c.in_ok-order.order.pairs c.in_ok-order.ensures.order c.in_ok-above.above c.in_ok-above.ensures.above c.in_ok-edges.edges.items c.in_ok-triangles.triangles.items c.in_ok-solids.solids.items
    (places_given c.in_ok-order.order.points 2 c.in_ok-above.above c.deref.result.now c.in_ok-edges.edges.items (c.deref.ensures.value ∙ c.in_ok-points.ensures) c.in_ok-edges.ensures.places)
    (places_given c.in_ok-order.order.points 3 c.in_ok-above.above c.deref-2.result.now c.in_ok-triangles.triangles.items (c.deref-2.ensures.value ∙ c.in_ok-points.ensures) c.in_ok-triangles.ensures.places)
    (places_given c.in_ok-order.order.points 4 c.in_ok-above.above c.deref-3.result.now c.in_ok-solids.solids.items (c.deref-3.ensures.value ∙ c.in_ok-points.ensures) c.in_ok-solids.ensures.places)
    c.set_spaces_are_regular.ensures c.in_ok-space.space (omega (arith, c.len.ensures, c.len-2.ensures, c.len-3.ensures, c.if-vertices-len-gt-MOST_CELLS.false))
    (c.in_ok-space.ensures (is_chain (is_below c.in_ok-order.order.points (pairs_of c.in_ok-order.order.pairs)))
    (handed_sets (is_chain (is_below c.in_ok-order.order.points (pairs_of c.in_ok-order.order.pairs))) c.in_ok-order.order.points c.in_ok-edges.edges.items c.in_ok-triangles.triangles.items c.in_ok-solids.solids.items c.deref-4.result.now c.deref-5.result.now c.deref-6.result.now c.deref-4.ensures.value c.deref-5.ensures.value c.deref-6.ensures.value
    (sets-are (view c.args.nest.now) c.in_ok-order.order.points c.in_ok-order.order.pairs c.in_ok-order.ensures.order c.in_ok-above.above c.in_ok-above.ensures.above c.in_ok-edges.edges.items c.in_ok-triangles.triangles.items c.in_ok-solids.solids.items
    (places_given c.in_ok-order.order.points 2 c.in_ok-above.above c.deref.result.now c.in_ok-edges.edges.items (c.deref.ensures.value ∙ c.in_ok-points.ensures) c.in_ok-edges.ensures.places)
    (places_given c.in_ok-order.order.points 3 c.in_ok-above.above c.deref-2.result.now c.in_ok-triangles.triangles.items (c.deref-2.ensures.value ∙ c.in_ok-points.ensures) c.in_ok-triangles.ensures.places)
    (places_given c.in_ok-order.order.points 4 c.in_ok-above.above c.deref-3.result.now c.in_ok-solids.solids.items (c.deref-3.ensures.value ∙ c.in_ok-points.ensures) c.in_ok-solids.ensures.places))))
