use Rattle.std.proofs.Common.{◌≡◌, ℕ, suc, ◌+◌, ◌≤◌, ◌<◌, List, ◌++◌, [], ◌∷◌, map, reverse, take, length, ap, sym, ◌∙◌, subst, arith, rules}
use Rattle.std.proofs.lemmas.List.{take_all}
use Rattle.number_lists.proofs.CallerLemmas.{Contains-In}
use Rattle.face_poset.specs.declared.cells.Pair.{Pair}
use Rattle.face_poset.specs.Poset.{IsSpace, count}
use Rattle.face_poset.specs.Below.{cell_at}
use Rattle.order_complex.specs.Chains.{id_of}
use Rattle.sphere_collapses.specs.Collapses.{lower_of, upper_of}
use Rattle.local_field.specs.Buildings.{solid_building}
use Rattle.local_field.specs.Listed.{FitsCell}
use Rattle.local_field.proofs.SolidBuildings.{solid-built}
use Rattle.local_field.proofs.Solids.{PairStands, pair-stands, map-more}
use Rattle.local_field.proofs.TowerParts.{building-same}
use Rattle.local_field.proofs.building.solid_building.Goals.{After-get-pair, After-new}
use Rattle.local_field.proofs.building.solid_building.Goals as goal

here : (c : After-get-pair) → PairStands c.args.regular.now c.get-pair.result
here c =
    pair-stands c.args.regular.now (subst IsSpace c.space-space.ensures.same c.cells-solids.ensures.valid) c.args.solid c.args.face c.requires.face.first c.requires.face.last (Contains-In c.requires.face.facet) c.args.collapse.now c.requires.collapse
    c.get-pair.result c.loop-index.index (omega (arith, c.loop-index-test.true, c.len-index-end.ensures)) c.get-pair.ensures

pub id_of-requires-clause-dim : goal.id_of-requires-clause-dim
id_of-requires-clause-dim c = (let h = (here (goal.at.id_of-requires-clause-dim c).After-get-pair).flat in omega (arith, h))

pub id_of-requires-clause-number : goal.id_of-requires-clause-number
id_of-requires-clause-number c = subst (λ (space : List (List (List ℕ))). c.get-pair.result.lower ≤ count space c.get-pair.result.dim) (sym c.space-space.ensures.same) (here (goal.at.id_of-requires-clause-number c).After-get-pair).lower

pub overflow_add-pair : goal.overflow_add-pair
overflow_add-pair c = (let h = (here (goal.at.overflow_add-pair c).After-get-pair).flat in search (rules, h))

pub id_of-requires-in-loop-index-clause-dim : goal.id_of-requires-in-loop-index-clause-dim
id_of-requires-in-loop-index-clause-dim c = (let h = (here (goal.at.id_of-requires-in-loop-index-clause-dim c).After-get-pair).flat in omega (arith, h))

pub id_of-requires-in-loop-index-clause-number : goal.id_of-requires-in-loop-index-clause-number
id_of-requires-in-loop-index-clause-number c =
    subst (λ (space : List (List (List ℕ))). c.get-pair.result.upper ≤ count space (c.get-pair.result.dim + 1)) (sym c.space-space.ensures.same) (here (goal.at.id_of-requires-in-loop-index-clause-number c).After-get-pair).upper

pub loop-index-preserved : goal.loop-index-preserved
loop-index-preserved c =
    let space : List (List (List ℕ)) = c.args.regular.now in
    let p : Pair = c.get-pair.result in
    let f : Pair → ℕ × ℕ = λ q. (id_of space (lower_of q), id_of space (upper_of q)) in
    let within : c.loop-index.index < length c.args.collapse.now = omega (arith, c.loop-index-test.true, c.len-index-end.ensures) in
    let more : p.dim + 1 ≡ suc p.dim = omega arith in
    let low : c.id_of.result ≡ id_of space (lower_of p) = c.id_of.ensures ∙ ap (λ (s : List (List (List ℕ))). id_of s (lower_of p)) c.space-space.ensures.same in
    let up : c.id_of-in-loop-index.result ≡ id_of space (upper_of p) =
    c.id_of-in-loop-index.ensures ∙ (ap (λ (s : List (List (List ℕ))). id_of s (cell_at (p.dim + 1) p.upper)) c.space-space.ensures.same ∙ ap (λ (k : ℕ). id_of space (cell_at k p.upper)) more) in
    c.in_ok-push.ensures.items
    ∙ (ap (λ (xs : List (ℕ × ℕ)). xs ++ (c.id_of.result, c.id_of-in-loop-index.result) ∷ []) c.loop-index.invariant
    ∙ (ap (λ (k : ℕ). map f (take c.loop-index.index c.args.collapse.now) ++ (k, c.id_of-in-loop-index.result) ∷ []) low
    ∙ (ap (λ (k : ℕ). map f (take c.loop-index.index c.args.collapse.now) ++ (id_of space (lower_of p), k) ∷ []) up
    ∙ (ap (λ (q : Pair). map f (take c.loop-index.index c.args.collapse.now) ++ f q ∷ []) c.get-pair.ensures ∙ sym (map-more f c.args.collapse.now c.loop-index.index p within)))))

pub root_of-requires-clause-valid : goal.root_of-requires-clause-valid
root_of-requires-clause-valid c = c.cells-solids.ensures.valid

built : (c : After-new) → c.new.result ≡ solid_building c.args.regular.now c.args.solid c.args.face c.args.collapse.now
built c =
    let space : List (List (List ℕ)) = c.args.regular.now in
    let f : Pair → ℕ × ℕ = λ q. (id_of space (lower_of q), id_of space (upper_of q)) in
    let whole = take_all c.loop-index.index c.args.collapse.now (omega (arith, c.loop-index-test.false, c.len-index-end.ensures)) in
    building-same c.new.result (solid_building space c.args.solid c.args.face c.args.collapse.now)
    (c.new.ensures.root ∙ (c.root_of.ensures ∙ ap (λ (s : List (List (List ℕ))). (solid_building s c.args.solid c.args.face c.args.collapse.now).root) c.space-space.ensures.same))
    (c.new.ensures.pairs ∙ (c.reverse.ensures.items ∙ ap (λ (qs : List (ℕ × ℕ)). reverse qs) (c.loop-index.invariant ∙ ap (map f) whole)))

pub returns-clause-built : goal.returns-clause-built
returns-clause-built c = built (goal.at.returns-clause-built c).After-new

pub returns-clause-fits : goal.returns-clause-fits
returns-clause-fits c =
    let valid : IsSpace c.args.regular.now = subst IsSpace c.space-space.ensures.same c.cells-solids.ensures.valid in
    subst (FitsCell c.args.regular.now (id_of c.args.regular.now (cell_at 3 c.args.solid))) (sym (built (goal.at.returns-clause-fits c).After-new))
    (solid-built c.args.regular.now valid c.args.solid c.args.face c.requires.face.first c.requires.face.last (Contains-In c.requires.face.facet) c.args.collapse.now c.requires.collapse).fit
