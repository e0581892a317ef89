use Rattle.std.proofs.Common.{◌≡◌, ◌≤◌, ◌-◌, [], ℕ, List, map, take, length, get_or, ap, sym, ◌∙◌, subst, arith}
use Rattle.face_poset.specs.Poset.{IsCell, count}
use Rattle.permutahedral_arrays.specs.Places.{facets_of}
use Rattle.permutahedral_arrays.proofs.Growing.{facets-cell, count-other}
use Rattle.permutahedral_arrays.proofs.spaces.add_layer.Goals as goal

pub add_cell-requires-clause-cell : goal.add_cell-requires-clause-cell
add_cell-requires-clause-cell c some =
    let above : List (List ℕ) = c.args.above.now in
    let i : ℕ = c.loop-index.index in
    let n : count c.loop-index.builder (c.args.dim - 1) ≡ length above = count-other c.loop-index.builder c.args.builder.now c.args.dim (map (facets_of above) (take i c.args.cells.now)) some c.loop-index.invariant ∙ c.requires.below some in
    let is : c.deref.result.now ≡ facets_of above c.get.result.now = c.deref.ensures.value ∙ c.in_ok-list_facets.ensures in
    let has : 1 ≤ length (facets_of above (get_or c.args.cells.now i [])) = c.requires.facets some i [] (omega (arith, c.loop-index-test.true, c.len-index-end.ensures)) in
    let same : c.deref.result.now ≡ facets_of above (get_or c.args.cells.now i []) = is ∙ ap (facets_of above) c.get.ensures in
    subst (λ (k : ℕ). IsCell k c.deref.result.now) (sym n) (facets-cell above c.get.result.now c.deref.result.now is (omega (arith, ap length same, has)))
