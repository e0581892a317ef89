use Rattle.std.proofs.Common.{◌≡◌, ◌+◌, ◌-◌, ◌%◌, ◌<◌, ◌≤◌, ℕ, List, [], ◌∷◌, ◌++◌, length, set, ap, sym, ◌∙◌, subst, arith}
use Rattle.face_poset.specs.Poset.{IsCell, layer, count, cell_count}
use Rattle.tuple_spaces.specs.Tuples.{tuples, cells_in}
use Rattle.tuple_spaces.specs.TorusPlaces.{volume, dim_at, facets_at, stage}
use Rattle.tuple_spaces.proofs.TorusFacets.{even_turns}
use Rattle.tuple_spaces.proofs.TorusStages.{stage-more, stage-idle, stage-below, no_facets, cell_facets}
use Rattle.tuple_spaces.proofs.TorusRoom.{stage-room}
use Rattle.tuple_spaces.proofs.tori.add_cells.Goals as goal
use Rattle.tuple_spaces.proofs.tori.add_cells.Goals.{then-dimension-dim+in_ok-list_facets+in_ok-add_cell, else-dimension-dim}

pub add_cell-requires-clause-vertex : goal.add_cell-requires-clause-vertex
add_cell-requires-clause-vertex c e =
    c.deref.ensures.value
    ∙ (c.in_ok-list_facets.ensures ∙ no_facets c.args.side c.loop-place.place (omega (arith, c.requires.low)) c.loop-place-test.true (even_turns c.args.side c.requires.even) (sym c.dimension.ensures.dim ∙ (c.if-dimension-dim.true ∙ e)))

-- the facets are those of a cell over the builder
facets_fit : (side dim place : ℕ) (builder : List (List (List ℕ))) (facets : List ℕ) → 2 ≤ side → place < volume side → side % 2 ≡ 0 → dim_at side place ≡ dim → dim ≤ 3 → 1 ≤ dim → builder ≡ stage side dim place
    → facets ≡ facets_at side (dim_at side place) place → IsCell (count builder (dim - 1)) facets
facets_fit side dim place builder facets two low even e most some is same =
    let n : count builder (dim - 1) ≡ length (cells_in (tuples 3 side) (dim - 1)) = ap (λ (b : List (List (List ℕ))). count b (dim - 1)) is ∙ stage-below side dim place (omega (arith, two)) most some in
    subst (λ (k : ℕ). IsCell k facets) (sym n)
    (subst (IsCell (length (cells_in (tuples 3 side) (dim - 1)))) (sym same)
    (subst (λ (d : ℕ). IsCell (length (cells_in (tuples 3 side) (d - 1))) (facets_at side (dim_at side place) place)) e (cell_facets side place (omega (arith, two)) low (even_turns side even) (omega (arith, e, some)))))

pub add_cell-requires-clause-cell : goal.add_cell-requires-clause-cell
add_cell-requires-clause-cell c some =
    facets_fit c.args.side c.args.dim c.loop-place.place c.loop-place.builder c.deref.result.now c.requires.low c.loop-place-test.true c.requires.even (sym c.dimension.ensures.dim ∙ c.if-dimension-dim.true) c.requires.dim some c.loop-place.invariant
    (c.deref.ensures.value ∙ c.in_ok-list_facets.ensures)

pub add_cell-requires-clause-room : goal.add_cell-requires-clause-room
add_cell-requires-clause-room c =
    subst (λ (b : List (List (List ℕ))). cell_count b < 60000) (sym c.loop-place.invariant)
    (stage-room c.args.side c.args.dim c.loop-place.place c.requires.high c.requires.dim (let l : c.loop-place.place < volume c.args.side = c.loop-place-test.true in omega arith))

-- the builder with the cell
one_more : (side dim place : ℕ) (builder new : List (List (List ℕ))) (facets : List ℕ) → dim ≤ 3 → dim_at side place ≡ dim → builder ≡ stage side dim place → facets ≡ facets_at side (dim_at side place) place
    → new ≡ set builder dim (layer builder dim ++ facets ∷ []) → new ≡ stage side dim (place + 1)
one_more side dim place builder new facets most e is same added =
    added
    ∙ (ap (λ (b : List (List (List ℕ))). set b dim (layer b dim ++ facets ∷ [])) is
    ∙ (ap (λ (fs : List ℕ). set (stage side dim place) dim (layer (stage side dim place) dim ++ fs ∷ [])) (same ∙ ap (λ (d : ℕ). facets_at side d place) e) ∙ stage-more side dim place most e))

pub loop-place-preserved : goal.loop-place-preserved
loop-place-preserved c =
    elim c.if-dimension-dim.branch [
      | then-dimension-dim+in_ok-list_facets+in_ok-add_cell w ↦
          w.builder-is
          ∙ one_more c.args.side c.args.dim c.loop-place.place c.loop-place.builder w.add_cell.new.builder w.deref.result.now c.requires.dim (sym c.dimension.ensures.dim ∙ w.if-dimension-dim.true) c.loop-place.invariant
          (w.deref.ensures.value ∙ w.in_ok-list_facets.ensures) w.in_ok-add_cell.ensures
      | else-dimension-dim w ↦
          w.builder-is
          ∙ (c.loop-place.invariant ∙ stage-idle c.args.side c.args.dim c.loop-place.place c.requires.dim (λ q. w.if-dimension-dim.false (c.dimension.ensures.dim ∙ q)))
    ]
