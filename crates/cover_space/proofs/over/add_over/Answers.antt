use Rattle.std.proofs.Common.{◌≡◌, ℕ, ◌+◌, ◌-◌, ◌*◌, ◌<◌, ◌≤◌, List, [], ◌∷◌, ◌++◌, All, Contains, length, get_or, set, ap, sym, ◌∙◌, subst, arith}
use Rattle.std.specs.List.Sorted.{IsStrictlyIncreasing}
use Rattle.face_poset.specs.Poset.{layer, count, cell_count, facets_of, IsCell}
use Rattle.cover_space.specs.Total.{below, cell_over}
use Rattle.cover_space.specs.Making.{stage}
use Rattle.cover_space.proofs.Rising.{below-rises}
use Rattle.cover_space.proofs.Walked.{vertices-few}
use Rattle.cover_space.proofs.Layered.{written_back, place-low, next-place, stage-more, stage-below, stage-room, facets-room, facets-there, over-list, vertex-over, cell-fits, leasts-few}
use Rattle.cover_space.proofs.over.add_over.Goals as goal

pub list_over-requires-clause-cells : goal.list_over-requires-clause-cells
list_over-requires-clause-cells c =
    subst (All (λ f. (1 ≤ f) × (f ≤ length c.args.below.now))) (sym c.facets.ensures.facets)
    (subst (λ (bs : List ℕ). All (λ f. (1 ≤ f) × (f ≤ length bs)) (facets_of c.args.space.now c.args.dim c.args.cell)) (sym c.requires.below) (facets-room c.args.space.now c.args.labels.now c.requires.labelled c.args.cell c.args.dim c.requires.cell))

pub list_over-requires-clause-room : goal.list_over-requires-clause-room
list_over-requires-clause-room c =
    subst (λ (n : ℕ). n * length c.args.below.now ≤ 60000) (sym c.sheets-sheets.ensures.sheets)
    (subst (λ (bs : List ℕ). c.args.labels.now.sheets * length bs ≤ 60000) (sym c.requires.below) (leasts-few c.args.space.now c.args.labels.now c.args.dim c.requires.dim c.requires.few))

pub list_over-requires-clause-rises : goal.list_over-requires-clause-rises
list_over-requires-clause-rises c = subst IsStrictlyIncreasing (sym (c.deref.ensures.value ∙ c.requires.inside.vertices_are)) (below-rises c.args.space.now c.args.dim c.args.cell 0)

pub list_over-requires-clause-few : goal.list_over-requires-clause-few
list_over-requires-clause-few c = omega (arith, ap length (c.deref.ensures.value ∙ c.requires.inside.vertices_are), vertices-few c.args.space.now c.requires.labelled.valid c.requires.labelled.limited c.requires.labelled.regular c.args.dim c.args.cell c.requires.cell)

pub list_over-requires-clause-there : goal.list_over-requires-clause-there
list_over-requires-clause-there c =
    subst (λ (fs : List ℕ). All (λ f. Contains c.deref.result.now (get_or c.args.below.now (f - 1) 0)) fs) (sym c.facets.ensures.facets)
    (subst (λ (vs : List ℕ). All (λ f. Contains vs (get_or c.args.below.now (f - 1) 0)) (facets_of c.args.space.now c.args.dim c.args.cell)) (sym (c.deref.ensures.value ∙ c.requires.inside.vertices_are))
    (subst (λ (bs : List ℕ). All (λ f. Contains (below c.args.space.now c.args.dim c.args.cell 0) (get_or bs (f - 1) 0)) (facets_of c.args.space.now c.args.dim c.args.cell)) (sym c.requires.below) (facets-there c.args.space.now c.args.labels.now c.requires.labelled c.args.cell c.args.dim c.requires.cell)))

pub add_cell-requires-clause-room : goal.add_cell-requires-clause-room
add_cell-requires-clause-room c =
    subst (λ (b : List (List (List ℕ))). cell_count b < 60000) (sym c.loop-index.invariant.0)
    (stage-room c.args.space.now c.args.labels.now c.args.dim (c.args.labels.now.sheets * (c.args.cell - 1) + c.loop-index.index) c.requires.dim (place-low c.args.space.now c.args.labels.now (count c.args.space.now c.args.dim) c.args.cell c.loop-index.index c.requires.cell (omega (arith, c.loop-index-test.true, c.sheets-sheets.ensures.sheets))) c.requires.few)

pub add_cell-requires-clause-vertex : goal.add_cell-requires-clause-vertex
add_cell-requires-clause-vertex c zero_dim =
    let made : c.deref-in-loop-index-2.result.now ≡ cell_over c.args.space.now c.args.labels.now.sheets c.args.labels.now.labels c.args.dim c.args.cell (c.loop-index.index + 1) =
    over-list c.args.space.now c.args.labels.now c.requires.labelled c.args.cell c.args.dim (c.loop-index.index + 1) c.sheets-sheets.result c.facets.result.now c.args.below.now c.deref.result.now c.deref-in-loop-index.result.now c.write_sheets.new.over c.list_over.new.list.items c.deref-in-loop-index-2.result.now c.requires.cell
    c.sheets-sheets.ensures.sheets c.facets.ensures.facets c.requires.below (c.deref.ensures.value ∙ c.requires.inside.vertices_are) (c.deref-in-loop-index.ensures.value ∙ (written_back c.loop-index.over.len c.write_sheets.new.over c.loop-index.over.items (c.write_sheets.ensures.len ∙ ap length c.deref_mut.ensures.value) (omega (arith, c.loop-index.over.ok.0)))) c.write_sheets.ensures.over c.in_ok-list_over.ensures c.deref-in-loop-index-2.ensures.value in
    made ∙ vertex-over c.args.space.now c.args.labels.now c.requires.labelled c.args.cell c.args.dim (c.loop-index.index + 1) c.requires.cell zero_dim

pub add_cell-requires-clause-cell : goal.add_cell-requires-clause-cell
add_cell-requires-clause-cell c low =
    let made : c.deref-in-loop-index-2.result.now ≡ cell_over c.args.space.now c.args.labels.now.sheets c.args.labels.now.labels c.args.dim c.args.cell (c.loop-index.index + 1) =
    over-list c.args.space.now c.args.labels.now c.requires.labelled c.args.cell c.args.dim (c.loop-index.index + 1) c.sheets-sheets.result c.facets.result.now c.args.below.now c.deref.result.now c.deref-in-loop-index.result.now c.write_sheets.new.over c.list_over.new.list.items c.deref-in-loop-index-2.result.now c.requires.cell
    c.sheets-sheets.ensures.sheets c.facets.ensures.facets c.requires.below (c.deref.ensures.value ∙ c.requires.inside.vertices_are) (c.deref-in-loop-index.ensures.value ∙ (written_back c.loop-index.over.len c.write_sheets.new.over c.loop-index.over.items (c.write_sheets.ensures.len ∙ ap length c.deref_mut.ensures.value) (omega (arith, c.loop-index.over.ok.0)))) c.write_sheets.ensures.over c.in_ok-list_over.ensures c.deref-in-loop-index-2.ensures.value in
    subst (λ (n : ℕ). IsCell n c.deref-in-loop-index-2.result.now) (sym (ap (λ (b : List (List (List ℕ))). count b (c.args.dim - 1)) c.loop-index.invariant.0 ∙ stage-below c.args.space.now c.args.labels.now c.args.dim (c.args.labels.now.sheets * (c.args.cell - 1) + c.loop-index.index) c.requires.dim low))
    (subst (IsCell (c.args.labels.now.sheets * count c.args.space.now (c.args.dim - 1))) (sym made)
    (cell-fits c.args.space.now c.args.labels.now c.requires.labelled c.args.cell c.args.dim (c.loop-index.index + 1) c.total_is_a_space.ensures c.requires.few c.requires.cell (omega arith, omega (arith, c.loop-index-test.true, c.sheets-sheets.ensures.sheets)) low))

pub loop-index-preserved : goal.loop-index-preserved
loop-index-preserved c =
    let made : c.deref-in-loop-index-2.result.now ≡ cell_over c.args.space.now c.args.labels.now.sheets c.args.labels.now.labels c.args.dim c.args.cell (c.loop-index.index + 1) =
    over-list c.args.space.now c.args.labels.now c.requires.labelled c.args.cell c.args.dim (c.loop-index.index + 1) c.sheets-sheets.result c.facets.result.now c.args.below.now c.deref.result.now c.deref-in-loop-index.result.now c.write_sheets.new.over c.list_over.new.list.items c.deref-in-loop-index-2.result.now c.requires.cell
    c.sheets-sheets.ensures.sheets c.facets.ensures.facets c.requires.below (c.deref.ensures.value ∙ c.requires.inside.vertices_are) (c.deref-in-loop-index.ensures.value ∙ (written_back c.loop-index.over.len c.write_sheets.new.over c.loop-index.over.items (c.write_sheets.ensures.len ∙ ap length c.deref_mut.ensures.value) (omega (arith, c.loop-index.over.ok.0)))) c.write_sheets.ensures.over c.in_ok-list_over.ensures c.deref-in-loop-index-2.ensures.value in (
      c.in_ok-add_cell.ensures
          ∙ (ap (λ (b : List (List (List ℕ))). set b c.args.dim (layer b c.args.dim ++ c.deref-in-loop-index-2.result.now ∷ [])) c.loop-index.invariant.0
          ∙ (ap (λ (fs : List ℕ). set (stage c.args.space.now c.args.labels.now c.args.dim (c.args.labels.now.sheets * (c.args.cell - 1) + c.loop-index.index)) c.args.dim (layer (stage c.args.space.now c.args.labels.now c.args.dim (c.args.labels.now.sheets * (c.args.cell - 1) + c.loop-index.index)) c.args.dim ++ fs ∷ [])) made ∙ stage-more c.args.space.now c.args.labels.now c.args.dim c.args.cell c.loop-index.index c.requires.dim c.requires.cell (omega (arith, c.loop-index-test.true, c.sheets-sheets.ensures.sheets)))),
      ap length (written_back c.loop-index.over.len c.write_sheets.new.over c.loop-index.over.items (c.write_sheets.ensures.len ∙ ap length c.deref_mut.ensures.value) (omega (arith, c.loop-index.over.ok.0))) ∙ ((c.write_sheets.ensures.len ∙ ap length c.deref_mut.ensures.value) ∙ c.loop-index.invariant.1),
    )

pub returns : goal.returns
returns c =
    c.loop-index.invariant.0
    ∙ ap (stage c.args.space.now c.args.labels.now c.args.dim)
    (next-place c.args.space.now c.args.labels.now c.args.cell c.loop-index.index c.requires.cell.0 (omega (arith, c.loop-index-test.false, c.sheets-sheets.ensures.sheets)) (omega (arith, c.loop-index.auto.index-end, c.sheets-sheets.ensures.sheets)))
