use Rattle.std.proofs.Common.{◌≡◌, ℕ, List, true, take, get_or, Result, Ok, Err, OnOk, is_ok, refl, ap, sym, ◌∙◌, arith}
use Rattle.std.proofs.lemmas.Bool.{false≢true}
use Rattle.std.proofs.lemmas.List.{take_more}
use Rattle.face_poset.specs.declared.builder.BuildFault.{BuildFault}
use Rattle.number_lists.specs.Members.{In}
use Rattle.number_lists.proofs.CallerLemmas.{at-In, In-Contains}
use Rattle.voxel_spaces.specs.Places.{stage}
use Rattle.voxel_spaces.proofs.SpaceStages.{stage-idle}
use Rattle.voxel_spaces.proofs.Adding.{facets_sorted, vertex_facets, facets_fit, one_more}
use Rattle.voxel_spaces.proofs.cells.add_cells.Goals as goal
use Rattle.voxel_spaces.proofs.cells.add_cells.Goals.{then-dimension-dim+in_ok-list_facets+in_ok-map_err, else-dimension-dim}

pub list_facets-requires-clause-there : goal.list_facets-requires-clause-there
list_facets-requires-clause-there c =
    let p : ℕ = get_or c.args.places.now c.loop-place.place-index 0 in
    c.requires.closed.facets_there p (In-Contains (at-In c.args.places.now c.loop-place.place-index 0 c.loop-place-test.true))

pub list_facets-requires-clause-place : goal.list_facets-requires-clause-place
list_facets-requires-clause-place c =
    let p : ℕ = get_or c.args.places.now c.loop-place.place-index 0 in
    omega (arith, c.requires.closed.below p (In-Contains (at-In c.args.places.now c.loop-place.place-index 0 c.loop-place-test.true)), c.requires.closed.few)

pub add-requires-clause-vertex : goal.add-requires-clause-vertex
add-requires-clause-vertex c e =
    let p : ℕ = get_or c.args.places.now c.loop-place.place-index 0 in
    let i : In p c.args.places.now = at-In c.args.places.now c.loop-place.place-index 0 c.loop-place-test.true in
    c.deref.ensures.value
    ∙ (facets_sorted c.args.strides.now c.args.places.now c.requires.closed c.requires.rises p i c.list_facets.new.facets.items c.sort_once.new.numbers.items c.in_ok-list_facets.ensures c.sort_once.ensures.rises c.sort_once.ensures.keeps c.sort_once.ensures.adds_none
    ∙ vertex_facets c.args.strides.now c.args.places.now c.requires.closed c.requires.rises p i (sym c.dimension.ensures.dim ∙ (c.if-dimension-dim.true ∙ e)))

pub add-requires-clause-cell : goal.add-requires-clause-cell
add-requires-clause-cell c some =
    let p : ℕ = get_or c.args.places.now c.loop-place.place-index 0 in
    let i : In p c.args.places.now = at-In c.args.places.now c.loop-place.place-index 0 c.loop-place-test.true in
    facets_fit c.args.strides.now c.args.places.now c.requires.closed c.requires.rises c.args.dim p (take c.loop-place.place-index c.args.places.now) c.loop-place.builder c.deref.result.now i (sym c.dimension.ensures.dim ∙ c.if-dimension-dim.true) c.requires.dim some c.loop-place.invariant
    (c.deref.ensures.value ∙ facets_sorted c.args.strides.now c.args.places.now c.requires.closed c.requires.rises p i c.list_facets.new.facets.items c.sort_once.new.numbers.items c.in_ok-list_facets.ensures c.sort_once.ensures.rises c.sort_once.ensures.keeps c.sort_once.ensures.adds_none)

kept : {P : Type 0} (r : Result ℕ BuildFault) → OnOk r P → is_ok r ≡ true → P
kept (Ok n) h e = h
kept (Err f) h e = absurd (false≢true e)

pub loop-place-preserved : goal.loop-place-preserved
loop-place-preserved c =
    let j : ℕ = c.loop-place.place-index in
    let ss : List ℕ = c.args.strides.now in
    let P : List ℕ = c.args.places.now in
    let p : ℕ = get_or P j 0 in
    let i : In p P = at-In P j 0 c.loop-place-test.true in
    elim c.if-dimension-dim.branch [
      | then-dimension-dim+in_ok-list_facets+in_ok-map_err w ↦
          w.builder-is
          ∙ one_more ss P c.args.dim j p c.loop-place.builder w.add.new.self w.deref.result.now c.loop-place-test.true refl c.requires.dim (sym c.dimension.ensures.dim ∙ w.if-dimension-dim.true) c.loop-place.invariant
          (w.deref.ensures.value ∙ facets_sorted ss P c.requires.closed c.requires.rises p i w.list_facets.new.facets.items w.sort_once.new.numbers.items w.in_ok-list_facets.ensures w.sort_once.ensures.rises w.sort_once.ensures.keeps w.sort_once.ensures.adds_none)
          (kept w.add.result w.add.ensures.added (sym w.map_err.ensures.variant ∙ ap is_ok w.in_ok-map_err.was))
      | else-dimension-dim w ↦
          w.builder-is
          ∙ (c.loop-place.invariant
          ∙ (stage-idle ss P c.args.dim (take j P) p c.requires.dim (λ q. w.if-dimension-dim.false (c.dimension.ensures.dim ∙ q)) ∙ ap (stage ss P c.args.dim) (sym (take_more P j 0 c.loop-place-test.true))))
    ]
