use Rattle.std.proofs.Common.{◌≡◌, ◌<◌, ◌≤◌, ◌∙◌, ℕ, List, map, Ok, ap, sym, subst, arith}
use Rattle.tuple_spaces.specs.Tuples.{space_of}
use Rattle.array_values.specs.Bits.{volume}
use Rattle.tuple_spaces.specs.Voxels.{facets, limits_of}
use Rattle.voxel_spaces.specs.Places.{IsClosed, count_at}
use Rattle.voxel_spaces.specs.BoxTuples.{strides_of, tuple_at}
use Rattle.voxel_spaces.proofs.PlacesInBoxes.{Some}
use Rattle.voxel_spaces.proofs.ClosedPlaces.{limits-few}
use Rattle.voxel_spaces.proofs.FacetPlaces.{some_box}
use Rattle.voxel_spaces.proofs.CellPlaces.{some-at, less-at, alike-at, length-at, voxels-few, IsPlaced, placed, space-is, too_many, too_many_voxels}
use Rattle.voxel_spaces.proofs.voxels.voxel_space.Goals as goal

-- the strides from what was made one after another
chain : (sizes limits found strides now : List ℕ) → now ≡ strides → strides ≡ strides_of found → found ≡ limits → limits ≡ sizes → now ≡ strides_of sizes
chain sizes limits found strides now a b d e = a ∙ (b ∙ ap strides_of (d ∙ e))

pub returns-then-indices-gt-MOST_CELLS-clause-fault : goal.returns-then-indices-gt-MOST_CELLS-clause-fault
returns-then-indices-gt-MOST_CELLS-clause-fault c =
    λ _. too_many_voxels c.args.sizes.now c.args.indices.now c.requires.box_some c.requires.low c.requires.box_few c.requires.inside c.requires.rises c.if-indices-gt-MOST_CELLS.true

pub strides-requires-2-clause-some : goal.strides-requires-2-clause-some
strides-requires-2-clause-some c = subst Some (sym (c.deref-2.ensures.value ∙ c.in_ok-limits.ensures)) (some_box c.args.sizes.now)

pub strides-requires-2-clause-few : goal.strides-requires-2-clause-few
strides-requires-2-clause-few c =
    subst (λ (ls : List ℕ). volume ls < 1099511627776) (sym (c.deref-2.ensures.value ∙ c.in_ok-limits.ensures)) (limits-few c.args.sizes.now c.requires.box_some c.requires.low c.requires.box_few)

pub list_places-requires-clause-sides : goal.list_places-requires-clause-sides
list_places-requires-clause-sides c =
    let sizes : List ℕ = c.args.sizes.now in
    some-at sizes c.deref-3.result.now (chain sizes c.in_ok-widths.field-0.items c.deref.result.now c.in_ok-sides.sides.items c.deref-3.result.now c.deref-3.ensures.value c.in_ok-sides.ensures c.deref.ensures.value c.in_ok-widths.ensures) c.requires.box_some

pub list_places-requires-clause-strides : goal.list_places-requires-clause-strides
list_places-requires-clause-strides c =
    let L : List ℕ = limits_of c.args.sizes.now in
    some-at L c.deref-4.result.now (chain L c.in_ok-limits.field-0.items c.deref-2.result.now c.in_ok-strides.strides.items c.deref-4.result.now c.deref-4.ensures.value c.in_ok-strides.ensures c.deref-2.ensures.value c.in_ok-limits.ensures) (some_box c.args.sizes.now)

pub list_places-requires-clause-alike : goal.list_places-requires-clause-alike
list_places-requires-clause-alike c =
    let sizes : List ℕ = c.args.sizes.now in
    let L : List ℕ = limits_of c.args.sizes.now in
    alike-at sizes c.deref-3.result.now c.deref-4.result.now
    (chain sizes c.in_ok-widths.field-0.items c.deref.result.now c.in_ok-sides.sides.items c.deref-3.result.now c.deref-3.ensures.value c.in_ok-sides.ensures c.deref.ensures.value c.in_ok-widths.ensures)
    (chain L c.in_ok-limits.field-0.items c.deref-2.result.now c.in_ok-strides.strides.items c.deref-4.result.now c.deref-4.ensures.value c.in_ok-strides.ensures c.deref-2.ensures.value c.in_ok-limits.ensures)

pub list_places-requires-clause-few : goal.list_places-requires-clause-few
list_places-requires-clause-few c =
    let sizes : List ℕ = c.args.sizes.now in
    let L : List ℕ = limits_of c.args.sizes.now in
    voxels-few sizes c.deref-3.result.now c.deref-4.result.now c.args.indices.now
    (chain sizes c.in_ok-widths.field-0.items c.deref.result.now c.in_ok-sides.sides.items c.deref-3.result.now c.deref-3.ensures.value c.in_ok-sides.ensures c.deref.ensures.value c.in_ok-widths.ensures)
    (chain L c.in_ok-limits.field-0.items c.deref-2.result.now c.in_ok-strides.strides.items c.deref-4.result.now c.deref-4.ensures.value c.in_ok-strides.ensures c.deref-2.ensures.value c.in_ok-limits.ensures)
    c.requires.box_some c.requires.low c.requires.box_few c.requires.inside

pub list_places-requires-clause-small : goal.list_places-requires-clause-small
list_places-requires-clause-small c =
    let L : List ℕ = limits_of c.args.sizes.now in
    less-at L c.deref-4.result.now (chain L c.in_ok-limits.field-0.items c.deref-2.result.now c.in_ok-strides.strides.items c.deref-4.result.now c.deref-4.ensures.value c.in_ok-strides.ensures c.deref-2.ensures.value c.in_ok-limits.ensures) (some_box c.args.sizes.now)
    (limits-few c.args.sizes.now c.requires.box_some c.requires.low c.requires.box_few)

pub returns-then-len-gt-MOST_CELLS-clause-fault : goal.returns-then-len-gt-MOST_CELLS-clause-fault
returns-then-len-gt-MOST_CELLS-clause-fault c =
    let sizes : List ℕ = c.args.sizes.now in
    let L : List ℕ = limits_of c.args.sizes.now in
    let P : List ℕ = c.in_ok-places.places.items in
    let there_is : IsPlaced sizes c.deref-4.result.now c.args.indices.now P = placed sizes c.args.indices.now c.requires.box_some c.requires.low c.requires.box_few c.requires.inside c.deref-3.result.now c.deref-4.result.now P
    (chain sizes c.in_ok-widths.field-0.items c.deref.result.now c.in_ok-sides.sides.items c.deref-3.result.now c.deref-3.ensures.value c.in_ok-sides.ensures c.deref.ensures.value c.in_ok-widths.ensures)
    (chain L c.in_ok-limits.field-0.items c.deref-2.result.now c.in_ok-strides.strides.items c.deref-4.result.now c.deref-4.ensures.value c.in_ok-strides.ensures c.deref-2.ensures.value c.in_ok-limits.ensures)
    c.in_ok-places.ensures.rises c.in_ok-places.ensures.keeps c.in_ok-places.ensures.adds_none in
    λ _. too_many sizes c.args.indices.now c.requires.box_some c.requires.low c.requires.box_few c.requires.inside c.deref-4.result.now P there_is (omega (arith, c.len.ensures, c.if-len-gt-MOST_CELLS.true))

pub build-requires-clause-strides : goal.build-requires-clause-strides
build-requires-clause-strides c =
    let L : List ℕ = limits_of c.args.sizes.now in
    some-at L c.deref-5.result.now (chain L c.in_ok-limits.field-0.items c.deref-2.result.now c.in_ok-strides.strides.items c.deref-5.result.now c.deref-5.ensures.value c.in_ok-strides.ensures c.deref-2.ensures.value c.in_ok-limits.ensures) (some_box c.args.sizes.now)

pub build-requires-clause-few : goal.build-requires-clause-few
build-requires-clause-few c =
    let L : List ℕ = limits_of c.args.sizes.now in
    omega (arith, length-at c.args.sizes.now c.deref-5.result.now (chain L c.in_ok-limits.field-0.items c.deref-2.result.now c.in_ok-strides.strides.items c.deref-5.result.now c.deref-5.ensures.value c.in_ok-strides.ensures c.deref-2.ensures.value c.in_ok-limits.ensures), c.requires.low)

pub build-requires-clause-small : goal.build-requires-clause-small
build-requires-clause-small c =
    let L : List ℕ = limits_of c.args.sizes.now in
    less-at L c.deref-5.result.now (chain L c.in_ok-limits.field-0.items c.deref-2.result.now c.in_ok-strides.strides.items c.deref-5.result.now c.deref-5.ensures.value c.in_ok-strides.ensures c.deref-2.ensures.value c.in_ok-limits.ensures) (some_box c.args.sizes.now)
    (limits-few c.args.sizes.now c.requires.box_some c.requires.low c.requires.box_few)

pub build-requires-clause-closed : goal.build-requires-clause-closed
build-requires-clause-closed c =
    let sizes : List ℕ = c.args.sizes.now in
    let L : List ℕ = limits_of c.args.sizes.now in
    let P : List ℕ = c.in_ok-places.places.items in
    let there_is : IsPlaced sizes c.deref-4.result.now c.args.indices.now P = placed sizes c.args.indices.now c.requires.box_some c.requires.low c.requires.box_few c.requires.inside c.deref-3.result.now c.deref-4.result.now P
    (chain sizes c.in_ok-widths.field-0.items c.deref.result.now c.in_ok-sides.sides.items c.deref-3.result.now c.deref-3.ensures.value c.in_ok-sides.ensures c.deref.ensures.value c.in_ok-widths.ensures)
    (chain L c.in_ok-limits.field-0.items c.deref-2.result.now c.in_ok-strides.strides.items c.deref-4.result.now c.deref-4.ensures.value c.in_ok-strides.ensures c.deref-2.ensures.value c.in_ok-limits.ensures)
    c.in_ok-places.ensures.rises c.in_ok-places.ensures.keeps c.in_ok-places.ensures.adds_none in
    subst (λ (xs : List ℕ). IsClosed xs c.deref-6.result.now) (c.deref-4.ensures.value ∙ sym c.deref-5.ensures.value) (subst (IsClosed c.deref-4.result.now) (sym c.deref-6.ensures.value) there_is.closed)

pub build-requires-clause-some : goal.build-requires-clause-some
build-requires-clause-some c =
    let sizes : List ℕ = c.args.sizes.now in
    let L : List ℕ = limits_of c.args.sizes.now in
    let P : List ℕ = c.in_ok-places.places.items in
    let there_is : IsPlaced sizes c.deref-4.result.now c.args.indices.now P = placed sizes c.args.indices.now c.requires.box_some c.requires.low c.requires.box_few c.requires.inside c.deref-3.result.now c.deref-4.result.now P
    (chain sizes c.in_ok-widths.field-0.items c.deref.result.now c.in_ok-sides.sides.items c.deref-3.result.now c.deref-3.ensures.value c.in_ok-sides.ensures c.deref.ensures.value c.in_ok-widths.ensures)
    (chain L c.in_ok-limits.field-0.items c.deref-2.result.now c.in_ok-strides.strides.items c.deref-4.result.now c.deref-4.ensures.value c.in_ok-strides.ensures c.deref-2.ensures.value c.in_ok-limits.ensures)
    c.in_ok-places.ensures.rises c.in_ok-places.ensures.keeps c.in_ok-places.ensures.adds_none in
    subst (λ (xs : List ℕ). 1 ≤ count_at xs c.deref-6.result.now 0) (c.deref-4.ensures.value ∙ sym c.deref-5.ensures.value) (subst (λ (xs : List ℕ). 1 ≤ count_at c.deref-4.result.now xs 0) (sym c.deref-6.ensures.value) (there_is.vertex c.requires.some))

pub returns-clause-space : goal.returns-clause-space
returns-clause-space c =
    let sizes : List ℕ = c.args.sizes.now in
    let L : List ℕ = limits_of c.args.sizes.now in
    let P : List ℕ = c.in_ok-places.places.items in
    let there_is : IsPlaced sizes c.deref-4.result.now c.args.indices.now P = placed sizes c.args.indices.now c.requires.box_some c.requires.low c.requires.box_few c.requires.inside c.deref-3.result.now c.deref-4.result.now P
    (chain sizes c.in_ok-widths.field-0.items c.deref.result.now c.in_ok-sides.sides.items c.deref-3.result.now c.deref-3.ensures.value c.in_ok-sides.ensures c.deref.ensures.value c.in_ok-widths.ensures)
    (chain L c.in_ok-limits.field-0.items c.deref-2.result.now c.in_ok-strides.strides.items c.deref-4.result.now c.deref-4.ensures.value c.in_ok-strides.ensures c.deref-2.ensures.value c.in_ok-limits.ensures)
    c.in_ok-places.ensures.rises c.in_ok-places.ensures.keeps c.in_ok-places.ensures.adds_none in
    space-is sizes c.args.indices.now c.requires.box_some c.requires.low c.requires.box_few c.requires.inside c.deref-4.result.now P there_is (omega (arith, c.len.ensures, c.if-len-gt-MOST_CELLS.false))
    ∙ ap (λ (space : List (List (List ℕ))). Ok space)
    (ap (λ (xs : List ℕ). space_of facets (map (tuple_at xs) P)) (c.deref-4.ensures.value ∙ sym c.deref-5.ensures.value)
    ∙ (ap (λ (xs : List ℕ). space_of facets (map (tuple_at c.deref-5.result.now) xs)) (sym c.deref-6.ensures.value) ∙ sym c.in_ok-build.ensures))
