use Rattle.std.proofs.Common.{◌≡◌, ℕ, List, get_or, Contains, subst, ap, sym, ◌∙◌, arith}
use Rattle.std.specs.List.{flat_map}
use Rattle.std.proofs.lemmas.List.{take_all}
use Rattle.voxel_spaces.specs.Places.{face_places, voxel_place}
use Rattle.voxel_spaces.proofs.BoxLevels.{voxel_place-low}
use Rattle.voxel_spaces.proofs.voxels.list_places.Goals as goal

pub push_faces-requires-clause-low : goal.push_faces-requires-clause-low
push_faces-requires-clause-low c =
    omega (arith, c.voxel.ensures, voxel_place-low c.args.sides.now c.args.strides.now (get_or c.args.indices.now c.loop-index.index-index 0) c.requires.alike)

pub push_faces-requires-clause-high : goal.push_faces-requires-clause-high
push_faces-requires-clause-high c =
    omega (arith, c.voxel.ensures, voxel_place-low c.args.sides.now c.args.strides.now (get_or c.args.indices.now c.loop-index.index-index 0) c.requires.alike, c.requires.few c.loop-index.index-index 0 c.loop-index-test.true)

pub returns-clause-keeps : goal.returns-clause-keeps
returns-clause-keeps c =
    let f : ℕ → List ℕ = λ i. face_places c.args.strides.now (voxel_place c.args.sides.now c.args.strides.now i) in
    let e : c.loop-index.places.items ≡ flat_map f c.args.indices.now = c.loop-index.invariant ∙ ap (flat_map f) (take_all c.loop-index.index-index c.args.indices.now c.loop-index-test.false) in
    λ n h. c.sort_indexes_once.ensures.keeps n (subst (λ (xs : List ℕ). Contains xs n) (sym e) h)

pub returns-clause-adds_none : goal.returns-clause-adds_none
returns-clause-adds_none c =
    let f : ℕ → List ℕ = λ i. face_places c.args.strides.now (voxel_place c.args.sides.now c.args.strides.now i) in
    let e : c.loop-index.places.items ≡ flat_map f c.args.indices.now = c.loop-index.invariant ∙ ap (flat_map f) (take_all c.loop-index.index-index c.args.indices.now c.loop-index-test.false) in
    λ n h. subst (λ (xs : List ℕ). Contains xs n) e (c.sort_indexes_once.ensures.adds_none n h)
