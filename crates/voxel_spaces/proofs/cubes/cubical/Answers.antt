use Rattle.std.proofs.Common.{◌≡◌, ℕ, List, Result, Ok, map, ap, sym, ◌∙◌}
use Rattle.std.specs.List.{items_where_true}
use Rattle.std.proofs.lemmas.Result.{MatchResult-weaker}
use Rattle.gap_text.specs.Nest.{view}
use Rattle.gap_text.specs.Value.{Value}
use Rattle.array_values.specs.declared.fault.ArrayFault.{ArrayFault}
use Rattle.array_values.specs.Answers.{and_then}
use Rattle.array_values.specs.Bits.{Bits, array_of}
use Rattle.tuple_spaces.specs.Voxels.{voxel_space, cubical_of}
use Rattle.tuple_spaces.specs.Tuples.{boxed}
use Rattle.voxel_spaces.specs.BoxTuples.{strides_of, tuple_at}
use Rattle.voxel_spaces.proofs.ArrayVoxels.{IsReady, ready}
use Rattle.voxel_spaces.proofs.cubes.cubical.Goals as goal

pub voxel_space-requires-clause-box_some : goal.voxel_space-requires-clause-box_some
voxel_space-requires-clause-box_some c =
    (ready c.in_ok-array.array.sizes c.sizes.result.now c.in_ok-array.array.bits c.bits-2.result.now c.in_ok-indices.indices.items c.deref.result.now c.sizes.ensures c.bits-2.ensures c.in_ok-indices.ensures c.deref.ensures.value c.in_ok-array.ensures.shape.full c.in_ok-array.ensures.shape.has_one).box_some

pub voxel_space-requires-clause-inside : goal.voxel_space-requires-clause-inside
voxel_space-requires-clause-inside c =
    (ready c.in_ok-array.array.sizes c.sizes.result.now c.in_ok-array.array.bits c.bits-2.result.now c.in_ok-indices.indices.items c.deref.result.now c.sizes.ensures c.bits-2.ensures c.in_ok-indices.ensures c.deref.ensures.value c.in_ok-array.ensures.shape.full c.in_ok-array.ensures.shape.has_one).inside

pub voxel_space-requires-clause-rises : goal.voxel_space-requires-clause-rises
voxel_space-requires-clause-rises c =
    (ready c.in_ok-array.array.sizes c.sizes.result.now c.in_ok-array.array.bits c.bits-2.result.now c.in_ok-indices.indices.items c.deref.result.now c.sizes.ensures c.bits-2.ensures c.in_ok-indices.ensures c.deref.ensures.value c.in_ok-array.ensures.shape.full c.in_ok-array.ensures.shape.has_one).rises

pub voxel_space-requires-clause-some : goal.voxel_space-requires-clause-some
voxel_space-requires-clause-some c =
    (ready c.in_ok-array.array.sizes c.sizes.result.now c.in_ok-array.array.bits c.bits-2.result.now c.in_ok-indices.indices.items c.deref.result.now c.sizes.ensures c.bits-2.ensures c.in_ok-indices.ensures c.deref.ensures.value c.in_ok-array.ensures.shape.full c.in_ok-array.ensures.shape.has_one).some

-- the space of the value is that of the voxels
spaces : (v : Value) (a : Bits) (sizes ones : List ℕ) → array_of 1 3 v ≡ Ok a → sizes ≡ a.sizes → IsReady sizes a.bits ones → cubical_of v ≡ voxel_space sizes (map (tuple_at (strides_of sizes)) ones)
spaces v a sizes ones h e r =
    ap (λ (x : Result Bits ArrayFault). and_then x (λ b. voxel_space b.sizes (items_where_true b.bits (boxed b.sizes)))) h
    ∙ (ap (λ (xs : List ℕ). voxel_space xs (items_where_true a.bits (boxed xs))) (sym e) ∙ ap (voxel_space sizes) r.same)

pub returns-clause-space : goal.returns-clause-space
returns-clause-space c =
    let r : IsReady c.sizes.result.now c.in_ok-array.array.bits c.deref.result.now = ready c.in_ok-array.array.sizes c.sizes.result.now c.in_ok-array.array.bits c.bits-2.result.now c.in_ok-indices.indices.items c.deref.result.now c.sizes.ensures c.bits-2.ensures c.in_ok-indices.ensures c.deref.ensures.value c.in_ok-array.ensures.shape.full c.in_ok-array.ensures.shape.has_one in
    MatchResult-weaker c.voxel_space.result c.voxel_space.ensures.space (λ space h. spaces (view c.args.nest.now) c.in_ok-array.array c.sizes.result.now c.deref.result.now c.in_ok-array.ensures.array c.sizes.ensures r ∙ h) (λ _ u. u)

pub returns-clause-fault : goal.returns-clause-fault
returns-clause-fault c =
    let r : IsReady c.sizes.result.now c.in_ok-array.array.bits c.deref.result.now = ready c.in_ok-array.array.sizes c.sizes.result.now c.in_ok-array.array.bits c.bits-2.result.now c.in_ok-indices.indices.items c.deref.result.now c.sizes.ensures c.bits-2.ensures c.in_ok-indices.ensures c.deref.ensures.value c.in_ok-array.ensures.shape.full c.in_ok-array.ensures.shape.has_one in
    MatchResult-weaker c.voxel_space.result c.voxel_space.ensures.fault (λ _ u. u) (λ fault h ne. spaces (view c.args.nest.now) c.in_ok-array.array c.sizes.result.now c.deref.result.now c.in_ok-array.ensures.array c.sizes.ensures r ∙ h ne)

pub returns-clause-regular : goal.returns-clause-regular
returns-clause-regular c =
    let r : IsReady c.sizes.result.now c.in_ok-array.array.bits c.deref.result.now = ready c.in_ok-array.array.sizes c.sizes.result.now c.in_ok-array.array.bits c.bits-2.result.now c.in_ok-indices.indices.items c.deref.result.now c.sizes.ensures c.bits-2.ensures c.in_ok-indices.ensures c.deref.ensures.value c.in_ok-array.ensures.shape.full c.in_ok-array.ensures.shape.has_one in
    MatchResult-weaker c.voxel_space.result c.voxel_space.ensures.space (λ space h. c.cubical_spaces_are_regular.ensures (view c.args.nest.now) space (spaces (view c.args.nest.now) c.in_ok-array.array c.sizes.result.now c.deref.result.now c.in_ok-array.ensures.array c.sizes.ensures r ∙ h)) (λ _ u. u)
