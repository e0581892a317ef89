use Rattle.std.proofs.Common.{◌≡◌, ℕ, List, not, length, filter, ap, ◌∙◌, arith}
use Rattle.std.specs.List.{range_with_len}
use Rattle.array_values.specs.Bits.{volume}
use Rattle.voxel_spaces.specs.BoxTuples.{strides_of, tuple_at}
use Rattle.voxel_spaces.specs.ArcComplements.{box_of, stays}
use Rattle.voxel_spaces.proofs.StayingVoxels.{volume-is, stays-is, one_more, none_more}
use Rattle.voxel_spaces.proofs.arc_complement.list_staying.Goals as goal
use Rattle.voxel_spaces.proofs.arc_complement.list_staying.Goals.{then-not-is_taken+in_ok-push, else-not-is_taken}

pub loop-index-preserved : goal.loop-index-preserved
loop-index-preserved c =
    let rows : List (ℕ × ℕ) = c.args.rows.now in
    let i : ℕ = c.loop-index.index in
    let is : stays rows (tuple_at (strides_of (box_of (length rows))) i) ≡ not c.is_taken.result = stays-is rows c.args.side i c.is_taken.result c.requires.side c.is_taken.ensures in
    elim c.if-not-is_taken.branch [
      | then-not-is_taken+in_ok-push w ↦ one_more rows i c.loop-index.staying.items c.if-not-is_taken.staying.items w.push.new.self.items (is ∙ ap not w.if-not-is_taken.true) c.loop-index.invariant (ap (λ v. v.items) w.staying-is) w.in_ok-push.ensures.items
      | else-not-is_taken w ↦ none_more rows i c.loop-index.staying.items c.if-not-is_taken.staying.items (is ∙ ap not w.if-not-is_taken.false) c.loop-index.invariant (ap (λ v. v.items) w.staying-is)
    ]

pub returns : goal.returns
returns c =
    let rows : List (ℕ × ℕ) = c.args.rows.now in
    let n : c.loop-index.index ≡ volume (box_of (length rows)) = omega (arith, c.loop-index-test.false, c.loop-index.auto.index-end, volume-is (length rows) c.args.side c.requires.side) in
    c.loop-index.invariant ∙ ap (λ (m : ℕ). filter (λ i. stays rows (tuple_at (strides_of (box_of (length rows))) i)) (range_with_len 0 m)) n
