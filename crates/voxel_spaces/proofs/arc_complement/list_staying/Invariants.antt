use Rattle.std.proofs.Common.{◌≡◌, length, filter}
use Rattle.std.specs.List.{range_with_len}
use Rattle.voxel_spaces.specs.BoxTuples.{strides_of, tuple_at}
use Rattle.voxel_spaces.specs.ArcComplements.{box_of, stays}
use Rattle.voxel_spaces.proofs.arc_complement.list_staying.Given as goal

abbrev pub invariant-loop-index : goal.invariant-loop-index
invariant-loop-index l = l.staying.items ≡ filter (λ i. stays l.rows (tuple_at (strides_of (box_of (length l.rows))) i)) (range_with_len 0 l.index)
