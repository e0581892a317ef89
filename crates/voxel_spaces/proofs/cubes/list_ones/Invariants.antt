use Rattle.std.proofs.Common.{◌≡◌, take}
use Rattle.std.specs.List.{range_with_len, items_where_true}
use Rattle.voxel_spaces.proofs.cubes.list_ones.Given as goal

abbrev pub invariant-loop-place : goal.invariant-loop-place
invariant-loop-place l = l.ones.items ≡ items_where_true (take l.place l.bits) (range_with_len 0 l.place)
