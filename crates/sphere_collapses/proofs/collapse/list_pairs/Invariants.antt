use Rattle.std.proofs.Common.{◌≡◌, ◌++◌, map, take, reverse}
use Rattle.sphere_collapses.specs.Trees.{disk_pair_at, vertex_pair_at}
use Rattle.sphere_collapses.proofs.collapse.list_pairs.Given as goal

abbrev pub invariant-loop-taken : goal.invariant-loop-taken
invariant-loop-taken l = l.pairs.items ≡ map (disk_pair_at l.disks l.edges) (take l.taken-index l.dual)

abbrev pub invariant-loop-index : goal.invariant-loop-index
invariant-loop-index l = l.pairs.items ≡ map (disk_pair_at l.disks l.edges) l.dual ++ map (vertex_pair_at l.vertices l.left) (take l.index (reverse l.primal))
