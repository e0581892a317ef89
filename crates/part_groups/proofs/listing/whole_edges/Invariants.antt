use Rattle.std.proofs.Common.{◌≡◌, map, take}
use Rattle.space_parts.specs.Parts.{whole_of}
use Rattle.part_groups.proofs.listing.whole_edges.Given as goal

abbrev pub invariant-loop-edge : goal.invariant-loop-edge
invariant-loop-edge l = l.edges.items ≡ map (whole_of l.group.piece 1) (take l.edge-index l.edge-items)
