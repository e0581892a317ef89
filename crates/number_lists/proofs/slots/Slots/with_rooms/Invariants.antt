use Rattle.std.proofs.Common.{◌≡◌, take}
use Rattle.number_lists.proofs.Rooms.{ends_of, begins_of, end_of}
use Rattle.number_lists.proofs.slots.Slots.with_rooms.Given as goal

abbrev pub invariant-loop-room : goal.invariant-loop-room
invariant-loop-room l = record {
  ends : l.ends.items ≡ ends_of 0 (take l.room-index l.rooms);
  nexts : l.nexts.items ≡ begins_of 0 (take l.room-index l.rooms);
  total : l.total ≡ end_of 0 (take l.room-index l.rooms);
}
