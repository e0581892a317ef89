use Rattle.std.proofs.Common.{◌≡◌, length, take}
use Rattle.number_lists.specs.Rooms.{AllGain}
use Rattle.number_lists.proofs.cofaces.put_all.Given as goal

abbrev pub invariant-loop-number : goal.invariant-loop-number
invariant-loop-number l = record {
  rooms : l.slots.rooms ≡ l.initial.slots.rooms;
  len : length l.slots.parts ≡ length l.initial.slots.parts;
  parts : AllGain (take l.number-index l.numbers) l.value l.initial.slots.parts l.slots.parts;
}
