-- What contracts see of a sink in memory.
--   PaperState                bytes: what was taken; room: how many bytes fit in all; listed: the numbers of the writes that fail;
--                             calls: how many writes were made; faults: how many failed
--   room_left paper           how many more bytes fit
--   write_fails paper piece   a write fails: its number is listed, or the piece is not empty and no room is left
use Rattle.std.specs.Prelude.{◌==◌, ◌-◌, ℕ, Bool, not, ◌&&◌, ◌||◌, List, length}
use Rattle.hap_outside.specs.Causes.{next_fails}

pub record PaperState : Type 0 where
  pub bytes : List ℕ
  pub room : ℕ
  pub listed : List ℕ
  pub calls : ℕ
  pub faults : ℕ

abbrev pub room_left : PaperState → ℕ
room_left paper = paper.room - length paper.bytes

abbrev pub write_fails : PaperState → List ℕ → Bool
write_fails paper piece =
    next_fails paper.listed paper.calls || (not (length piece == 0) && room_left paper == 0)
