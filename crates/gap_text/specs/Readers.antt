-- Where the reader is within a text, as the definition has it: the state that the whole tokens leave, and what the bytes after
-- them have begun. s is a state, m a mode, r a progress, i a place, c a class.
--   Progress, progress s m    both together
--   at_start                  before the first byte
--   mode_of, reader_of        the mode and the progress that the code holds
--   past s ts m               after these tokens, and with this begun
--   fed r i c                 after a byte of this class
--   begun s i c               the same where nothing was begun
--   rest r i bs               the value of the text that goes on with these bytes
use Rattle.std.specs.Prelude.{ℕ, ◌+◌, List, length, Result, Ok, Err}
use Rattle.gap_text.specs.declared.fault.TextFault.{TextFault}
use Rattle.gap_text.specs.declared.byte.Class.{Class}
use Rattle.gap_text.specs.declared.reader.Mode.{Mode as CodeMode}
use Rattle.gap_text.specs.declared.reader.Mode.TheVariants as mode
use Rattle.gap_text.specs.declared.reader.Reader.{Reader as CodeReader}
use Rattle.gap_text.specs.Value.{Value}
use Rattle.gap_text.specs.Tokens.{Token, Mode, Between, Comment, Dot, Digits, mode_begun, tokens_begun, mode_after, tokens_at, tokens_from}
use Rattle.gap_text.specs.Reading.{State, start, run, read}
use Rattle.gap_text.specs.States.{state_of}

pub record Progress : Type 0 where
  pub state : State
  pub mode : Mode

abbrev pub progress : State → Mode → Progress
progress state mode = record { state = state; mode = mode }

abbrev pub at_start : Progress
at_start = progress start Between

abbrev pub mode_of : CodeMode → Mode
mode_of mode.Between = Between
mode_of mode.Comment = Comment
mode_of (mode.Dot p) = Dot p
mode_of (mode.Digits p n) = Digits p n

abbrev pub reader_of : CodeReader → Progress
reader_of r = progress (state_of r.state) (mode_of r.mode)

abbrev pub past : State → List Token → Mode → Result Progress TextFault
past s ts m = elim (run s ts) [ Ok next ↦ Ok (progress next m) | Err f ↦ Err f ]

abbrev pub fed : Progress → ℕ → Class → Result Progress TextFault
fed r i c = past r.state (tokens_at r.mode i c) (mode_after r.mode i c)

abbrev pub begun : State → ℕ → Class → Result Progress TextFault
begun s i c = past s (tokens_begun i c) (mode_begun i c)

abbrev pub rest : Progress → ℕ → List ℕ → Result Value TextFault
rest r i bs = read r.state (tokens_from r.mode i bs) (i + length bs)
