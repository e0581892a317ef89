-- The states of the code, as the definition has them.
--   Gives see wanted result     the code's answer is what the definition gives, seen through see, or want of memory
--   Takes wanted now result     the same of a call that changes a state, which is then now
--   phase_of, level_of, levels_of, state_of
--                               the phase, an open list, the open lists, the innermost first, and the state that the code holds
--   levels_onto ls more         the open lists before these
use Rattle.std.specs.Prelude.{◌≡◌, ◌≢◌, List, [], ◌∷◌, map, Result, Ok, Err}
use Rattle.gap_text.specs.declared.fault.TextFault.{TextFault}
use Rattle.gap_text.specs.declared.fault.TextFault.TheVariants.{Memory}
use Rattle.gap_text.specs.declared.state.Phase.{Phase as CodePhase}
use Rattle.gap_text.specs.declared.state.Phase.TheVariants as phase
use Rattle.gap_text.specs.declared.state.Level.{Level as CodeLevel}
use Rattle.gap_text.specs.declared.state.State.{State as CodeState}
use Rattle.gap_text.specs.Nest.{view}
use Rattle.gap_text.specs.Reading.{State, Phase, Level, AnyValue, FirstItem, AfterItem, RangeEnd, RangeClose, Whole, Over, at, level}

abbrev pub Gives : {A B : Type 0} → (see : A → B) → Result B TextFault → Result A TextFault → Type 0
Gives see wanted (Ok a) = wanted ≡ Ok (see a)
Gives see wanted (Err f) = f ≢ Memory → wanted ≡ Err f

abbrev pub Takes : {A B : Type 0} → Result B TextFault → (now : B) → Result A TextFault → Type 0
Takes wanted now (Ok a) = wanted ≡ Ok now
Takes wanted now (Err f) = f ≢ Memory → wanted ≡ Err f

abbrev pub phase_of : CodePhase → Phase
phase_of phase.AnyValue = AnyValue
phase_of phase.FirstItem = FirstItem
phase_of phase.AfterItem = AfterItem
phase_of (phase.RangeEnd p a) = RangeEnd p a
phase_of phase.RangeClose = RangeClose
phase_of (phase.Whole n) = Whole (view n)
phase_of (phase.Over n) = Over (view n)

abbrev pub level_of : CodeLevel → Level
level_of l = level l.place (map view l.so_far.items)

abbrev pub levels_onto : List Level → List CodeLevel → List Level
levels_onto ls [] = ls
levels_onto ls (l ∷ more) = levels_onto (level_of l ∷ ls) more

abbrev pub levels_of : List CodeLevel → List Level
levels_of = levels_onto []

abbrev pub state_of : CodeState → State
state_of s = at (phase_of s.phase) (levels_of s.open_lists.items) s.made
