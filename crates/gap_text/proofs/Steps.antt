-- One step of the code, as the definition has it.
use Rattle.std.proofs.Common.{◌≡◌, ℕ, ◌<◌, ◌≤◌, true, List, [], ◌∷◌, ◌++◌, length, map, refl, arith, Ok, Err}
use Rattle.std.proofs.lemmas.Bool.Decides.{nat_tests}
use Rattle.gap_text.specs.declared.fault.TextFault.TheVariants.{TooDeep}
use Rattle.gap_text.specs.declared.state.Phase.{Phase as CodePhase}
use Rattle.gap_text.specs.declared.state.Phase.TheVariants as phase
use Rattle.gap_text.specs.Value.{list, values}
use Rattle.gap_text.specs.Reading.{Phase, takes_value, takes_close, Level, FirstItem, at, level, put, after_open, after_close, after_dots, shape_of, range_begun}
use Rattle.gap_text.specs.States.{phase_of, levels_of}
use Rattle.gap_text.specs.declared.state.Level.{Level as CodeLevel}
use Rattle.gap_text.specs.declared.state.Shape.{Shape}
use Rattle.gap_text.specs.declared.nest.Nest.{Nest}
use Rattle.gap_text.specs.Nest.{view}
use Rattle.gap_text.proofs.Stack.{levels_of-last}

pub after_open-deep : (ph : Phase) (ls : List Level) (made p : ℕ) → takes_value ph ≡ true → 8 ≤ length ls → after_open ph ls made p ≡ Err (TooDeep p)
after_open-deep ph ls made p e h = rw e (grind (arith, nat_tests))

pub after_open-ok : (ph : Phase) (ls : List Level) (made p : ℕ) → takes_value ph ≡ true → length ls < 8 → after_open ph ls made p ≡ Ok (at FirstItem (level p [] ∷ ls) made)
after_open-ok ph ls made p e h = rw e (grind (arith, nat_tests))

-- a `]` in the innermost list
pub after_close-ok : (ph : Phase) (xs front : List CodeLevel) (x : CodeLevel) (made p : ℕ) → takes_close ph ≡ true → xs ≡ front ++ x ∷ []
    → after_close ph (levels_of xs) made p ≡ Ok (put (list x.place (values (map view x.so_far.items))) (levels_of front) made)
after_close-ok ph xs front x made p e h = rw (e, levels_of-last xs front x h) refl

-- a `..` after an item, by what the innermost list is so far
pub after_dots-shape : (ph : CodePhase) (xs front : List CodeLevel) (x : CodeLevel) (items : List Nest) (shape : Shape) (made p : ℕ) → ph ≡ phase.AfterItem → xs ≡ front ++ x ∷ [] → items ≡ x.so_far.items
    → shape ≡ shape_of (map view items) → after_dots (phase_of ph) (levels_of xs) made p ≡ range_begun shape x.place (levels_of front) made p
after_dots-shape ph xs front x items shape made p e h k l = rw (e, levels_of-last xs front x h, l, k) refl
