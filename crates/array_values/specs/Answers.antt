-- Answers one after another, of which the first fault stops the others.
--   and_then answer go      goes on with the answer, or stops at the fault
--   gather_from n f xs      what f gives of each item and its number, from n on, one after another; or the first fault
use Rattle.std.specs.Prelude.{ℕ, suc, List, [], ◌∷◌, ◌++◌, Result, Ok, Err}
use Rattle.array_values.specs.declared.fault.ArrayFault.{ArrayFault}

abbrev pub and_then : {A B : Type 0} → Result A ArrayFault → (A → Result B ArrayFault) → Result B ArrayFault
and_then (Ok a) go = go a
and_then (Err f) go = Err f

abbrev pub gather_from : {A B : Type 0} → ℕ → (ℕ → A → Result (List B) ArrayFault) → List A → Result (List B) ArrayFault
gather_from n f [] = Ok []
gather_from n f (x ∷ xs) = and_then (f n x) (λ ys. and_then (gather_from (suc n) f xs) (λ zs. Ok (ys ++ zs)))
