-- No test of a list fails exactly where each holds.
use Rattle.std.proofs.Common.{◌≡◌, List, [], ◌∷◌, ◌++◌, Bool, true, false, cond, not, find, option_map, Option, Some, None, refl, sym}
use Rattle.std.specs.Prelude.{⊤}
use Rattle.std.proofs.lemmas.Option.{none-some}
use Rattle.cert_laws.specs.Tests.{Test}
use Rattle.cert_laws.specs.Accepted.{refusal_in}

abbrev pub AllHold : List Test → Type 0
AllHold [] = ⊤
AllHold (t ∷ ts) = (t.holds ≡ true) × AllHold ts

pub hold-append : (xs ys : List Test) → AllHold xs → AllHold ys → AllHold (xs ++ ys)
hold-append [] ys h k = k
hold-append (x ∷ xs) ys h k = (h.0, hold-append xs ys h.1 k)

pub hold-left : (xs ys : List Test) → AllHold (xs ++ ys) → AllHold xs
hold-left [] ys h = tt
hold-left (x ∷ xs) ys h = (h.0, hold-left xs ys h.1)

pub hold-right : (xs ys : List Test) → AllHold (xs ++ ys) → AllHold ys
hold-right [] ys h = h
hold-right (x ∷ xs) ys h = hold-right xs ys h.1

by_test : (b : Bool) (t : Test) (o : Option Test) → option_map (λ (t : Test). t.refusal) (cond (not b) (Some t) o) ≡ None → (b ≡ true) × (option_map (λ (t : Test). t.refusal) o ≡ None)
by_test true t o e = (refl, e)
by_test false t o e = absurd (none-some t.refusal (sym e))

pub hold-from : (ts : List Test) → refusal_in ts ≡ None → AllHold ts
hold-from [] e = tt
hold-from (t ∷ ts) e = let b = by_test t.holds t (find (λ (t : Test). not t.holds) ts) e in (b.0, hold-from ts b.1)

pub from-hold : (ts : List Test) → AllHold ts → refusal_in ts ≡ None
from-hold [] h = refl
from-hold (t ∷ ts) h = rw h.0 (from-hold ts h.1)
