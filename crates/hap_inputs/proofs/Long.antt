-- An input that is longer than the limit.
use Rattle.std.proofs.Common.{◌≡◌, ℕ, ◌<◌, ◌+◌, false, true, List, length, length-append, None, Some, Ok, refl, ap, subst, arith}
use Rattle.std.specs.Prelude.{IsSome}
use Rattle.std.specs.declared.option.Option.{Option}
use Rattle.std.specs.Io.KnownBytes.{Consumes}
use Rattle.hap_outside.specs.Stores.{Store, Opens}
use Rattle.hap_inputs.specs.Input.{OnNamed}

-- the source has bytes under the name that are more than the limit, where so many were read
pub long_input : (T E : Type 0) (store : Option Store) (name left new : Option (List ℕ)) (limit : ℕ) (bytes : List ℕ) (x : T)
    → Opens {T = T} {E = E} store name left (Ok x) → Consumes left new bytes → length bytes ≡ limit + 1 → OnNamed name store (λ all. limit < length all)
long_input T E None name left new limit bytes x opens took long = record { bytes = bytes; has = tt; holds = omega (arith, long) }
long_input T E (Some s) name left new limit bytes x opens took long = at (s name) refl opens.0 (subst (λ l. Consumes l new bytes) opens.1 took)
  where
    more : (all : List ℕ) (n : Option (List ℕ)) → Consumes (Some all) n bytes → limit < length all
    more all None p = absurd p
    more all (Some rest) p = omega (arith, long, ap length p, length-append bytes rest)

    at : (o : Option (List ℕ)) → s name ≡ o → IsSome o → Consumes o new bytes → OnNamed name (Some s) (λ all. limit < length all)
    at None e some took = absurd (let bad : false ≡ true = some in cc)
    at (Some all) e some took = record { bytes = all; has = e; holds = more all new took }
