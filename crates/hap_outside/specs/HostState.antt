-- What contracts see of the source and the sinks of the host.
--   HostState                       begun: whether begin was called; rest: what is then left to read, where the host tells it; faults: how
--                                   many calls failed
--   WriterState                     written: the bytes that were handed on, where the writer tells them; faults: how many calls failed
--   origin_rest input file origin   what is left of what is open, where that tells it
--   told_once begun rest            the rest is left once the source is begun, and nothing is told before
--   none_told_before begun rest     so nothing is left before
use Rattle.std.specs.Prelude.{◌≡◌, ℕ, Bool, List, true, false}
use Rattle.std.proofs.Common.{sym, subst}
use Rattle.std.specs.Io.KnownBytes.{IsAtEnd}
use Rattle.std.specs.declared.option.Option.{Option}
use Rattle.std.specs.declared.option.Option.TheVariants.{None}
use Rattle.hap_outside.specs.declared.host.Origin.{Origin}
use Rattle.hap_outside.specs.declared.host.Origin.TheVariants.{Closed, Standard, Named}

pub record HostState : Type 0 where
  pub begun : Bool
  pub rest : Option (List ℕ)
  pub faults : ℕ

pub record WriterState : Type 0 where
  pub written : Option (List ℕ)
  pub faults : ℕ

abbrev pub origin_rest : {I F : Type 0} → (I → Option (List ℕ)) → (F → Option (List ℕ)) → Origin I F → Option (List ℕ)
origin_rest input file Closed = None
origin_rest input file (Standard reader) = input reader
origin_rest input file (Named named) = file named

abbrev pub told_once : Bool → Option (List ℕ) → Option (List ℕ)
told_once true rest = rest
told_once false rest = None

pub none_told_before : (begun : Bool) (rest : Option (List ℕ)) → begun ≡ false → IsAtEnd (told_once begun rest)
none_told_before begun rest h = subst (λ b. IsAtEnd (told_once b rest)) (sym h) tt
