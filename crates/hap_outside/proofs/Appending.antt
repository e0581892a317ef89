-- What calls of a sink append together.
use Rattle.std.proofs.Common.{◌++◌, ◌≡◌, ℕ, ◌+◌, ◌-◌, List, length, take, drop, sym, subst, Result, Ok, Err, arith, length-append}
use Rattle.std.specs.declared.option.Option.{Option}
use Rattle.hap_outside.specs.Writes.{Writes}
use Rattle.std.specs.Io.KnownBytes.{Appends}
use Rattle.std.proofs.KnownBytes.{Appends-trans}
use Rattle.std.proofs.lemmas.List.{take_rest, take-append-le}
use Rattle.std.proofs.Math.Seq.{take-add, take-append-add}

-- one more write of a front of the rest
pub appends_more : (a b c : Option (List ℕ)) (piece : List ℕ) (done n : ℕ) → Appends a b (take done piece) → Appends b c (take n (take (length piece - done) (drop done piece))) → Appends a c (take (done + n) piece)
appends_more a b c piece done n p q =
    let r = subst (λ s. Appends b c (take n s)) (take_rest piece done) q in
    subst (Appends a c) (sym (take-add done n piece)) (Appends-trans a b c _ _ p r)
