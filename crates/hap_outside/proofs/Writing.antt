-- What calls of a sink append together.
use Rattle.std.proofs.Common.{◌++◌, ◌≡◌, ℕ, ◌+◌, List, length, sym, subst, Result, Ok, Err, arith, length-append}
use Rattle.std.specs.declared.option.Option.{Option}
use Rattle.std.specs.Io.KnownBytes.{Appends}
use Rattle.std.proofs.KnownBytes.{Appends-trans}
use Rattle.std.proofs.lemmas.Bool.{false≢true}
use Rattle.std.proofs.lemmas.List.{take-append-le}
use Rattle.std.proofs.Math.Seq.{take-append-add}
use Rattle.hap_outside.specs.Writes.{Writes}
use Rattle.std.specs.Result.{IsErr}

-- the first text was written whole, and then a front of the rest
pub writes_next : {T E : Type 0} (a b c : Option (List ℕ)) (first rest : List ℕ) (r : Result T E) → Appends a b first → Writes b c rest r → Writes a c (first ++ rest) r
writes_next a b c first rest (Ok x) p w = record { whole = Appends-trans a b c first rest p w.whole; part = tt }
writes_next a b c first rest (Err e) p w = record {
  whole = tt;
  part = (length first + w.part.0, rw length-append (omega (arith, w.part.1)), subst (Appends a c) (sym (take-append-add first rest w.part.0)) (Appends-trans a b c first _ p w.part.2));
}

-- the call that ends a text
pub writes_last : {T E : Type 0} (a b c : Option (List ℕ)) (first rest total : List ℕ) (r : Result T E) → Appends a b first → Writes b c rest r → first ++ rest ≡ total → Writes a c total r
writes_last a b c first rest total r p w e = subst (λ text. Writes a c text r) e (writes_next a b c first rest r p w)

-- a front of the first text was written
pub writes_stop : {T U E : Type 0} (a b : Option (List ℕ)) (first rest total : List ℕ) (f : E) (r : Result U E) → IsErr r → Writes {T = T} a b first (Err f) → first ++ rest ≡ total → Writes a b total r
writes_stop a b first rest total f (Ok x) err w e = absurd (false≢true err)
writes_stop {U = U} a b first rest total f (Err g) err w e =
    subst (λ text. Writes {T = U} a b text (Err g)) e (record {
      whole = tt;
      part = (w.part.0, rw length-append (omega (arith, w.part.1)), subst (Appends a b) (sym (take-append-le w.part.0 first rest (omega (arith, w.part.1)))) w.part.2);
    })

-- a text was written whole, and a front of the next one
pub writes_break : {T U E : Type 0} (a b c : Option (List ℕ)) (done piece rest total : List ℕ) (f : E) (r : Result U E) → Appends a b done → IsErr r → Writes {T = T} b c piece (Err f)
    → done ++ piece ++ rest ≡ total → Writes a c total r
writes_break a b c done piece rest total f r p err w e = writes_stop a c (done ++ piece) rest total f r err (writes_next a b c done piece (Err f) p w) e
