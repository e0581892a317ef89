-- What a buffer in front of a sink does, call by call.
use Rattle.std.proofs.Common.{◌++◌, ◌≡◌, ℕ, ◌+◌, List, [], length, take, drop, refl, sym, ap, ◌∙◌, subst, Result, Ok, Err, arith, length-append, append_assoc, append-nil, take-append-drop}
use Rattle.std.specs.declared.option.Option.{Option}
use Rattle.std.specs.Io.KnownBytes.{Appends}
use Rattle.std.proofs.KnownBytes.{Appends-nil, Appends-trans}
use Rattle.std.specs.Result.{IsErr}
use Rattle.std.proofs.lemmas.Bool.{false≢true}
use Rattle.std.proofs.lemmas.List.{take-append-le, length-drop}
use Rattle.std.proofs.Math.Seq.{take-append-add, take-append_seam}
use Rattle.hap_outside.specs.Writes.{Writes}
use Rattle.hap_outside.specs.Gathers.{Gathers}

-- an empty text changes nothing
pub gathers_nothing : {T E : Type 0} (a : Option (List ℕ)) (held : List ℕ) (x : T) → Gathers {E = E} a a held held [] (Ok x)
gathers_nothing a held x = record {
  handed = [];
  rest = held;
  all = sym (append-nil held);
  bytes = Appends-nil a;
  kept = refl;
  lost = tt;
}

-- the text is held behind the rest
pub gathers_held : {T E : Type 0} (a : Option (List ℕ)) (held text : List ℕ) (x : T) → Gathers {E = E} a a held (held ++ text) text (Ok x)
gathers_held a held text x = record {
  handed = [];
  rest = held ++ text;
  all = refl;
  bytes = Appends-nil a;
  kept = refl;
  lost = tt;
}

-- all is handed on, or a front of it
pub gathers_handed : {T E : Type 0} (a b : Option (List ℕ)) (held between after text : List ℕ) (r : Result T E) → between ≡ held ++ text → after ≡ [] → Writes a b between r → Gathers a b held after text r
gathers_handed a b held between after text (Ok x) e none w = record {
  handed = between;
  rest = [];
  all = append-nil between ∙ e;
  bytes = w.whole;
  kept = none;
  lost = tt;
}
gathers_handed a b held between after text (Err f) e none w = record {
  handed = take w.part.0 between;
  rest = drop w.part.0 between;
  all = take-append-drop w.part.0 between ∙ e;
  bytes = w.part.2;
  kept = tt;
  lost = (none, omega (arith, w.part.1, length-drop w.part.0 between));
}

-- one text after another
pub gathers_next : {T U E F : Type 0} (a b c : Option (List ℕ)) (before between after first text whole : List ℕ) (x : U) (r : Result T E) → first ++ text ≡ whole → Gathers {E = F} a b before between first (Ok x)
    → Gathers b c between after text r → Gathers a c before after whole r
gathers_next a b c before between after first text whole x r e p q = record {
  handed = p.handed ++ q.handed;
  rest = q.rest;
  all = append_assoc p.handed q.handed q.rest ∙ ap (λ l. p.handed ++ l) (q.all ∙ ap (λ l. l ++ text) p.kept)
      ∙ sym (append_assoc p.handed p.rest text) ∙ ap (λ l. l ++ text) p.all ∙ append_assoc before first text ∙ ap (λ l. before ++ l) e;
  bytes = Appends-trans a b c _ _ p.bytes q.bytes;
  kept = q.kept;
  lost = q.lost;
}

-- the first text failed
pub gathers_stop : {T U E F : Type 0} (a b : Option (List ℕ)) (before after first text whole : List ℕ) (e : E) (f : F) → first ++ text ≡ whole → Gathers {T = U} a b before after first (Err e)
    → Gathers {T = T} a b before after whole (Err f)
gathers_stop a b before after first text whole e f w p = record {
  handed = p.handed;
  rest = p.rest ++ text;
  all = sym (append_assoc p.handed p.rest text) ∙ ap (λ l. l ++ text) p.all ∙ append_assoc before first text ∙ ap (λ l. before ++ l) w;
  bytes = p.bytes;
  kept = tt;
  lost = (p.lost.0, omega (arith, p.lost.1, length-append p.rest text));
}

-- what was held was handed on before the text
pub gathers_behind : {T U E F : Type 0} (a b c : Option (List ℕ)) (before between after text : List ℕ) (x : U) (r : Result T E) → between ≡ [] → Writes {E = F} a b before (Ok x) → Gathers b c between after text r
    → Gathers a c before after text r
gathers_behind a b c before between after text x r none w p =
    gathers_next a b c before between after [] text text x r refl (gathers_handed a b before before between [] (Ok x) (sym (append-nil before)) none w) p

-- handing on what was held failed
pub gathers_lost : {T U E F : Type 0} (a b : Option (List ℕ)) (before after text : List ℕ) (e : E) (f : F) → after ≡ [] → Writes {T = U} a b before (Err e) → Gathers {T = T} a b before after text (Err f)
gathers_lost a b before after text e f none w =
    gathers_stop a b before after [] text text e f refl (gathers_handed a b before before after [] (Err e) (sym (append-nil before)) none w)

all_put : {U F : Type 0} (a b : Option (List ℕ)) (start held text : List ℕ) (x : U) → start ≡ [] → (p : Gathers {E = F} a b start held text (Ok x)) → p.handed ++ held ≡ text
all_put a b start held text x none p = ap (λ l. p.handed ++ l) p.kept ∙ p.all ∙ ap (λ l. l ++ text) none

-- all that was put is written once the rest is handed on
pub writes_all_put : {T U E F : Type 0} (a b c : Option (List ℕ)) (start held text : List ℕ) (x : U) (r : Result T E) → start ≡ [] → Gathers {E = F} a b start held text (Ok x) → Writes b c held r → Writes a c text r
writes_all_put a b c start held text x (Ok y) none p w = record {
  whole = subst (Appends a c) (all_put a b start held text x none p) (Appends-trans a b c _ _ p.bytes w.whole);
  part = tt;
}
writes_all_put a b c start held text x (Err e) none p w =
    let is : p.handed ++ held ≡ text = all_put a b start held text x none p in
    record {
      whole = tt;
      part = (
        length p.handed + w.part.0,
        omega (arith, w.part.1, length-append p.handed held, ap length is),
        subst (Appends a c) (sym (take-append-add p.handed held w.part.0) ∙ ap (take (length p.handed + w.part.0)) is) (Appends-trans a b c _ _ p.bytes w.part.2),
      );
    }

-- a put failed, and a front of what was to come was written
pub writes_some_put : {T U E F : Type 0} (a b : Option (List ℕ)) (start held text more all : List ℕ) (e : E) (f : F) → start ≡ [] → text ++ more ≡ all → Gathers {T = U} a b start held text (Err e) → Writes {T = T} a b all (Err f)
writes_some_put a b start held text more all e f none whole p = record {
  whole = tt;
  part =
      let is : p.handed ++ (p.rest ++ more) ≡ all = sym (append_assoc p.handed p.rest more) ∙ ap (λ l. l ++ more) (p.all ∙ ap (λ l. l ++ text) none) ∙ whole in (
        length p.handed,
        omega (arith, p.lost.1, length-append p.rest more, length-append p.handed (p.rest ++ more), ap length is),
        subst (Appends a b) (sym (take-append_seam p.handed (p.rest ++ more)) ∙ ap (take (length p.handed)) is) p.bytes,
      );
}

-- a front of the next text was written
pub writes_later : {T U E F : Type 0} (a b c : Option (List ℕ)) (first text rest all : List ℕ) (e : E) (f : F) → first ++ text ++ rest ≡ all → Appends a b first → Writes {T = U} b c text (Err e) → Writes {T = T} a c all (Err f)
writes_later a b c first text rest all e f whole p w =
    let front : take (length first + w.part.0) all ≡ first ++ take w.part.0 text =
    ap (take (length first + w.part.0)) (sym whole ∙ append_assoc first text rest) ∙ take-append-add first (text ++ rest) w.part.0
    ∙ ap (λ l. first ++ l) (take-append-le w.part.0 text rest (omega (arith, w.part.1))) in
    record {
      whole = tt;
      part = (
        length first + w.part.0,
        omega (arith, w.part.1, ap length whole, length-append (first ++ text) rest, length-append first text),
        subst (Appends a c) (sym front) (Appends-trans a b c _ _ p w.part.2),
      );
    }

-- the first text failed, in a call that answers that by an error of its own
pub gathers_fail : {T U E F : Type 0} (a b : Option (List ℕ)) (before after first text whole : List ℕ) (e : E) (r : Result T F) → IsErr r → Gathers {T = U} a b before after first (Err e) → first ++ text ≡ whole
    → Gathers a b before after whole r
gathers_fail a b before after first text whole e (Ok x) err p w = absurd (false≢true err)
gathers_fail a b before after first text whole e (Err f) err p w = gathers_stop a b before after first text whole e f w p

-- a text was put, and the next one failed
pub gathers_break : {T U V E F : Type 0} (a b c : Option (List ℕ)) (before between after done piece rest whole : List ℕ) (x : V) (e : E) (r : Result T F) → Gathers {E = E} a b before between done (Ok x) → IsErr r
    → Gathers {T = U} b c between after piece (Err e) → done ++ piece ++ rest ≡ whole → Gathers a c before after whole r
gathers_break {U} {E} a b c before between after done piece rest whole x e r p err q w =
    gathers_fail a c before after (done ++ piece) rest whole e r err (gathers_next {T = U} {E = E} a b c before between after done piece (done ++ piece) x (Err e) refl p q) w
