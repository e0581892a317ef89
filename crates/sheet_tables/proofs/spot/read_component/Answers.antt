use Rattle.std.proofs.Common.{◌≡◌, ◌<◌, ◌+◌, ◌-◌, ◌*◌, ◌&&◌, ◌∙◌, ℕ, Bool, List, take, length, get_or, ap, sym, inl, arith}
use Rattle.std.proofs.lemmas.List.{take_more}
use Rattle.std.proofs.lemmas.List.Folds.{list_all_more}
use Rattle.sheet_tables.specs.Spots.{is_digit, digits_after}
use Rattle.sheet_tables.proofs.SpotLemmas.{component-out, digits_after-push, digits_after-front}
use Rattle.sheet_tables.proofs.spot.read_component.Goals as goal

-- the number with one more digit
more : (ds : List ℕ) (i value d : ℕ) → i < length ds → value ≡ digits_after 0 (take i ds) → d ≡ get_or ds i 0 - 48 → value * 10 + d ≡ digits_after 0 (take (i + 1) ds)
more ds i value d l e f =
    sym (ap (digits_after 0) (take_more ds i 0 l) ∙ digits_after-push 0 (take i ds) (get_or ds i 0) ∙ ap (λ (n : ℕ). n * 10 + (get_or ds i 0 - 48)) (sym e) ∙ ap (λ (n : ℕ). value * 10 + n) (sym f))

pub returns-then-component-gt60000-clause-component : goal.returns-then-component-gt60000-clause-component
returns-then-component-gt60000-clause-component c =
    let ds : List ℕ = c.args.digits.now in
    let i : ℕ = c.digits.byte-index in
    sym (component-out ds (inl (omega (arith, c.if-component-gt60000.true, more ds i c.digits.component c.from.result c.digits-test.true c.digits.invariant.value c.from.ensures, digits_after-front ds (i + 1)))))

pub digits-preserved : goal.digits-preserved
digits-preserved c =
    let ds : List ℕ = c.args.digits.now in
    let i : ℕ = c.digits.byte-index in
    record {
      value = more ds i c.digits.component c.from.result c.digits-test.true c.digits.invariant.value c.from.ensures;
      digits = list_all_more is_digit ds i 0 c.digits-test.true ∙ (ap (λ (b : Bool). b && is_digit (get_or ds i 0)) c.digits.invariant.digits ∙ (sym c.is_ascii_digit.ensures.value ∙ c.if-not-is_ascii_digit.false));
      small = c.if-component-gt60000.false;
    }
