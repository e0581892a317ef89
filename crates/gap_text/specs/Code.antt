-- Values as trees of numbers, one to one, so that a contract can tell them apart.
--   code v, code_of_all vs      the tree of a value, of values
--   code_injective v w e        values with the same tree are the same
--   codes_injective vs ws e     the same of lists of values
--   value_code                  this coding
-- and, of trees: head, tail, IsNumber, IsPair, as their names say.
use Rattle.std.specs.Prelude.{◌≡◌, refl}
use Rattle.std.proofs.Common.{ap, sym, subst}
use Rattle.std.specs.Coded.{Coded}
use base.Stored.{Gv, gnil, gnum, gcons, num}
use Rattle.gap_text.specs.Value.{Value, Values, number, list, none, more}

abbrev head : Gv → Gv
head gnil = gnil
head (gnum n) = gnil
head (gcons a b) = a

abbrev tail : Gv → Gv
tail gnil = gnil
tail (gnum n) = gnil
tail (gcons a b) = b

abbrev IsNumber : Gv → Type 0
IsNumber gnil = ⊥
IsNumber (gnum n) = Unit {0}
IsNumber (gcons a b) = ⊥

abbrev IsPair : Gv → Type 0
IsPair gnil = ⊥
IsPair (gnum n) = ⊥
IsPair (gcons a b) = Unit {0}

abbrev mutual
  pub code : Value → Gv
  code (number p n) = gcons (gnum p) (gnum n)
  code (list p vs) = gcons (gnum p) (code_of_all vs)

  pub code_of_all : Values → Gv
  code_of_all none = gnil
  code_of_all (more v vs) = gcons (code v) (code_of_all vs)

no_number : (vs : Values) → IsNumber (code_of_all vs) → ⊥
no_number none h = h
no_number (more v vs) h = h

mutual
  pub code_injective : (v w : Value) → code v ≡ code w → v ≡ w
  code_injective (number p n) (number q m) e = λ i. number (num (head (e i))) (num (tail (e i)))
  code_injective (number p n) (list q ws) e = absurd (no_number ws (subst IsNumber (ap tail e) tt))
  code_injective (list p vs) (number q m) e = absurd (no_number vs (subst IsNumber (ap tail (sym e)) tt))
  code_injective (list p vs) (list q ws) e = λ i. list (num (head (e i))) (codes_injective vs ws (ap tail e) i)

  pub codes_injective : (vs ws : Values) → code_of_all vs ≡ code_of_all ws → vs ≡ ws
  codes_injective none none e = refl
  codes_injective none (more w ws) e = absurd (subst IsPair (sym e) tt)
  codes_injective (more v vs) none e = absurd (subst IsPair e tt)
  codes_injective (more v vs) (more w ws) e = λ i. more (code_injective v w (ap head e) i) (codes_injective vs ws (ap tail e) i)

abbrev pub value_code : Coded Value
value_code = record { code = code; inj = code_injective }
