use Rattle.std.proofs.Common.{◌≡◌, ℕ, Bool, true, false, ◌||◌, ◌==◌, List, [], ◌∷◌, refl, sym, subst, replicate, lit<}
use Rattle.std.specs.List.{AllByRecursion, list_any}
use Rattle.std.proofs.lemmas.Bool.{eqb-true}
use Rattle.small_field.specs.Field.{IsField}
use Rattle.small_field.specs.Laws.{IsSmallField, power, total, characteristic}
use Rattle.small_field.specs.ModField.{mod_field}
use Rattle.small_field.specs.Modulus.{moduli, is_modulus, field_of}
use Rattle.small_field.specs.Tried.{all_below, passes, four_field, nine_field}

found_or : (P : ℕ → Type 0) (p x : ℕ) (b rest : Bool) → (p == x) ≡ b → (b || rest) ≡ true → P x → (rest ≡ true → P p) → P p
found_or P p x true rest e h here later = subst P (sym (eqb-true p x e)) here
found_or P p x false rest e h here later = later h

each_of : (P : ℕ → Type 0) (p : ℕ) (xs : List ℕ) → AllByRecursion P xs → list_any (λ x. p == x) xs ≡ true → P p
each_of P p [] all h = absurd (cc)
each_of P p (x ∷ xs) all h = found_or P p x (p == x) (list_any (λ x. p == x) xs) refl h all.0 (λ rest. each_of P p xs all.1 rest)

-- what holds for each modulus in the list holds for each that passes the test
pub each_modulus : (P : ℕ → Type 0) → AllByRecursion P moduli → (p : ℕ) → is_modulus p ≡ true → P p
each_modulus P all p h = each_of P p moduli all h

abbrev keeps : ℕ → ℕ → Bool
keeps p x = power (field_of p) p x == x

abbrev ends : ℕ → ℕ → Bool
ends p x = total (field_of p) (replicate (characteristic p) x) == 0

tried : (p : ℕ) → (field_of p).size ≡ p → IsField (field_of p) → all_below p (keeps p) ≡ true → all_below p (ends p) ≡ true → IsSmallField p
tried p size laws kept ended = record {
  size = size;
  laws = laws;
  powers = λ x lt. eqb-true (power (field_of p) p x) x (passes p (keeps p) x kept lt);
  multiples = λ x lt. eqb-true (total (field_of p) (replicate (characteristic p) x)) 0 (passes p (ends p) x ended lt);
}

-- each of the fields that there are
pub small_fields : (p : ℕ) → is_modulus p ≡ true → IsSmallField p
small_fields =
    let two = tried 2 refl (mod_field 2 (lit< tt) refl) refl refl in
    let three = tried 3 refl (mod_field 3 (lit< tt) refl) refl refl in
    let four = tried 4 refl four_field refl refl in
    let five = tried 5 refl (mod_field 5 (lit< tt) refl) refl refl in
    let seven = tried 7 refl (mod_field 7 (lit< tt) refl) refl refl in
    let nine = tried 9 refl nine_field refl refl in
    let eleven = tried 11 refl (mod_field 11 (lit< tt) refl) refl refl in
    let thirteen = tried 13 refl (mod_field 13 (lit< tt) refl) refl refl in
    each_modulus IsSmallField (two, (three, (four, (five, (seven, (nine, (eleven, (thirteen, tt))))))))
