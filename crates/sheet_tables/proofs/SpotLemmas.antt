-- The text of a spot: the slash in it, and the digits in front of that.
use Rattle.std.proofs.Common.{◌⊎◌, ◌≡◌, ◌≢◌, ◌≤◌, ◌<◌, ◌+◌, ◌-◌, ◌*◌, ◌^◌, ◌++◌, ◌∷◌, [], ℕ, Bool, true, false, cond, not, ◌&&◌, eqb, leb, Option, Some, None, List, length, get_or, take, drop, refl, sym, ◌∙◌, ap, arith, subst, append_assoc, decimal, inl, inr}
use Rattle.std.specs.Option.{option_and_then, option_map}
use Rattle.std.specs.List.{list_all}
use Rattle.std.proofs.lemmas.Bool.{eq-eqb, leb-true, le-leb, false≢true}
use Rattle.std.proofs.lemmas.Bool.Decides.{eqb_tells}
use Rattle.std.proofs.lemmas.Option.{same_Some}
use Rattle.std.proofs.lemmas.List.{append-nil, take_more, drop_more, drop_all, take-append-drop}
use Rattle.std.proofs.lemmas.List.Folds.{list_all_at}
use Rattle.std.proofs.lemmas.Fmt.{digits_decimal, digits_value-decimal, decimal-digits_value, first_decimal, decimal_nonempty}
use Rattle.std.proofs.lemmas.Str.Parse.{IsDigitsTest, FoldsDigits, IsNumeralModel, numerals_by_fold}
use Rattle.sheet_tables.specs.Positions.{IsProper, cells_text, position_from, position_text}
use Rattle.sheet_tables.specs.Spots.{is_digit, digits_after, component_from, at_slash, in_component, parts_from, spot_from, spot_text}
use Rattle.sheet_tables.proofs.PositionLemmas.{position-is, position-back}

and-parts : (a b : Bool) → (a && b) ≡ true → (a ≡ true) × (b ≡ true)
and-parts true b h = (refl, h)
and-parts false b h = absurd (false≢true h)

-- ---- digits

tells : IsDigitsTest (λ ds. list_all is_digit ds ≡ true)
tells = record {
  empty = refl;
  parts = λ c cs e. let k = and-parts (is_digit c) (list_all is_digit cs) e in let m = and-parts (leb 48 c) (leb c 57) k.0 in ((leb-true 48 c m.0, leb-true c 57 m.1), k.1);
  more = λ c cs k e. ap (λ (b : Bool). b && leb c 57 && list_all is_digit cs) (le-leb 48 c k.0) ∙ (ap (λ (b : Bool). b && list_all is_digit cs) (le-leb c 57 k.1) ∙ e);
}

folds : FoldsDigits digits_after
folds = record { empty = λ n. refl; more = λ n c cs k. refl }

numerals : IsNumeralModel (λ ds. list_all is_digit ds ≡ true) (digits_after 0)
numerals = numerals_by_fold (λ ds. list_all is_digit ds ≡ true) tells digits_after folds

pub digits_after-push : (n : ℕ) (ds : List ℕ) (d : ℕ) → digits_after n (ds ++ d ∷ []) ≡ digits_after n ds * 10 + (d - 48)
digits_after-push n [] d = refl
digits_after-push n (c ∷ ds) d = digits_after-push (n * 10 + (c - 48)) ds d

-- the digits that follow make no number smaller
digits_after-le : (n : ℕ) (ds : List ℕ) → n ≤ digits_after n ds
digits_after-le n [] = omega arith
digits_after-le n (c ∷ ds) = omega (arith, digits_after-le (n * 10 + (c - 48)) ds)

digits_after-append : (n : ℕ) (xs ys : List ℕ) → digits_after n (xs ++ ys) ≡ digits_after (digits_after n xs) ys
digits_after-append n [] ys = refl
digits_after-append n (x ∷ xs) ys = digits_after-append (n * 10 + (x - 48)) xs ys

pub digits_after-front : (ds : List ℕ) (i : ℕ) → digits_after 0 (take i ds) ≤ digits_after 0 ds
digits_after-front ds i =
    omega (arith, digits_after-append 0 (take i ds) (drop i ds), digits_after-le (digits_after 0 (take i ds)) (drop i ds), ap (digits_after 0) (take-append-drop i ds))

abbrev value_if : Bool → List ℕ → Option ℕ
value_if b ds = cond b (Some (digits_after 0 ds)) None

abbrev is_right : List ℕ → Bool
is_right ds = not (eqb (get_or ds 0 48) 48) && list_all is_digit ds && (leb 2 (digits_after 0 ds) && leb (digits_after 0 ds) 60000)

component-is : (ds : List ℕ) → component_from ds ≡ value_if (is_right ds) ds
component-is [] = refl
component-is (d ∷ ds) = refl

and_false : (a b c : Bool) → b ≡ false → (a && b && c) ≡ false
and_false true b c e = ap (λ (x : Bool). x && c) e
and_false false b c e = refl

no_component : (ds : List ℕ) → is_right ds ≡ false → component_from ds ≡ None
no_component ds e = component-is ds ∙ ap (λ (b : Bool). value_if b ds) e

-- a byte is no digit
pub component-no_digit : (ds : List ℕ) (i : ℕ) → i < length ds → is_digit (get_or ds i 0) ≡ false → component_from ds ≡ None
component-no_digit ds i l e =
    no_component ds (and_false (not (eqb (get_or ds 0 48) 48)) (list_all is_digit ds) _ (list_all_at is_digit ds i 0 l e))

-- the number is out of range
pub component-out : (ds : List ℕ) → (60000 < digits_after 0 ds) ⊎ (digits_after 0 ds < 2) → component_from ds ≡ None
component-out ds h = no_component ds (last (not (eqb (get_or ds 0 48) 48) && list_all is_digit ds) (out h))
  where
    out : (60000 < digits_after 0 ds) ⊎ (digits_after 0 ds < 2) → (leb 2 (digits_after 0 ds) && leb (digits_after 0 ds) 60000) ≡ false
    out (inl a) = both (leb 2 (digits_after 0 ds)) (above (leb (digits_after 0 ds) 60000) refl)
      where
        above : (b : Bool) → leb (digits_after 0 ds) 60000 ≡ b → b ≡ false
        above true e = absurd (omega (arith, leb-true (digits_after 0 ds) 60000 e))
        above false e = refl

        both : (x : Bool) {y : Bool} → y ≡ false → (x && y) ≡ false
        both true e = e
        both false e = refl
    out (inr a) = ap (λ (x : Bool). x && leb (digits_after 0 ds) 60000) (below (leb 2 (digits_after 0 ds)) refl)
      where
        below : (b : Bool) → leb 2 (digits_after 0 ds) ≡ b → b ≡ false
        below true e = absurd (omega (arith, leb-true 2 (digits_after 0 ds) e))
        below false e = refl

    last : (x : Bool) {y : Bool} → y ≡ false → (x && y) ≡ false
    last true e = e
    last false e = refl

-- the first byte is no digit from 1 to 9
pub component-no_first : (ds : List ℕ) → (1 ≤ length ds → (get_or ds 0 0 < 49) ⊎ (57 < get_or ds 0 0)) → component_from ds ≡ None
component-no_first [] h = refl
component-no_first (d ∷ ds) h = at (eqb_tells d 48)
  where
    at : ((eqb d 48 ≡ true) × (d ≡ 48)) ⊎ ((eqb d 48 ≡ false) × (d ≢ 48)) → component_from (d ∷ ds) ≡ None
    at (inl p) = no_component (d ∷ ds) (ap (λ (b : Bool). not b && list_all is_digit (d ∷ ds) && (leb 2 (digits_after 0 (d ∷ ds)) && leb (digits_after 0 (d ∷ ds)) 60000)) p.0)
    at (inr p) = component-no_digit (d ∷ ds) 0 (omega arith) (none (is_digit d) refl)
      where
        none : (b : Bool) → is_digit d ≡ b → b ≡ false
        none true e =
            let k = and-parts (leb 48 d) (leb d 57) e in
            let low : 48 ≤ d = leb-true 48 d k.0 in
            let high : d ≤ 57 = leb-true d 57 k.1 in
            let same : d ≢ 48 = p.1 in
            absurd (elim (h (omega arith)) [ inl a ↦ same (omega arith) | inr a ↦ omega arith ])
        none false e = refl

-- digits, the first of which is not 0, that make a number in the range
pub component-some : (ds : List ℕ) → 1 ≤ length ds → 49 ≤ get_or ds 0 0 → list_all is_digit ds ≡ true → 2 ≤ digits_after 0 ds → digits_after 0 ds ≤ 60000 → component_from ds ≡ Some (digits_after 0 ds)
component-some [] l first digits low high = absurd (omega arith)
component-some (d ∷ ds) l first digits low high =
    ap (λ (b : Bool). value_if (not b && list_all is_digit (d ∷ ds) && (leb 2 (digits_after 0 (d ∷ ds)) && leb (digits_after 0 (d ∷ ds)) 60000)) (d ∷ ds)) (differs (eqb_tells d 48))
    ∙ (ap (λ (b : Bool). value_if (b && (leb 2 (digits_after 0 (d ∷ ds)) && leb (digits_after 0 (d ∷ ds)) 60000)) (d ∷ ds)) digits
    ∙ (ap (λ (b : Bool). value_if (b && leb (digits_after 0 (d ∷ ds)) 60000) (d ∷ ds)) (le-leb 2 (digits_after 0 (d ∷ ds)) low)
    ∙ ap (λ (b : Bool). value_if b (d ∷ ds)) (le-leb (digits_after 0 (d ∷ ds)) 60000 high)))
  where
    differs : ((eqb d 48 ≡ true) × (d ≡ 48)) ⊎ ((eqb d 48 ≡ false) × (d ≢ 48)) → eqb d 48 ≡ false
    differs (inl p) = absurd (omega (arith, p.1))
    differs (inr p) = p.0

value-some : (b : Bool) (ds : List ℕ) (n : ℕ) → value_if b ds ≡ Some n → (b ≡ true) × (digits_after 0 ds ≡ n)
value-some true ds n e = (refl, same_Some (digits_after 0 ds) n e)
value-some false ds n e = cc

-- a component is written by its decimal digits
component-decimal : (ds : List ℕ) (n : ℕ) → component_from ds ≡ Some n → (2 ≤ n) × (n ≤ 60000) × (ds ≡ decimal n)
component-decimal [] n e = cc
component-decimal (d ∷ ds) n e =
    let k = value-some (is_right (d ∷ ds)) (d ∷ ds) n e in
    let a = and-parts (not (eqb d 48) && list_all is_digit (d ∷ ds)) (leb 2 (digits_after 0 (d ∷ ds)) && leb (digits_after 0 (d ∷ ds)) 60000) k.0 in
    let b = and-parts (not (eqb d 48)) (list_all is_digit (d ∷ ds)) a.0 in
    let c = and-parts (leb 2 (digits_after 0 (d ∷ ds))) (leb (digits_after 0 (d ∷ ds)) 60000) a.1 in
    let low : 2 ≤ digits_after 0 (d ∷ ds) = leb-true 2 (digits_after 0 (d ∷ ds)) c.0 in
    let high : digits_after 0 (d ∷ ds) ≤ 60000 = leb-true (digits_after 0 (d ∷ ds)) 60000 c.1 in
    let is : digits_after 0 (d ∷ ds) ≡ n = k.1 in
    let text : decimal (digits_after 0 (d ∷ ds)) ≡ d ∷ ds = decimal-digits_value numerals (d ∷ ds) b.1 (omega arith) (λ z. absurd (false≢true (sym (ap not (eq-eqb d 48 z)) ∙ b.0))) (omega arith) in
    (omega arith, omega arith, sym text ∙ ap decimal is)

decimal-component : (n : ℕ) → 2 ≤ n → n ≤ 60000 → component_from (decimal n) ≡ Some n
decimal-component n low high =
    let small : n < 2 ^ 64 = omega arith in
    let is : digits_after 0 (decimal n) ≡ n = digits_value-decimal numerals n small in
    component-some (decimal n) (decimal_nonempty n small) (first_decimal n (omega arith) small) (digits_decimal numerals n small) (omega arith) (omega arith)
    ∙ ap (λ (m : ℕ). Some m) is

-- ---- the slash

abbrev behind : List ℕ → List ℕ × List ℕ → List ℕ × List ℕ
behind front parts = (front ++ parts.0, parts.1)

pub abbrev_none : (o : Option (List ℕ × List ℕ)) → o ≡ option_map (behind []) o
abbrev_none None = refl
abbrev_none (Some p) = refl

-- the bytes before an index have no slash
pub slash_more : (text : List ℕ) (i : ℕ) (o : Option (List ℕ × List ℕ)) → o ≡ option_map (behind (take i text)) (at_slash (drop i text)) → i < length text → get_or text i 0 ≢ 47
    → o ≡ option_map (behind (take (i + 1) text)) (at_slash (drop (i + 1) text))
slash_more text i o h l differs =
    h ∙ ap (λ (xs : List ℕ). option_map (behind (take i text)) (at_slash xs)) (drop_more text i 0 l)
    ∙ ap (λ (b : Bool). option_map (behind (take i text)) (cond b (Some ([], drop (i + 1) text)) (option_map (λ parts. (get_or text i 0 ∷ parts.0, parts.1)) (at_slash (drop (i + 1) text))))) (other (eqb_tells (get_or text i 0) 47))
    ∙ moved (at_slash (drop (i + 1) text))
    ∙ ap (λ (xs : List ℕ). option_map (behind xs) (at_slash (drop (i + 1) text))) (sym (take_more text i 0 l))
  where
    other : ((eqb (get_or text i 0) 47 ≡ true) × (get_or text i 0 ≡ 47)) ⊎ ((eqb (get_or text i 0) 47 ≡ false) × (get_or text i 0 ≢ 47)) → eqb (get_or text i 0) 47 ≡ false
    other (inl p) = absurd (differs p.1)
    other (inr p) = p.0

    moved : (p : Option (List ℕ × List ℕ)) → option_map (behind (take i text)) (option_map (λ parts. (get_or text i 0 ∷ parts.0, parts.1)) p) ≡ option_map (behind (take i text ++ get_or text i 0 ∷ [])) p
    moved None = refl
    moved (Some p) = ap (λ (xs : List ℕ). Some (xs, p.1)) (sym (append_assoc (take i text) (get_or text i 0 ∷ []) p.0))

-- the slash is at the index
pub slash_here : (text : List ℕ) (i : ℕ) (o : Option (List ℕ × List ℕ)) → o ≡ option_map (behind (take i text)) (at_slash (drop i text)) → i < length text → get_or text i 0 ≡ 47
    → o ≡ Some (take i text, drop (i + 1) text)
slash_here text i o h l same =
    h ∙ ap (λ (xs : List ℕ). option_map (behind (take i text)) (at_slash xs)) (drop_more text i 0 l)
    ∙ ap (λ (b : Bool). option_map (behind (take i text)) (cond b (Some ([], drop (i + 1) text)) (option_map (λ parts. (get_or text i 0 ∷ parts.0, parts.1)) (at_slash (drop (i + 1) text))))) (eq-eqb (get_or text i 0) 47 same)
    ∙ ap (λ (xs : List ℕ). Some (xs, drop (i + 1) text)) (append-nil (take i text))

-- no byte is a slash
pub slash_none : (text : List ℕ) (i : ℕ) (o : Option (List ℕ × List ℕ)) → o ≡ option_map (behind (take i text)) (at_slash (drop i text)) → length text ≤ i → o ≡ None
slash_none text i o h l = h ∙ ap (λ (xs : List ℕ). option_map (behind (take i text)) (at_slash xs)) (drop_all i text l)

slash_cons : (b : ℕ) (bs front back : List ℕ) → ((f k : List ℕ) → at_slash bs ≡ Some (f, k) → bs ≡ f ++ 47 ∷ k) → at_slash (b ∷ bs) ≡ Some (front, back) → b ∷ bs ≡ front ++ 47 ∷ back
slash_cons b bs front back rest e = at (eqb b 47) (eqb_tells b 47) e
  where
    later : (o : Option (List ℕ × List ℕ)) → at_slash bs ≡ o → option_map {U = List ℕ × List ℕ} (λ parts. (b ∷ parts.0, parts.1)) o ≡ Some (front, back) → b ∷ bs ≡ front ++ 47 ∷ back
    later None f e = cc
    later (Some p) f e =
        let pair : (b ∷ p.0, p.1) ≡ (front, back) = same_Some (b ∷ p.0, p.1) (front, back) e in
        let front-is : b ∷ p.0 ≡ front = ap (λ (x : List ℕ × List ℕ). x.0) pair in
        let back-is : p.1 ≡ back = ap (λ (x : List ℕ × List ℕ). x.1) pair in
        ap (λ (xs : List ℕ). b ∷ xs) (rest p.0 p.1 f) ∙ (ap (λ (xs : List ℕ). xs ++ 47 ∷ p.1) front-is ∙ ap (λ (xs : List ℕ). front ++ 47 ∷ xs) back-is)

    at : (t : Bool) → ((t ≡ true) × (b ≡ 47)) ⊎ ((t ≡ false) × (b ≢ 47)) → cond {A = Option (List ℕ × List ℕ)} t (Some ([], bs)) (option_map {U = List ℕ × List ℕ} (λ parts. (b ∷ parts.0, parts.1)) (at_slash bs)) ≡ Some (front, back) → b ∷ bs ≡ front ++ 47 ∷ back
    at true (inl p) e =
        let pair : ([], bs) ≡ (front, back) = same_Some ([], bs) (front, back) e in
        ap (λ (x : ℕ). x ∷ bs) p.1 ∙ (ap (λ (xs : List ℕ). xs ++ 47 ∷ bs) (ap (λ (x : List ℕ × List ℕ). x.0) pair) ∙ ap (λ (xs : List ℕ). front ++ 47 ∷ xs) (ap (λ (x : List ℕ × List ℕ). x.1) pair))
    at true (inr p) e = absurd (false≢true (sym p.0))
    at false (inl p) e = absurd (false≢true p.0)
    at false (inr p) e = later (at_slash bs) refl e

-- what stands around the first slash makes up the text
slash-is : (text front back : List ℕ) → at_slash text ≡ Some (front, back) → text ≡ front ++ 47 ∷ back
slash-is [] front back e = cc
slash-is (b ∷ bs) front back e = slash_cons b bs front back (slash-is bs) e

abbrev is_no_slash : ℕ → Bool
is_no_slash b = not (eqb b 47)

step_over : (b : ℕ) (bs : List ℕ) → is_no_slash b ≡ true → at_slash (b ∷ bs) ≡ option_map (λ parts. (b ∷ parts.0, parts.1)) (at_slash bs)
step_over b bs e = at (eqb b 47) e
  where
    at : (t : Bool) → not t ≡ true → cond {A = Option (List ℕ × List ℕ)} t (Some ([], bs)) (option_map (λ parts. (b ∷ parts.0, parts.1)) (at_slash bs)) ≡ option_map (λ parts. (b ∷ parts.0, parts.1)) (at_slash bs)
    at true e = absurd (false≢true e)
    at false e = refl

-- the first slash behind bytes that have none
at_slash-found : (front back : List ℕ) → list_all is_no_slash front ≡ true → at_slash (front ++ 47 ∷ back) ≡ Some (front, back)
at_slash-found [] back h = refl
at_slash-found (b ∷ bs) back h =
    let k = and-parts (is_no_slash b) (list_all is_no_slash bs) h in
    step_over b (bs ++ 47 ∷ back) k.0 ∙ ap (option_map (λ parts. (b ∷ parts.0, parts.1))) (at_slash-found bs back k.1)

at_slash-none : (text : List ℕ) → list_all is_no_slash text ≡ true → at_slash text ≡ None
at_slash-none [] h = refl
at_slash-none (b ∷ bs) h =
    let k = and-parts (is_no_slash b) (list_all is_no_slash bs) h in
    step_over b bs k.0 ∙ ap (option_map (λ parts. (b ∷ parts.0, parts.1))) (at_slash-none bs k.1)

no_slash : (b : ℕ) → b ≢ 47 → is_no_slash b ≡ true
no_slash b differs = elim (eqb_tells b 47) [ inl p ↦ absurd (differs p.1) | inr p ↦ ap not p.0 ]

no_slash-digits : (ds : List ℕ) → list_all is_digit ds ≡ true → list_all is_no_slash ds ≡ true
no_slash-digits [] h = refl
no_slash-digits (d ∷ ds) h =
    let k = and-parts (is_digit d) (list_all is_digit ds) h in
    let low : 48 ≤ d = leb-true 48 d (and-parts (leb 48 d) (leb d 57) k.0).0 in
    ap (λ (b : Bool). b && list_all is_no_slash ds) (no_slash d (λ e. omega arith)) ∙ no_slash-digits ds k.1

no_slash-cells : (cells : List ℕ) → list_all is_no_slash (cells_text cells) ≡ true
no_slash-cells [] = refl
no_slash-cells (c ∷ []) = ap (λ (b : Bool). b && true) (no_slash (48 + c) (λ e. omega arith))
no_slash-cells (c ∷ d ∷ cells) = ap (λ (b : Bool). b && list_all is_no_slash (cells_text (d ∷ cells))) (no_slash (48 + c) (λ e. omega arith)) ∙ no_slash-cells (d ∷ cells)

no_slash-position : (sheets : ℕ) (cells : List ℕ) → list_all is_no_slash (position_text sheets cells) ≡ true
no_slash-position sheets cells = ap (λ (b : Bool). b && list_all is_no_slash (cells_text cells)) (no_slash (48 + sheets) (λ e. omega arith)) ∙ no_slash-cells cells

-- ---- spots

abbrev Spelled : (text : List ℕ) (component sheets : ℕ) (cells : List ℕ) → Type 0
Spelled text component sheets cells = (1 ≤ component) × (component ≤ 60000) × IsProper sheets cells × (text ≡ spot_text component sheets cells)

placed : (component k m : ℕ) (cells : List ℕ) (o : Option (ℕ × List ℕ)) → in_component k o ≡ Some (component, m, cells) → (k ≡ component) × (o ≡ Some (m, cells))
placed component k m cells None e = cc
placed component k m cells (Some p) e =
    let all : (k, p.0, p.1) ≡ (component, m, cells) = same_Some (k, p.0, p.1) (component, m, cells) e in
    (ap (λ (x : ℕ × ℕ × List ℕ). x.0) all, ap (λ (x : ℕ × ℕ × List ℕ). Some (x.1, x.2)) all)

not_one : (n : ℕ) → 2 ≤ n → eqb n 1 ≡ false
not_one n low = elim (eqb_tells n 1) [ inl p ↦ absurd (omega (arith, p.1)) | inr p ↦ p.0 ]

pub spot-is : (text : List ℕ) (component sheets : ℕ) (cells : List ℕ) → spot_from text ≡ Some (component, sheets, cells) → Spelled text component sheets cells
spot-is text component sheets cells e = at (at_slash text) refl e
  where
    in_part : (front back : List ℕ) → text ≡ front ++ 47 ∷ back → (k : Option ℕ) → component_from front ≡ k → option_and_then (λ n. in_component n (position_from back)) k ≡ Some (component, sheets, cells) → Spelled text component sheets cells
    in_part front back whole None f e = cc
    in_part front back whole (Some n) f e =
        let p = placed component n sheets cells (position_from back) e in
        let d = component-decimal front n f in
        let q = position-is back sheets cells p.1 in
        let same : n ≡ component = p.0 in (
          omega (arith, d.0),
          omega (arith, d.1),
          q.0,
          whole ∙ (ap (λ (xs : List ℕ). xs ++ 47 ∷ back) (d.2 ∙ ap decimal same) ∙ (ap (λ (xs : List ℕ). decimal component ++ 47 ∷ xs) q.1
              ∙ sym (ap (λ (b : Bool). cond b (position_text sheets cells) (decimal component ++ 47 ∷ position_text sheets cells)) (not_one component (omega (arith, d.0)))))),
        )

    at : (o : Option (List ℕ × List ℕ)) → at_slash text ≡ o → parts_from text o ≡ Some (component, sheets, cells) → Spelled text component sheets cells
    at None f e =
        let p = placed component 1 sheets cells (position_from text) e in
        let q = position-is text sheets cells p.1 in
        subst (λ (n : ℕ). Spelled text n sheets cells) p.0 (omega arith, omega arith, q.0, q.1)
    at (Some parts) f e = in_part parts.0 parts.1 (slash-is text parts.0 parts.1 f) (component_from parts.0) refl e

pub spot-back : (text : List ℕ) (component sheets : ℕ) (cells : List ℕ) → Spelled text component sheets cells → spot_from text ≡ Some (component, sheets, cells)
spot-back text component sheets cells h = at (eqb_tells component 1)
  where
    at : ((eqb component 1 ≡ true) × (component ≡ 1)) ⊎ ((eqb component 1 ≡ false) × (component ≢ 1)) → spot_from text ≡ Some (component, sheets, cells)
    at (inl p) =
        let is : text ≡ position_text sheets cells = h.3 ∙ ap (λ (b : Bool). cond b (position_text sheets cells) (decimal component ++ 47 ∷ position_text sheets cells)) p.0 in
        ap (parts_from text) (ap at_slash is ∙ at_slash-none (position_text sheets cells) (no_slash-position sheets cells))
        ∙ (ap (in_component 1) (position-back text sheets cells h.2 is) ∙ ap (λ (n : ℕ). Some (n, sheets, cells)) (sym p.1))
    at (inr p) =
        let low : 2 ≤ component = omega (arith, h.0, p.1) in
        let is : text ≡ decimal component ++ 47 ∷ position_text sheets cells = h.3 ∙ ap (λ (b : Bool). cond b (position_text sheets cells) (decimal component ++ 47 ∷ position_text sheets cells)) p.0 in
        let front : list_all is_digit (decimal component) ≡ true = digits_decimal numerals component (omega (arith, h.1)) in
        ap (parts_from text) (ap at_slash is ∙ at_slash-found (decimal component) (position_text sheets cells) (no_slash-digits (decimal component) front))
        ∙ (ap (option_and_then (λ n. in_component n (position_from (position_text sheets cells)))) (decimal-component component low h.1)
        ∙ ap (in_component component) (position-back (position_text sheets cells) sheets cells h.2 refl))
