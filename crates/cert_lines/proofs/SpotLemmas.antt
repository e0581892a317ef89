-- A spot by the pieces of its text, and a component by the number that its word is.
use Rattle.std.proofs.Common.{◌≡◌, ◌≢◌, ◌≤◌, ◌+◌, ◌*◌, ◌-◌, ◌∷◌, [], ℕ, Bool, true, false, cond, not, ◌&&◌, eqb, leb, Option, Some, None, is_some, option_map, List, length, refl, sym, ◌∙◌, ap, arith, bytes_eq}
use Rattle.std.specs.Option.{option_and_then}
use Rattle.std.specs.List.{slice_split, onto_first, join_with_byte, list_all}
use Rattle.std.proofs.lemmas.Bool.{leb-true, le-leb, eqb-false, ne_eqb}
use Rattle.std.proofs.lemmas.List.Splits.{join_with_byte-slice_split, length-slice_split}
use Rattle.sheet_tables.specs.Positions.{position_from}
use Rattle.sheet_tables.specs.Spots.{is_digit, digits_after, component_from, at_slash, in_component, parts_from, spot_from}
use Rattle.certificates.specs.Numbers.{is_decimal_digit, number_from, is_numeral, leads_well, number_of}
use Rattle.certificates.specs.Placed.{SearchSpot, spot_or_start_of}
use Rattle.certificates.specs.Forms.{in_first}
use Rattle.certificates.proofs.CallerLemmas.{tested, and_parts}

-- ---- the first slash

abbrev by_pieces : List (List ℕ) → Option (List ℕ × List ℕ)
by_pieces [] = None
by_pieces (w ∷ []) = None
by_pieces (w ∷ v ∷ vs) = Some (w, join_with_byte 47 (v ∷ vs))

abbrev parts_behind : ℕ → Option (List ℕ × List ℕ) → Option (List ℕ × List ℕ)
parts_behind b o = option_map (λ parts. (b ∷ parts.0, parts.1)) o

pushed : (b : ℕ) (ws : List (List ℕ)) → 1 ≤ length ws → parts_behind b (by_pieces ws) ≡ by_pieces (onto_first b ws)
pushed b [] l = absurd (omega arith)
pushed b (w ∷ []) l = refl
pushed b (w ∷ v ∷ vs) l = refl

here : (bs : List ℕ) (ws : List (List ℕ)) → join_with_byte 47 ws ≡ bs → 1 ≤ length ws → Some ([], bs) ≡ by_pieces ([] ∷ ws)
here bs [] e l = absurd (omega arith)
here bs (v ∷ vs) e l = ap (λ (x : List ℕ). Some ([], x)) (sym e)

slash-pieces : (text : List ℕ) → at_slash text ≡ by_pieces (slice_split (λ b. eqb b 47) text)
slash-pieces [] = refl
slash-pieces (b ∷ bs) = at (slash-pieces bs) (eqb b 47)
  where
    at : at_slash bs ≡ by_pieces (slice_split (λ c. eqb c 47) bs) → (t : Bool) → cond t (Some ([], bs)) (parts_behind b (at_slash bs)) ≡ by_pieces (cond t ([] ∷ slice_split (λ c. eqb c 47) bs) (onto_first b (slice_split (λ c. eqb c 47) bs)))
    at h true = here bs (slice_split (λ c. eqb c 47) bs) (join_with_byte-slice_split 47 bs) (omega (arith, length-slice_split (λ c. eqb c 47) bs))
    at h false = ap (parts_behind b) h ∙ pushed b (slice_split (λ c. eqb c 47) bs) (omega (arith, length-slice_split (λ c. eqb c 47) bs))

pub slash-none : (text : List ℕ) (w : List ℕ) → slice_split (λ b. eqb b 47) text ≡ w ∷ [] → at_slash text ≡ None
slash-none text w e = slash-pieces text ∙ ap by_pieces e

behind_cut : (w : List ℕ) (ws : List (List ℕ)) (rest : List ℕ) → join_with_byte 47 ws ≡ rest → 1 ≤ length ws → by_pieces (w ∷ ws) ≡ Some (w, rest)
behind_cut w [] rest e l = absurd (omega arith)
behind_cut w (v ∷ vs) rest e l = ap (λ (x : List ℕ). Some (w, x)) e

pub slash-some : (text w rest : List ℕ) → slice_split (λ b. eqb b 47) text ≡ w ∷ slice_split (λ b. eqb b 47) rest → at_slash text ≡ Some (w, rest)
slash-some text w rest e =
    slash-pieces text ∙ (ap by_pieces e
    ∙ behind_cut w (slice_split (λ b. eqb b 47) rest) rest (join_with_byte-slice_split 47 rest) (omega (arith, length-slice_split (λ b. eqb b 47) rest)))

-- the only piece is the text
pub only-piece : (c : ℕ) (text w : List ℕ) → slice_split (λ b. eqb b c) text ≡ w ∷ [] → w ≡ text
only-piece c text w e = sym (ap (join_with_byte c) e) ∙ join_with_byte-slice_split c text

-- ---- components

value_is : (n : ℕ) (bs : List ℕ) → digits_after n bs ≡ number_from n bs
value_is n [] = refl
value_is n (b ∷ bs) = value_is (n * 10 + (b - 48)) bs ∙ ap (λ (k : ℕ). number_from k bs) (let e : n * 10 + (b - 48) ≡ 10 * n + (b - 48) = omega arith in e)

at_least : (n : ℕ) (bs : List ℕ) → n ≤ number_from n bs
at_least n [] = omega arith
at_least n (b ∷ bs) = omega (arith, at_least (10 * n + (b - 48)) bs)

few : (n : ℕ) (bs : List ℕ) → 1 ≤ n → number_from n bs ≤ 60000 → length bs ≤ 4
few n [] s l = omega arith
few n (a ∷ []) s l = omega arith
few n (a ∷ b ∷ []) s l = omega arith
few n (a ∷ b ∷ c ∷ []) s l = omega arith
few n (a ∷ b ∷ c ∷ d ∷ []) s l = omega arith
few n (a ∷ b ∷ c ∷ d ∷ e ∷ bs) s l =
    absurd (omega (arith, s, l, at_least (10 * (10 * (10 * (10 * (10 * n + (a - 48)) + (b - 48)) + (c - 48)) + (d - 48)) + (e - 48)) bs))

abbrev in_range : ℕ → Bool
in_range n = leb 2 n && leb n 60000

abbrev pub ranged : Option ℕ → Bool
ranged None = false
ranged (Some n) = leb 2 n && leb n 60000

some_if : {A : Type 0} (t : Bool) (x : A) → is_some (cond t (Some x) None) ≡ t
some_if true x = refl
some_if false x = refl

ranged_if : (t : Bool) (n : ℕ) → ranged (cond t (Some n) None) ≡ (t && in_range n)
ranged_if true n = refl
ranged_if false n = refl

same : (p q r : Bool) → (r ≡ true → p ≡ q) → (p && r) ≡ (q && r)
same true true r h = refl
same false false r h = refl
same true false true h = h refl
same true false false h = refl
same false true true h = h refl
same false true false h = refl

no_zero : (b : ℕ) → leb 2 (number_from 0 (b ∷ [])) ≡ true → is_decimal_digit b ≡ true → not (eqb b 48) ≡ true
no_zero b l d = ap not (ne_eqb b 48 (λ e. omega (arith, leb-true 2 (10 * 0 + (b - 48)) l)))

both_true : (x y : Bool) → x ≡ true → y ≡ true → true ≡ (x && y && true)
both_true x y e f = cc

nothing : (x y : Bool) → false ≡ (x && false && y)
nothing true y = refl
nothing false y = refl

led : (b : ℕ) (bs : List ℕ) → list_all is_decimal_digit (b ∷ bs) ≡ true → in_range (number_from 0 (b ∷ bs)) ≡ true → (not (eqb b 48) && list_all is_decimal_digit (b ∷ bs)) ≡ is_numeral (b ∷ bs)
led b [] d r = ap (λ t. t && list_all is_decimal_digit (b ∷ [])) (no_zero b (and_parts (leb 2 (number_from 0 (b ∷ []))) (leb (number_from 0 (b ∷ [])) 60000) r).0 (and_parts (is_decimal_digit b) true d).0)
led b (c ∷ cs) d r = at (eqb b 48) refl
  where
    at : (t : Bool) → eqb b 48 ≡ t → (not t && list_all is_decimal_digit (b ∷ c ∷ cs)) ≡ (leb 1 (length (b ∷ c ∷ cs)) && leb (length (b ∷ c ∷ cs)) 10 && not t && list_all is_decimal_digit (b ∷ c ∷ cs))
    at true e = nothing (leb 1 (length (b ∷ c ∷ cs)) && leb (length (b ∷ c ∷ cs)) 10) (list_all is_decimal_digit (b ∷ c ∷ cs))
    at false e = ap (λ x. x && list_all is_decimal_digit (b ∷ c ∷ cs)) (
        let digit = and_parts (leb 48 b) (leb b 57) (and_parts (is_decimal_digit b) (list_all is_decimal_digit (c ∷ cs)) d).0 in
        let most = leb-true (number_from 0 (b ∷ c ∷ cs)) 60000 (and_parts (leb 2 (number_from 0 (b ∷ c ∷ cs))) (leb (number_from 0 (b ∷ c ∷ cs)) 60000) r).1 in
        let not_48 : b ≢ 48 = eqb-false b 48 e in
        let low : 48 ≤ b = leb-true 48 b digit.0 in
        let short : length (c ∷ cs) ≤ 4 = few (10 * 0 + (b - 48)) (c ∷ cs) (omega (arith, low, not_48)) most in
        both_true (leb 1 (length (b ∷ c ∷ cs))) (leb (length (b ∷ c ∷ cs)) 10) (le-leb 1 (length (b ∷ c ∷ cs)) (omega arith)) (le-leb (length (b ∷ c ∷ cs)) 10 (omega (arith, short))))

undigited : (x d y : Bool) → d ≡ false → (x && d) ≡ (y && d)
undigited true d true e = refl
undigited false d false e = refl
undigited true d false e = e
undigited false d true e = sym e

well : (b : ℕ) (bs : List ℕ) (t : Bool) → list_all is_decimal_digit (b ∷ bs) ≡ t → in_range (number_from 0 (b ∷ bs)) ≡ true → (not (eqb b 48) && list_all is_decimal_digit (b ∷ bs)) ≡ is_numeral (b ∷ bs)
well b bs true d r = led b bs d r
well b bs false d r = undigited (not (eqb b 48)) (list_all is_decimal_digit (b ∷ bs)) (leb 1 (length (b ∷ bs)) && leb (length (b ∷ bs)) 10 && leads_well (b ∷ bs)) d

pub component-number : (w : List ℕ) → ranged (number_of w) ≡ is_some (component_from w)
component-number [] = refl
component-number (b ∷ bs) =
    let n : ℕ = number_from 0 (b ∷ bs) in
    let v : ℕ = digits_after 0 (b ∷ bs) in
    let e : n ≡ v = sym (value_is 0 (b ∷ bs)) in
    ranged_if (is_numeral (b ∷ bs)) n
    ∙ (sym (same (not (eqb b 48) && list_all is_decimal_digit (b ∷ bs)) (is_numeral (b ∷ bs)) (in_range n) (well b bs (list_all is_decimal_digit (b ∷ bs)) refl))
    ∙ (ap (λ (k : ℕ). (not (eqb b 48) && list_all is_decimal_digit (b ∷ bs)) && in_range k) e
    ∙ sym (some_if (not (eqb b 48) && list_all is_digit (b ∷ bs) && (leb 2 v && leb v 60000)) v)))

-- ---- spots

abbrev side : Option SearchSpot → Option Bool
side o = option_map in_first o

abbrev spot_side : Option (ℕ × ℕ × List ℕ) → Option Bool
spot_side o = side (option_and_then (λ s. Some (Some s)) o)

in_one : (o : Option (ℕ × List ℕ)) → cond (is_some o) (Some true) None ≡ spot_side (in_component 1 o)
in_one None = refl
in_one (Some p) = refl

undashed : (w : List ℕ) → bytes_eq w (45 ∷ []) ≡ false → spot_side (spot_from w) ≡ side (spot_or_start_of w)
undashed w e = sym (ap (λ (t : Bool). side (cond t (Some None) (option_and_then (λ s. Some (Some s)) (spot_from w)))) e)

pub spot-first : (w x : List ℕ) → bytes_eq w (45 ∷ []) ≡ false → slice_split (λ b. eqb b 47) w ≡ x ∷ [] → cond (is_some (position_from w)) (Some true) None ≡ option_map in_first (spot_or_start_of w)
spot-first w x e h =
    in_one (position_from w) ∙ (ap (λ (o : Option (List ℕ × List ℕ)). spot_side (parts_from w o)) (sym (slash-none w x h)) ∙ undashed w e)

in_later : (c : Option ℕ) (o : Option (ℕ × List ℕ)) → ((k : ℕ) → c ≡ Some k → eqb k 1 ≡ false) → cond (is_some c && is_some o) (Some false) None ≡ spot_side (option_and_then (λ k. in_component k o) c)
in_later None o h = refl
in_later (Some k) None h = refl
in_later (Some k) (Some p) h = ap (λ (t : Bool). Some t) (sym (h k refl))

later : (w : List ℕ) (k : ℕ) → component_from w ≡ Some k → eqb k 1 ≡ false
later [] k h = cc
later (b ∷ bs) k h =
    let v : ℕ = digits_after 0 (b ∷ bs) in
    let t = tested (not (eqb b 48) && list_all is_digit (b ∷ bs) && (leb 2 v && leb v 60000)) (Some v) k h in
    let two = leb-true 2 v (and_parts (leb 2 v) (leb v 60000) (and_parts (not (eqb b 48) && list_all is_digit (b ∷ bs)) (leb 2 v && leb v 60000) t.0).1).0 in
    let e : v ≡ k = cc in
    ne_eqb k 1 (λ i. omega (arith, two, e, i))

pub spot-later : (w x y : List ℕ) → bytes_eq w (45 ∷ []) ≡ false → slice_split (λ b. eqb b 47) w ≡ x ∷ slice_split (λ b. eqb b 47) y → cond (is_some (component_from x) && is_some (position_from y)) (Some false) None ≡ option_map in_first (spot_or_start_of w)
spot-later w x y e h =
    in_later (component_from x) (position_from y) (later x)
    ∙ (ap (λ (o : Option (List ℕ × List ℕ)). spot_side (parts_from w o)) (sym (slash-some w x y h)) ∙ undashed w e)
