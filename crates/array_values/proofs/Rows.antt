-- Lemmas on the rows of a presentation.
use Rattle.std.proofs.Common.{◌≡◌, ◌≢◌, ◌<◌, ◌≤◌, ◌+◌, ◌∷◌, [], ℕ, zero, suc, List, length, take, refl, ap, ◌∙◌, sym, arith, Option, Some, None, Ok, Err, slice_get, Bool, true, false, cond, not, ◌&&◌, ◌||◌, ◌==◌, nat_lt, nat_le, get_or, set, length-set, inl, inr, ◌⊎◌, eq-eqb, count_by, get_or-set_other, get_or-set_same}
use Rattle.std.proofs.Math.Bool.{or-true}
use Rattle.std.proofs.lemmas.Bool.{leb-true, eqb-false, ne_eqb, and_parts, not-true}
use Rattle.std.proofs.lemmas.Bool.Decides.{eqb_tells}
use Rattle.std.proofs.lemmas.List.{length-take-le}
use Rattle.std.proofs.lemmas.List.Sums.{count_by-le-length, count_by_more_yes, count_by_more_no}
use Rattle.std.specs.List.{find, list_all, range_with_len}
use Rattle.gap_text.specs.Value.{Value, list, items, values}
use Rattle.number_lists.proofs.CallerLemmas.{In-all, range-In}
use Rattle.array_values.specs.declared.fault.ArrayFault.TheVariants.{ColumnCount}
use Rattle.array_values.specs.Answers.{and_then, gather_from}
use Rattle.array_values.specs.Arcs.{pair_of, pair_in, both, number_of, is_column, is_row, is_twice, has_column, unless_column, counted, row_of, rows_of, arcs_of}

pub items-values : (vs : List Value) → items (values vs) ≡ vs
items-values [] = refl
items-values (v ∷ vs) = ap (λ (ws : List Value). v ∷ ws) (items-values vs)

pub pair_in-list : (p : ℕ) (vs : List Value) → pair_in (list p (values vs)) ≡ pair_of vs
pair_in-list p vs = ap pair_of (items-values vs)

pub pair_of-other : (vs : List Value) → length vs ≢ 2 → pair_of vs ≡ None
pair_of-other [] h = refl
pair_of-other (v ∷ []) h = refl
pair_of-other (v ∷ w ∷ []) h = absurd (h refl)
pair_of-other (v ∷ w ∷ u ∷ us) h = refl

pub pair_of-two : (vs : List Value) (v w : Value) → length vs ≡ 2 → slice_get vs 0 ≡ Some v → slice_get vs 1 ≡ Some w → pair_of vs ≡ both (number_of v) (number_of w)
pair_of-two [] v w n a b = absurd (omega arith)
pair_of-two (x ∷ []) v w n a b = absurd (omega arith)
pair_of-two (x ∷ y ∷ []) v w n a b = let e : x ≡ v = cc in let d : y ≡ w = cc in ap (λ (u : Value). both (number_of u) (number_of y)) e ∙ ap (λ (u : Value). both (number_of v) (number_of u)) d
pair_of-two (x ∷ y ∷ z ∷ zs) v w n a b = absurd (omega arith)

le_split : (m n : ℕ) → m ≤ n → (m ≡ n) ⊎ (m < n)
le_split m n h = grind arith

pub pair_of-first : (vs : List Value) (v : Value) → length vs ≡ 2 → slice_get vs 0 ≡ Some v → number_of v ≡ None → pair_of vs ≡ None
pair_of-first [] v n a b = refl
pair_of-first (x ∷ []) v n a b = refl
pair_of-first (x ∷ y ∷ []) v n a b = let e : x ≡ v = cc in ap (λ (o : Option ℕ). both o (number_of y)) (ap number_of e ∙ b)
pair_of-first (x ∷ y ∷ z ∷ zs) v n a b = refl

-- ---- the first column that is not in two rows

pub all_from : (p : ℕ → Bool) (s n : ℕ) → ((c : ℕ) → s ≤ c → c < s + n → p c ≡ true) → list_all p (range_with_len s n) ≡ true
all_from p s n h = In-all p (range_with_len s n) (λ c i. let r = range-In s n c i in h c r.0 r.1)

pub find-none : (p : ℕ → Bool) (xs : List ℕ) → list_all p xs ≡ true → find (λ c. not (p c)) xs ≡ None
find-none p [] h = refl
find-none p (x ∷ xs) h =
    elim (p x) as (λ b. b && list_all p xs ≡ true → cond (not b) (Some x) (find (λ c. not (p c)) xs) ≡ None) [ true ↦ λ e. find-none p xs e | false ↦ λ e. cc ] h

pub find-first : (p : ℕ → Bool) (s n i : ℕ) → ((c : ℕ) → s ≤ c → c < i → p c ≡ true) → s ≤ i → i < s + n → p i ≡ false → find (λ c. not (p c)) (range_with_len s n) ≡ Some i
find-first p s zero i h low high off = absurd (omega arith)
find-first p s (suc n) i h low high off =
    let rest : Option ℕ = find (λ c. not (p c)) (range_with_len (s + 1) n) in
    elim (le_split s i low) as (λ _. cond (not (p s)) (Some s) rest ≡ Some i) [
      | inl same ↦ ap (λ (b : Bool). cond (not b) (Some s) rest) (ap p same ∙ off) ∙ ap (λ (c : ℕ). Some c) same
      | inr less ↦ ap (λ (b : Bool). cond (not b) (Some s) rest) (h s (omega arith) less) ∙ find-first p (s + 1) n i (λ c l1 l2. h c (omega arith) l2) (omega arith) (omega arith) off
    ]

pub counted-none : (rows : List (ℕ × ℕ)) → list_all (is_twice rows) (range_with_len 1 (length rows)) ≡ true → counted rows ≡ Ok rows
counted-none rows h = ap (λ (o : Option ℕ). unless_column o rows) (find-none (is_twice rows) (range_with_len 1 (length rows)) h)

pub counted-first : (rows : List (ℕ × ℕ)) (i : ℕ) → ((c : ℕ) → 1 ≤ c → c < i → is_twice rows c ≡ true) → 1 ≤ i → i < length rows + 1 → is_twice rows i ≡ false → counted rows ≡ Err (ColumnCount i)
counted-first rows i h low high off = ap (λ (o : Option ℕ). unless_column o rows) (find-first (is_twice rows) 1 (length rows) i h low (omega arith) off)

-- ---- counting

pub record IsPair (k a b : ℕ) : Type 0 where
  pub left : a ≤ k
  pub right : b ≤ k
  pub differ : a ≢ b

pub row-pair : (k : ℕ) (p : ℕ × ℕ) → is_row k p ≡ true → IsPair k p.0 p.1
row-pair k p h =
    let one = and_parts (is_column k p.0) (is_column k p.1 && not (p.0 == p.1)) h in
    let two = and_parts (is_column k p.1) (not (p.0 == p.1)) one.1 in
    let l = and_parts (nat_lt 0 p.0) (nat_le p.0 k) one.0 in
    let r = and_parts (nat_lt 0 p.1) (nat_le p.1 k) two.0 in
    record {
      left = leb-true p.0 k l.1;
      right = leb-true p.1 k r.1;
      differ = eqb-false p.0 p.1 (not-true (p.0 == p.1) two.1);
    }

pub count-small : (rows : List (ℕ × ℕ)) (c i : ℕ) → i < length rows → count_by (has_column c) (take i rows) < length rows
count-small rows c i h = omega (arith, count_by-le-length (has_column c) (take i rows), length-take-le i rows (omega arith))

set_two : (xs : List ℕ) (a b x y c : ℕ) → a < length xs → b < length xs → a ≢ b → ((c ≡ a) × (get_or (set (set xs a x) b y) c 0 ≡ x)) ⊎ (((c ≡ b) × (get_or (set (set xs a x) b y) c 0 ≡ y)) ⊎ ((c ≢ a) × (c ≢ b) × (get_or (set (set xs a x) b y) c 0 ≡ get_or xs c 0)))
set_two xs a b x y c la lb ne =
    elim (eqb_tells c a) [
      | inl same ↦ inl (same.1, ap (λ (n : ℕ). get_or (set (set xs a x) b y) n 0) same.1 ∙ (get_or-set_other (set xs a x) b a y 0 ne ∙ get_or-set_same xs a x 0 la))
      | inr other ↦ inr (elim (eqb_tells c b) [
        | inl same ↦ inl (same.1, ap (λ (n : ℕ). get_or (set (set xs a x) b y) n 0) same.1 ∙ get_or-set_same (set xs a x) b y 0 (omega (arith, length-set xs a x)))
        | inr two ↦ inr (other.1, two.1, get_or-set_other (set xs a x) b c y 0 two.1 ∙ get_or-set_other xs a c x 0 other.1)
      ])
    ]

-- one row more
pub count-more : (rows : List (ℕ × ℕ)) (xs : List ℕ) (i x y c : ℕ) → i < length rows → is_row (length rows) (get_or rows i (0, 0)) ≡ true → length xs ≡ length rows + 1
    → ((d : ℕ) → d ≤ length rows → get_or xs d 0 ≡ count_by (has_column d) (take i rows))
    → x ≡ get_or xs (get_or rows i (0, 0)).0 0 + 1 → y ≡ get_or xs (get_or rows i (0, 0)).1 0 + 1 → c ≤ length rows
    → get_or (set (set xs (get_or rows i (0, 0)).0 x) (get_or rows i (0, 0)).1 y) c 0 ≡ count_by (has_column c) (take (i + 1) rows)
count-more rows xs i x y c l row long h xis yis small =
    let p : ℕ × ℕ = get_or rows i (0, 0) in
    let pair : IsPair (length rows) p.0 p.1 = row-pair (length rows) p row in
    elim (set_two xs p.0 p.1 x y c (omega (arith, pair.left)) (omega (arith, pair.right)) pair.differ) [
      | inl first ↦
          let has : has_column c p ≡ true = ap (λ (b : Bool). b || (p.1 == c)) (eq-eqb p.0 c (sym first.0)) in
          first.1 ∙ (xis ∙ (ap (λ (n : ℕ). n + 1) (ap (λ (d : ℕ). get_or xs d 0) (sym first.0) ∙ h c small) ∙ sym (count_by_more_yes (has_column c) rows i (0, 0) l has)))
      | inr rest ↦ elim rest [
        | inl second ↦
            let has : has_column c p ≡ true = ap (λ (b : Bool). (p.0 == c) || b) (eq-eqb p.1 c (sym second.0)) ∙ or-true (p.0 == c) in
            second.1 ∙ (yis ∙ (ap (λ (n : ℕ). n + 1) (ap (λ (d : ℕ). get_or xs d 0) (sym second.0) ∙ h c small) ∙ sym (count_by_more_yes (has_column c) rows i (0, 0) l has)))
        | inr other ↦
            let off : has_column c p ≡ false = ap (λ (b : Bool). b || (p.1 == c)) (ne_eqb p.0 c (λ e. other.0 (sym e))) ∙ ne_eqb p.1 c (λ e. other.1 (sym e)) in
            other.2 ∙ (h c small ∙ sym (count_by_more_no (has_column c) rows i (0, 0) l off))
      ]
    ]

-- ---- the presentation

pub arcs-are : (p : ℕ) (vs : List Value) → length vs ≢ 0 → arcs_of (list p (values vs)) ≡ and_then (gather_from 1 (row_of (length vs)) vs) counted
arcs-are p [] h = absurd (h refl)
arcs-are p (v ∷ vs) h = ap rows_of (items-values (v ∷ vs))

pub twice-is : (rows : List (ℕ × ℕ)) (c n : ℕ) → count_by (has_column c) rows ≡ n → n ≡ 2 → is_twice rows c ≡ true
twice-is rows c n h e = eq-eqb (count_by (has_column c) rows) 2 (h ∙ e)

pub twice-not : (rows : List (ℕ × ℕ)) (c n : ℕ) → count_by (has_column c) rows ≡ n → n ≢ 2 → is_twice rows c ≡ false
twice-not rows c n h ne = ne_eqb (count_by (has_column c) rows) 2 (λ e. ne (sym h ∙ e))
