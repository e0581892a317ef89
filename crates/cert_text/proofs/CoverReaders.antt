-- The lines of the cover part up to the first cover are read exactly.
use Rattle.std.proofs.Common.{◌≡◌, ◌≤◌, ◌+◌, ◌-◌, ◌∷◌, [], ℕ, zero, suc, Bool, true, false, cond, not, ◌&&◌, ◌||◌, eqb, leb, Option, Some, None, Ok, is_some, List, length, sum, refl, sym, ◌∙◌, ap, arith, subst}
use Rattle.std.specs.Prelude.{slice_index_or}
use Rattle.std.specs.List.{fold}
use Rattle.std.proofs.lemmas.Bool.{eq-eqb, eqb-true, leb-true, le-leb}
use Rattle.std.proofs.lemmas.Option.{same_Some}
use Rattle.face_poset.specs.Poset.{Layers}
use Rattle.certificates.specs.declared.lines.PairLine.{PairLine}
use Rattle.certificates.specs.Plain as line
use Rattle.certificates.specs.Placed as place
use Rattle.certificates.specs.Placed.{SearchSpot}
use Rattle.certificates.specs.Forms.{Form, plain, placed}
use Rattle.certificates.specs.Texts.{Stated, four, pair_line, column_lines, component_lines}
use Rattle.certificates.specs.WellFormed.{are_numbered, pair_fits}
use Rattle.cert_lines.specs.Readers.{Left, and_then, take_line}
use Rattle.cert_text.specs.Picks.{pick_pair_line, pick_critical, pick_components, pick_columns, pick_sheets}
use Rattle.cert_text.specs.Reading.{pair_stands, pair_at, read_pair, all_critical, read_critical, columns_from, read_columns, sheets_fit, numbered_if, read_sheets}
use Rattle.cert_text.proofs.Passing.{Passed, and-parts, and-both, nothing-passed, passed-append, between, passed-first, passed-second}
use Rattle.cert_text.proofs.Equivalents.{IsReader, both_ok, then_ok, same_Ok, one-line, taken-line, bind, take-is, take-back}
use Rattle.cert_text.proofs.Picked.{pair_line-picked, critical-picked, components-picked, columns-picked, sheets-picked}
use Rattle.cert_text.proofs.Tests.{own-number, same-number}
use Rattle.cert_text.proofs.SpaceReaders.{four-is}

-- ---- pairs

pub pair-read : (v : ℕ) (space : Layers) → IsReader v (read_pair v space) (λ l. pair_line l ∷ []) (λ l. pair_fits space l ≡ true)
pair-read v space = one-line v pick_pair_line (pair_stands space) pair_at pair_line (λ l. pair_fits space l ≡ true) (record {
  says = λ f x n e fits. pair_line-picked f x e;
  number = λ x n. own-number n;
  has = λ f x n e there fits. fits;
  back = λ y n has t. ((y.pair.dim, y.pair.lower, y.pair.upper), refl, has, ap (λ (k : ℕ). record { number = k; pair = y.pair }) (sym (same-number y.number n t)));
})

-- ---- critical cells

critical-four : (f : Form) (x : List ℕ) → pick_critical f ≡ Some x → length x ≡ 4
critical-four (plain (line.Critical a b c d)) x h = ap length (sym (same_Some (a ∷ b ∷ c ∷ d ∷ []) x h))
critical-four f x h = cc

abbrev pub CriticalFits : Layers → List PairLine → ℕ × List ℕ → Type 0
CriticalFits space pairs x = (length x.1 ≡ 4) × (all_critical space pairs x.1 ≡ true)

pub critical-read : (v : ℕ) (space : Layers) (pairs : List PairLine) → IsReader v (read_critical v space pairs) (λ x. (Some x.0, four line.Critical x.1) ∷ []) (CriticalFits space pairs)
critical-read v space pairs = one-line v pick_critical (all_critical space pairs) (λ n x. (n, x)) (λ x. (Some x.0, four line.Critical x.1)) (CriticalFits space pairs) (record {
  says = λ f x n e fits. critical-picked f x e;
  number = λ x n. own-number n;
  has = λ f x n e there fits. (critical-four f x e, fits);
  back = λ y n has t. (y.1, ap Some (four-is y.1 has.0), has.1, λ i. (sym (same-number y.0 n t) i, y.1));
})

-- ---- columns

-- so many components, whose columns are so many
abbrev pub ColumnsAre : (n columns : ℕ) → List ℕ → Type 0
ColumnsAre n columns cs = (length cs ≡ n) × (1 ≤ n → sum cs ≡ columns)

abbrev column_test : (i n columns : ℕ) → ℕ × ℕ → Bool
column_test i n columns s = eqb s.0 i && leb s.1 columns && (not (eqb n 0) || eqb s.1 columns)

-- what the test says of the last component, and of an earlier one
last-or : (n a b : ℕ) → (not (eqb n 0) || eqb a b) ≡ true → n ≡ 0 → a ≡ b
last-or n a b h e = at (eqb n 0) (eq-eqb n 0 e) h
  where
    at : (t : Bool) → t ≡ true → (not t || eqb a b) ≡ true → a ≡ b
    at true k h = eqb-true a b h
    at false k h = cc

or-last : (n a b : ℕ) → (n ≡ 0 → a ≡ b) → (not (eqb n 0) || eqb a b) ≡ true
or-last n a b h = at (eqb n 0) refl
  where
    at : (t : Bool) → eqb n 0 ≡ t → (not t || eqb a b) ≡ true
    at true k = eq-eqb a b (h (eqb-true n 0 k))
    at false k = refl

fold_add : (a : ℕ) (xs : List ℕ) → fold ◌+◌ a xs ≡ a + fold ◌+◌ 0 xs
fold_add a [] = let e : a ≡ a + 0 = omega arith in e
fold_add a (x ∷ xs) = let e : fold ◌+◌ (0 + x) xs ≡ (0 + x) + fold ◌+◌ 0 xs = fold_add (0 + x) xs in let k : fold ◌+◌ (a + x) xs ≡ (a + x) + fold ◌+◌ 0 xs = fold_add (a + x) xs in omega (arith, e, k)

pub sum-cons : (x : ℕ) (xs : List ℕ) → sum (x ∷ xs) ≡ x + sum xs
sum-cons x xs = let e : fold ◌+◌ (0 + x) xs ≡ (0 + x) + fold ◌+◌ 0 xs = fold_add (0 + x) xs in omega (arith, e)

columns-sound : (v i n columns : ℕ) (l m : Left) (cs : List ℕ) → 1 ≤ length l.pieces → columns_from v i n columns l ≡ Ok (cs, m) → ColumnsAre n columns cs × Passed v l (column_lines i cs) m
columns-sound v i zero columns l m cs more h =
    subst (λ (z : List ℕ × Left). ColumnsAre 0 columns z.0 × Passed v l (column_lines i z.0) z.1) (same_Ok ([], l) (cs, m) h) ((refl, λ k. absurd (omega (arith, k))), nothing-passed v l more)
columns-sound v i (suc n) columns l m cs more h =
    let p = both_ok (take_line v pick_columns (column_test i n columns) l) (λ a. and_then (columns_from v (i + 1) n (columns - a.0.1) a.1) (λ b. Ok (a.0.1 ∷ b.0, b.1))) (cs, m) h in
    let q = both_ok (columns_from v (i + 1) n (columns - p.0.0.1) p.0.1) (λ b. Ok (p.0.0.1 ∷ b.0, b.1)) (cs, m) p.2 in
    let t = take-is v pick_columns (column_test i n columns) l p.0.1 p.0.0 p.1 in
    let b = columns-sound v (i + 1) n (columns - p.0.0.1) p.0.1 q.0.1 q.0.0 t.3.more q.1 in
    let u = and-parts (eqb p.0.0.0 i && leb p.0.0.1 columns) (not (eqb n 0) || eqb p.0.0.1 columns) t.2 in
    let w = and-parts (eqb p.0.0.0 i) (leb p.0.0.1 columns) u.0 in
    let low : p.0.0.1 ≤ columns = leb-true p.0.0.1 columns w.1 in
    let form : plain (line.Columns i p.0.0.1) ≡ t.0 = ap (λ (k : ℕ). plain (line.Columns k p.0.0.1)) (sym (eqb-true p.0.0.0 i w.0)) ∙ columns-picked t.0 p.0.0 t.1 in
    let first : Passed v l ((None, plain (line.Columns i p.0.0.1)) ∷ []) p.0.1 = subst (λ f. Passed v l ((None, f) ∷ []) p.0.1) (sym form) t.3 in
    let whole : ColumnsAre (suc n) columns (p.0.0.1 ∷ q.0.0) = (ap suc b.0.0, λ k. sum-cons p.0.0.1 q.0.0 ∙ total n p.0.0.1 q.0.0 low b.0 (last-or n p.0.0.1 columns u.1)) in
    subst (λ (z : List ℕ × Left). ColumnsAre (suc n) columns z.0 × Passed v l (column_lines i z.0) z.1) (same_Ok (p.0.0.1 ∷ q.0.0, q.0.1) (cs, m) q.2)
    (whole, passed-append v l p.0.1 q.0.1 ((None, plain (line.Columns i p.0.0.1)) ∷ []) (column_lines (i + 1) q.0.0) first b.1)
  where
    total : (n c : ℕ) (cs : List ℕ) → c ≤ columns → ColumnsAre n (columns - c) cs → (n ≡ 0 → c ≡ columns) → c + sum cs ≡ columns
    total zero c [] low b last = let e : c ≡ columns = last refl in omega (arith, e)
    total zero c (d ∷ cs) low b last = absurd (omega (arith, b.0))
    total (suc n) c cs low b last = let e : sum cs ≡ columns - c = b.1 (omega arith) in omega (arith, e, low)

columns-complete : (v i n columns : ℕ) (l m : Left) (cs : List ℕ) → ColumnsAre n columns cs → Passed v l (column_lines i cs) m → columns_from v i n columns l ≡ Ok (cs, m)
columns-complete v i zero columns l m [] has p =
    let number : m.number ≡ l.number = omega (arith, p.number) in
    λ j. Ok ([], record { number = sym number j; pieces = p.pieces j })
columns-complete v i zero columns l m (c ∷ cs) has p = absurd (omega (arith, has.0))
columns-complete v i (suc n) columns l m [] has p = absurd (omega (arith, has.0))
columns-complete v i (suc n) columns l m (c ∷ cs) has p =
    let whole : c + sum cs ≡ columns = sym (sum-cons c cs) ∙ has.1 (omega arith) in
    let low : c ≤ columns = omega (arith, whole) in
    let first : List Stated = (None, plain (line.Columns i c)) ∷ [] in
    let later : List Stated = column_lines (i + 1) cs in
    let d = between l first later m in
    let test : column_test i n columns (i, c) ≡ true =
    and-both (eqb i i && leb c columns) (not (eqb n 0) || eqb c columns) (and-both (eqb i i) (leb c columns) (eq-eqb i i refl) (le-leb c columns low)) (or-last n c columns (λ e. none_left n c cs whole (omega (arith, has.0)) e)) in
    then_ok (take_line v pick_columns (column_test i n columns) l) (λ a. and_then (columns_from v (i + 1) n (columns - a.0.1) a.1) (λ b. Ok (a.0.1 ∷ b.0, b.1))) ((i, c), d)
    (take-back v pick_columns (column_test i n columns) l d None (plain (line.Columns i c)) (i, c) (passed-first v l m first later p) refl test)
    ∙ then_ok (columns_from v (i + 1) n (columns - c) d) (λ b. Ok (c ∷ b.0, b.1)) (cs, m)
    (columns-complete v (i + 1) n (columns - c) d m cs (omega (arith, has.0), λ k. omega (arith, whole)) (passed-second v l m first later p))
  where
    none_left : (n c : ℕ) (cs : List ℕ) → c + sum cs ≡ columns → length cs ≡ n → n ≡ 0 → c ≡ columns
    none_left n c [] whole long e = omega (arith, whole)
    none_left n c (d ∷ cs) whole long e = absurd (omega (arith, long, e))

-- in version 1 the columns of the one component, in version 2 those of each, a component for each critical vertex
abbrev pub ColumnsFitAt : (t : Bool) → List ℕ → List ℕ → Type 0
ColumnsFitAt true critical cs = cs ≡ slice_index_or critical 1 0 ∷ []
ColumnsFitAt false critical cs = ((length cs ≡ slice_index_or critical 0 0) × (leb 1 (length cs) ≡ true)) × ColumnsAre (length cs) (slice_index_or critical 1 0) cs

abbrev lines_at : Bool → List ℕ → List Stated
lines_at t columns = cond t [] ((None, plain (line.Components (length columns))) ∷ column_lines 1 columns)

pub columns-read : (v : ℕ) (critical : List ℕ) → IsReader v (read_columns v critical) (component_lines v) (ColumnsFitAt (eqb v 1) critical)
columns-read v critical = at (eqb v 1)
  where
    at : (t : Bool) → IsReader v (λ l. cond t (Ok (slice_index_or critical 1 0 ∷ [], l)) (and_then (take_line v pick_components (λ n. eqb n (slice_index_or critical 0 0) && leb 1 n) l) (λ a. columns_from v 1 a.0 (slice_index_or critical 1 0) a.1))) (lines_at t) (ColumnsFitAt t critical)
    at true = record {
      sound = λ l m cs more h. subst (λ (z : List ℕ × Left). (z.0 ≡ slice_index_or critical 1 0 ∷ []) × Passed v l [] z.1) (same_Ok (slice_index_or critical 1 0 ∷ [], l) (cs, m) h) (refl, nothing-passed v l more);
      complete = λ l m cs has p.
          let number : m.number ≡ l.number = omega (arith, p.number) in
          λ j. Ok (sym has j, record { number = sym number j; pieces = p.pieces j });
    }
    at false =
        bind v (take_line v pick_components (λ n. eqb n (slice_index_or critical 0 0) && leb 1 n)) (λ n. (None, plain (line.Components n)) ∷ []) (λ n. (n ≡ slice_index_or critical 0 0) × (leb 1 n ≡ true))
        (λ n. columns_from v 1 n (slice_index_or critical 1 0)) (λ n. column_lines 1) (λ n. ColumnsAre n (slice_index_or critical 1 0)) (λ cs. length cs)
        (taken-line v pick_components (λ n. eqb n (slice_index_or critical 0 0) && leb 1 n) (λ n. (None, plain (line.Components n))) (λ n. (n ≡ slice_index_or critical 0 0) × (leb 1 n ≡ true)) (record {
          says = λ f x n e fits. components-picked f x e;
          number = λ x n. refl;
          has = λ f x n e there fits. let u = and-parts (eqb x (slice_index_or critical 0 0)) (leb 1 x) fits in (eqb-true x (slice_index_or critical 0 0) u.0, u.1);
          back = λ y n has t. (y, refl, and-both (eqb y (slice_index_or critical 0 0)) (leb 1 y) (eq-eqb y (slice_index_or critical 0 0) has.0) has.1, refl);
        }))
        (λ n. record { sound = columns-sound v 1 n (slice_index_or critical 1 0); complete = columns-complete v 1 n (slice_index_or critical 1 0) })
        (λ n cs a b. b.0)

-- ---- sheets

abbrev pub SheetsFit : (v : ℕ) → List ℕ → Option ℕ × ℕ × SearchSpot → Type 0
SheetsFit v columns x = (sheets_fit columns (x.1, x.2) ≡ true) × (is_some x.0 ≡ eqb v 1)

numbered-there : (t : Bool) (n : ℕ) (f : Form) → are_numbered n ((cond t (Some n) None, f) ∷ []) ≡ true
numbered-there true n f = own-number n
numbered-there false n f = refl

some-there : (t : Bool) (n : ℕ) → is_some (cond t (Some n) None) ≡ t
some-there true n = refl
some-there false n = refl

numbered-back : (t : Bool) (o : Option ℕ) (n : ℕ) (f : Form) → is_some o ≡ t → are_numbered n ((o, f) ∷ []) ≡ true → cond t (Some n) None ≡ o
numbered-back true (Some k) n f e h = ap Some (sym (same-number k n h))
numbered-back true None n f e h = cc
numbered-back false (Some k) n f e h = cc
numbered-back false None n f e h = refl

pub sheets-read : (v : ℕ) (columns : List ℕ) → IsReader v (read_sheets v columns) (λ x. (x.0, placed (place.Sheets x.1 x.2)) ∷ []) (SheetsFit v columns)
sheets-read v columns = one-line v pick_sheets (sheets_fit columns) (λ n x. (numbered_if v n, x.0, x.1)) (λ x. (x.0, placed (place.Sheets x.1 x.2))) (SheetsFit v columns) (record {
  says = λ f x n e fits. sheets-picked f x e;
  number = λ x n. numbered-there (eqb v 1) n (placed (place.Sheets x.0 x.1));
  has = λ f x n e there fits. (fits, some-there (eqb v 1) n);
  back = λ y n has t. ((y.1, y.2), refl, has.0, λ i. (numbered-back (eqb v 1) y.0 n (placed (place.Sheets y.1 y.2)) has.1 t i, y.1, y.2));
})
