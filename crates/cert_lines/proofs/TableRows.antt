-- The rows of a table and its cells.
use Rattle.std.proofs.Common.{◌≡◌, ◌≢◌, ◌≤◌, ◌+◌, ◌-◌, ◌*◌, ◌++◌, ◌∷◌, [], ℕ, zero, suc, Bool, true, false, cond, not, ◌&&◌, eqb, List, length, take, drop, refl, sym, ◌∙◌, ap, arith}
use Rattle.std.specs.List.{list_all, concat}
use Rattle.std.proofs.lemmas.Bool.{eq-eqb, eqb-true, ne_eqb, false≢true}
use Rattle.std.proofs.Math.Seq.{take-append_seam, drop-append_seam}
use Rattle.std.proofs.lemmas.List.{length-append, take-append-drop, length-take-le, length-drop}
use Rattle.std.proofs.lemmas.List.Folds.{list_all-append}
use Rattle.certificates.specs.Placed.{SheetRows}
use Rattle.certificates.specs.Cert.{cut_rows, rows_of}
use Rattle.certificates.specs.WellFormed.{is_between}
use Rattle.certificates.proofs.CallerLemmas.{and_parts}
use Rattle.cert_lines.specs.Tables.{row_fits, rows_fit}

and-both : (a b : Bool) → a ≡ true → b ≡ true → (a && b) ≡ true
and-both a b p q = cc

take-first : (xs ys : List ℕ) (n : ℕ) → length xs ≡ n → take n (xs ++ ys) ≡ xs
take-first xs ys n e = ap (λ (k : ℕ). take k (xs ++ ys)) (sym e) ∙ take-append_seam xs ys

drop-first : (xs ys : List ℕ) (n : ℕ) → length xs ≡ n → drop n (xs ++ ys) ≡ ys
drop-first xs ys n e = ap (λ (k : ℕ). drop k (xs ++ ys)) (sym e) ∙ drop-append_seam xs ys

none_times : (a b : ℕ) → b ≡ 0 → 0 ≡ a * b
none_times a b e = let z : 0 ≡ a * 0 = omega arith in z ∙ ap (λ (n : ℕ). a * n) (sym e)

-- ---- from rows to cells

pub cut-concat : (columns sheets : ℕ) (rows : SheetRows) → list_all (row_fits columns sheets) rows ≡ true
    → (cut_rows (length rows) columns (concat rows) ≡ rows) × (length (concat rows) ≡ length rows * columns) × (list_all (is_between 1 sheets) (concat rows) ≡ true)
cut-concat columns sheets [] h = (refl, (let e : 0 ≡ 0 * columns = omega arith in e), refl)
cut-concat columns sheets (row ∷ rows) h =
    let p = and_parts (row_fits columns sheets row) (list_all (row_fits columns sheets) rows) h in
    let q = and_parts (eqb (length row) columns) (list_all (is_between 1 sheets) row) p.0 in
    let long : length row ≡ columns = eqb-true (length row) columns q.0 in
    let rest = cut-concat columns sheets rows p.1 in (
      (λ i. take-first row (concat rows) columns long i ∷ (ap (cut_rows (length rows) columns) (drop-first row (concat rows) columns long) ∙ rest.0) i),
      more_cells columns (length rows) (length row) (length (concat rows)) (length (row ++ concat rows)) long rest.1 (length-append row (concat rows)),
      list_all-append (is_between 1 sheets) row (concat rows) ∙ and-both (list_all (is_between 1 sheets) row) (list_all (is_between 1 sheets) (concat rows)) q.1 rest.2,
    )
  where
    more_cells : (c r a b n : ℕ) → a ≡ c → b ≡ r * c → n ≡ a + b → n ≡ suc r * c
    more_cells c r a b n e f g = omega (arith, e, f, g)

-- ---- from cells to rows

pub cut-cells : (columns sheets m : ℕ) (cells : List ℕ) → length cells ≡ m * columns → list_all (is_between 1 sheets) cells ≡ true
    → (concat (cut_rows m columns cells) ≡ cells) × (length (cut_rows m columns cells) ≡ m) × (list_all (row_fits columns sheets) (cut_rows m columns cells) ≡ true)
cut-cells columns sheets zero [] long h = (refl, refl, refl)
cut-cells columns sheets zero (c ∷ cells) long h = absurd (omega (arith, long))
cut-cells columns sheets (suc m) cells long h =
    let whole : list_all (is_between 1 sheets) (take columns cells ++ drop columns cells) ≡ true = ap (list_all (is_between 1 sheets)) (take-append-drop columns cells) ∙ h in
    let q = and_parts (list_all (is_between 1 sheets) (take columns cells)) (list_all (is_between 1 sheets) (drop columns cells)) (sym (list_all-append (is_between 1 sheets) (take columns cells) (drop columns cells)) ∙ whole) in
    let first : length (take columns cells) ≡ columns = length-take-le columns cells (fewer columns m (length cells) long) in
    let rest = cut-cells columns sheets m (drop columns cells) (left_over columns m (length cells) (length (drop columns cells)) long (length-drop columns cells)) q.1 in (
      ap (λ (ys : List ℕ). take columns cells ++ ys) rest.0 ∙ take-append-drop columns cells,
      ap suc rest.1,
      and-both (row_fits columns sheets (take columns cells)) (list_all (row_fits columns sheets) (cut_rows m columns (drop columns cells)))
          (and-both (eqb (length (take columns cells)) columns) (list_all (is_between 1 sheets) (take columns cells)) (eq-eqb (length (take columns cells)) columns first) q.0) rest.2,
    )
  where
    fewer : (c m n : ℕ) → n ≡ suc m * c → c ≤ n
    fewer c m n e = omega (arith, e)

    left_over : (c m n d : ℕ) → n ≡ suc m * c → d ≡ n - c → d ≡ m * c
    left_over c m n d e f = omega (arith, e, f)

-- ---- rows of a table

not_zero : (n : ℕ) → not (eqb n 0) ≡ true → n ≢ 0
not_zero n h e = false≢true (sym (ap not (eq-eqb n 0 e)) ∙ h)

of-rows : (sheets columns : ℕ) (cells : List ℕ) → columns ≢ 0 → rows_of sheets columns cells ≡ cut_rows sheets columns cells
of-rows sheets columns cells ne = ap (λ (t : Bool). cond t [] (cut_rows sheets columns cells)) (ne_eqb columns 0 ne)

-- rows that fit are those of their cells
pub rows-there : (columns sheets : ℕ) (rows : SheetRows) → rows_fit columns sheets rows ≡ true
    → (rows_of sheets columns (concat rows) ≡ rows) × (length (concat rows) ≡ sheets * columns) × (list_all (is_between 1 sheets) (concat rows) ≡ true)
rows-there columns sheets [] h =
    let none : columns ≡ 0 = eqb-true columns 0 h in
    (ap (λ (t : Bool). cond t [] (cut_rows sheets columns [])) (eq-eqb columns 0 none), none_times sheets columns none, refl)
rows-there columns sheets (row ∷ rows) h =
    let p = and_parts (not (eqb columns 0) && eqb (length (row ∷ rows)) sheets) (list_all (row_fits columns sheets) (row ∷ rows)) h in
    let q = and_parts (not (eqb columns 0)) (eqb (length (row ∷ rows)) sheets) p.0 in
    let long : length (row ∷ rows) ≡ sheets = eqb-true (length (row ∷ rows)) sheets q.1 in
    let c = cut-concat columns sheets (row ∷ rows) p.1 in
    (of-rows sheets columns (concat (row ∷ rows)) (not_zero columns q.0) ∙ (ap (λ (m : ℕ). cut_rows m columns (concat (row ∷ rows))) (sym long) ∙ c.0), c.1 ∙ ap (λ (m : ℕ). m * columns) long, c.2)

some-rows : (columns sheets : ℕ) (rows : SheetRows) → columns ≢ 0 → 1 ≤ sheets → length rows ≡ sheets → list_all (row_fits columns sheets) rows ≡ true → rows_fit columns sheets rows ≡ true
some-rows columns sheets [] ne some long h = absurd (omega (arith, some, long))
some-rows columns sheets (row ∷ rows) ne some long h =
    and-both (not (eqb columns 0) && eqb (length (row ∷ rows)) sheets) (list_all (row_fits columns sheets) (row ∷ rows))
    (and-both (not (eqb columns 0)) (eqb (length (row ∷ rows)) sheets) (ap not (ne_eqb columns 0 ne)) (eq-eqb (length (row ∷ rows)) sheets long)) h

-- the rows of cells that fit do, and have these cells
pub rows-back : (columns sheets : ℕ) (cells : List ℕ) → 1 ≤ sheets → length cells ≡ sheets * columns → list_all (is_between 1 sheets) cells ≡ true
    → (rows_fit columns sheets (rows_of sheets columns cells) ≡ true) × (concat (rows_of sheets columns cells) ≡ cells)
rows-back columns sheets cells some long h = at (eqb columns 0) refl
  where
    no_cells : (cells : List ℕ) → length cells ≡ 0 → [] ≡ cells
    no_cells [] e = refl
    no_cells (c ∷ cells) e = absurd (omega (arith, e))

    at : (t : Bool) → eqb columns 0 ≡ t → (rows_fit columns sheets (cond t [] (cut_rows sheets columns cells)) ≡ true) × (concat (cond t [] (cut_rows sheets columns cells)) ≡ cells)
    at true e = (e, no_cells cells (long ∙ sym (none_times sheets columns (eqb-true columns 0 e))))
    at false e =
        let c = cut-cells columns sheets sheets cells long h in
        (some-rows columns sheets (cut_rows sheets columns cells) (λ z. false≢true (sym e ∙ eq-eqb columns 0 z)) some c.1 c.2, c.0)
