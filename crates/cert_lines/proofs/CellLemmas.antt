-- The cells of a table by its rows.
use Rattle.std.proofs.Common.{◌≡◌, ◌≢◌, ◌≤◌, ◌+◌, ◌∷◌, [], ℕ, Bool, true, false, cond, not, ◌&&◌, eqb, leb, Option, Some, None, List, length, refl, sym, ◌∙◌, ap, arith, bytes_eq, subst, All}
use Rattle.std.specs.Option.{option_and_then}
use Rattle.std.specs.List.{list_all, concat, slice_split}
use Rattle.std.proofs.lemmas.Bool.{eq-eqb, ne_eqb, eqb-true, leb-true, false≢true}
use Rattle.std.proofs.lemmas.Option.{same_Some}
use Rattle.std.proofs.lemmas.List.Elements.{All-nil, All-cons}
use Rattle.std.proofs.lemmas.List.Splits.{length-slice_split}
use Rattle.sheet_tables.specs.Tables.{IsTable}
use Rattle.certificates.specs.Placed.{SheetRows, are_even, row_of, rows_from, even_rows, table_of}
use Rattle.certificates.specs.WellFormed.{is_between}
use Rattle.certificates.proofs.CallerLemmas.{and_parts}
use Rattle.cert_lines.specs.Tables.{row_fits, rows_fit, if_rows, rows_after}
use Rattle.cert_lines.proofs.TableRows.{rows-there}

abbrev joined : Option (List ℕ) → Option SheetRows → Option SheetRows
joined o p = option_and_then (λ row. option_and_then (λ rows. Some (row ∷ rows)) p) o

fit-even : (columns : ℕ) (first : List ℕ) (rows : SheetRows) (sheets : ℕ) → length first ≡ columns → list_all (row_fits columns sheets) rows ≡ true → list_all (λ r. eqb (length r) (length first)) rows ≡ true
fit-even columns first [] sheets e h = refl
fit-even columns first (row ∷ rows) sheets e h =
    let p = and_parts (row_fits columns sheets row) (list_all (row_fits columns sheets) rows) h in
    let q = and_parts (eqb (length row) columns) (list_all (is_between 1 sheets) row) p.0 in
    ap (λ (t : Bool). t && list_all (λ r. eqb (length r) (length first)) rows) (eq-eqb (length row) (length first) (eqb-true (length row) columns q.0 ∙ sym e))
    ∙ fit-even columns first rows sheets e p.1

all-even : (columns sheets : ℕ) (rows : SheetRows) → rows_fit columns sheets rows ≡ true → are_even rows ≡ true
all-even columns sheets [] h = refl
all-even columns sheets (row ∷ rows) h =
    let p = and_parts (not (eqb columns 0) && eqb (length (row ∷ rows)) sheets) (list_all (row_fits columns sheets) (row ∷ rows)) h in
    let q = and_parts (row_fits columns sheets row) (list_all (row_fits columns sheets) rows) p.1 in
    let r = and_parts (eqb (length row) columns) (list_all (is_between 1 sheets) row) q.0 in
    fit-even columns row rows sheets (eqb-true (length row) columns r.0) q.1

evened : (columns sheets : ℕ) (o : Option SheetRows) → if_rows columns sheets (option_and_then even_rows o) ≡ if_rows columns sheets o
evened columns sheets None = refl
evened columns sheets (Some rows) = at (are_even rows) refl (rows_fit columns sheets rows) refl
  where
    at : (t : Bool) → are_even rows ≡ t → (u : Bool) → rows_fit columns sheets rows ≡ u → if_rows columns sheets (cond t (Some rows) None) ≡ if_rows columns sheets (Some rows)
    at true e u f = refl
    at false e true f = absurd (false≢true (sym e ∙ all-even columns sheets rows f))
    at false e false f = sym (ap (λ (u : Bool). cond u (Some (concat rows)) None) f)

first_row : (columns sheets : ℕ) (o : Option (List ℕ)) (p : Option SheetRows) → columns ≢ 0 → if_rows columns sheets (joined o p) ≡ rows_after columns sheets 0 (joined o p)
first_row columns sheets None p h = refl
first_row columns sheets (Some row) None h = refl
first_row columns sheets (Some row) (Some rows) h =
    ap (λ (t : Bool). cond (not t && eqb (length (row ∷ rows)) sheets && list_all (row_fits columns sheets) (row ∷ rows)) (Some (concat (row ∷ rows))) None) (ne_eqb columns 0 h)
    ∙ ap (λ (k : ℕ). cond (eqb k sheets && list_all (row_fits columns sheets) (row ∷ rows)) (Some (concat (row ∷ rows))) None) (let e : length (row ∷ rows) ≡ 0 + length (row ∷ rows) = omega arith in e)

from-pieces : (columns sheets : ℕ) (ws : List (List ℕ)) → 1 ≤ length ws → columns ≢ 0 → if_rows columns sheets (rows_from ws) ≡ rows_after columns sheets 0 (rows_from ws)
from-pieces columns sheets [] l h = absurd (omega (arith, l))
from-pieces columns sheets (w ∷ ws) l h = first_row columns sheets (row_of w) (rows_from ws) h

abbrev pieces : List ℕ → List (List ℕ)
pieces w = slice_split (λ b. eqb b 47) w

some-pieces : (w : List ℕ) → 1 ≤ length (pieces w)
some-pieces w = omega (arith, length-slice_split (λ b. eqb b 47) w)

undashed : (columns sheets : ℕ) (w : List ℕ) → bytes_eq w (45 ∷ []) ≡ false → if_rows columns sheets (table_of w) ≡ if_rows columns sheets (rows_from (pieces w))
undashed columns sheets w e =
    ap (λ (t : Bool). if_rows columns sheets (cond t (Some []) (option_and_then even_rows (rows_from (pieces w))))) e ∙ evened columns sheets (rows_from (pieces w))

pub table-cells : (columns sheets : ℕ) (w : List ℕ) → bytes_eq w (45 ∷ []) ≡ false → columns ≢ 0 → rows_after columns sheets 0 (rows_from (slice_split (λ b. eqb b 47) w)) ≡ if_rows columns sheets (table_of w)
table-cells columns sheets w e h = sym (undashed columns sheets w e ∙ from-pieces columns sheets (pieces w) (some-pieces w) h)

no_rows : (columns sheets : ℕ) (o : Option (List ℕ)) (p : Option SheetRows) → columns ≡ 0 → if_rows columns sheets (joined o p) ≡ None
no_rows columns sheets None p h = refl
no_rows columns sheets (Some row) None h = refl
no_rows columns sheets (Some row) (Some rows) h =
    ap (λ (t : Bool). cond (not t && eqb (length (row ∷ rows)) sheets && list_all (row_fits columns sheets) (row ∷ rows)) (Some (concat (row ∷ rows))) None) (eq-eqb columns 0 h)

no_cells : (columns sheets : ℕ) (ws : List (List ℕ)) → 1 ≤ length ws → columns ≡ 0 → if_rows columns sheets (rows_from ws) ≡ None
no_cells columns sheets [] l h = absurd (omega (arith, l))
no_cells columns sheets (w ∷ ws) l h = no_rows columns sheets (row_of w) (rows_from ws) h

pub table-none : (columns sheets : ℕ) (w : List ℕ) → bytes_eq w (45 ∷ []) ≡ false → columns ≡ 0 → None ≡ if_rows columns sheets (table_of w)
table-none columns sheets w e h = sym (undashed columns sheets w e ∙ no_cells columns sheets (pieces w) (some-pieces w) h)

between : (sheets : ℕ) (cells : List ℕ) → list_all (is_between 1 sheets) cells ≡ true → All (λ c. (1 ≤ c) × (c ≤ sheets)) cells
between sheets [] h = All-nil (λ c. (1 ≤ c) × (c ≤ sheets))
between sheets (c ∷ cells) h =
    let p = and_parts (is_between 1 sheets c) (list_all (is_between 1 sheets) cells) h in
    let q = and_parts (leb 1 c) (leb c sheets) p.0 in
    All-cons (λ c. (1 ≤ c) × (c ≤ sheets)) c cells (leb-true 1 c q.0, leb-true c sheets q.1) (between sheets cells p.1)

-- cells that fit are a table
pub fit-table : (columns sheets : ℕ) (cells : List ℕ) (o : Option SheetRows) → 1 ≤ sheets → sheets ≤ 8 → Some cells ≡ if_rows columns sheets o → IsTable sheets columns cells
fit-table columns sheets cells None some most h = cc
fit-table columns sheets cells (Some rows) some most h = at (rows_fit columns sheets rows) refl h
  where
    at : (t : Bool) → rows_fit columns sheets rows ≡ t → Some cells ≡ cond t (Some (concat rows)) None → IsTable sheets columns cells
    at true e h =
        let r = rows-there columns sheets rows e in
        subst (λ (cs : List ℕ). IsTable sheets columns cs) (sym (same_Some cells (concat rows) h))
        (record { some_sheet = some; most_sheets = most; full = r.1; within = between sheets (concat rows) r.2 })
    at false e h = cc
