-- The texts of spots and tables, as they are written.
use Rattle.std.proofs.Common.{◌≡◌, ◌≤◌, ◌+◌, ◌-◌, ◌++◌, ◌∷◌, [], ℕ, zero, suc, Bool, true, false, cond, eqb, List, length, take, drop, get_or, map, refl, sym, ◌∙◌, ap, arith, append_assoc, decimal, All, codes, Some, None, ◌≢◌, ◌⊎◌, inl, inr}
use Rattle.std.specs.List.{join_with_byte}
use Rattle.std.proofs.lemmas.Bool.{ne_eqb}
use Rattle.std.proofs.lemmas.Fmt.{decimal_digit}
use Rattle.std.proofs.lemmas.List.{take_all, take_rest}
use Rattle.std.proofs.lemmas.List.Elements.{All-head, All-tail}
use Rattle.std.proofs.lemmas.List.Folds.{flat_map-map}
use Rattle.sheet_tables.specs.Positions.{IsProper, position_text}
use Rattle.sheet_tables.specs.Spots.{Mark, IsSpot, spot_text}
use Rattle.certificates.specs.Placed.{SearchSpot, SheetRows, Sheets, Cover, spot_or_start_text, row_text, rows_text, table_text}
use Rattle.certificates.specs.Forms.{placed}
use Rattle.certificates.specs.Cert.{spot_of, cut_rows, rows_of}
use Rattle.certificates.specs.Texts.{line_bytes, lines_text, back_lines}
use Rattle.certificates.specs.Written.{behind_text, component_text}
use Rattle.certificates.proofs.ListLemmas.{joined}

-- ---- rows

pub row-joined : (cell : ℕ) (cells : List ℕ) → decimal cell ++ behind_text (44 ∷ []) cells ≡ row_text (cell ∷ cells)
row-joined cell cells =
    ap (λ (ys : List ℕ). decimal cell ++ ys) (sym (flat_map-map (λ v. 44 ∷ v) decimal cells)) ∙ joined 44 (decimal cell) (map decimal cells)

pub row-parts : (cells : List ℕ) → 1 ≤ length cells → decimal (get_or cells 0 0) ++ behind_text (44 ∷ []) (take (length cells - 1) (drop 1 cells)) ≡ row_text cells
row-parts [] l = absurd (omega arith)
row-parts (c ∷ cs) l = ap (λ (ys : List ℕ). decimal c ++ behind_text (44 ∷ []) ys) (take_rest (c ∷ cs) 1) ∙ row-joined c cs

pub one-row : (columns : ℕ) (cells : List ℕ) → length cells ≡ columns → row_text cells ≡ rows_text (cut_rows 1 columns cells)
one-row columns cells e = ap row_text (sym (take_all columns cells (omega (arith, e))))

pub more-rows : (m columns : ℕ) (cells : List ℕ) → (row_text (take columns cells) ++ 47 ∷ []) ++ rows_text (cut_rows (suc m) columns (drop columns cells)) ≡ rows_text (cut_rows (suc (suc m)) columns cells)
more-rows m columns cells = append_assoc (row_text (take columns cells)) (47 ∷ []) (rows_text (cut_rows (suc m) columns (drop columns cells)))

pub next-rows : (m columns : ℕ) (cells : List ℕ) → 2 ≤ m → (row_text (take columns cells) ++ 47 ∷ []) ++ rows_text (cut_rows (m - 1) columns (drop columns cells)) ≡ rows_text (cut_rows m columns cells)
next-rows zero columns cells l = absurd (omega arith)
next-rows (suc zero) columns cells l = absurd (omega arith)
next-rows (suc (suc k)) columns cells l =
    let e : suc (suc k) - 1 ≡ suc k = omega arith in
    ap (λ (m : ℕ). (row_text (take columns cells) ++ 47 ∷ []) ++ rows_text (cut_rows m columns (drop columns cells))) e ∙ more-rows k columns cells

-- the same with the rest of the cells as a slice
pub rest-rows : (m columns : ℕ) (cells : List ℕ) → 1 ≤ m → m ≢ 1 → (row_text (take columns cells) ++ 47 ∷ []) ++ rows_text (cut_rows (m - 1) columns (take (length cells - columns) (drop columns cells))) ≡ rows_text (cut_rows m columns cells)
rest-rows m columns cells l ne =
    ap (λ (ys : List ℕ). (row_text (take columns cells) ++ 47 ∷ []) ++ rows_text (cut_rows (m - 1) columns ys)) (take_rest cells columns)
    ∙ next-rows m columns cells (omega (arith, l, ne))

-- a table with a column has rows
pub table-rows : (sheets columns : ℕ) (cells : List ℕ) → 1 ≤ sheets → columns ≢ 0 → rows_text (cut_rows sheets columns cells) ≡ table_text (rows_of sheets columns cells)
table-rows zero columns cells l ne = absurd (omega arith)
table-rows (suc m) columns cells l ne = sym (ap (λ (t : Bool). table_text (cond t [] (cut_rows (suc m) columns cells))) (ne_eqb columns 0 ne))

pub table-none : (sheets columns : ℕ) (cells : List ℕ) → columns ≡ 0 → 45 ∷ [] ≡ table_text (rows_of sheets columns cells)
table-none sheets columns cells e = ap (λ (c : ℕ). table_text (rows_of sheets c cells)) (sym e)

-- ---- positions

cells-digits : (cells : List ℕ) → All (λ c. (1 ≤ c) × (c ≤ 8)) cells → map decimal cells ≡ map (λ c. (48 + c) ∷ []) cells
cells-digits [] h = refl
cells-digits (c ∷ cells) h =
    let low = All-head (λ c. (1 ≤ c) × (c ≤ 8)) c cells h in
    λ i. decimal_digit c (omega (arith, low.1)) i ∷ cells-digits cells (All-tail (λ c. (1 ≤ c) × (c ≤ 8)) c cells h) i

pub position-parts : (sheets : ℕ) (cells : List ℕ) → IsProper sheets cells → (decimal sheets ++ 58 ∷ []) ++ row_text cells ≡ position_text sheets cells
position-parts sheets cells h =
    append_assoc (decimal sheets) (58 ∷ []) (row_text cells)
    ∙ (ap (λ (ys : List ℕ). ys ++ 58 ∷ row_text cells) (decimal_digit sheets (omega (arith, h.most_sheets)))
    ∙ ap (λ (ws : List (List ℕ)). (48 + sheets) ∷ 58 ∷ join_with_byte 44 ws) (cells-digits cells h.within))

-- ---- spots

pub spot-parts : (component sheets : ℕ) (cells : List ℕ) → component_text component ++ position_text sheets cells ≡ spot_text component sheets cells
spot-parts component sheets cells = at (eqb component 1)
  where
    at : (t : Bool) → cond t [] (decimal component ++ 47 ∷ []) ++ position_text sheets cells ≡ cond t (position_text sheets cells) (decimal component ++ 47 ∷ position_text sheets cells)
    at true = refl
    at false = append_assoc (decimal component) (47 ∷ []) (position_text sheets cells)

-- a spot that is not the start
pub spot-whole : (m : Mark) → m.sheets ≢ 0 → component_text m.component ++ position_text m.sheets m.cells ≡ spot_or_start_text (spot_of m)
spot-whole m ne =
    spot-parts m.component m.sheets m.cells
    ∙ sym (ap (λ (t : Bool). spot_or_start_text (cond t None (Some (m.component, m.sheets, m.cells)))) (ne_eqb m.sheets 0 ne))

pub spot-start : (m : Mark) → m.sheets ≡ 0 → 45 ∷ [] ≡ spot_or_start_text (spot_of m)
spot-start m e = sym (ap (λ (n : ℕ). spot_or_start_text (cond (eqb n 0) None (Some (m.component, n, m.cells)))) e)

-- the position of a spot that is not the start
pub spot-proper : (component sheets : ℕ) (cells : List ℕ) → IsSpot component sheets cells → sheets ≢ 0 → IsProper sheets cells
spot-proper component sheets cells s ne = at s.position
  where
    at : ((sheets ≡ 0) × (cells ≡ [])) ⊎ IsProper sheets cells → IsProper sheets cells
    at (inl p) = absurd (ne p.0)
    at (inr p) = p

-- ---- lines

pub sheets-whole : (n : ℕ) (spot : SearchSpot) → ((codes "sheets " ++ (decimal n ++ codes " from ")) ++ spot_or_start_text spot) ++ 10 ∷ [] ≡ line_bytes (placed (Sheets n spot))
sheets-whole n spot = ap (λ (ys : List ℕ). codes "sheets " ++ ys ++ 10 ∷ []) (append_assoc (decimal n) (codes " from ") (spot_or_start_text spot))

pub cover-whole : (m : ℕ) (rows : SheetRows) → ((codes "cover " ++ (decimal m ++ codes " ")) ++ table_text rows) ++ 10 ∷ [] ≡ line_bytes (placed (Cover m rows))
cover-whole m rows = ap (λ (ys : List ℕ). codes "cover " ++ ys ++ 10 ∷ []) (append_assoc (decimal m) (codes " ") (table_text rows))

pub spent-whole : (spot : SearchSpot) → (codes "spent " ++ spot_or_start_text spot) ++ codes "\nend\n" ≡ lines_text (back_lines (Some (Some spot)))
spent-whole spot = ap (λ (ys : List ℕ). codes "spent " ++ ys) (sym (append_assoc (spot_or_start_text spot) (10 ∷ []) (codes "end\n")))
