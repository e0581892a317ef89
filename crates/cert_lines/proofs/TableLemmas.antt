-- A table by the widths of its rows; cells of a position one after another.
use Rattle.std.proofs.Common.{◌≡◌, ◌≤◌, ◌+◌, ◌-◌, ◌∷◌, [], ℕ, Bool, true, false, cond, ◌&&◌, eqb, Option, Some, None, is_some, option_map, List, length, take, drop, get_or, refl, sym, ◌∙◌, ap, arith, bytes_eq}
use Rattle.std.specs.Option.{option_and_then}
use Rattle.std.specs.List.{slice_split, list_all}
use Rattle.std.proofs.lemmas.Bool.{eq-eqb}
use Rattle.std.proofs.lemmas.List.{take_rest}
use Rattle.sheet_tables.specs.Positions.{digit_from, cells_from}
use Rattle.certificates.specs.Numbers.{number_of}
use Rattle.certificates.specs.Placed.{SheetRows, are_even, entries_from, row_of, rows_from, even_rows, table_of}
use Rattle.cert_lines.specs.Widths.{width_of, has_width, are_wide}

-- ---- rows

one_more : (n : ℕ) (o : Option (List ℕ)) → option_and_then (λ m. Some (m + 1)) (option_map length o) ≡ option_map length (option_and_then (λ ns. Some (n ∷ ns)) o)
one_more n None = refl
one_more n (Some ns) = ap (λ (m : ℕ). Some m) (let e : length ns + 1 ≡ length (n ∷ ns) = omega arith in e)

entered : (o : Option ℕ) (ws : List (List ℕ)) → width_of ws ≡ option_map length (entries_from ws)
    → option_and_then (λ n. option_and_then (λ m. Some (m + 1)) (width_of ws)) o ≡ option_map length (option_and_then (λ n. option_and_then (λ ns. Some (n ∷ ns)) (entries_from ws)) o)
entered None ws h = refl
entered (Some n) ws h = ap (option_and_then (λ m. Some (m + 1))) h ∙ one_more n (entries_from ws)

pub width-row : (ws : List (List ℕ)) → width_of ws ≡ option_map length (entries_from ws)
width-row [] = refl
width-row (w ∷ ws) = entered (number_of w) ws (width-row ws)

abbrev wide : ℕ → Option SheetRows → Bool
wide n None = false
wide n (Some rows) = list_all (λ r. eqb (length r) n) rows

and_false : (t : Bool) → (t && false) ≡ false
and_false true = refl
and_false false = refl

joined : (n : ℕ) (o : Option (List ℕ)) (p : Option SheetRows) → (has_width n (option_map length o) && wide n p) ≡ wide n (option_and_then (λ row. option_and_then (λ rows. Some (row ∷ rows)) p) o)
joined n None p = refl
joined n (Some row) None = and_false (eqb (length row) n)
joined n (Some row) (Some rows) = refl

pub wide-rows : (n : ℕ) (ws : List (List ℕ)) → are_wide n ws ≡ wide n (rows_from ws)
wide-rows n [] = refl
wide-rows n (w ∷ ws) =
    ap (λ (o : Option ℕ). has_width n o && are_wide n ws) (width-row (slice_split (λ b. eqb b 44) w))
    ∙ (ap (λ (t : Bool). has_width n (option_map length (row_of w)) && t) (wide-rows n ws) ∙ joined n (row_of w) (rows_from ws))

-- ---- tables

abbrev tabled : Option ℕ → List (List ℕ) → Bool
tabled None ws = false
tabled (Some n) ws = are_wide n ws

some_if : {A : Type 0} (t : Bool) (x : A) → is_some (cond t (Some x) None) ≡ t
some_if true x = refl
some_if false x = refl

even : (row : List ℕ) (p : Option SheetRows) → wide (length row) p ≡ is_some (option_and_then even_rows (option_and_then (λ rows. Some (row ∷ rows)) p))
even row None = refl
even row (Some rows) = sym (some_if (are_even (row ∷ rows)) (row ∷ rows))

by_first : (o : Option (List ℕ)) (ws : List (List ℕ)) → tabled (option_map length o) ws ≡ is_some (option_and_then even_rows (option_and_then (λ row. option_and_then (λ rows. Some (row ∷ rows)) (rows_from ws)) o))
by_first None ws = refl
by_first (Some row) ws = wide-rows (length row) ws ∙ even row (rows_from ws)

pub table-widths : (w x : List ℕ) (ws : List (List ℕ)) (o : Option ℕ) → bytes_eq w (45 ∷ []) ≡ false → slice_split (λ b. eqb b 47) w ≡ x ∷ ws → width_of (slice_split (λ b. eqb b 44) x) ≡ o → tabled o ws ≡ is_some (table_of w)
table-widths w x ws o e h n =
    ap (λ (m : Option ℕ). tabled m ws) (sym n ∙ width-row (slice_split (λ b. eqb b 44) x))
    ∙ (by_first (row_of x) ws
    ∙ (ap (λ (ps : List (List ℕ)). is_some (option_and_then even_rows (rows_from ps))) (sym h)
    ∙ sym (ap (λ (t : Bool). is_some (cond t (Some []) (option_and_then even_rows (rows_from (slice_split (λ b. eqb b 47) w))))) e)))

-- ---- cells

taken : (o : Option ℕ) (p : Option (List ℕ)) → is_some o ≡ true → is_some p ≡ is_some (option_and_then (λ c. option_and_then (λ cs. Some (c ∷ cs)) p) o)
taken None p h = cc
taken (Some c) None h = refl
taken (Some c) (Some cs) h = refl

pub cells-go : (rest more : List ℕ) → 2 ≤ length rest → get_or rest 1 0 ≡ 44 → is_some (digit_from (get_or rest 0 0)) ≡ true → more ≡ take (length rest - 2) (drop 2 rest) → is_some (cells_from more) ≡ is_some (cells_from rest)
cells-go [] more l comma digit e = absurd (omega arith)
cells-go (b ∷ []) more l comma digit e = absurd (omega arith)
cells-go (b ∷ d ∷ bs) more l comma digit e =
    ap (λ (xs : List ℕ). is_some (cells_from xs)) (e ∙ take_rest (b ∷ d ∷ bs) 2)
    ∙ (taken (digit_from b) (cells_from bs) digit
    ∙ ap (λ (t : Bool). is_some (cond t (option_and_then (λ c. option_and_then (λ cs. Some (c ∷ cs)) (cells_from bs)) (digit_from b)) None)) (sym (eq-eqb d 44 comma)))
