-- A line with a spot or a table is read exactly where it is the text of that line.
use Rattle.std.proofs.Common.{◌≡◌, ◌<◌, ◌≤◌, ◌+◌, ◌++◌, ◌∷◌, [], ℕ, Bool, true, false, cond, eqb, Some, None, List, map, length, refl, sym, ◌∙◌, ap, arith, subst, decimal, bytes_eq, codes, All}
use Rattle.std.specs.Option.{option_and_then}
use Rattle.std.specs.List.{join_with_byte, slice_split}
use Rattle.std.proofs.lemmas.Bool.{ne_eqb, false≢true}
use Rattle.std.proofs.lemmas.Option.{same_Some}
use Rattle.std.proofs.lemmas.List.Splits.{join_with_byte-slice_split, length-slice_split}
use Rattle.std.proofs.lemmas.List.Elements.{All-nil, All-cons, All-head, All-tail, All-append, All-map, All-weaker}
use Rattle.sheet_tables.specs.Positions.{position_text}
use Rattle.sheet_tables.specs.Spots.{spot_text, spot_from}
use Rattle.sheet_tables.proofs.CallerLemmas.{spot-is, spot-back}
use Rattle.certificates.specs.Numbers.{number_of, HasTenDigits}
use Rattle.certificates.specs.declared.token.Token.{Token}
use Rattle.certificates.specs.declared.token.Token.TheVariants.{Number, Entry, Dash, Bar}
use Rattle.certificates.specs.Tokens as tokens
use Rattle.certificates.specs.Tokens.{token_text, words_of}
use Rattle.certificates.specs.Parts.{Parts, kind_text, rest_tokens, parts_words, parts_text}
use Rattle.certificates.specs.Placed.{SearchSpot, SheetRows, spot_or_start_text, IsSpotOrStart, row_text, rows_text, table_text, are_even, AreRows, Placed, Sheets, Cover, Spent, placed_words, placed_text, IsPlaced, spot_or_start_of, entries_from, row_of, rows_from, even_rows, table_of, sheets_of, cover_of, placed_from, placed_of}
use Rattle.certificates.proofs.Somes.{both_some, tested}
use Rattle.certificates.proofs.NumberLemmas.{number-is, number-back, decimal-without}
use Rattle.certificates.proofs.Words.{Without, split-joined, bytes-same}
use Rattle.certificates.proofs.PartLemmas.{spaceless, feedless_text}

not_true : (t : Bool) → (t ≡ true → ⊥) → t ≡ false
not_true true h = absurd (h refl)
not_true false h = refl

-- a text without a dash is no dash
no_dash : (w : List ℕ) → Without 45 w → bytes_eq w (45 ∷ []) ≡ false
no_dash w h = not_true (bytes_eq w (45 ∷ [])) (λ e. false≢true (sym (All-head (λ b. eqb b 45 ≡ false) 45 [] (subst (Without 45) (bytes-same w (45 ∷ []) e) h))))

-- ---- bytes that are no digit and no separator

-- a byte that stands in no spot and in no table
pub record IsApart (c : ℕ) : Type 0 where
  pub low : c < 48
  pub comma : eqb 44 c ≡ false
  pub slash : eqb 47 c ≡ false

space_apart : IsApart 32
space_apart = record { low = omega arith; comma = refl; slash = refl }

dash_apart : IsApart 45
dash_apart = record { low = omega arith; comma = refl; slash = refl }

joined-without : (c d : ℕ) → eqb d c ≡ false → (ws : List (List ℕ)) → All (Without c) ws → Without c (join_with_byte d ws)
joined-without c d e [] h = All-nil (λ b. eqb b c ≡ false)
joined-without c d e (w ∷ []) h = All-head (Without c) w [] h
joined-without c d e (w ∷ v ∷ ws) h =
    All-append (λ b. eqb b c ≡ false) w (d ∷ join_with_byte d (v ∷ ws)) (All-head (Without c) w (v ∷ ws) h)
    (All-cons (λ b. eqb b c ≡ false) d (join_with_byte d (v ∷ ws)) e (joined-without c d e (v ∷ ws) (All-tail (Without c) w (v ∷ ws) h)))

row-without : (c : ℕ) → c < 48 → eqb 44 c ≡ false → (row : List ℕ) → All HasTenDigits row → Without c (row_text row)
row-without c low e row h = joined-without c 44 e (map decimal row) (All-map (Without c) decimal row (All-weaker HasTenDigits (λ n. Without c (decimal n)) (λ n k. decimal-without c n low k) row h))

abbrev IsRow : List ℕ → Type 0
IsRow row = (1 ≤ length row) × All HasTenDigits row

rows-without : (c : ℕ) → IsApart c → (rows : SheetRows) → All IsRow rows → Without c (rows_text rows)
rows-without c a rows h = joined-without c 47 a.slash (map row_text rows) (All-map (Without c) row_text rows (All-weaker IsRow (λ row. Without c (row_text row)) (λ row k. row-without c a.low a.comma row k.1) rows h))

cells-without : (c : ℕ) → IsApart c → (cells : List ℕ) → Without c (join_with_byte 44 (map (λ d. (48 + d) ∷ []) cells))
cells-without c a cells = joined-without c 44 a.comma (map (λ d. (48 + d) ∷ []) cells) (each cells)
  where
    each : (cells : List ℕ) → All (Without c) (map (λ d. (48 + d) ∷ []) cells)
    each [] = All-nil (Without c)
    each (d ∷ cells) = All-cons (Without c) ((48 + d) ∷ []) (map (λ d. (48 + d) ∷ []) cells) (All-cons (λ b. eqb b c ≡ false) (48 + d) [] (ne_eqb (48 + d) c (λ e. omega (arith, a.low))) (All-nil (λ b. eqb b c ≡ false))) (each cells)

position-without : (c : ℕ) → IsApart c → (sheets : ℕ) (cells : List ℕ) → Without c (position_text sheets cells)
position-without c a sheets cells =
    let rest : List ℕ = join_with_byte 44 (map (λ d. (48 + d) ∷ []) cells) in
    All-cons (λ b. eqb b c ≡ false) (48 + sheets) (58 ∷ rest) (ne_eqb (48 + sheets) c (λ e. omega (arith, a.low)))
    (All-cons (λ b. eqb b c ≡ false) 58 rest (ne_eqb 58 c (λ e. omega (arith, a.low))) (cells-without c a cells))

spot-without : (c : ℕ) → IsApart c → (k sheets : ℕ) (cells : List ℕ) → k ≤ 60000 → Without c (spot_text k sheets cells)
spot-without c a k sheets cells few = at (eqb k 1)
  where
    at : (t : Bool) → Without c (cond t (position_text sheets cells) (decimal k ++ 47 ∷ position_text sheets cells))
    at true = position-without c a sheets cells
    at false =
        All-append (λ b. eqb b c ≡ false) (decimal k) (47 ∷ position_text sheets cells) (decimal-without c k a.low (omega (arith, few)))
        (All-cons (λ b. eqb b c ≡ false) 47 (position_text sheets cells) a.slash (position-without c a sheets cells))

pub line_feed : IsApart 10
line_feed = record { low = omega arith; comma = refl; slash = refl }

-- ---- spots

spot-read : (w : List ℕ) (x : SearchSpot) → spot_or_start_of w ≡ Some x → IsSpotOrStart x × (w ≡ spot_or_start_text x)
spot-read w x h = at (bytes_eq w (45 ∷ [])) refl h
  where
    at : (t : Bool) → bytes_eq w (45 ∷ []) ≡ t → cond t (Some None) (option_and_then (λ p. Some (Some p)) (spot_from w)) ≡ Some x → IsSpotOrStart x × (w ≡ spot_or_start_text x)
    at true e h = subst (λ (y : SearchSpot). IsSpotOrStart y × (w ≡ spot_or_start_text y)) (same_Some None x h) (tt, bytes-same w (45 ∷ []) e)
    at false e h =
        let q : (p : ℕ × ℕ × List ℕ) × (spot_from w ≡ Some p) × (Some (Some p) ≡ Some x) = both_some (λ p. Some (Some p)) (spot_from w) x h in
        let s = spot-is w q.0.0 q.0.1 q.0.2 q.1 in
        subst (λ (y : SearchSpot). IsSpotOrStart y × (w ≡ spot_or_start_text y)) (same_Some (Some q.0) x q.2) ((s.0, s.1, s.2), s.3)

pub spot-written : (x : SearchSpot) → IsSpotOrStart x → spot_or_start_of (spot_or_start_text x) ≡ Some x
spot-written None h = refl
spot-written (Some p) h =
    let w : List ℕ = spot_text p.0 p.1 p.2 in
    ap (λ (t : Bool). cond t (Some None) (option_and_then (λ p. Some (Some p)) (spot_from w))) (no_dash w (spot-without 45 dash_apart p.0 p.1 p.2 h.1))
    ∙ ap (option_and_then (λ p. Some (Some p))) (spot-back w p.0 p.1 p.2 (h.0, h.1, h.2, refl))

spot-spaceless : (x : SearchSpot) → IsSpotOrStart x → Without 32 (spot_or_start_text x)
spot-spaceless None h = spaceless (45 ∷ []) refl
spot-spaceless (Some p) h = spot-without 32 space_apart p.0 p.1 p.2 h.1

-- ---- rows

entries-read : (ws : List (List ℕ)) (ns : List ℕ) → entries_from ws ≡ Some ns → All HasTenDigits ns × (ws ≡ map decimal ns)
entries-read [] ns h = subst (λ (ms : List ℕ). All HasTenDigits ms × ([] ≡ map decimal ms)) (same_Some [] ns h) (All-nil HasTenDigits, refl)
entries-read (w ∷ ws) ns h =
    let p : (n : ℕ) × (number_of w ≡ Some n) × (option_and_then (λ ms. Some (n ∷ ms)) (entries_from ws) ≡ Some ns) = both_some (λ n. option_and_then (λ ms. Some (n ∷ ms)) (entries_from ws)) (number_of w) ns h in
    let q : (ms : List ℕ) × (entries_from ws ≡ Some ms) × (Some (p.0 ∷ ms) ≡ Some ns) = both_some (λ ms. Some (p.0 ∷ ms)) (entries_from ws) ns p.2 in
    let first : HasTenDigits p.0 × (w ≡ decimal p.0) = number-is w p.0 p.1 in
    let more : All HasTenDigits q.0 × (ws ≡ map decimal q.0) = entries-read ws q.0 q.1 in
    subst (λ (ms : List ℕ). All HasTenDigits ms × (w ∷ ws ≡ map decimal ms)) (same_Some (p.0 ∷ q.0) ns q.2)
    (All-cons HasTenDigits p.0 q.0 first.0 more.0, λ i. first.1 i ∷ more.1 i)

entries-written : (ns : List ℕ) → All HasTenDigits ns → entries_from (map decimal ns) ≡ Some ns
entries-written [] h = refl
entries-written (n ∷ ns) h =
    ap (option_and_then (λ m. option_and_then (λ ms. Some (m ∷ ms)) (entries_from (map decimal ns)))) (number-back n (All-head HasTenDigits n ns h))
    ∙ ap (option_and_then (λ ms. Some (n ∷ ms))) (entries-written ns (All-tail HasTenDigits n ns h))

same_length : (ws : List (List ℕ)) (ns : List ℕ) → ws ≡ map decimal ns → 1 ≤ length ws → 1 ≤ length ns
same_length ws [] e l = absurd (omega (arith, ap length e))
same_length ws (n ∷ ns) e l = omega arith

row-read : (w : List ℕ) (row : List ℕ) → row_of w ≡ Some row → IsRow row × (w ≡ row_text row)
row-read w row h =
    let p : All HasTenDigits row × (slice_split (λ b. eqb b 44) w ≡ map decimal row) = entries-read (slice_split (λ b. eqb b 44) w) row h in
    ((same_length (slice_split (λ b. eqb b 44) w) row p.1 (omega (arith, length-slice_split (λ b. eqb b 44) w)), p.0), sym (join_with_byte-slice_split 44 w) ∙ ap (join_with_byte 44) p.1)

decimals-without : (c : ℕ) → c < 48 → (ns : List ℕ) → All HasTenDigits ns → All (Without c) (map decimal ns)
decimals-without c low ns h = All-map (Without c) decimal ns (All-weaker HasTenDigits (λ n. Without c (decimal n)) (λ n k. decimal-without c n low k) ns h)

row-written : (row : List ℕ) → IsRow row → row_of (row_text row) ≡ Some row
row-written [] h = absurd (omega (arith, h.0))
row-written (n ∷ ns) h =
    ap entries_from (split-joined 44 (decimal n) (map decimal ns) (decimals-without 44 (omega arith) (n ∷ ns) h.1))
    ∙ entries-written (n ∷ ns) h.1

rows-read : (ws : List (List ℕ)) (rows : SheetRows) → rows_from ws ≡ Some rows → All IsRow rows × (ws ≡ map row_text rows)
rows-read [] rows h = subst (λ (rs : SheetRows). All IsRow rs × ([] ≡ map row_text rs)) (same_Some [] rows h) (All-nil IsRow, refl)
rows-read (w ∷ ws) rows h =
    let p : (row : List ℕ) × (row_of w ≡ Some row) × (option_and_then (λ rs. Some (row ∷ rs)) (rows_from ws) ≡ Some rows) = both_some (λ row. option_and_then (λ rs. Some (row ∷ rs)) (rows_from ws)) (row_of w) rows h in
    let q : (rs : SheetRows) × (rows_from ws ≡ Some rs) × (Some (p.0 ∷ rs) ≡ Some rows) = both_some (λ rs. Some (p.0 ∷ rs)) (rows_from ws) rows p.2 in
    let first : IsRow p.0 × (w ≡ row_text p.0) = row-read w p.0 p.1 in
    let more : All IsRow q.0 × (ws ≡ map row_text q.0) = rows-read ws q.0 q.1 in
    subst (λ (rs : SheetRows). All IsRow rs × (w ∷ ws ≡ map row_text rs)) (same_Some (p.0 ∷ q.0) rows q.2)
    (All-cons IsRow p.0 q.0 first.0 more.0, λ i. first.1 i ∷ more.1 i)

rows-written : (rows : SheetRows) → All IsRow rows → rows_from (map row_text rows) ≡ Some rows
rows-written [] h = refl
rows-written (row ∷ rows) h =
    ap (option_and_then (λ r. option_and_then (λ rs. Some (r ∷ rs)) (rows_from (map row_text rows)))) (row-written row (All-head IsRow row rows h))
    ∙ ap (option_and_then (λ rs. Some (row ∷ rs))) (rows-written rows (All-tail IsRow row rows h))

-- ---- tables

some_row : (ws : List (List ℕ)) (rows : SheetRows) → ws ≡ map row_text rows → 1 ≤ length ws → rows_text rows ≡ table_text rows
some_row ws [] e l = absurd (omega (arith, ap length e))
some_row ws (row ∷ rows) e l = refl

table-read : (w : List ℕ) (rows : SheetRows) → table_of w ≡ Some rows → AreRows rows × (w ≡ table_text rows)
table-read w rows h = at (bytes_eq w (45 ∷ [])) refl h
  where
    parts : List (List ℕ)
    parts = slice_split (λ b. eqb b 47) w

    at : (t : Bool) → bytes_eq w (45 ∷ []) ≡ t → cond t (Some []) (option_and_then even_rows (rows_from (slice_split (λ b. eqb b 47) w))) ≡ Some rows → AreRows rows × (w ≡ table_text rows)
    at true e h = subst (λ (rs : SheetRows). AreRows rs × (w ≡ table_text rs)) (same_Some [] rows h) (record { even = refl; entries = All-nil IsRow }, bytes-same w (45 ∷ []) e)
    at false e h =
        let q : (rs : SheetRows) × (rows_from (slice_split (λ b. eqb b 47) w) ≡ Some rs) × (even_rows rs ≡ Some rows) = both_some even_rows (rows_from (slice_split (λ b. eqb b 47) w)) rows h in
        let t : (are_even q.0 ≡ true) × (Some q.0 ≡ Some rows) = tested (are_even q.0) (Some q.0) rows q.2 in
        let a : All IsRow q.0 × (slice_split (λ b. eqb b 47) w ≡ map row_text q.0) = rows-read (slice_split (λ b. eqb b 47) w) q.0 q.1 in
        subst (λ (rs : SheetRows). AreRows rs × (w ≡ table_text rs)) (same_Some q.0 rows t.1)
        (record { even = t.0; entries = a.0 }, sym (join_with_byte-slice_split 47 w) ∙ (ap (join_with_byte 47) a.1 ∙ some_row (slice_split (λ b. eqb b 47) w) q.0 a.1 (omega (arith, length-slice_split (λ b. eqb b 47) w))))

pub table-written : (rows : SheetRows) → AreRows rows → table_of (table_text rows) ≡ Some rows
table-written [] h = refl
table-written (row ∷ rows) h =
    let w : List ℕ = rows_text (row ∷ rows) in
    let each : All (Without 47) (map row_text (row ∷ rows)) = All-map (Without 47) row_text (row ∷ rows) (All-weaker IsRow (λ r. Without 47 (row_text r)) (λ r k. row-without 47 (omega arith) refl r k.1) (row ∷ rows) h.entries) in
    ap (λ (t : Bool). cond t (Some []) (option_and_then even_rows (rows_from (slice_split (λ b. eqb b 47) w)))) (no_dash w (rows-without 45 dash_apart (row ∷ rows) h.entries))
    ∙ (ap (λ (ws : List (List ℕ)). option_and_then even_rows (rows_from ws)) (split-joined 47 (row_text row) (map row_text rows) each)
    ∙ (ap (option_and_then even_rows) (rows-written (row ∷ rows) h.entries)
    ∙ ap (λ (t : Bool). cond t (Some (row ∷ rows)) None) h.even))

table-spaceless : (rows : SheetRows) → AreRows rows → Without 32 (table_text rows)
table-spaceless [] h = spaceless (45 ∷ []) refl
table-spaceless (row ∷ rows) h = rows-without 32 space_apart (row ∷ rows) h.entries

-- ---- lines

from-is : (ws : List (List ℕ)) (f : Placed) → placed_from ws ≡ Some f → IsPlaced f × (ws ≡ placed_words f)
from-is [] f h = cc
from-is (w ∷ []) f h = cc
from-is (w ∷ s ∷ []) f h =
    let t : (bytes_eq w (codes "spent") ≡ true) × (option_and_then (λ x. Some (Spent x)) (spot_or_start_of s) ≡ Some f) = tested (bytes_eq w (codes "spent")) (option_and_then (λ x. Some (Spent x)) (spot_or_start_of s)) f h in
    let q : (x : SearchSpot) × (spot_or_start_of s ≡ Some x) × (Some (Spent x) ≡ Some f) = both_some (λ x. Some (Spent x)) (spot_or_start_of s) f t.1 in
    let a : IsSpotOrStart q.0 × (s ≡ spot_or_start_text q.0) = spot-read s q.0 q.1 in
    subst (λ (g : Placed). IsPlaced g × (w ∷ s ∷ [] ≡ placed_words g)) (same_Some (Spent q.0) f q.2)
    (a.0, λ i. bytes-same w (codes "spent") t.0 i ∷ a.1 i ∷ [])
from-is (w ∷ n ∷ t ∷ []) f h =
    let b : (bytes_eq w (codes "cover") ≡ true) × (cover_of n t ≡ Some f) = tested (bytes_eq w (codes "cover")) (cover_of n t) f h in
    let r : (m : ℕ) × (number_of n ≡ Some m) × (option_and_then (λ rows. Some (Cover m rows)) (table_of t) ≡ Some f) = both_some (λ m. option_and_then (λ rows. Some (Cover m rows)) (table_of t)) (number_of n) f b.1 in
    let q : (rows : SheetRows) × (table_of t ≡ Some rows) × (Some (Cover r.0 rows) ≡ Some f) = both_some (λ rows. Some (Cover r.0 rows)) (table_of t) f r.2 in
    let a : AreRows q.0 × (t ≡ table_text q.0) = table-read t q.0 q.1 in
    let d : HasTenDigits r.0 × (n ≡ decimal r.0) = number-is n r.0 r.1 in
    subst (λ (g : Placed). IsPlaced g × (w ∷ n ∷ t ∷ [] ≡ placed_words g)) (same_Some (Cover r.0 q.0) f q.2)
    ((d.0, a.0), λ i. bytes-same w (codes "cover") b.0 i ∷ d.1 i ∷ a.1 i ∷ [])
from-is (w ∷ n ∷ v ∷ p ∷ []) f h =
    let t : (bytes_eq w (codes "sheets") ≡ true) × (cond (bytes_eq v (codes "from")) (sheets_of n p) None ≡ Some f) = tested (bytes_eq w (codes "sheets")) (cond (bytes_eq v (codes "from")) (sheets_of n p) None) f h in
    let u : (bytes_eq v (codes "from") ≡ true) × (sheets_of n p ≡ Some f) = tested (bytes_eq v (codes "from")) (sheets_of n p) f t.1 in
    let r : (m : ℕ) × (number_of n ≡ Some m) × (option_and_then (λ x. Some (Sheets m x)) (spot_or_start_of p) ≡ Some f) = both_some (λ m. option_and_then (λ x. Some (Sheets m x)) (spot_or_start_of p)) (number_of n) f u.1 in
    let q : (x : SearchSpot) × (spot_or_start_of p ≡ Some x) × (Some (Sheets r.0 x) ≡ Some f) = both_some (λ x. Some (Sheets r.0 x)) (spot_or_start_of p) f r.2 in
    let a : IsSpotOrStart q.0 × (p ≡ spot_or_start_text q.0) = spot-read p q.0 q.1 in
    let b : HasTenDigits r.0 × (n ≡ decimal r.0) = number-is n r.0 r.1 in
    subst (λ (g : Placed). IsPlaced g × (w ∷ n ∷ v ∷ p ∷ [] ≡ placed_words g)) (same_Some (Sheets r.0 q.0) f q.2)
    ((b.0, a.0), λ i. bytes-same w (codes "sheets") t.0 i ∷ b.1 i ∷ bytes-same v (codes "from") u.0 i ∷ a.1 i ∷ [])
from-is (w ∷ n ∷ v ∷ p ∷ x ∷ ws) f h = cc

pub placed-is : (line : List ℕ) (f : Placed) → placed_of line ≡ Some f → IsPlaced f × (line ≡ placed_text f)
placed-is line f h =
    let q : IsPlaced f × (words_of line ≡ placed_words f) = from-is (words_of line) f h in
    (q.0, sym (join_with_byte-slice_split 32 line) ∙ ap (join_with_byte 32) q.1)

-- the words of the text of a line
pub placed-words : (f : Placed) → IsPlaced f → words_of (placed_text f) ≡ placed_words f
placed-words (Spent x) h =
    split-joined 32 (codes "spent") (spot_or_start_text x ∷ [])
    (All-cons (Without 32) (codes "spent") (spot_or_start_text x ∷ []) (spaceless (codes "spent") refl)
    (All-cons (Without 32) (spot_or_start_text x) [] (spot-spaceless x h) (All-nil (Without 32))))
placed-words (Cover m rows) h =
    split-joined 32 (codes "cover") (decimal m ∷ table_text rows ∷ [])
    (All-cons (Without 32) (codes "cover") (decimal m ∷ table_text rows ∷ []) (spaceless (codes "cover") refl)
    (All-cons (Without 32) (decimal m) (table_text rows ∷ []) (decimal-without 32 m (omega arith) h.0)
    (All-cons (Without 32) (table_text rows) [] (table-spaceless rows h.1) (All-nil (Without 32)))))
placed-words (Sheets n x) h =
    split-joined 32 (codes "sheets") (decimal n ∷ codes "from" ∷ spot_or_start_text x ∷ [])
    (All-cons (Without 32) (codes "sheets") (decimal n ∷ codes "from" ∷ spot_or_start_text x ∷ []) (spaceless (codes "sheets") refl)
    (All-cons (Without 32) (decimal n) (codes "from" ∷ spot_or_start_text x ∷ []) (decimal-without 32 n (omega arith) h.0)
    (All-cons (Without 32) (codes "from") (spot_or_start_text x ∷ []) (spaceless (codes "from") refl)
    (All-cons (Without 32) (spot_or_start_text x) [] (spot-spaceless x h.1) (All-nil (Without 32))))))

from-back : (f : Placed) → IsPlaced f → placed_from (placed_words f) ≡ Some f
from-back (Spent x) h = ap (option_and_then (λ x. Some (Spent x))) (spot-written x h)
from-back (Cover m rows) h =
    ap (option_and_then (λ n. option_and_then (λ rs. Some (Cover n rs)) (table_of (table_text rows)))) (number-back m h.0)
    ∙ ap (option_and_then (λ rs. Some (Cover m rs))) (table-written rows h.1)
from-back (Sheets n x) h =
    ap (option_and_then (λ m. option_and_then (λ x. Some (Sheets m x)) (spot_or_start_of (spot_or_start_text x)))) (number-back n h.0)
    ∙ ap (option_and_then (λ x. Some (Sheets n x))) (spot-written x h.1)

pub placed-back : (line : List ℕ) (f : Placed) → IsPlaced f → line ≡ placed_text f → placed_of line ≡ Some f
placed-back line f w e = ap placed_of e ∙ (ap placed_from (placed-words f w) ∙ from-back f w)

-- ---- bytes that stand in no line

token-without : (c : ℕ) → IsApart c → eqb 45 c ≡ false → (t : Token) → tokens.IsProper t → Without c (token_text t)
token-without c a dash (Number n) p = decimal-without c n a.low p
token-without c a dash (Entry x y) p =
    All-append (λ b. eqb b c ≡ false) (decimal x) (58 ∷ decimal y) (decimal-without c x a.low p.0)
    (All-cons (λ b. eqb b c ≡ false) 58 (decimal y) (ne_eqb 58 c (λ e. omega (arith, a.low))) (decimal-without c y a.low p.1))
token-without c a dash Dash p = All-cons (λ b. eqb b c ≡ false) 45 [] dash (All-nil (λ b. eqb b c ≡ false))
token-without c a dash Bar p = All-cons (λ b. eqb b c ≡ false) 124 [] (ne_eqb 124 c (λ e. omega (arith, a.low))) (All-nil (λ b. eqb b c ≡ false))

pub plain-without : (c : ℕ) → IsApart c → eqb 45 c ≡ false → eqb 32 c ≡ false → (p : Parts) → All tokens.IsProper (rest_tokens p.rest) → Without c (kind_text p.kind) → Without c (parts_text p)
plain-without c a dash space p h kind =
    joined-without c 32 space (parts_words p)
    (All-cons (Without c) (kind_text p.kind) (map token_text (rest_tokens p.rest)) kind
    (All-map (Without c) token_text (rest_tokens p.rest) (All-weaker tokens.IsProper (λ t. Without c (token_text t)) (token-without c a dash) (rest_tokens p.rest) h)))

spot_or_start-without : (c : ℕ) → IsApart c → eqb 45 c ≡ false → (x : SearchSpot) → IsSpotOrStart x → Without c (spot_or_start_text x)
spot_or_start-without c a dash None h = All-cons (λ b. eqb b c ≡ false) 45 [] dash (All-nil (λ b. eqb b c ≡ false))
spot_or_start-without c a dash (Some s) h = spot-without c a s.0 s.1 s.2 h.1

table-without : (c : ℕ) → IsApart c → eqb 45 c ≡ false → (rows : SheetRows) → AreRows rows → Without c (table_text rows)
table-without c a dash [] h = All-cons (λ b. eqb b c ≡ false) 45 [] dash (All-nil (λ b. eqb b c ≡ false))
table-without c a dash (row ∷ rows) h = rows-without c a (row ∷ rows) h.entries

pub placed-without : (f : Placed) → IsPlaced f → Without 10 (placed_text f)
placed-without (Spent x) h =
    joined-without 10 32 refl (placed_words (Spent x))
    (All-cons (Without 10) (codes "spent") (spot_or_start_text x ∷ []) (feedless_text (codes "spent") refl)
    (All-cons (Without 10) (spot_or_start_text x) [] (spot_or_start-without 10 line_feed refl x h) (All-nil (Without 10))))
placed-without (Cover m rows) h =
    joined-without 10 32 refl (placed_words (Cover m rows))
    (All-cons (Without 10) (codes "cover") (decimal m ∷ table_text rows ∷ []) (feedless_text (codes "cover") refl)
    (All-cons (Without 10) (decimal m) (table_text rows ∷ []) (decimal-without 10 m (omega arith) h.0)
    (All-cons (Without 10) (table_text rows) [] (table-without 10 line_feed refl rows h.1) (All-nil (Without 10)))))
placed-without (Sheets n x) h =
    joined-without 10 32 refl (placed_words (Sheets n x))
    (All-cons (Without 10) (codes "sheets") (decimal n ∷ codes "from" ∷ spot_or_start_text x ∷ []) (feedless_text (codes "sheets") refl)
    (All-cons (Without 10) (decimal n) (codes "from" ∷ spot_or_start_text x ∷ []) (decimal-without 10 n (omega arith) h.0)
    (All-cons (Without 10) (codes "from") (spot_or_start_text x ∷ []) (feedless_text (codes "from") refl)
    (All-cons (Without 10) (spot_or_start_text x) [] (spot_or_start-without 10 line_feed refl x h.1) (All-nil (Without 10))))))
