-- The number, the spot and the table of a line are those of what it says.
use Rattle.std.proofs.Common.{◌≡◌, ◌∷◌, [], ℕ, Option, Some, List, drop, ◌∙◌, ap}
use Rattle.std.specs.Prelude.{slice_index_or, codes}
use Rattle.std.specs.Option.{option_and_then}
use Rattle.certificates.specs.Placed.{SearchSpot, SheetRows, Sheets, Cover, Spent, spot_or_start_text, spot_or_start_of, table_text, table_of}
use Rattle.certificates.specs.Forms.{placed, form_of}
use Rattle.certificates.proofs.CallerLemmas.{placed-text, number-back, spot-written, table-written}
use Rattle.cert_lines.specs.Listed.{put, numbers_of, behind_first, numbers_in}
use Rattle.cert_lines.specs.Tables.{first_word, spot_in, table_in}

pub sheets-said : (v : ℕ) (line : List ℕ) (n : ℕ) (s : SearchSpot) → form_of v line ≡ Some (placed (Sheets n s)) → (slice_index_or (numbers_in line) 0 0 ≡ n) × (spot_in line 2 ≡ Some s)
sheets-said v line n s h =
    let w = placed-text v line (Sheets n s) h in (
      ap (λ (ws : List (List ℕ)). slice_index_or (numbers_of (behind_first ws)) 0 0) w.1
          ∙ ap (λ (o : Option ℕ). slice_index_or (put o (numbers_of (codes "from" ∷ spot_or_start_text s ∷ []))) 0 0) (number-back n w.0.0),
      ap (λ (ws : List (List ℕ)). option_and_then spot_or_start_of (first_word (drop 2 (behind_first ws)))) w.1 ∙ spot-written s w.0.1,
    )

pub cover-said : (v : ℕ) (line : List ℕ) (m : ℕ) (rows : SheetRows) → form_of v line ≡ Some (placed (Cover m rows)) → (slice_index_or (numbers_in line) 0 0 ≡ m) × (table_in line 1 ≡ Some rows)
cover-said v line m rows h =
    let w = placed-text v line (Cover m rows) h in (
      ap (λ (ws : List (List ℕ)). slice_index_or (numbers_of (behind_first ws)) 0 0) w.1
          ∙ ap (λ (o : Option ℕ). slice_index_or (put o (numbers_of (table_text rows ∷ []))) 0 0) (number-back m w.0.0),
      ap (λ (ws : List (List ℕ)). option_and_then table_of (first_word (drop 1 (behind_first ws)))) w.1 ∙ table-written rows w.0.1,
    )

pub spent-said : (v : ℕ) (line : List ℕ) (s : SearchSpot) → form_of v line ≡ Some (placed (Spent s)) → spot_in line 0 ≡ Some s
spent-said v line s h =
    let w = placed-text v line (Spent s) h in
    ap (λ (ws : List (List ℕ)). option_and_then spot_or_start_of (first_word (behind_first ws))) w.1 ∙ spot-written s w.0
