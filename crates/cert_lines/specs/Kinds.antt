-- Which line it is.
--   kind_of form                the kind of a form
--   kind_stands version kind    the version has plain lines of this kind
--   spot_stands version word    the word is `-` or the text of a spot, in version 1 of one in component 1
--   plain_stands version kind shape
--                               the kind of a plain line with this shape, if the version has it
--   spent_stands, cover_stands, sheets_stands version words  what stands behind the first word of such a line
-- and as steps of these
--   placed_stands version word words   the kind of a line of these three with this first word and these words behind it
use Rattle.std.specs.Prelude.{ℕ, ◌==◌, List, [], ◌∷◌, Bool, true, false, ◌&&◌, ◌||◌, not, Option, Some, None, if◌then◌else◌, bytes_eq, codes, is_some}
use Rattle.certificates.specs.declared.kind.Kind.{Kind}
use Rattle.certificates.specs.declared.kind.Kind.TheVariants as plain_kind
use Rattle.certificates.specs.Numbers.{number_of}
use Rattle.certificates.specs.Plain.{parts}
use Rattle.certificates.specs.Placed as q
use Rattle.certificates.specs.Placed.{SearchSpot, Placed, spot_or_start_of, table_of}
use Rattle.certificates.specs.Forms.{Form, plain, placed, in_first}
use Rattle.cert_lines.specs.declared.kind.LineKind.{LineKind}
use Rattle.cert_lines.specs.declared.kind.LineKind.TheVariants as kind
use Rattle.cert_lines.specs.Shapes.{fits}

abbrev pub placed_kind : Placed → LineKind
placed_kind (q.Sheets n s) = kind.Sheets
placed_kind (q.Cover m rows) = kind.Cover
placed_kind (q.Spent s) = kind.Spent

abbrev pub kind_of : Form → LineKind
kind_of (plain f) = kind.Plain (parts f).kind
kind_of (placed f) = placed_kind f

abbrev pub kind_stands : (version : ℕ) → Kind → Bool
kind_stands version plain_kind.Components = not (version == 1)
kind_stands version plain_kind.Columns = not (version == 1)
kind_stands version plain_kind.Covers = not (version == 1)
kind_stands version k = true

abbrev pub plain_stands : (version : ℕ) → Kind → ℕ × Bool → Option LineKind
plain_stands version k shape = if fits k shape.0 shape.1 && kind_stands version k then Some (kind.Plain k) else None

abbrev pub spot_in : (version : ℕ) → Option SearchSpot → Bool
spot_in version None = false
spot_in version (Some s) = not (version == 1) || in_first s

abbrev pub spot_stands : (version : ℕ) → (word : List ℕ) → Bool
spot_stands version word = spot_in version (spot_or_start_of word)

abbrev pub spent_stands : (version : ℕ) → (words : List (List ℕ)) → Bool
spent_stands version (s ∷ []) = spot_stands version s
spent_stands version words = false

abbrev pub cover_stands : (words : List (List ℕ)) → Bool
cover_stands (n ∷ t ∷ []) = is_some (number_of n) && is_some (table_of t)
cover_stands words = false

abbrev pub sheets_stands : (version : ℕ) → (words : List (List ℕ)) → Bool
sheets_stands version (n ∷ v ∷ s ∷ []) = is_some (number_of n) && bytes_eq v (codes "from") && spot_stands version s
sheets_stands version words = false

abbrev pub placed_stands : (version : ℕ) → (word : List ℕ) → (words : List (List ℕ)) → Option LineKind
placed_stands version word words =
    if bytes_eq word (codes "spent") then (if spent_stands version words then Some kind.Spent else None)
    else if bytes_eq word (codes "cover") then (if cover_stands words then Some kind.Cover else None)
    else if bytes_eq word (codes "sheets") then (if sheets_stands version words then Some kind.Sheets else None)
    else None
