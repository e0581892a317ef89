-- What the code reads, step by step, and what it holds.
--   pair_if kind form             the first two numbers of a line of the kind
--   lists_if kind form            the two sparse lists of a line of the kind
--   has_lists kind                lines of rank, and classes
--   triple_of pair                the numbers of a pair
--   onto xs read                  what was read, behind these
--   quadruple numbers             the first four as a place
--   place_of place, critical_of critical, sheets_of version sheets   what the code holds
--   column_at v i later columns left   the columns of component i, which so many follow, of so many columns
use Rattle.std.specs.Prelude.{◌==◌, ◌&&◌, ◌||◌, not, nat_le, ℕ, List, ◌++◌, Bool, true, false, Option, None, option_map, Ok, if◌then◌else◌, slice_index_or}
use Rattle.face_poset.specs.declared.cells.Pair.{Pair}
use Rattle.certificates.specs.declared.kind.Kind.{Kind}
use Rattle.certificates.specs.declared.kind.Kind.TheVariants as kind
use Rattle.certificates.specs.Parts.{Sparse}
use Rattle.certificates.specs.Plain.{parts}
use Rattle.certificates.specs.Placed.{SearchSpot}
use Rattle.certificates.specs.Cert.{spot_of}
use Rattle.certificates.specs.Forms.{Form, plain, placed}
use Rattle.cert_lines.specs.Readers.{Left, Answer, and_then, take_line}
use Rattle.cert_lines.specs.Taken.{same_kind, numbers_if}
use Rattle.cert_text.specs.declared.products.Place.{Place}
use Rattle.cert_text.specs.declared.columns.Critical.{Critical}
use Rattle.cert_text.specs.declared.spots.Sheets.{Sheets}
use Rattle.cert_text.specs.Picks.{pick_columns}
use Rattle.cert_text.specs.Reading.{numbered_if}

abbrev pub pair_if : Kind → Form → Option (ℕ × ℕ)
pair_if k f = option_map (λ ns. (slice_index_or ns 0 0, slice_index_or ns 1 0)) (numbers_if k f)

abbrev pub lists_if : Kind → Form → Option (Sparse × Sparse)
lists_if k (plain f) = if same_kind k (parts f).kind then (parts f).rest.lists else None
lists_if k (placed f) = None

abbrev pub has_lists : Kind → Bool
has_lists kind.RankLine = true
has_lists kind.ClassLine = true
has_lists k = false

abbrev pub triple_of : Pair → ℕ × ℕ × ℕ
triple_of pair = (pair.dim, pair.lower, pair.upper)

abbrev pub onto : {A : Type 0} → List A → Answer (List A) → Answer (List A)
onto xs a = and_then a (λ b. Ok (xs ++ b.0, b.1))

abbrev pub quadruple : List ℕ → ℕ × ℕ × ℕ × ℕ
quadruple ns = (slice_index_or ns 0 0, slice_index_or ns 1 0, slice_index_or ns 2 0, slice_index_or ns 3 0)

abbrev pub place_of : Place → ℕ × ℕ × ℕ × ℕ
place_of place = (place.i, place.a, place.j, place.b)

abbrev pub critical_of : Critical → ℕ × List ℕ
critical_of critical = (critical.number, critical.cells)

abbrev pub sheets_of : (version : ℕ) → Sheets → Option ℕ × ℕ × SearchSpot
sheets_of version sheets = (numbered_if version sheets.number, sheets.most, spot_of sheets.from)

abbrev pub column_at : (v i later columns : ℕ) → Left → Answer ℕ
column_at v i later columns left =
    and_then (take_line v pick_columns (λ s. (s.0 == i) && nat_le s.1 columns && (not (later == 0) || (s.1 == columns))) left)
    (λ a. Ok (a.0.1, a.1))
