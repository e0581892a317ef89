-- The line `sheets`, the line that begins the first section, and spots by what the code sees of them.
use Rattle.std.proofs.Common.{◌≡◌, ◌≢◌, ℕ, Bool, true, false, cond, ◌&&◌, eqb, Option, Some, None, List, refl, sym, ◌∙◌, ap, Ok, Err}
use Rattle.std.specs.Prelude.{slice_index_or}
use Rattle.std.proofs.lemmas.Bool.{eq-eqb, ne_eqb, eqb-true}
use Rattle.std.proofs.lemmas.Option.{same_Some}
use Rattle.sheet_tables.specs.Spots.{Mark, IsSpot}
use Rattle.certificates.specs.declared.kind.Kind.TheVariants as kind
use Rattle.certificates.specs.Plain as line
use Rattle.certificates.specs.Placed as place
use Rattle.certificates.specs.Placed.{SearchSpot}
use Rattle.certificates.specs.Forms.{Form, plain, placed}
use Rattle.certificates.specs.Cert.{spot_of}
use Rattle.certificates.specs.WellFormed.{is_between, spot_fits, component_of}
use Rattle.cert_lines.specs.declared.kind.LineKind.TheVariants as line_kind
use Rattle.cert_lines.specs.Kinds.{kind_of}
use Rattle.cert_lines.specs.Listed.{numbers_in}
use Rattle.cert_lines.specs.Tables.{spot_in}
use Rattle.cert_lines.proofs.CallerLemmas.{sheets-said}
use Rattle.cert_lines.specs.declared.fault.CertFault.{CertFault}
use Rattle.cert_lines.specs.declared.fault.CertFault.TheVariants.{OutOfRange}
use Rattle.cert_lines.specs.Readers.{Left, Answer, and_then, in_range, take_line}
use Rattle.cert_text.specs.Picks.{pick_sheets, pick_covers}
use Rattle.cert_text.specs.Reading.{sheets_fit, numbered_if, read_sheets, read_section}
use Rattle.cert_lines.specs.Taken.{IsTaken, numbers_if, any}
use Rattle.cert_lines.proofs.CallerLemmas.{taken-is}
use Rattle.cert_text.proofs.TakingLemmas.{IsPick, fits-line, unfit-line, fails-line}

-- ---- the line `sheets`

sheets-form : (f : Form) → kind_of f ≡ line_kind.Sheets → (n : ℕ) × (s : SearchSpot) × (f ≡ placed (place.Sheets n s))
sheets-form (plain g) e = cc
sheets-form (placed (place.Sheets n s)) e = (n, s, refl)
sheets-form (placed (place.Cover m rows)) e = cc
sheets-form (placed (place.Spent s)) e = cc

abbrev told : (v n : ℕ) → Answer (ℕ × SearchSpot) → Answer (Option ℕ × ℕ × SearchSpot)
told v n r = and_then r (λ a. Ok ((numbered_if v n, a.0.0, a.0.1), a.1))

-- what the line says of the most sheets
abbrev most_in : List ℕ → ℕ
most_in text = slice_index_or (numbers_in text) 0 0

record IsStart (v : ℕ) (columns : List ℕ) (l m : Left) (text : List ℕ) : Type 0 where
  from : SearchSpot
  is : spot_in text 2 ≡ Some from
  read : read_sheets v columns l ≡ told v l.number (in_range l.number (most_in text, from) m (is_between 1 8 (most_in text) && spot_fits columns (most_in text) from))

started : (v : ℕ) (columns : List ℕ) (l m : Left) (text : List ℕ) → IsTaken v l line_kind.Sheets m text → IsStart v columns l m text
started v columns l m text t =
    let f = sheets-form t.form t.kind in
    let s = sheets-said v text f.0 f.1 (t.of ∙ ap (λ (g : Form). Some g) f.2) in
    record {
      from = f.1;
      is = s.1;
      read = ap (told v l.number) (taken-is v l m line_kind.Sheets text pick_sheets (sheets_fit columns) (f.0, f.1) t (ap pick_sheets f.2)
          ∙ (λ i. in_range l.number (sym s.0 i, f.1) m (sheets_fit columns (sym s.0 i, f.1))));
    }

pub most-out : (v : ℕ) (columns : List ℕ) (l m : Left) (text : List ℕ) → IsTaken v l line_kind.Sheets m text → is_between 1 8 (slice_index_or (numbers_in text) 0 0) ≡ false → read_sheets v columns l ≡ Err (OutOfRange l.number)
most-out v columns l m text t e =
    let s = started v columns l m text t in
    s.read ∙ ap (λ (b : Bool). told v l.number (in_range l.number (most_in text, s.from) m (b && spot_fits columns (most_in text) s.from))) e

pub no-start : (v : ℕ) (columns : List ℕ) (l m : Left) (text : List ℕ) → IsTaken v l line_kind.Sheets m text → None ≡ spot_in text 2 → read_sheets v columns l ≡ Err (OutOfRange l.number)
no-start v columns l m text t e = let s = started v columns l m text t in absurd (none_some s.from (e ∙ s.is))
  where
    none_some : (s : SearchSpot) → ◌≡◌ {A = Option SearchSpot} None (Some s) → ⊥
    none_some s h = cc

pub start-out : (v : ℕ) (columns : List ℕ) (l m : Left) (text : List ℕ) (spot : SearchSpot) → IsTaken v l line_kind.Sheets m text → is_between 1 8 (slice_index_or (numbers_in text) 0 0) ≡ true → Some spot ≡ spot_in text 2
    → spot_fits columns (slice_index_or (numbers_in text) 0 0) spot ≡ false → read_sheets v columns l ≡ Err (OutOfRange l.number)
start-out v columns l m text spot t b e f =
    let s = started v columns l m text t in
    let same : s.from ≡ spot = sym (same_Some spot s.from (e ∙ s.is)) in
    s.read
    ∙ (ap (λ (x : SearchSpot). told v l.number (in_range l.number (most_in text, x) m (is_between 1 8 (most_in text) && spot_fits columns (most_in text) x))) same
    ∙ (ap (λ (c : Bool). told v l.number (in_range l.number (most_in text, spot) m (c && spot_fits columns (most_in text) spot))) b
    ∙ ap (λ (c : Bool). told v l.number (in_range l.number (most_in text, spot) m c)) f))

pub start-in : (v : ℕ) (columns : List ℕ) (l m : Left) (text : List ℕ) (spot : SearchSpot) (n : ℕ) → IsTaken v l line_kind.Sheets m text → is_between 1 8 (slice_index_or (numbers_in text) 0 0) ≡ true → Some spot ≡ spot_in text 2
    → spot_fits columns (slice_index_or (numbers_in text) 0 0) spot ≡ true → l.number ≡ n → read_sheets v columns l ≡ Ok ((numbered_if v n, slice_index_or (numbers_in text) 0 0, spot), m)
start-in v columns l m text spot n t b e f k =
    let s = started v columns l m text t in
    let same : s.from ≡ spot = sym (same_Some spot s.from (e ∙ s.is)) in
    s.read
    ∙ (ap (λ (x : SearchSpot). told v l.number (in_range l.number (most_in text, x) m (is_between 1 8 (most_in text) && spot_fits columns (most_in text) x))) same
    ∙ (ap (λ (c : Bool). told v l.number (in_range l.number (most_in text, spot) m (c && spot_fits columns (most_in text) spot))) b
    ∙ (ap (λ (c : Bool). told v l.number (in_range l.number (most_in text, spot) m c)) f
    ∙ ap (λ (i : ℕ). Ok ((numbered_if v i, most_in text, spot), m)) k)))

-- ---- spots by their marks

pub component-of : (mark : Mark) → IsSpot mark.component mark.sheets mark.cells → component_of (spot_of mark) ≡ mark.component
component-of mark h = at (eqb mark.sheets 0) refl
  where
    at : (t : Bool) → eqb mark.sheets 0 ≡ t → component_of (cond t None (Some (mark.component, mark.sheets, mark.cells))) ≡ mark.component
    at true e = sym (h.start (eqb-true mark.sheets 0 e))
    at false e = refl

-- ---- the first section

covers-pick : IsPick kind.Covers pick_covers (λ ns. slice_index_or ns 0 0)
covers-pick (plain (line.Covers i)) = refl
covers-pick f = refl

abbrev begun : (n : ℕ) → Answer ℕ → Answer (ℕ × ℕ)
begun n r = and_then r (λ a. Ok ((n, a.0), a.1))

section-line : (v n : ℕ) (from : SearchSpot) (l : Left) → v ≢ 1 → read_section v from (numbered_if v n) l ≡ begun l.number (take_line v pick_covers (λ i. eqb i (component_of from)) l)
section-line v n from l h = ap (λ (t : Bool). read_section v from (cond t (Some n) None) l) (ne_eqb v 1 h)

pub section-fails : (v n : ℕ) (from : SearchSpot) (l : Left) (f : CertFault) → v ≢ 1 → take_line v (numbers_if kind.Covers) any l ≡ Err f → read_section v from (numbered_if v n) l ≡ Err f
section-fails v n from l f h e =
    section-line v n from l h ∙ ap (begun l.number) (fails-line v l kind.Covers f pick_covers (λ ns. slice_index_or ns 0 0) (λ i. eqb i (component_of from)) covers-pick e)

pub section-out : (v n : ℕ) (from : SearchSpot) (l m : Left) (ns : List ℕ) → v ≢ 1 → take_line v (numbers_if kind.Covers) any l ≡ Ok (ns, m) → slice_index_or ns 0 0 ≢ component_of from → read_section v from (numbered_if v n) l ≡ Err (OutOfRange l.number)
section-out v n from l m ns h e other =
    section-line v n from l h
    ∙ ap (begun l.number) (unfit-line v l m kind.Covers ns pick_covers (λ ns. slice_index_or ns 0 0) (λ i. eqb i (component_of from)) covers-pick (ne_eqb (slice_index_or ns 0 0) (component_of from) other) e)

pub section-in : (v n k : ℕ) (from : SearchSpot) (l m : Left) (ns : List ℕ) → v ≢ 1 → take_line v (numbers_if kind.Covers) any l ≡ Ok (ns, m) → slice_index_or ns 0 0 ≡ component_of from → l.number ≡ k → read_section v from (numbered_if v n) l ≡ Ok ((k, slice_index_or ns 0 0), m)
section-in v n k from l m ns h e same s =
    section-line v n from l h
    ∙ (ap (begun l.number) (fits-line v l m kind.Covers ns pick_covers (λ ns. slice_index_or ns 0 0) (λ i. eqb i (component_of from)) covers-pick (eq-eqb (slice_index_or ns 0 0) (component_of from) same) e)
    ∙ ap (λ (i : ℕ). Ok ((i, slice_index_or ns 0 0), m)) s)
