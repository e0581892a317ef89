-- The certificate of a text, or its first fault. The lines are looked at from the first; at each line BadLine comes before
-- WrongOrder, and this before OutOfRange. v is the version, left what is left to read.
--   certificate_of bytes    the certificate, or the first fault
-- and as steps of this, from the first line on
--   read_version            the version; the line is looked at with the forms of version 2
--   read_modulus, read_space, read_chains   the modulus, the space by its faces, the numbers of chains of that space
--   read_ranks, read_classes, read_products the lines of rank, the classes, the products in their order
--   read_covers             the cover part, if there is one (read_cover); `end` is read with it
--   read_critical, read_columns, read_sheets   in it, the critical cells, the columns, the most sheets and the start
--   read_listing            the covers, section by section, and how the search ended; listing_from line by line
--   nothing_left            nothing follows
use Rattle.std.specs.Prelude.{ℕ, zero, suc, ◌+◌, ◌-◌, ◌==◌, nat_le, List, [], ◌∷◌, length, replicate, sum, Bool, true, false, not, ◌&&◌, ◌||◌, if◌then◌else◌, Option, Some, None, Result, Ok, Err, slice_index_or, bytes_eq}
use Rattle.std.specs.List.{list_all, concat}
use Rattle.small_field.specs.Modulus.{is_modulus}
use Rattle.face_poset.specs.Poset.{Layers, count}
use Rattle.order_complex.specs.Chains.{chain_count}
use Rattle.order_complex.specs.Counting.{chain_counts}
use Rattle.certificates.specs.declared.lines.Line.{Line}
use Rattle.certificates.specs.declared.lines.ProductLine.{ProductLine}
use Rattle.certificates.specs.declared.lines.PairLine.{PairLine}
use Rattle.certificates.specs.Parts.{Sparse}
use Rattle.certificates.specs.Plain as p
use Rattle.certificates.specs.Placed.{SearchSpot, SheetRows}
use Rattle.certificates.specs.Forms.{Form, plain, form_of}
use Rattle.certificates.specs.Degrees.{at}
use Rattle.certificates.specs.Cert.{CoverTable, CoverSection, CertCover, Cert}
use Rattle.certificates.specs.WellFormed.{are_entries, is_between, product_order, paired, columns_of, spot_fits, component_of}
use Rattle.cert_lines.specs.declared.fault.CertFault.{CertFault}
use Rattle.cert_lines.specs.declared.fault.CertFault.TheVariants.{BadLine, WrongOrder, OutOfRange, Ends, BadVersion}
use Rattle.cert_lines.specs.Listed.{rise_from}
use Rattle.cert_lines.specs.Tables.{rows_fit}
use Rattle.cert_lines.specs.Readers.{Left, Answer, and_then, next_form, take_line, many, each, start}
use Rattle.cert_text.specs.Picks as k
use Rattle.cert_text.specs.Picks.{Listing, a_table, a_section, an_ending, pick_listing}

-- ---- the front

abbrev pub versioned : (n : ℕ) → Form → Left → Answer ℕ
versioned n (plain (p.Version v)) left = if (v == 1) || (v == 2) then Ok (v, left) else Err BadVersion
versioned n f left = Err (WrongOrder n)

abbrev pub read_version : Left → Answer ℕ
read_version left = and_then (next_form 2 left) (λ a. versioned left.number a.0 a.1)

abbrev pub read_modulus : (v : ℕ) → Left → Answer ℕ
read_modulus v left = take_line v k.pick_modulus is_modulus left

abbrev pub face_fits : (dim below : ℕ) → ℕ × List ℕ → Bool
face_fits dim below face = (face.0 == dim) && rise_from 0 below face.1

abbrev pub read_face : (v dim below : ℕ) → Left → Answer (List ℕ)
read_face v dim below left = and_then (take_line v k.pick_face (face_fits dim below) left) (λ a. Ok (a.0.1, a.1))

abbrev pub cells_fit : List ℕ → Bool
cells_fit cells = nat_le 1 (slice_index_or cells 0 0) && nat_le (sum cells) 60000

abbrev pub read_faces : (v : ℕ) → (cells : List ℕ) → Left → Answer Layers
read_faces v cells left =
    and_then (many (slice_index_or cells 1 0) (read_face v 1 (slice_index_or cells 0 0)) left) (λ edges.
    and_then (many (slice_index_or cells 2 0) (read_face v 2 (slice_index_or cells 1 0)) edges.1) (λ faces.
    and_then (many (slice_index_or cells 3 0) (read_face v 3 (slice_index_or cells 2 0)) faces.1) (λ solids.
    Ok (replicate (slice_index_or cells 0 0) [] ∷ edges.0 ∷ faces.0 ∷ solids.0 ∷ [], solids.1))))

abbrev pub read_space : (v : ℕ) → Left → Answer Layers
read_space v left = and_then (take_line v k.pick_cells cells_fit left) (λ a. read_faces v a.0 a.1)

abbrev pub chains_fit : Layers → List ℕ → Bool
chains_fit space chains = bytes_eq chains (chain_counts space) && nat_le (chain_count space) 700000

abbrev pub read_chains : (v : ℕ) → Layers → Left → Answer (List ℕ)
read_chains v space left = take_line v k.pick_chains (chains_fit space) left

-- ---- the homology; m is the modulus

abbrev pub read_sides : (v : ℕ) → (Form → Option (Sparse × Sparse)) → (m low high : ℕ) → Left → Answer Line
read_sides v pick m low high left =
    and_then (take_line v pick (λ s. are_entries m low s.0 && are_entries m high s.1) left)
    (λ a. Ok (record { number = left.number; left = a.0.0; right = a.0.1 }, a.1))

-- the lines of a degree behind their number, which is at most that of the chains of the degree
abbrev pub read_block : (v : ℕ) → (Form → Option (ℕ × ℕ)) → (Form → Option (Sparse × Sparse)) → (m degree low high : ℕ) → Left → Answer (List Line)
read_block v head pick m degree low high left =
    and_then (take_line v head (λ h. (h.0 == degree) && nat_le h.1 low) left)
    (λ a. many a.0.1 (read_sides v pick m low high) a.1)

abbrev pub chains_at : List ℕ → (degree : ℕ) → ℕ
chains_at chains degree = slice_index_or chains degree 0

abbrev pub read_rank : (v m : ℕ) → (chains : List ℕ) → (degree : ℕ) → Left → Answer (List Line)
read_rank v m chains degree left =
    read_block v k.pick_rank k.pick_rank_line m degree (chains_at chains degree) (chains_at chains (degree + 1)) left

abbrev pub read_ranks : (v m : ℕ) → (chains : List ℕ) → Left → Answer (List (List Line))
read_ranks v m chains left =
    and_then (read_rank v m chains 0 left) (λ a. and_then (read_rank v m chains 1 a.1) (λ b. and_then (read_rank v m chains 2 b.1) (λ c.
    Ok (a.0 ∷ b.0 ∷ c.0 ∷ [] ∷ [], c.1))))

abbrev pub read_class : (v m : ℕ) → (chains : List ℕ) → (degree : ℕ) → Left → Answer (List Line)
read_class v m chains degree left =
    read_block v k.pick_classes k.pick_class_line m degree (chains_at chains degree) (chains_at chains degree) left

abbrev pub read_classes : (v m : ℕ) → (chains : List ℕ) → Left → Answer (List (List Line))
read_classes v m chains left =
    and_then (read_class v m chains 0 left) (λ a. and_then (read_class v m chains 1 a.1) (λ b. and_then (read_class v m chains 2 b.1) (λ c.
    and_then (read_class v m chains 3 c.1) (λ d. Ok (a.0 ∷ b.0 ∷ c.0 ∷ d.0 ∷ [], d.1)))))

abbrev pub same_place : (here there : ℕ × ℕ × ℕ × ℕ) → Bool
same_place here there = (here.0 == there.0) && (here.1 == there.1) && (here.2 == there.2) && (here.3 == there.3)

abbrev pub product_at : (n : ℕ) → (place : ℕ × ℕ × ℕ × ℕ) → (coefficients bound : Sparse) → ProductLine
product_at n place coefficients bound = record { number = n; i = place.0; a = place.1; j = place.2; b = place.3; coefficients = coefficients; bound = bound }

abbrev pub read_product : (v m : ℕ) → (chains : List ℕ) → (classes : List (List Line)) → (place : ℕ × ℕ × ℕ × ℕ) → Left → Answer ProductLine
read_product v m chains classes place left =
    and_then (take_line v k.pick_product_line (λ s. same_place s.0 place
    && are_entries m (length (at classes (place.0 + place.2))) s.1 && are_entries m (slice_index_or chains (place.0 + place.2 - 1) 0) s.2) left)
    (λ a. Ok (product_at left.number a.0.0 a.0.1 a.0.2, a.1))

abbrev pub read_products : (v m : ℕ) → (chains : List ℕ) → (classes : List (List Line)) → Left → Answer (List ProductLine)
read_products v m chains classes left =
    let order = product_order (length (at classes 1)) (length (at classes 2)) in
    and_then (take_line v k.pick_products (λ q. q == length order) left) (λ a. each (read_product v m chains classes) order a.1)

-- ---- the cover part

abbrev pub pair_stands : Layers → ℕ × ℕ × ℕ → Bool
pair_stands space pair = is_between 1 (count space pair.0) pair.1 && is_between 1 (count space (pair.0 + 1)) pair.2

abbrev pub pair_at : (n : ℕ) → ℕ × ℕ × ℕ → PairLine
pair_at n pair = record { number = n; pair = record { dim = pair.0; lower = pair.1; upper = pair.2 } }

abbrev pub read_pair : (v : ℕ) → Layers → Left → Answer PairLine
read_pair v space left = and_then (take_line v k.pick_pair_line (pair_stands space) left) (λ a. Ok (pair_at left.number a.0, a.1))

abbrev pub all_critical : Layers → List PairLine → List ℕ → Bool
all_critical space pairs critical = list_all (λ dim. slice_index_or critical dim 0 + paired dim pairs == count space dim) (0 ∷ 1 ∷ 2 ∷ 3 ∷ [])

abbrev pub read_critical : (v : ℕ) → Layers → List PairLine → Left → Answer (ℕ × List ℕ)
read_critical v space pairs left =
    and_then (take_line v k.pick_critical (all_critical space pairs) left) (λ a. Ok ((left.number, a.0), a.1))

-- the columns of the components from i on, of which so many are left, and so many columns for them
abbrev pub columns_from : (v i components columns : ℕ) → Left → Answer (List ℕ)
columns_from v i zero columns left = Ok ([], left)
columns_from v i (suc n) columns left =
    and_then (take_line v k.pick_columns (λ s. (s.0 == i) && nat_le s.1 columns && (not (n == 0) || (s.1 == columns))) left) (λ a.
    and_then (columns_from v (i + 1) n (columns - a.0.1) a.1) (λ b. Ok (a.0.1 ∷ b.0, b.1)))

abbrev pub read_columns : (v : ℕ) → (critical : List ℕ) → Left → Answer (List ℕ)
read_columns v critical left =
    if v == 1 then Ok (slice_index_or critical 1 0 ∷ [], left)
    else and_then (take_line v k.pick_components (λ n. (n == slice_index_or critical 0 0) && nat_le 1 n) left)
    (λ a. columns_from v 1 a.0 (slice_index_or critical 1 0) a.1)

abbrev pub sheets_fit : (columns : List ℕ) → ℕ × SearchSpot → Bool
sheets_fit columns s = is_between 1 8 s.0 && spot_fits columns s.0 s.1

-- the number of the line `sheets`, which counts in version 1 alone
abbrev pub numbered_if : (v n : ℕ) → Option ℕ
numbered_if v n = if v == 1 then Some n else None

abbrev pub read_sheets : (v : ℕ) → (columns : List ℕ) → Left → Answer (Option ℕ × ℕ × SearchSpot)
read_sheets v columns left =
    and_then (take_line v k.pick_sheets (sheets_fit columns) left) (λ a. Ok ((numbered_if v left.number, a.0.0, a.0.1), a.1))

-- ---- the covers

-- what the lines of the listing are looked at with: the version, the columns, the most sheets
pub record Frame : Type 0 where
  pub version : ℕ
  pub columns : List ℕ
  pub sheets : ℕ

-- the tables of the section that is open, the sections behind it, and how the search ended
pub record Listed : Type 0 where
  pub tables : List CoverTable
  pub sections : List CoverSection
  pub spent : Option SearchSpot

-- whether the line is in its range, where a section of the component is open
abbrev pub listing_fits : Frame → (component : ℕ) → Listing → Bool
listing_fits fr component (a_table m rows) = is_between 1 fr.sheets m && rows_fit (columns_of fr.columns component) m rows
listing_fits fr component (a_section i) = (i == component + 1) && nat_le i (length fr.columns)
listing_fits fr component (an_ending None) = component == length fr.columns
listing_fits fr component (an_ending (Some s)) = spot_fits fr.columns fr.sheets s && (component == component_of s)

-- the component that is open behind the line, and whether the listing goes on
abbrev pub component_after : ℕ → Listing → ℕ
component_after component (a_section i) = i
component_after component l = component

abbrev pub is_ending : Listing → Bool
is_ending (an_ending spent) = true
is_ending l = false

abbrev pub ended : Listing → Listed
ended (an_ending spent) = record { tables = []; sections = []; spent = spent }
ended l = record { tables = []; sections = []; spent = None }

abbrev pub table_at : (n columns sheets : ℕ) → SheetRows → CoverTable
table_at n columns sheets rows = record { number = n; sheets = sheets; columns = columns; cells = concat rows }

-- a line in front of what follows
abbrev pub put_listing : Frame → (component n : ℕ) → Listing → Listed → Listed
put_listing fr component n (a_table m rows) later =
    record later { tables = table_at n (columns_of fr.columns component) m rows ∷ later.tables }
put_listing fr component n (a_section i) later =
    record { tables = []; sections = record { number = n; component = i; tables = later.tables } ∷ later.sections; spent = later.spent }
put_listing fr component n (an_ending spent) later = later

abbrev pub in_listing : Frame → (component n : ℕ) → Option Listing → Result Listing CertFault
in_listing fr component n None = Err (WrongOrder n)
in_listing fr component n (Some l) = if listing_fits fr component l then Ok l else Err (OutOfRange n)

abbrev pub formed_listing : Frame → (component n : ℕ) → Option Form → Result Listing CertFault
formed_listing fr component n None = Err (BadLine n)
formed_listing fr component n (Some f) = in_listing fr component n (pick_listing f)

abbrev pub listing_from : Frame → (component n : ℕ) → List (List ℕ) → Answer Listed
listing_from fr component n [] = Err Ends
listing_from fr component n (last ∷ []) = if length last == 0 then Err Ends else Err (BadLine n)
listing_from fr component n (line ∷ more ∷ rest) =
    and_then (formed_listing fr component n (form_of fr.version line)) (λ l.
    if is_ending l then Ok (ended l, record { number = n + 1; pieces = more ∷ rest })
    else and_then (listing_from fr (component_after component l) (n + 1) (more ∷ rest)) (λ b. Ok (put_listing fr component n l b.0, b.1)))

abbrev pub first_section : (n component : ℕ) → Listed → List CoverSection
first_section n component l = record { number = n; component = component; tables = l.tables } ∷ l.sections

-- the number and the component of the first section; in version 1 it begins with the line `sheets`
abbrev pub read_section : (v : ℕ) → (from : SearchSpot) → (sheets : Option ℕ) → Left → Answer (ℕ × ℕ)
read_section v from (Some n) left = Ok ((n, 1), left)
read_section v from None left =
    and_then (take_line v k.pick_covers (λ i. i == component_of from) left) (λ a. Ok ((left.number, a.0), a.1))

abbrev pub read_listed : Frame → (component : ℕ) → Left → Answer Listed
read_listed fr component left = listing_from fr component left.number left.pieces

abbrev pub read_listing : Frame → (from : SearchSpot) → (sheets : Option ℕ) → Left → Answer (List CoverSection × Option SearchSpot)
read_listing fr from sheets left =
    and_then (read_section fr.version from sheets left) (λ s.
    and_then (read_listed fr s.0.1 s.1) (λ b. Ok ((first_section s.0.0 s.0.1 b.0, b.0.spent), b.1)))

abbrev pub frame : (v : ℕ) → (columns : List ℕ) → (sheets : ℕ) → Frame
frame v columns sheets = record { version = v; columns = columns; sheets = sheets }

abbrev pub cover_at : List PairLine → ℕ × List ℕ → List ℕ → Option ℕ × ℕ × SearchSpot → List CoverSection × Option SearchSpot → CertCover
cover_at pairs critical columns sheets listing = record {
  pairs = pairs;
  critical_line = critical.0;
  critical = critical.1;
  columns = columns;
  sheets = sheets.1;
  from = sheets.2;
  sections = listing.0;
  spent = listing.1;
}

abbrev pub read_cover : (v : ℕ) → Layers → (pairs : ℕ) → Left → Answer CertCover
read_cover v space q left =
    and_then (many q (read_pair v space) left) (λ pairs.
    and_then (read_critical v space pairs.0 pairs.1) (λ critical.
    and_then (read_columns v critical.0.1 critical.1) (λ columns.
    and_then (read_sheets v columns.0 columns.1) (λ sheets.
    and_then (read_listing (frame v columns.0 sheets.0.1) sheets.0.2 sheets.0.0 sheets.1) (λ listing.
    and_then (take_line v k.pick_end (λ _. true) listing.1) (λ over.
    Ok (cover_at pairs.0 critical.0 columns.0 sheets.0 listing.0, over.1)))))))

-- the cover part if there is one; `end` has been read
abbrev pub covered : (v : ℕ) → Layers → Option ℕ → Left → Answer (Option CertCover)
covered v space None left = Ok (None, left)
covered v space (Some q) left = and_then (read_cover v space q left) (λ a. Ok (Some a.0, a.1))

abbrev pub read_covers : (v : ℕ) → Layers → Left → Answer (Option CertCover)
read_covers v space left = and_then (take_line v k.pick_pairs_or_end (λ _. true) left) (λ a. covered v space a.0 a.1)

-- ---- all of it

-- nothing follows
abbrev pub over : (n : ℕ) → Cert → Answer Form → Result Cert CertFault
over n c (Err Ends) = Ok c
over n c (Err f) = Err f
over n c (Ok a) = Err (WrongOrder n)

abbrev pub nothing_left : (v : ℕ) → Cert → Left → Result Cert CertFault
nothing_left v c left = over left.number c (next_form v left)

-- the certificate behind its first line
abbrev pub read_body : (v : ℕ) → Left → Answer Cert
read_body v left =
    and_then (read_modulus v left) (λ modulus.
    and_then (read_space v modulus.1) (λ space.
    and_then (read_chains v space.0 space.1) (λ chains.
    and_then (read_ranks v modulus.0 chains.0 chains.1) (λ ranks.
    and_then (read_classes v modulus.0 chains.0 ranks.1) (λ classes.
    and_then (read_products v modulus.0 chains.0 classes.0 classes.1) (λ products.
    and_then (read_covers v space.0 products.1) (λ cover.
    Ok (record { version = v; modulus = modulus.0; space = space.0; chains = chains.0; ranks = ranks.0; classes = classes.0; products = products.0; cover = cover.0 }, cover.1))))))))

abbrev pub certificate_of : List ℕ → Result Cert CertFault
certificate_of bytes =
    and_then (read_version (start bytes)) (λ v. and_then (read_body v.0 v.1) (λ c. nothing_left v.0 c.0 c.1))
