-- The text of a certificate, line by line. A line that the certificate gives a number carries it.
--   Stated                 a line: the number that the certificate gives it, if any, and what it says
--   lines_text lines       the text of lines, each with its line feed
--   front_lines c          all up to the first cover line, or up to `end` where there is no cover part; in version 2 up to the first `covers`
--   sections_lines c       the cover lines; in version 2 each section begins with a line `covers`
--   back_lines spent       `done` or `spent`, where there is a cover part, and `end`
--   lines_of c, forms_of c all lines, and what they say
--   cert_text c            the text of the certificate
--   section_text component, cover_text sheets columns cells   the line that begins a section, the line of a cover
--   front_text, sections_text, back_text   its three parts
-- and as steps of these
--   face_lines, rank_lines, class_lines, product_line, pair_line, column_lines, sheets_number, cover_line, section_lines, cover_front, ending_line
use Rattle.std.specs.Prelude.{ℕ, ◌+◌, ◌==◌, List, [], ◌∷◌, ◌++◌, map, length, if◌then◌else◌, Option, Some, None, slice_index_or}
use Rattle.std.specs.List.{flat_map}
use Rattle.face_poset.specs.Poset.{Layers, layer, count}
use Rattle.certificates.specs.declared.lines.Line.{Line}
use Rattle.certificates.specs.declared.lines.ProductLine.{ProductLine}
use Rattle.certificates.specs.declared.lines.PairLine.{PairLine}
use Rattle.certificates.specs.Plain as p
use Rattle.certificates.specs.Placed.{SearchSpot, Sheets, Cover, Spent}
use Rattle.certificates.specs.Forms.{Form, plain, placed, line_text}
use Rattle.certificates.specs.Degrees.{at}
use Rattle.certificates.specs.Cert.{CoverTable, CoverSection, CertCover, Cert, rows_of}

abbrev pub Stated : Type 0
Stated = Option ℕ × Form

abbrev pub line_bytes : Form → List ℕ
line_bytes f = line_text f ++ 10 ∷ []

abbrev pub lines_text : List Stated → List ℕ
lines_text lines = flat_map (λ l. line_bytes l.1) lines

-- ---- the space, the homology

abbrev pub face_lines : Layers → (dim : ℕ) → List Stated
face_lines space dim = map (λ facets. (None, plain (p.Face dim facets))) (layer space dim)

abbrev pub rank_line : Line → Stated
rank_line l = (Some l.number, plain (p.RankLine l.left l.right))

abbrev pub rank_lines : List (List Line) → (degree : ℕ) → List Stated
rank_lines ranks k = (None, plain (p.Rank k (length (at ranks k)))) ∷ map rank_line (at ranks k)

abbrev pub class_line : Line → Stated
class_line l = (Some l.number, plain (p.ClassLine l.left l.right))

abbrev pub class_lines : List (List Line) → (degree : ℕ) → List Stated
class_lines classes k = (None, plain (p.Classes k (length (at classes k)))) ∷ map class_line (at classes k)

abbrev pub product_line : ProductLine → Stated
product_line l = (Some l.number, plain (p.ProductLine l.i l.a l.j l.b l.coefficients l.bound))

abbrev pub four : (ℕ → ℕ → ℕ → ℕ → p.Plain) → List ℕ → Form
four says ns = plain (says (slice_index_or ns 0 0) (slice_index_or ns 1 0) (slice_index_or ns 2 0) (slice_index_or ns 3 0))

abbrev pub opening_lines : Cert → List Stated
opening_lines c =
    (None, plain (p.Version c.version)) ∷ (None, plain (p.Modulus c.modulus))
    ∷ (None, plain (p.Cells (count c.space 0) (count c.space 1) (count c.space 2) (count c.space 3))) ∷ []

abbrev pub space_lines : Cert → List Stated
space_lines c = face_lines c.space 1 ++ (face_lines c.space 2 ++ (face_lines c.space 3 ++ (None, four p.Chains c.chains) ∷ []))

abbrev pub homology_lines : Cert → List Stated
homology_lines c =
    flat_map (rank_lines c.ranks) (0 ∷ 1 ∷ 2 ∷ []) ++ (flat_map (class_lines c.classes) (0 ∷ 1 ∷ 2 ∷ 3 ∷ [])
    ++ (None, plain (p.Products (length c.products))) ∷ map product_line c.products)

-- ---- the cover part

abbrev pub pair_line : PairLine → Stated
pair_line l = (Some l.number, plain (p.PairLine l.pair.dim l.pair.lower l.pair.upper))

-- the columns of the components from n on
abbrev pub column_lines : (n : ℕ) → List ℕ → List Stated
column_lines n [] = []
column_lines n (c ∷ cs) = (None, plain (p.Columns n c)) ∷ column_lines (n + 1) cs

abbrev pub component_lines : (version : ℕ) → List ℕ → List Stated
component_lines version columns =
    if version == 1 then [] else (None, plain (p.Components (length columns))) ∷ column_lines 1 columns

-- in version 1 the one section has the number of the line `sheets`
abbrev pub first_number : List CoverSection → ℕ
first_number [] = 0
first_number (s ∷ sections) = s.number

abbrev pub sheets_number : (version : ℕ) → List CoverSection → Option ℕ
sheets_number version sections = if version == 1 then Some (first_number sections) else None

abbrev pub cover_front : (version : ℕ) → CertCover → List Stated
cover_front version c =
    (None, plain (p.Pairs (length c.pairs))) ∷ (map pair_line c.pairs ++ (Some c.critical_line, four p.Critical c.critical)
    ∷ (component_lines version c.columns ++ (sheets_number version c.sections, placed (Sheets c.sheets c.from)) ∷ []))

abbrev pub cover_line : CoverTable → Stated
cover_line t = (Some t.number, placed (Cover t.sheets (rows_of t.sheets t.columns t.cells)))

abbrev pub section_lines : (version : ℕ) → CoverSection → List Stated
section_lines version s =
    (if version == 1 then [] else (Some s.number, plain (p.Covers s.component)) ∷ []) ++ map cover_line s.tables

abbrev pub ending_line : Option SearchSpot → Stated
ending_line None = (None, plain p.Done)
ending_line (Some spot) = (None, placed (Spent spot))

abbrev pub section_text : (component : ℕ) → List ℕ
section_text component = line_bytes (plain (p.Covers component))

abbrev pub cover_text : (sheets columns : ℕ) → List ℕ → List ℕ
cover_text sheets columns cells = line_bytes (placed (Cover sheets (rows_of sheets columns cells)))

-- ---- the three parts

abbrev pub cover_fronts : (version : ℕ) → Option CertCover → List Stated
cover_fronts version None = []
cover_fronts version (Some c) = cover_front version c

abbrev pub front_lines : Cert → List Stated
front_lines c = opening_lines c ++ (space_lines c ++ (homology_lines c ++ cover_fronts c.version c.cover))

abbrev pub sections_in : (version : ℕ) → Option CertCover → List Stated
sections_in version None = []
sections_in version (Some c) = flat_map (section_lines version) c.sections

abbrev pub sections_lines : Cert → List Stated
sections_lines c = sections_in c.version c.cover

-- where there is a cover part, whether it was done or where it was spent
abbrev pub endings : Option CertCover → Option (Option SearchSpot)
endings None = None
endings (Some c) = Some c.spent

abbrev pub back_lines : Option (Option SearchSpot) → List Stated
back_lines None = (None, plain p.End) ∷ []
back_lines (Some spent) = ending_line spent ∷ (None, plain p.End) ∷ []

abbrev pub lines_of : Cert → List Stated
lines_of c = front_lines c ++ (sections_lines c ++ back_lines (endings c.cover))

abbrev pub forms_of : Cert → List Form
forms_of c = map (λ l. l.1) (lines_of c)

-- ---- the text

abbrev pub front_text : Cert → List ℕ
front_text c = lines_text (front_lines c)

abbrev pub sections_text : Cert → List ℕ
sections_text c = lines_text (sections_lines c)

abbrev pub back_text : Cert → List ℕ
back_text c = lines_text (back_lines (endings c.cover))

abbrev pub cert_text : Cert → List ℕ
cert_text c = front_text c ++ (sections_text c ++ back_text c)
