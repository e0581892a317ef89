-- A certificate as plain data, with no bound on its lists and numbers. What a table or a spot has room for is forgotten.
--   CoverTable, CoverSection, CertCover, Cert   as `CoverLine`, `Section`, `CoverPart` and `Certificate` of the code
--   spot_of mark, table_of line, section_of, ended_at, cover_of   the parts of a certificate of the code
--   cert_of certificate                                           the plain data of a certificate of the code
--   rows_of table                                                 the rows of a table, none where it has no column
use Rattle.std.specs.Prelude.{ℕ, zero, suc, ◌==◌, List, [], ◌∷◌, map, take, drop, if◌then◌else◌, Option, Some, None, option_map}
use Rattle.face_poset.specs.Poset.{Layers}
use Rattle.sheet_tables.specs.Spots.{Mark}
use Rattle.certificates.specs.declared.lines.Line.{Line}
use Rattle.certificates.specs.declared.lines.ProductLine.{ProductLine}
use Rattle.certificates.specs.declared.lines.PairLine.{PairLine}
use Rattle.certificates.specs.declared.lines.CoverLine.{CoverLine}
use Rattle.certificates.specs.declared.certificate.Section.{Section}
use Rattle.certificates.specs.declared.certificate.Ending.{Ending}
use Rattle.certificates.specs.declared.certificate.Ending.TheVariants as ending
use Rattle.certificates.specs.declared.certificate.CoverPart.{CoverPart}
use Rattle.certificates.specs.declared.certificate.Certificate.{Certificate}
use Rattle.certificates.specs.Placed.{SearchSpot, SheetRows}

-- a line with a table: its number in the text, counted from 1, and the cells row by row
pub record CoverTable : Type 0 where
  pub number : ℕ
  pub sheets : ℕ
  pub columns : ℕ
  pub cells : List ℕ

-- the tables of a component, counted from 1; in version 1 the number is that of the line `sheets`
pub record CoverSection : Type 0 where
  pub number : ℕ
  pub component : ℕ
  pub tables : List CoverTable

-- the pairs of the field, the critical cells of each dimension, the critical edges of each component, the most sheets,
-- where the search began, what it listed, and where it was spent, or None where it was done
pub record CertCover : Type 0 where
  pub pairs : List PairLine
  pub critical_line : ℕ
  pub critical : List ℕ
  pub columns : List ℕ
  pub sheets : ℕ
  pub from : SearchSpot
  pub sections : List CoverSection
  pub spent : Option SearchSpot

-- the chains, the lines of rank and the classes are listed by degree from 0 to 3
pub record Cert : Type 0 where
  pub version : ℕ
  pub modulus : ℕ
  pub space : Layers
  pub chains : List ℕ
  pub ranks : List (List Line)
  pub classes : List (List Line)
  pub products : List ProductLine
  pub cover : Option CertCover

-- ---- from the types of the code

abbrev pub spot_of : Mark → SearchSpot
spot_of mark = if mark.sheets == 0 then None else Some (mark.component, mark.sheets, mark.cells)

abbrev pub table_of : CoverLine → CoverTable
table_of line = record { number = line.number; sheets = line.table.sheets; columns = line.table.columns; cells = line.table.cells }

abbrev pub section_of : Section → CoverSection
section_of section = record { number = section.number; component = section.component; tables = map table_of section.covers }

abbrev pub ended_at : Ending → Option SearchSpot
ended_at ending.Done = None
ended_at (ending.Spent mark) = Some (spot_of mark)

abbrev pub cover_of : CoverPart → CertCover
cover_of part = record {
  pairs = part.pairs;
  critical_line = part.critical_line;
  critical = part.critical;
  columns = part.columns;
  sheets = part.sheets;
  from = spot_of part.from;
  sections = map section_of part.sections;
  spent = ended_at part.ending;
}

abbrev pub cert_of : Certificate → Cert
cert_of c = record {
  version = c.version;
  modulus = c.modulus;
  space = c.space;
  chains = c.chains;
  ranks = c.ranks;
  classes = c.classes;
  products = c.products;
  cover = option_map cover_of c.cover;
}

-- ---- tables by rows

abbrev pub cut_rows : (sheets columns : ℕ) → List ℕ → SheetRows
cut_rows zero columns cells = []
cut_rows (suc sheets) columns cells = take columns cells ∷ cut_rows sheets columns (drop columns cells)

abbrev pub rows_of : (sheets columns : ℕ) → List ℕ → SheetRows
rows_of sheets columns cells = if columns == 0 then [] else cut_rows sheets columns cells
