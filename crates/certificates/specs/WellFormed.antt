-- Which certificates are well formed: each number, position and value is in its range, each line has a form of the version,
-- and each line that the certificate gives a number has that number in its text. m is the modulus, C the numbers of columns of the components.
--   are_entries m count entries      positions that rise from 1 to the count, values from 1 to m - 1
--   rank_fits c k, class_fits c k    the lines of a degree are at most as many as its chains, and their entries fit
--   product_order b1 b2              the places of the product lines in their order: of degrees (1,1), (1,2), (2,1)
--   product_fits c line              the entries of a product line fit
--   pair_fits space line             the cells of a pair exist
--   critical_fits space c k          the critical cells of a dimension are those in no pair
--   spot_fits C n spot               the start, or a component with its columns, at most n sheets, cells from 1 to the sheets, at most sheets times columns
--   table_fits columns n table       a table of at most n sheets with so many columns
--   SectionsFollow c sections        sections from the component of the start, one after another, to the last or to where the search was spent
--   are_numbered n lines             lines from line n on have the numbers that are given
--   IsCoverPart version space c      the cover part is in its ranges
--   IsWellFormed c                   all of it
use Rattle.std.specs.Prelude.{◌≡◌, ◌⊎◌, ℕ, ◌+◌, ◌-◌, ◌*◌, ◌≤◌, ◌==◌, nat_le, List, [], ◌∷◌, ◌++◌, map, length, sum, Bool, true, ◌&&◌, ◌||◌, Option, Some, None, slice_index_or, if◌then◌else◌}
use Rattle.std.specs.List.{AllByRecursion, list_all, flat_map}
use Rattle.small_field.specs.Modulus.{is_modulus}
use Rattle.face_poset.specs.Words.{upto}
use Rattle.face_poset.specs.Poset.{Layers, count, IsSpace, IsLimited}
use Rattle.order_complex.specs.Chains.{chain_count}
use Rattle.order_complex.specs.Counting.{chain_counts}
use Rattle.certificates.specs.declared.lines.Line.{Line}
use Rattle.certificates.specs.declared.lines.ProductLine.{ProductLine}
use Rattle.certificates.specs.declared.lines.PairLine.{PairLine}
use Rattle.certificates.specs.Placed.{SearchSpot}
use Rattle.certificates.specs.Degrees.{at}
use Rattle.certificates.specs.Forms.{IsForm}
use Rattle.certificates.specs.Cert.{CoverTable, CoverSection, CertCover, Cert}
use Rattle.certificates.specs.Texts.{Stated, lines_of}

-- ---- sparse lists

-- positions after the last one
abbrev pub entries_after : (m count last : ℕ) → List (ℕ × ℕ) → Bool
entries_after m count last [] = true
entries_after m count last (e ∷ entries) =
    (nat_le (last + 1) e.0 && nat_le e.0 count) && (nat_le 1 e.1 && nat_le (e.1 + 1) m) && entries_after m count e.0 entries

abbrev pub are_entries : (m count : ℕ) → List (ℕ × ℕ) → Bool
are_entries m count entries = entries_after m count 0 entries

abbrev pub sides_fit : (m left right : ℕ) → List Line → Bool
sides_fit m left right lines = list_all (λ l. are_entries m left l.left && are_entries m right l.right) lines

-- ---- the homology

abbrev pub chains_in : Cert → (degree : ℕ) → ℕ
chains_in c k = slice_index_or c.chains k 0

abbrev pub rank_fits : Cert → (degree : ℕ) → Bool
rank_fits c k = nat_le (length (at c.ranks k)) (chains_in c k) && sides_fit c.modulus (chains_in c k) (chains_in c (k + 1)) (at c.ranks k)

abbrev pub class_fits : Cert → (degree : ℕ) → Bool
class_fits c k = nat_le (length (at c.classes k)) (chains_in c k) && sides_fit c.modulus (chains_in c k) (chains_in c k) (at c.classes k)

-- the places of the products of degrees i and j, where these have so many classes
abbrev pub places : (i m j n : ℕ) → List (ℕ × ℕ × ℕ × ℕ)
places i m j n = flat_map (λ a. map (λ b. (i, a, j, b)) (upto n)) (upto m)

abbrev pub product_order : (b1 b2 : ℕ) → List (ℕ × ℕ × ℕ × ℕ)
product_order b1 b2 = places 1 b1 1 b1 ++ (places 1 b1 2 b2 ++ places 2 b2 1 b1)

abbrev pub product_place : ProductLine → ℕ × ℕ × ℕ × ℕ
product_place l = (l.i, l.a, l.j, l.b)

abbrev pub product_fits : Cert → ProductLine → Bool
product_fits c l =
    are_entries c.modulus (length (at c.classes (l.i + l.j))) l.coefficients && are_entries c.modulus (chains_in c (l.i + l.j - 1)) l.bound

-- ---- the cover part

abbrev pub is_between : (low high n : ℕ) → Bool
is_between low high n = nat_le low n && nat_le n high

abbrev pub pair_fits : Layers → PairLine → Bool
pair_fits space l =
    is_between 1 (count space l.pair.dim) l.pair.lower && is_between 1 (count space (l.pair.dim + 1)) l.pair.upper

-- how many cells of a dimension stand in pairs
abbrev pub paired : (dim : ℕ) → List PairLine → ℕ
paired dim [] = 0
paired dim (l ∷ ls) = (if (l.pair.dim == dim) || (l.pair.dim + 1 == dim) then 1 else 0) + paired dim ls

abbrev pub critical_fits : Layers → CertCover → (dim : ℕ) → Bool
critical_fits space c dim = slice_index_or c.critical dim 0 + paired dim c.pairs == count space dim

-- the number of columns of a component
abbrev pub columns_of : (columns : List ℕ) → (component : ℕ) → ℕ
columns_of columns component = slice_index_or columns (component - 1) 0

abbrev pub position_fits : (columns most sheets : ℕ) → List ℕ → Bool
position_fits columns most sheets cells =
    is_between 1 most sheets && is_between 1 (sheets * columns) (length cells) && list_all (is_between 1 sheets) cells

abbrev pub spot_fits : (columns : List ℕ) → (most : ℕ) → SearchSpot → Bool
spot_fits columns most None = true
spot_fits columns most (Some s) = is_between 1 (length columns) s.0 && position_fits (columns_of columns s.0) most s.1 s.2

abbrev pub spent_fits : (columns : List ℕ) → (most : ℕ) → Option SearchSpot → Bool
spent_fits columns most None = true
spent_fits columns most (Some spot) = spot_fits columns most spot

abbrev pub table_fits : (columns most : ℕ) → CoverTable → Bool
table_fits columns most t =
    is_between 1 most t.sheets && (t.columns == columns) && (length t.cells == t.sheets * columns) && list_all (is_between 1 t.sheets) t.cells

abbrev pub section_fits : CertCover → CoverSection → Bool
section_fits c s = list_all (table_fits (columns_of c.columns s.component) c.sheets) s.tables

-- the component of a spot; the start is in component 1
abbrev pub component_of : SearchSpot → ℕ
component_of None = 1
component_of (Some s) = s.0

-- the component of the last section: that of the spot where the search was spent, or the last one where it was done
abbrev pub last_component : CertCover → Option SearchSpot → ℕ
last_component c None = length c.columns
last_component c (Some spot) = component_of spot

-- the sections behind one of a component: each is of the next component, and there is one
abbrev pub NextSections : CertCover → (component : ℕ) → List CoverSection → Type 0
NextSections c component [] = component ≡ last_component c c.spent
NextSections c component (s ∷ sections) =
    (s.component ≡ component + 1) × (s.component ≤ length c.columns) × NextSections c s.component sections

abbrev pub SectionsFollow : CertCover → List CoverSection → Type 0
SectionsFollow c [] = ⊥
SectionsFollow c (s ∷ sections) = (s.component ≡ component_of c.from) × NextSections c s.component sections

-- the columns: in version 1 those of the one component, and in version 2 a number for each critical vertex, whose sum is
-- the number of critical edges
pub record ColumnsFit (version : ℕ) (c : CertCover) : Type 0 where
  pub one : version ≡ 1 → c.columns ≡ slice_index_or c.critical 1 0 ∷ []
  pub components : version ≡ 2 → (length c.columns ≡ slice_index_or c.critical 0 0) × (1 ≤ length c.columns)
  pub whole : version ≡ 2 → sum c.columns ≡ slice_index_or c.critical 1 0

pub record IsCoverPart (version : ℕ) (space : Layers) (c : CertCover) : Type 0 where
  pub pairs : list_all (pair_fits space) c.pairs ≡ true
  pub four : length c.critical ≡ 4
  pub critical : list_all (critical_fits space c) (0 ∷ 1 ∷ 2 ∷ 3 ∷ []) ≡ true
  pub columns : ColumnsFit version c
  pub sheets : is_between 1 8 c.sheets ≡ true
  pub from : spot_fits c.columns c.sheets c.from ≡ true
  pub sections : SectionsFollow c c.sections
  pub one_section : version ≡ 1 → length c.sections ≡ 1
  pub tables : list_all (section_fits c) c.sections ≡ true
  pub spent : spent_fits c.columns c.sheets c.spent ≡ true

-- ---- the numbers of the lines

abbrev pub are_numbered : ℕ → List Stated → Bool
are_numbered n [] = true
are_numbered n ((None, f) ∷ lines) = are_numbered (n + 1) lines
are_numbered n ((Some number, f) ∷ lines) = (number == n) && are_numbered (n + 1) lines

pub record IsWellFormed (c : Cert) : Type 0 where
  pub version : (c.version ≡ 1) ⊎ (c.version ≡ 2)
  pub modulus : is_modulus c.modulus ≡ true
  pub space : IsSpace c.space
  pub limited : IsLimited c.space
  pub chains : c.chains ≡ chain_counts c.space
  pub few : chain_count c.space ≤ 700000
  pub four_ranks : length c.ranks ≡ 4
  pub ranks : list_all (rank_fits c) (0 ∷ 1 ∷ 2 ∷ []) ≡ true
  pub last_rank : at c.ranks 3 ≡ []
  pub four_classes : length c.classes ≡ 4
  pub classes : list_all (class_fits c) (0 ∷ 1 ∷ 2 ∷ 3 ∷ []) ≡ true
  pub order : map product_place c.products ≡ product_order (length (at c.classes 1)) (length (at c.classes 2))
  pub products : list_all (product_fits c) c.products ≡ true
  pub cover : (part : CertCover) → c.cover ≡ Some part → IsCoverPart c.version c.space part
  pub numbers : are_numbered 1 (lines_of c) ≡ true
  pub forms : AllByRecursion (λ l. IsForm c.version l.1) (lines_of c)
