-- The tests of a certificate, each with what is answered where it is the first that fails. F is the arithmetic of a field, space the lists of
-- a space, c a certificate, part its cover part. Lines, components and cells are numbered from 1, places and degrees from 0.
--   Test, test holds refusal           whether it holds, and why not
--   regular space                      whether the space keeps the rules of regular spaces
--   space_holds c                      the space is regular; in version 1 with a cover part it has one component
--   count_test F c degree              the chains of a degree are as many as the lines of rank of it and of one degree less, and the classes
--   rank_tests F chains next before lines
--                                      the lines of rank of a degree, behind lines with these right sides
--   class_tests F below chains next rights place lines
--                                      the classes of a degree from a place on; rights are the right sides of all
--   lefts c degree                     the left sides of the classes of a degree
--   product_test F c line              a product
--   line_fits space all earlier p      each other facet of the upper that is the lower of a pair of the dimension is that of an earlier pair
--   pair_holds space all earlier p     so it is, the pair is incident, and none of its cells is in an earlier pair
--   pairs_hold space all earlier pairs so it is with these pairs, one after another
--   pair_tests space all earlier lines the lines of pairs
--   one_vertex space pairs             each component has one critical vertex
--   edges_in space pairs number        the critical edges of a component
--   column_tests space pairs line number columns
--                                      the columns of the components from this one on are its critical edges; the line before the first
--   follows last position              a table comes after the one before, if there is one
--   cover_tests space pairs last tables   the tables of a component: space and pairs are those of its part
--   section_tests space pairs section  those of a section
--   cover_part_tests c part            all of a cover part
use Rattle.std.specs.Prelude.{ℕ, zero, suc, ◌+◌, ◌-◌, ◌==◌, ◌&&◌, ◌||◌, List, [], ◌∷◌, ◌++◌, Bool, true, false, not, map, filter, length, slice_index_or, if◌then◌else◌, Option, Some, None}
use Rattle.std.specs.List.{list_all, list_any, flat_map}
use Rattle.number_lists.specs.Words.{upto}
use Rattle.face_poset.specs.declared.cells.Pair.{Pair}
use Rattle.face_poset.specs.Poset.{Layers, count}
use Rattle.small_field.specs.Field.{Ops}
use Rattle.regular_check.specs.Rules.{first_fault}
use Rattle.regular_check.specs.Components.{component_count}
use Rattle.order_complex.specs.Chains.{chains_of}
use Rattle.chain_laws.specs.Lines.{chains_below, rank_holds, cocycle_holds, cycle_holds, pairing_holds, product_holds, count_holds}
use Rattle.vector_field.specs.Pairs.{has_lower, is_used, is_incident, others, unpaired}
use Rattle.vector_field.specs.Maximal.{vertices_in, is_maximal}
use Rattle.space_parts.specs.Parts.{component_at, part_of}
use Rattle.part_fields.specs.Fields.{field_in}
use Rattle.sheet_laws.specs.Lifts.{is_cover}
use Rattle.live_laws.specs.Live.{Position, comes_after}
use Rattle.certificates.specs.declared.lines.Line.{Line}
use Rattle.certificates.specs.declared.lines.ProductLine.{ProductLine}
use Rattle.certificates.specs.declared.lines.PairLine.{PairLine}
use Rattle.certificates.specs.Degrees.{at}
use Rattle.certificates.specs.Cert.{CoverTable, CoverSection, CertCover, Cert}
use Rattle.cert_laws.specs.declared.refused.Refused.{Refused}
use Rattle.cert_laws.specs.declared.refused.Refused.TheVariants as refused

pub record Test : Type 0 where
  pub holds : Bool
  pub refusal : Refused

abbrev pub test : Bool → Refused → Test
test holds refusal = record { holds = holds; refusal = refusal }

-- ---- the space

abbrev pub regular : Layers → Bool
regular space = elim (first_fault space) [ None ↦ true | Some _ ↦ false ]

abbrev pub has_cover : Cert → Bool
has_cover c = elim c.cover [ None ↦ false | Some _ ↦ true ]

abbrev pub space_holds : Cert → Bool
space_holds c = regular c.space && (not ((c.version == 1) && has_cover c) || (component_count c.space == 1))

-- ---- the homology

abbrev pub lines_before : List (List Line) → (degree : ℕ) → List Line
lines_before lists zero = []
lines_before lists (suc degree) = at lists degree

abbrev pub count_test : Cert → (degree : ℕ) → Test
count_test c k = test (count_holds (chains_of c.space k) (length (lines_before c.ranks k)) (length (at c.ranks k)) (length (at c.classes k))) (refused.Count k)

abbrev pub rank_tests : Ops → (chains next : List (List ℕ)) → (before : List (List (ℕ × ℕ))) → List Line → List Test
rank_tests F chains next before [] = []
rank_tests F chains next before (line ∷ lines) =
    test (rank_holds F chains next before line.left line.right) (refused.Rank line.number) ∷ rank_tests F chains next (before ++ line.right ∷ []) lines

abbrev pub class_tests : Ops → (below chains next : List (List ℕ)) → (rights : List (List (ℕ × ℕ))) → (place : ℕ) → List Line → List Test
class_tests F below chains next rights place [] = []
class_tests F below chains next rights place (line ∷ lines) =
    test (cocycle_holds F chains next line.left) (refused.NotCocycle line.number)
    ∷ test (cycle_holds F below chains line.right) (refused.NotCycle line.number)
    ∷ test (pairing_holds F chains rights place line.left) (refused.Pairing line.number)
    ∷ class_tests F below chains next rights (suc place) lines

abbrev pub ranks_in : Ops → Cert → (degree : ℕ) → List Test
ranks_in F c k = rank_tests F (chains_of c.space k) (chains_of c.space (suc k)) [] (at c.ranks k)

abbrev pub classes_in : Ops → Cert → (degree : ℕ) → List Test
classes_in F c k = class_tests F (chains_below c.space k) (chains_of c.space k) (chains_of c.space (suc k)) (map (λ l. l.right) (at c.classes k)) 0 (at c.classes k)

abbrev pub lefts : Cert → (degree : ℕ) → List (List (ℕ × ℕ))
lefts c k = map (λ l. l.left) (at c.classes k)

abbrev pub left_at : Cert → (degree number : ℕ) → List (ℕ × ℕ)
left_at c k number = slice_index_or (lefts c k) (number - 1) []

abbrev pub product_test : Ops → Cert → ProductLine → Test
product_test F c l =
    test
    (product_holds F l.i (chains_of c.space l.i) (left_at c l.i l.a) (chains_of c.space l.j) (left_at c l.j l.b) (chains_below c.space (l.i + l.j))
    (chains_of c.space (l.i + l.j)) (lefts c (l.i + l.j)) l.coefficients l.bound)
    (refused.Product l.number)

abbrev pub homology_tests : Ops → Cert → List Test
homology_tests F c =
    map (count_test c) (0 ∷ 1 ∷ 2 ∷ 3 ∷ [])
    ++ (flat_map (ranks_in F c) (0 ∷ 1 ∷ 2 ∷ []) ++ (flat_map (classes_in F c) (0 ∷ 1 ∷ 2 ∷ 3 ∷ []) ++ map (product_test F c) c.products))

-- ---- the field of pairs

abbrev pub line_fits : Layers → (all earlier : List Pair) → Pair → Bool
line_fits space all earlier p = list_all (λ f. not (list_any (has_lower p.dim f) all) || list_any (has_lower p.dim f) earlier) (others space p)

abbrev pub pair_holds : Layers → (all earlier : List Pair) → Pair → Bool
pair_holds space all earlier p =
    is_incident space p && (not (is_used earlier p.dim p.lower) && (not (is_used earlier (p.dim + 1) p.upper) && line_fits space all earlier p))

abbrev pub pairs_hold : Layers → (all earlier pairs : List Pair) → Bool
pairs_hold space all earlier [] = true
pairs_hold space all earlier (p ∷ ps) = pair_holds space all earlier p && pairs_hold space all (earlier ++ p ∷ []) ps

abbrev pub pairs_of : CertCover → List Pair
pairs_of part = map (λ l. l.pair) part.pairs

abbrev pub pair_tests : Layers → (all earlier : List Pair) → List PairLine → List Test
pair_tests space all earlier [] = []
pair_tests space all earlier (l ∷ ls) = test (pair_holds space all earlier l.pair) (refused.Field l.number) ∷ pair_tests space all (earlier ++ l.pair ∷ []) ls

abbrev pub one_vertex : Layers → List Pair → Bool
one_vertex space pairs = list_all (λ number. length (vertices_in space pairs number) == 1) (upto (component_count space))

abbrev pub edges_in : Layers → List Pair → (number : ℕ) → List ℕ
edges_in space pairs number = filter (λ e. component_at space 1 e == number) (unpaired pairs 1 (count space 1))

abbrev pub column_tests : Layers → List Pair → (line number : ℕ) → List ℕ → List Test
column_tests space pairs line number [] = []
column_tests space pairs line number (c ∷ cs) =
    test (c == length (edges_in space pairs number)) (refused.Columns (line + 1)) ∷ column_tests space pairs (line + 1) (suc number) cs

-- ---- the tables

abbrev pub follows : Option Position → Position → Bool
follows None t = true
follows (Some last) t = comes_after last t

abbrev pub cover_tests : Layers → List Pair → Option Position → List CoverTable → List Test
cover_tests space pairs last [] = []
cover_tests space pairs last (t ∷ ts) =
    test (is_cover space pairs (t.sheets, t.cells)) (refused.Cover t.number)
    ∷ test (follows last (t.sheets, t.cells)) (refused.CoverOrder t.number)
    ∷ cover_tests space pairs (Some (t.sheets, t.cells)) ts

abbrev pub section_tests : Layers → List Pair → CoverSection → List Test
section_tests space pairs s = cover_tests (part_of space s.component) (field_in space pairs s.component) None s.tables

-- the line `critical` is followed by `components`, and that by a line `columns` for each component
abbrev pub columns_in : (version : ℕ) → Layers → CertCover → List Test
columns_in version space part = if version == 1 then [] else column_tests space (pairs_of part) (part.critical_line + 1) 1 part.columns

abbrev pub field_tests : Layers → CertCover → List Test
field_tests space part =
    pair_tests space (pairs_of part) [] part.pairs
    ++ test (one_vertex space (pairs_of part)) (refused.Field part.critical_line)
    ∷ test (is_maximal space (pairs_of part)) (refused.NotMaximal part.critical_line)
    ∷ []

abbrev pub cover_part_tests : (version : ℕ) → Layers → Option CertCover → List Test
cover_part_tests version space None = []
cover_part_tests version space (Some part) =
    field_tests space part ++ (columns_in version space part ++ flat_map (section_tests space (pairs_of part)) part.sections)
