-- Which line says what is wanted at a place.
--   pick_X form   what a line of the kind X says; None for every other line
use Rattle.std.specs.Prelude.{ℕ, List, [], ◌∷◌, Option, Some, None}
use Rattle.certificates.specs.Parts.{Sparse}
use Rattle.certificates.specs.Plain as p
use Rattle.certificates.specs.Placed as q
use Rattle.certificates.specs.Placed.{SearchSpot}
use Rattle.certificates.specs.Forms.{Form, plain, placed}

abbrev pub pick_modulus : Form → Option ℕ
pick_modulus (plain (p.Modulus m)) = Some m
pick_modulus f = None

abbrev pub pick_cells : Form → Option (List ℕ)
pick_cells (plain (p.Cells v e f s)) = Some (v ∷ e ∷ f ∷ s ∷ [])
pick_cells f = None

abbrev pub pick_face : Form → Option (ℕ × List ℕ)
pick_face (plain (p.Face k facets)) = Some (k, facets)
pick_face f = None

abbrev pub pick_chains : Form → Option (List ℕ)
pick_chains (plain (p.Chains n0 n1 n2 n3)) = Some (n0 ∷ n1 ∷ n2 ∷ n3 ∷ [])
pick_chains f = None

abbrev pub pick_rank : Form → Option (ℕ × ℕ)
pick_rank (plain (p.Rank k r)) = Some (k, r)
pick_rank f = None

abbrev pub pick_rank_line : Form → Option (Sparse × Sparse)
pick_rank_line (plain (p.RankLine left right)) = Some (left, right)
pick_rank_line f = None

abbrev pub pick_classes : Form → Option (ℕ × ℕ)
pick_classes (plain (p.Classes k b)) = Some (k, b)
pick_classes f = None

abbrev pub pick_class_line : Form → Option (Sparse × Sparse)
pick_class_line (plain (p.ClassLine left right)) = Some (left, right)
pick_class_line f = None

abbrev pub pick_products : Form → Option ℕ
pick_products (plain (p.Products q)) = Some q
pick_products f = None

abbrev pub pick_product_line : Form → Option ((ℕ × ℕ × ℕ × ℕ) × Sparse × Sparse)
pick_product_line (plain (p.ProductLine i a j b coefficients bound)) = Some ((i, a, j, b), coefficients, bound)
pick_product_line f = None

-- `pairs` with its number, or `end` as None
abbrev pub pick_pairs_or_end : Form → Option (Option ℕ)
pick_pairs_or_end (plain (p.Pairs q)) = Some (Some q)
pick_pairs_or_end (plain p.End) = Some None
pick_pairs_or_end f = None

abbrev pub pick_pair_line : Form → Option (ℕ × ℕ × ℕ)
pick_pair_line (plain (p.PairLine d l u)) = Some (d, l, u)
pick_pair_line f = None

abbrev pub pick_critical : Form → Option (List ℕ)
pick_critical (plain (p.Critical c0 c1 c2 c3)) = Some (c0 ∷ c1 ∷ c2 ∷ c3 ∷ [])
pick_critical f = None

abbrev pub pick_components : Form → Option ℕ
pick_components (plain (p.Components k)) = Some k
pick_components f = None

abbrev pub pick_columns : Form → Option (ℕ × ℕ)
pick_columns (plain (p.Columns i c)) = Some (i, c)
pick_columns f = None

abbrev pub pick_sheets : Form → Option (ℕ × SearchSpot)
pick_sheets (placed (q.Sheets n s)) = Some (n, s)
pick_sheets f = None

abbrev pub pick_covers : Form → Option ℕ
pick_covers (plain (p.Covers i)) = Some i
pick_covers f = None

-- what may stand behind a line `covers`, or `sheets` in version 1: a table, the next section, how the search ended
pub data Listing : Type 0 where
  a_table : (m : ℕ) (rows : q.SheetRows) → Listing
  a_section : (i : ℕ) → Listing
  an_ending : (spent : Option SearchSpot) → Listing

abbrev pub pick_listing : Form → Option Listing
pick_listing (placed (q.Cover m rows)) = Some (a_table m rows)
pick_listing (plain (p.Covers i)) = Some (a_section i)
pick_listing (plain p.Done) = Some (an_ending None)
pick_listing (placed (q.Spent s)) = Some (an_ending (Some s))
pick_listing f = None

abbrev pub pick_end : Form → Option (Unit {0})
pick_end (plain p.End) = Some tt
pick_end f = None
