-- Lines of numbers and sparse lists: what each says, of both versions.
--   Plain                what one such line says
--   parts plain          its kind, numbers and lists
--   plain_text plain     its text
--   IsPlain plain        each number has at most ten digits, and a face has a facet
--   plain_of line        what a line says, if it has such a form
-- and as steps of these
--   HasFacet plain       a face has a facet
--   plain_from           what a kind with these lists and numbers says
use Rattle.std.specs.Prelude.{ℕ, ◌≤◌, List, [], ◌∷◌, length, Option, Some, None, option_and_then, All}
use Rattle.certificates.specs.declared.kind.Kind.{Kind}
use Rattle.certificates.specs.declared.kind.Kind.TheVariants as kind
use Rattle.certificates.specs.Tokens.{IsProper}
use Rattle.certificates.specs.Parts.{Sparse, Parts, numbered, listed, rest_tokens, parts_text, parts_of}

pub data Plain : Type 0 where
  Version : (n : ℕ) → Plain
  Modulus : (p : ℕ) → Plain
  Cells : (v e f s : ℕ) → Plain
  Face : (k : ℕ) (facets : List ℕ) → Plain
  Chains : (n0 n1 n2 n3 : ℕ) → Plain
  Rank : (k r : ℕ) → Plain
  RankLine : (left right : Sparse) → Plain
  Classes : (k b : ℕ) → Plain
  ClassLine : (left right : Sparse) → Plain
  Products : (q : ℕ) → Plain
  ProductLine : (i a j b : ℕ) (coefficients bound : Sparse) → Plain
  Pairs : (q : ℕ) → Plain
  PairLine : (d l u : ℕ) → Plain
  Critical : (c0 c1 c2 c3 : ℕ) → Plain
  Components : (k : ℕ) → Plain
  Columns : (i c : ℕ) → Plain
  Covers : (i : ℕ) → Plain
  Done End : Plain

abbrev pub parts : Plain → Parts
parts (Version n) = numbered kind.Version (n ∷ [])
parts (Modulus p) = numbered kind.Modulus (p ∷ [])
parts (Cells v e f s) = numbered kind.Cells (v ∷ e ∷ f ∷ s ∷ [])
parts (Face k facets) = numbered kind.Face (k ∷ facets)
parts (Chains n0 n1 n2 n3) = numbered kind.Chains (n0 ∷ n1 ∷ n2 ∷ n3 ∷ [])
parts (Rank k r) = numbered kind.Rank (k ∷ r ∷ [])
parts (RankLine left right) = listed kind.RankLine [] left right
parts (Classes k b) = numbered kind.Classes (k ∷ b ∷ [])
parts (ClassLine left right) = listed kind.ClassLine [] left right
parts (Products q) = numbered kind.Products (q ∷ [])
parts (ProductLine i a j b coefficients bound) = listed kind.ProductLine (i ∷ a ∷ j ∷ b ∷ []) coefficients bound
parts (Pairs q) = numbered kind.Pairs (q ∷ [])
parts (PairLine d l u) = numbered kind.PairLine (d ∷ l ∷ u ∷ [])
parts (Critical c0 c1 c2 c3) = numbered kind.Critical (c0 ∷ c1 ∷ c2 ∷ c3 ∷ [])
parts (Components k) = numbered kind.Components (k ∷ [])
parts (Columns i c) = numbered kind.Columns (i ∷ c ∷ [])
parts (Covers i) = numbered kind.Covers (i ∷ [])
parts Done = numbered kind.Done []
parts End = numbered kind.End []

abbrev pub plain_text : Plain → List ℕ
plain_text f = parts_text (parts f)

abbrev pub HasFacet : Plain → Type 0
HasFacet (Face k facets) = 1 ≤ length facets
HasFacet f = Unit {0}

pub record IsPlain (f : Plain) : Type 0 where
  pub proper : All IsProper (rest_tokens (parts f).rest)
  pub facet : HasFacet f

-- ---- the reading

abbrev pub plain_from : Kind → Option (Sparse × Sparse) → List ℕ → Option Plain
plain_from kind.Version None (n ∷ []) = Some (Version n)
plain_from kind.Modulus None (p ∷ []) = Some (Modulus p)
plain_from kind.Cells None (v ∷ e ∷ f ∷ s ∷ []) = Some (Cells v e f s)
plain_from kind.Face None (k ∷ a ∷ facets) = Some (Face k (a ∷ facets))
plain_from kind.Chains None (n0 ∷ n1 ∷ n2 ∷ n3 ∷ []) = Some (Chains n0 n1 n2 n3)
plain_from kind.Rank None (k ∷ r ∷ []) = Some (Rank k r)
plain_from kind.RankLine (Some s) [] = Some (RankLine s.0 s.1)
plain_from kind.Classes None (k ∷ b ∷ []) = Some (Classes k b)
plain_from kind.ClassLine (Some s) [] = Some (ClassLine s.0 s.1)
plain_from kind.Products None (q ∷ []) = Some (Products q)
plain_from kind.ProductLine (Some s) (i ∷ a ∷ j ∷ b ∷ []) = Some (ProductLine i a j b s.0 s.1)
plain_from kind.Pairs None (q ∷ []) = Some (Pairs q)
plain_from kind.PairLine None (d ∷ l ∷ u ∷ []) = Some (PairLine d l u)
plain_from kind.Critical None (c0 ∷ c1 ∷ c2 ∷ c3 ∷ []) = Some (Critical c0 c1 c2 c3)
plain_from kind.Components None (k ∷ []) = Some (Components k)
plain_from kind.Columns None (i ∷ c ∷ []) = Some (Columns i c)
plain_from kind.Covers None (i ∷ []) = Some (Covers i)
plain_from kind.Done None [] = Some Done
plain_from kind.End None [] = Some End
plain_from k lists numbers = None

abbrev pub plain_of : List ℕ → Option Plain
plain_of line = option_and_then (λ p. plain_from p.kind p.rest.lists p.rest.numbers) (parts_of line)
