-- The line that says what was picked.
use Rattle.std.proofs.Common.{◌≡◌, ◌∷◌, [], ℕ, List, Option, Some, None, refl, sym, ap}
use Rattle.std.proofs.lemmas.Option.{same_Some}
use Rattle.certificates.specs.Parts.{Sparse}
use Rattle.certificates.specs.Plain as p
use Rattle.certificates.specs.Placed as q
use Rattle.certificates.specs.Placed.{SearchSpot}
use Rattle.certificates.specs.Forms.{Form, plain, placed}
use Rattle.certificates.specs.Texts.{four}
use Rattle.cert_text.specs.Picks.{pick_modulus, pick_cells, pick_face, pick_chains, pick_rank, pick_rank_line, pick_classes, pick_class_line, pick_products, pick_product_line, pick_pairs_or_end, pick_pair_line, pick_critical, pick_components, pick_columns, pick_sheets, pick_covers, Listing, a_table, a_section, an_ending, pick_listing, pick_end}

pub modulus-picked : (f : Form) (x : ℕ) → pick_modulus f ≡ Some x → plain (p.Modulus x) ≡ f
modulus-picked (plain (p.Modulus m)) x h = ap (λ n. plain (p.Modulus n)) (sym (same_Some m x h))
modulus-picked f x h = cc

pub cells-picked : (f : Form) (x : List ℕ) → pick_cells f ≡ Some x → four p.Cells x ≡ f
cells-picked (plain (p.Cells a b c d)) x h = ap (four p.Cells) (sym (same_Some (a ∷ b ∷ c ∷ d ∷ []) x h))
cells-picked f x h = cc

pub face-picked : (f : Form) (x : ℕ × List ℕ) → pick_face f ≡ Some x → plain (p.Face x.0 x.1) ≡ f
face-picked (plain (p.Face k facets)) x h = ap (λ (y : ℕ × List ℕ). plain (p.Face y.0 y.1)) (sym (same_Some (k, facets) x h))
face-picked f x h = cc

pub chains-picked : (f : Form) (x : List ℕ) → pick_chains f ≡ Some x → four p.Chains x ≡ f
chains-picked (plain (p.Chains a b c d)) x h = ap (four p.Chains) (sym (same_Some (a ∷ b ∷ c ∷ d ∷ []) x h))
chains-picked f x h = cc

pub rank-picked : (f : Form) (x : ℕ × ℕ) → pick_rank f ≡ Some x → plain (p.Rank x.0 x.1) ≡ f
rank-picked (plain (p.Rank k r)) x h = ap (λ (y : ℕ × ℕ). plain (p.Rank y.0 y.1)) (sym (same_Some (k, r) x h))
rank-picked f x h = cc

pub rank_line-picked : (f : Form) (x : Sparse × Sparse) → pick_rank_line f ≡ Some x → plain (p.RankLine x.0 x.1) ≡ f
rank_line-picked (plain (p.RankLine l r)) x h = ap (λ (y : Sparse × Sparse). plain (p.RankLine y.0 y.1)) (sym (same_Some (l, r) x h))
rank_line-picked f x h = cc

pub classes-picked : (f : Form) (x : ℕ × ℕ) → pick_classes f ≡ Some x → plain (p.Classes x.0 x.1) ≡ f
classes-picked (plain (p.Classes k r)) x h = ap (λ (y : ℕ × ℕ). plain (p.Classes y.0 y.1)) (sym (same_Some (k, r) x h))
classes-picked f x h = cc

pub class_line-picked : (f : Form) (x : Sparse × Sparse) → pick_class_line f ≡ Some x → plain (p.ClassLine x.0 x.1) ≡ f
class_line-picked (plain (p.ClassLine l r)) x h = ap (λ (y : Sparse × Sparse). plain (p.ClassLine y.0 y.1)) (sym (same_Some (l, r) x h))
class_line-picked f x h = cc

pub products-picked : (f : Form) (x : ℕ) → pick_products f ≡ Some x → plain (p.Products x) ≡ f
products-picked (plain (p.Products n)) x h = ap (λ m. plain (p.Products m)) (sym (same_Some n x h))
products-picked f x h = cc

pub product_line-picked : (f : Form) (x : (ℕ × ℕ × ℕ × ℕ) × Sparse × Sparse) → pick_product_line f ≡ Some x → plain (p.ProductLine x.0.0 x.0.1 x.0.2 x.0.3 x.1 x.2) ≡ f
product_line-picked (plain (p.ProductLine i a j b c d)) x h =
    ap (λ (y : (ℕ × ℕ × ℕ × ℕ) × Sparse × Sparse). plain (p.ProductLine y.0.0 y.0.1 y.0.2 y.0.3 y.1 y.2)) (sym (same_Some ((i, a, j, b), c, d) x h))
product_line-picked f x h = cc

-- `pairs`, or `end`
abbrev pub pairs_or_end : Option ℕ → Form
pairs_or_end None = plain p.End
pairs_or_end (Some q) = plain (p.Pairs q)

pub pairs_or_end-picked : (f : Form) (x : Option ℕ) → pick_pairs_or_end f ≡ Some x → pairs_or_end x ≡ f
pairs_or_end-picked (plain (p.Pairs n)) x h = ap pairs_or_end (sym (same_Some (Some n) x h))
pairs_or_end-picked (plain p.End) x h = ap pairs_or_end (sym (same_Some None x h))
pairs_or_end-picked f x h = cc

pub pair_line-picked : (f : Form) (x : ℕ × ℕ × ℕ) → pick_pair_line f ≡ Some x → plain (p.PairLine x.0 x.1 x.2) ≡ f
pair_line-picked (plain (p.PairLine d l u)) x h = ap (λ (y : ℕ × ℕ × ℕ). plain (p.PairLine y.0 y.1 y.2)) (sym (same_Some (d, l, u) x h))
pair_line-picked f x h = cc

pub critical-picked : (f : Form) (x : List ℕ) → pick_critical f ≡ Some x → four p.Critical x ≡ f
critical-picked (plain (p.Critical a b c d)) x h = ap (four p.Critical) (sym (same_Some (a ∷ b ∷ c ∷ d ∷ []) x h))
critical-picked f x h = cc

pub components-picked : (f : Form) (x : ℕ) → pick_components f ≡ Some x → plain (p.Components x) ≡ f
components-picked (plain (p.Components n)) x h = ap (λ m. plain (p.Components m)) (sym (same_Some n x h))
components-picked f x h = cc

pub columns-picked : (f : Form) (x : ℕ × ℕ) → pick_columns f ≡ Some x → plain (p.Columns x.0 x.1) ≡ f
columns-picked (plain (p.Columns i c)) x h = ap (λ (y : ℕ × ℕ). plain (p.Columns y.0 y.1)) (sym (same_Some (i, c) x h))
columns-picked f x h = cc

pub sheets-picked : (f : Form) (x : ℕ × SearchSpot) → pick_sheets f ≡ Some x → placed (q.Sheets x.0 x.1) ≡ f
sheets-picked (placed (q.Sheets n s)) x h = ap (λ (y : ℕ × SearchSpot). placed (q.Sheets y.0 y.1)) (sym (same_Some (n, s) x h))
sheets-picked f x h = cc

pub covers-picked : (f : Form) (x : ℕ) → pick_covers f ≡ Some x → plain (p.Covers x) ≡ f
covers-picked (plain (p.Covers n)) x h = ap (λ m. plain (p.Covers m)) (sym (same_Some n x h))
covers-picked f x h = cc

-- the line of a listing
abbrev pub listing_form : Listing → Form
listing_form (a_table m rows) = placed (q.Cover m rows)
listing_form (a_section i) = plain (p.Covers i)
listing_form (an_ending None) = plain p.Done
listing_form (an_ending (Some s)) = placed (q.Spent s)

pub listing-picked : (f : Form) (x : Listing) → pick_listing f ≡ Some x → listing_form x ≡ f
listing-picked (placed (q.Cover m rows)) x h = ap listing_form (sym (same_Some (a_table m rows) x h))
listing-picked (plain (p.Covers i)) x h = ap listing_form (sym (same_Some (a_section i) x h))
listing-picked (plain p.Done) x h = ap listing_form (sym (same_Some (an_ending None) x h))
listing-picked (placed (q.Spent s)) x h = ap listing_form (sym (same_Some (an_ending (Some s)) x h))
listing-picked f x h = cc

pub listing-back : (x : Listing) → pick_listing (listing_form x) ≡ Some x
listing-back (a_table m rows) = refl
listing-back (a_section i) = refl
listing-back (an_ending None) = refl
listing-back (an_ending (Some s)) = refl

pub end-picked : (f : Form) (x : Unit {0}) → pick_end f ≡ Some x → plain p.End ≡ f
end-picked (plain p.End) x h = refl
end-picked f x h = cc
