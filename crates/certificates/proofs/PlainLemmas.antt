-- A line has a form exactly where it is the text of that form.
use Rattle.std.proofs.Common.{◌≡◌, ◌∷◌, [], ℕ, Option, Some, None, List, refl, ◌∙◌, ap, arith, subst, All}
use Rattle.std.specs.Option.{option_and_then}
use Rattle.std.proofs.lemmas.Option.{same_Some}
use Rattle.certificates.specs.declared.kind.Kind.{Kind}
use Rattle.certificates.specs.declared.kind.Kind.TheVariants as kind
use Rattle.certificates.specs.Tokens.{IsProper}
use Rattle.certificates.specs.Tokens.{words_of}
use Rattle.certificates.specs.Parts.{Sparse, Parts, rest_tokens, parts_words, parts_text, parts_of}
use Rattle.certificates.specs.Plain.{Plain, Version, Modulus, Cells, Face, Chains, Rank, RankLine, Classes, ClassLine, Products, ProductLine, Pairs, PairLine, Critical, Components, Columns, Covers, Done, End, parts, plain_text, HasFacet, IsPlain, plain_from, plain_of}
use Rattle.certificates.proofs.Somes.{both_some}
use Rattle.certificates.proofs.PartLemmas.{parts-are, parts-back, from-is}

abbrev of : Kind → List ℕ → Option (Sparse × Sparse) → Parts
of k ns o = record { kind = k; rest = record { numbers = ns; lists = o } }

abbrev Fits : Kind → List ℕ → Option (Sparse × Sparse) → Plain → Type 0
Fits k ns o f = HasFacet f × (of k ns o ≡ parts f)

fit : (k : Kind) (ns : List ℕ) (o : Option (Sparse × Sparse)) (g f : Plain) → Some g ≡ Some f → Fits k ns o g → Fits k ns o f
fit k ns o g f h w = subst (Fits k ns o) (same_Some g f h) w

pub plain-fits : (k : Kind) (o : Option (Sparse × Sparse)) (ns : List ℕ) (f : Plain) → plain_from k o ns ≡ Some f → Fits k ns o f
plain-fits kind.Version None (n ∷ []) f h = fit _ _ _ (Version n) f h (tt, refl)
plain-fits kind.Modulus None (p ∷ []) f h = fit _ _ _ (Modulus p) f h (tt, refl)
plain-fits kind.Cells None (a ∷ b ∷ c ∷ d ∷ []) f h = fit _ _ _ (Cells a b c d) f h (tt, refl)
plain-fits kind.Face None (k ∷ a ∷ facets) f h = fit _ _ _ (Face k (a ∷ facets)) f h (omega arith, refl)
plain-fits kind.Chains None (a ∷ b ∷ c ∷ d ∷ []) f h = fit _ _ _ (Chains a b c d) f h (tt, refl)
plain-fits kind.Rank None (k ∷ r ∷ []) f h = fit _ _ _ (Rank k r) f h (tt, refl)
plain-fits kind.RankLine (Some s) [] f h = fit _ _ _ (RankLine s.0 s.1) f h (tt, refl)
plain-fits kind.Classes None (k ∷ b ∷ []) f h = fit _ _ _ (Classes k b) f h (tt, refl)
plain-fits kind.ClassLine (Some s) [] f h = fit _ _ _ (ClassLine s.0 s.1) f h (tt, refl)
plain-fits kind.Products None (q ∷ []) f h = fit _ _ _ (Products q) f h (tt, refl)
plain-fits kind.ProductLine (Some s) (i ∷ a ∷ j ∷ b ∷ []) f h = fit _ _ _ (ProductLine i a j b s.0 s.1) f h (tt, refl)
plain-fits kind.Pairs None (q ∷ []) f h = fit _ _ _ (Pairs q) f h (tt, refl)
plain-fits kind.PairLine None (d ∷ l ∷ u ∷ []) f h = fit _ _ _ (PairLine d l u) f h (tt, refl)
plain-fits kind.Critical None (a ∷ b ∷ c ∷ d ∷ []) f h = fit _ _ _ (Critical a b c d) f h (tt, refl)
plain-fits kind.Components None (k ∷ []) f h = fit _ _ _ (Components k) f h (tt, refl)
plain-fits kind.Columns None (i ∷ c ∷ []) f h = fit _ _ _ (Columns i c) f h (tt, refl)
plain-fits kind.Covers None (i ∷ []) f h = fit _ _ _ (Covers i) f h (tt, refl)
plain-fits kind.Done None [] f h = fit _ _ _ Done f h (tt, refl)
plain-fits kind.End None [] f h = fit _ _ _ End f h (tt, refl)
plain-fits k o ns f h = cc

plain-from : (f : Plain) → HasFacet f → plain_from (parts f).kind (parts f).rest.lists (parts f).rest.numbers ≡ Some f
plain-from (Version n) h = refl
plain-from (Modulus p) h = refl
plain-from (Cells a b c d) h = refl
plain-from (Face k []) h = absurd (omega arith)
plain-from (Face k (a ∷ facets)) h = refl
plain-from (Chains a b c d) h = refl
plain-from (Rank k r) h = refl
plain-from (RankLine l r) h = refl
plain-from (Classes k b) h = refl
plain-from (ClassLine l r) h = refl
plain-from (Products q) h = refl
plain-from (ProductLine i a j b l r) h = refl
plain-from (Pairs q) h = refl
plain-from (PairLine d l u) h = refl
plain-from (Critical a b c d) h = refl
plain-from (Components k) h = refl
plain-from (Columns i c) h = refl
plain-from (Covers i) h = refl
plain-from Done h = refl
plain-from End h = refl

pub plain-is : (line : List ℕ) (f : Plain) → plain_of line ≡ Some f → IsPlain f × (line ≡ plain_text f)
plain-is line f h =
    let q : (p : Parts) × (parts_of line ≡ Some p) × (plain_from p.kind p.rest.lists p.rest.numbers ≡ Some f) = both_some (λ p. plain_from p.kind p.rest.lists p.rest.numbers) (parts_of line) f h in
    let a : All IsProper (rest_tokens q.0.rest) × (line ≡ parts_text q.0) = parts-are line q.0 q.1 in
    let b : HasFacet f × (q.0 ≡ parts f) = plain-fits q.0.kind q.0.rest.lists q.0.rest.numbers f q.2 in
    (record { proper = subst (λ (p : Parts). All IsProper (rest_tokens p.rest)) b.1 a.0; facet = b.0 }, a.1 ∙ ap parts_text b.1)

pub plain-back : (line : List ℕ) (f : Plain) → IsPlain f → line ≡ plain_text f → plain_of line ≡ Some f
plain-back line f w e =
    ap plain_of e
    ∙ (ap (option_and_then (λ p. plain_from p.kind p.rest.lists p.rest.numbers)) (parts-back (parts f) w.proper)
    ∙ plain-from f w.facet)

-- the words of a line that says something
pub words-plain : (line : List ℕ) (f : Plain) → plain_of line ≡ Some f → All IsProper (rest_tokens (parts f).rest) × (words_of line ≡ parts_words (parts f))
words-plain line f h =
    let q : (p : Parts) × (parts_of line ≡ Some p) × (plain_from p.kind p.rest.lists p.rest.numbers ≡ Some f) = both_some (λ p. plain_from p.kind p.rest.lists p.rest.numbers) (parts_of line) f h in
    let a : All IsProper (rest_tokens q.0.rest) × (words_of line ≡ parts_words q.0) = from-is (words_of line) q.0 q.1 in
    let b : HasFacet f × (q.0 ≡ parts f) = plain-fits q.0.kind q.0.rest.lists q.0.rest.numbers f q.2 in
    subst (λ (p : Parts). All IsProper (rest_tokens p.rest) × (words_of line ≡ parts_words p)) b.1 a
