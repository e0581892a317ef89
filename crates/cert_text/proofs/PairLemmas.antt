-- Lines of pairs.
use Rattle.std.proofs.Common.{◌≡◌, ◌≤◌, ◌+◌, ◌∷◌, [], ℕ, zero, suc, Bool, true, false, cond, ◌&&◌, leb, Option, Some, None, List, length, refl, sym, ◌∙◌, ap, arith, Ok, Err}
use Rattle.std.specs.Prelude.{slice_index_or}
use Rattle.std.proofs.lemmas.Bool.{lt-leb}
use Rattle.std.proofs.lemmas.Option.{same_Some}
use Rattle.face_poset.specs.declared.cells.Pair.{Pair}
use Rattle.face_poset.specs.Poset.{Layers, count, IsSpace}
use Rattle.certificates.specs.declared.kind.Kind.TheVariants as kind
use Rattle.certificates.specs.declared.lines.PairLine.{PairLine}
use Rattle.certificates.specs.Plain as p
use Rattle.certificates.specs.Forms.{plain}
use Rattle.certificates.specs.WellFormed.{is_between}
use Rattle.cert_lines.specs.declared.fault.CertFault.{CertFault}
use Rattle.cert_lines.specs.declared.fault.CertFault.TheVariants.{OutOfRange}
use Rattle.cert_lines.specs.Readers.{Left, Answer, and_then, take_line}
use Rattle.cert_text.specs.Picks.{pick_pair_line}
use Rattle.cert_text.specs.Reading.{pair_stands, pair_at, read_pair}
use Rattle.cert_lines.specs.Taken.{numbers_if, any}
use Rattle.cert_text.specs.Taking.{triple_of}
use Rattle.cert_text.proofs.TakingLemmas.{IsPick, fits-line, unfit-line, fails-line}

abbrev triple : List ℕ → ℕ × ℕ × ℕ
triple ns = (slice_index_or ns 0 0, slice_index_or ns 1 0, slice_index_or ns 2 0)

pair-pick : IsPick {A = ℕ × ℕ × ℕ} kind.PairLine pick_pair_line (λ ns. (slice_index_or ns 0 0, slice_index_or ns 1 0, slice_index_or ns 2 0))
pair-pick (plain (p.PairLine d l u)) = refl
pair-pick f = refl

abbrev paired : (n : ℕ) → Answer (ℕ × ℕ × ℕ) → Answer PairLine
paired n r = and_then r (λ a. Ok (pair_at n a.0, a.1))

pub pair-fails : (v : ℕ) (space : Layers) (l : Left) (f : CertFault) → take_line v (numbers_if kind.PairLine) any l ≡ Err f → read_pair v space l ≡ Err f
pair-fails v space l f h = ap (paired l.number) (fails-line {A = ℕ × ℕ × ℕ} v l kind.PairLine f pick_pair_line (λ ns. triple ns) (pair_stands space) pair-pick h)

no_pair : (t : Bool) (x : ℕ × ℕ × ℕ) → None ≡ cond t (Some x) None → t ≡ false
no_pair true x h = cc
no_pair false x h = refl

one_pair : (t : Bool) (x y : ℕ × ℕ × ℕ) → Some y ≡ cond t (Some x) None → (t ≡ true) × (x ≡ y)
one_pair true x y h = (refl, sym (same_Some y x h))
one_pair false x y h = cc

pub pair-out : (v : ℕ) (space : Layers) (l m : Left) (ns : List ℕ) → take_line v (numbers_if kind.PairLine) any l ≡ Ok (ns, m) → ◌≡◌ {A = Option (ℕ × ℕ × ℕ)} None (cond (pair_stands space (triple ns)) (Some (triple ns)) None)
    → read_pair v space l ≡ Err (OutOfRange l.number)
pair-out v space l m ns h e =
    ap (paired l.number) (unfit-line {A = ℕ × ℕ × ℕ} v l m kind.PairLine ns pick_pair_line (λ ns. triple ns) (pair_stands space) pair-pick (no_pair (pair_stands space (triple ns)) (triple ns) e) h)

pub pair-in : (v : ℕ) (space : Layers) (l m : Left) (ns : List ℕ) (n : ℕ) (pair : Pair) → take_line v (numbers_if kind.PairLine) any l ≡ Ok (ns, m) → ◌≡◌ {A = Option (ℕ × ℕ × ℕ)} (Some (triple_of pair)) (cond (pair_stands space (triple ns)) (Some (triple ns)) None)
    → l.number ≡ n → read_pair v space l ≡ Ok (record { number = n; pair = pair }, m)
pair-in v space l m ns n pair h e s =
    let o = one_pair (pair_stands space (triple ns)) (triple ns) (triple_of pair) e in
    ap (paired l.number) (fits-line {A = ℕ × ℕ × ℕ} v l m kind.PairLine ns pick_pair_line (λ ns. triple ns) (pair_stands space) pair-pick o.0 h)
    ∙ (λ i. Ok (pair_at (s i) (o.1 i), m))

-- a space has no cells above dimension 3
nothing_above : (space : Layers) (dim : ℕ) → length space ≡ 4 → 4 ≤ dim → count space dim ≡ 0
nothing_above [] dim e h = absurd (omega (arith, e))
nothing_above (a ∷ []) dim e h = absurd (omega (arith, e))
nothing_above (a ∷ b ∷ []) dim e h = absurd (omega (arith, e))
nothing_above (a ∷ b ∷ c ∷ []) dim e h = absurd (omega (arith, e))
nothing_above (a ∷ b ∷ c ∷ d ∷ []) zero e h = absurd (omega arith)
nothing_above (a ∷ b ∷ c ∷ d ∷ []) (suc zero) e h = absurd (omega arith)
nothing_above (a ∷ b ∷ c ∷ d ∷ []) (suc (suc zero)) e h = absurd (omega arith)
nothing_above (a ∷ b ∷ c ∷ d ∷ []) (suc (suc (suc zero))) e h = absurd (omega arith)
nothing_above (a ∷ b ∷ c ∷ d ∷ []) (suc (suc (suc (suc n)))) e h = refl
nothing_above (a ∷ b ∷ c ∷ d ∷ z ∷ zs) dim e h = absurd (omega (arith, e))

nothing_and : (t : Bool) → (t && false) ≡ false
nothing_and true = refl
nothing_and false = refl

none_among : (n : ℕ) → is_between 1 0 n ≡ false
none_among zero = refl
none_among (suc n) = ap (λ (t : Bool). leb 1 (suc n) && t) (lt-leb (suc n) 0 (omega arith)) ∙ nothing_and (leb 1 (suc n))

pub too_high : (space : Layers) (dim lower upper : ℕ) → IsSpace space → 4 ≤ dim → false ≡ pair_stands space (dim, lower, upper)
too_high space dim lower upper i h =
    sym (ap (λ (k : ℕ). is_between 1 k lower && is_between 1 (count space (dim + 1)) upper) (nothing_above space dim i.layers h)
    ∙ ap (λ (t : Bool). t && is_between 1 (count space (dim + 1)) upper) (none_among lower))
