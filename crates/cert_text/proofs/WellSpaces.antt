-- A space whose lines fit is a space within the limits, and the other way round.
use Rattle.std.proofs.Common.{◌≡◌, ◌≤◌, ◌<◌, ◌+◌, ◌-◌, ◌∷◌, [], ℕ, zero, suc, true, ◌&&◌, leb, ltb, List, length, replicate, get_or, refl, sym, ◌∙◌, ap, arith, subst, All}
use Rattle.std.specs.List.{AllByRecursion}
use Rattle.std.specs.List.Sorted.{IsStrictlyIncreasing}
use Rattle.std.proofs.lemmas.Bool.{leb-true, le-leb, ltb-true, lt-ltb}
use Rattle.std.proofs.lemmas.List.Elements.{All-nil, All-cons, All-head, All-tail, All-weaker, All-replicate}
use Rattle.number_lists.proofs.CallerLemmas.{increasing_head, increasing_tail}
use Rattle.face_poset.specs.Poset.{Layers, layer, count, cell_count, IsCell, IsSpace, IsLimited}
use Rattle.cert_lines.specs.Listed.{rise_from}
use Rattle.cert_text.proofs.Passing.{and-parts, and-both}
use Rattle.cert_text.proofs.SpaceReaders.{FaceFits, SpaceFits}

-- ---- one face

abbrev IsBetween : (last below : ℕ) → ℕ → Type 0
IsBetween last below f = (last + 1 ≤ f) × (f ≤ below)

rises-cons : (x : ℕ) (xs : List ℕ) (below : ℕ) → All (IsBetween x below) xs → IsStrictlyIncreasing xs → IsStrictlyIncreasing (x ∷ xs)
rises-cons x [] below h r = λ k l. absurd (omega arith)
rises-cons x (y ∷ ys) below h r = at
  where
    at : (k : ℕ) → k + 1 < length (x ∷ y ∷ ys) → get_or (x ∷ y ∷ ys) k 0 < get_or (x ∷ y ∷ ys) (k + 1) 0
    at zero l = let p = All-head (IsBetween x below) y ys h in omega (arith, p.0)
    at (suc k) l =
        let e : suc k + 1 ≡ suc (k + 1) = omega arith in
        subst (λ (n : ℕ). get_or (y ∷ ys) k 0 < get_or (x ∷ y ∷ ys) n 0) (sym e) (r k (omega arith))

rise-parts : (last below : ℕ) (fs : List ℕ) → rise_from last below fs ≡ true → All (IsBetween last below) fs × IsStrictlyIncreasing fs
rise-parts last below [] h = (All-nil (IsBetween last below), λ k l. absurd (omega arith))
rise-parts last below (f ∷ fs) h =
    let p = and-parts (ltb last f && leb f below) (rise_from f below fs) h in
    let q = and-parts (ltb last f) (leb f below) p.0 in
    let low : last < f = ltb-true last f q.0 in
    let rest = rise-parts f below fs p.1 in (
      All-cons (IsBetween last below) f fs (omega (arith, low), leb-true f below q.1) (All-weaker (IsBetween f below) (IsBetween last below) (λ x k. (omega (arith, low, k.0), k.1)) fs rest.0),
      rises-cons f fs below rest.0 rest.1,
    )

rise-back : (last below : ℕ) (fs : List ℕ) → All (IsBetween last below) fs → IsStrictlyIncreasing fs → rise_from last below fs ≡ true
rise-back last below [] h r = refl
rise-back last below (f ∷ fs) h r =
    let p = All-head (IsBetween last below) f fs h in
    let above : All (λ y. f < y) fs = increasing_head f fs r in
    let tail : All (IsBetween last below) fs = All-tail (IsBetween last below) f fs h in
    and-both (ltb last f && leb f below) (rise_from f below fs) (and-both (ltb last f) (leb f below) (lt-ltb last f (omega (arith, p.0))) (le-leb f below p.1))
    (rise-back f below fs (both fs above tail) (increasing_tail f fs r))
  where
    both : (xs : List ℕ) → All (λ y. f < y) xs → All (IsBetween last below) xs → All (IsBetween f below) xs
    both [] a t = All-nil (IsBetween f below)
    both (x ∷ xs) a t =
        let up : f < x = All-head (λ y. f < y) x xs a in
        All-cons (IsBetween f below) x xs (omega (arith, up), (All-head (IsBetween last below) x xs t).1) (both xs (All-tail (λ y. f < y) x xs a) (All-tail (IsBetween last below) x xs t))

pub cell-there : (below : ℕ) (fs : List ℕ) → FaceFits below fs → IsCell below fs
cell-there below fs h =
    let p = rise-parts 0 below fs h.0 in
    record { rises = p.1; within = All-weaker (IsBetween 0 below) (λ f. (1 ≤ f) × (f ≤ below)) (λ x k. (omega (arith, k.0), k.1)) fs p.0; some = h.1 }

cell-back : (below : ℕ) (fs : List ℕ) → IsCell below fs → FaceFits below fs
cell-back below fs c = (rise-back 0 below fs (All-weaker (λ f. (1 ≤ f) × (f ≤ below)) (IsBetween 0 below) (λ x k. (omega (arith, k.0), k.1)) fs c.within) c.rises, c.some)

cells-there : (below : ℕ) (cells : List (List ℕ)) → AllByRecursion (FaceFits below) cells → All (IsCell below) cells
cells-there below [] h = All-nil (IsCell below)
cells-there below (c ∷ cells) h = All-cons (IsCell below) c cells (cell-there below c h.0) (cells-there below cells h.1)

cells-back : (below : ℕ) (cells : List (List ℕ)) → All (IsCell below) cells → AllByRecursion (FaceFits below) cells
cells-back below [] h = tt
cells-back below (c ∷ cells) h = (cell-back below c (All-head (IsCell below) c cells h), cells-back below cells (All-tail (IsCell below) c cells h))

-- ---- vertices and layers

points : (cells : List (List ℕ)) → All (λ facets. facets ≡ []) cells → cells ≡ replicate (length cells) []
points [] h = refl
points (c ∷ cells) h = λ i. All-head (λ facets. facets ≡ []) c cells h i ∷ points cells (All-tail (λ facets. facets ≡ []) c cells h) i

layers-four : (y : Layers) → length y ≡ 4 → y ≡ layer y 0 ∷ layer y 1 ∷ layer y 2 ∷ layer y 3 ∷ []
layers-four [] e = absurd (omega (arith, e))
layers-four (a ∷ []) e = absurd (omega (arith, e))
layers-four (a ∷ b ∷ []) e = absurd (omega (arith, e))
layers-four (a ∷ b ∷ c ∷ []) e = absurd (omega (arith, e))
layers-four (a ∷ b ∷ c ∷ d ∷ []) e = refl
layers-four (a ∷ b ∷ c ∷ d ∷ z ∷ zs) e = absurd (omega (arith, e))

no_layer : (a b c d : List (List ℕ)) (n : ℕ) → layer (a ∷ b ∷ c ∷ d ∷ []) (suc (suc (suc (suc n)))) ≡ []
no_layer a b c d n = refl

-- ---- the space

pub space-well : (y : Layers) → SpaceFits y → IsSpace y × IsLimited y
space-well y h =
    let limits = and-parts (leb 1 (count y 0)) (leb (0 + count y 0 + count y 1 + count y 2 + count y 3) 60000) h.0 in
    let few : 0 + count y 0 + count y 1 + count y 2 + count y 3 ≤ 60000 = leb-true (0 + count y 0 + count y 1 + count y 2 + count y 3) 60000 limits.1 in
    let most : cell_count y ≤ 60000 = omega (arith, few) in (
      record {
        layers = ap length h.4;
        vertices = subst (λ z. All (λ facets. facets ≡ []) (layer z 0)) (sym h.4) (All-replicate (λ facets. facets ≡ []) (count y 0) [] refl);
        cells = cells;
        few = omega (arith, most);
      },
      record { vertex = leb-true 1 (count y 0) limits.0; most = most },
    )
  where
    cells : (dim : ℕ) → 1 ≤ dim → All (IsCell (count y (dim - 1))) (layer y dim)
    cells zero l = absurd (omega arith)
    cells (suc zero) l = cells-there (count y 0) (layer y 1) h.1
    cells (suc (suc zero)) l = cells-there (count y 1) (layer y 2) h.2
    cells (suc (suc (suc zero))) l = cells-there (count y 2) (layer y 3) h.3
    cells (suc (suc (suc (suc n)))) l =
        subst (λ z. All (IsCell (count y (suc (suc (suc (suc n))) - 1))) (layer z (suc (suc (suc (suc n)))))) (sym h.4) (All-nil (IsCell (count y (suc (suc (suc (suc n))) - 1))))

pub space-fits : (y : Layers) → IsSpace y → IsLimited y → SpaceFits y
space-fits y s l =
    let total : 0 + count y 0 + count y 1 + count y 2 + count y 3 ≤ 60000 = omega (arith, l.most) in
    let whole = layers-four y s.layers in (
      and-both (leb 1 (count y 0)) (leb (0 + count y 0 + count y 1 + count y 2 + count y 3) 60000) (le-leb 1 (count y 0) l.vertex) (le-leb (0 + count y 0 + count y 1 + count y 2 + count y 3) 60000 total),
      cells-back (count y 0) (layer y 1) (s.cells 1 (omega arith)),
      cells-back (count y 1) (layer y 2) (s.cells 2 (omega arith)),
      cells-back (count y 2) (layer y 3) (s.cells 3 (omega arith)),
      whole ∙ ap (λ (z : List (List ℕ)). z ∷ layer y 1 ∷ layer y 2 ∷ layer y 3 ∷ []) (points (layer y 0) s.vertices),
    )
