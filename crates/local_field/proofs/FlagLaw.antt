-- The flag of a cell is a full tower.
use Rattle.std.proofs.Common.{◌≡◌, ℕ, zero, suc, ◌+◌, ◌-◌, ◌<◌, ◌≤◌, List, [], ◌∷◌, Bool, true, false, cond, leb, get_or, refl, ap, sym, ◌∙◌, subst, arith}
use Rattle.std.specs.List.{list_any}
use Rattle.std.proofs.lemmas.Bool.{false≢true, le-leb, leb-true, false_from_ne_true}
use Rattle.number_lists.specs.Words.{holds}
use Rattle.number_lists.specs.Members.{In, here}
use Rattle.number_lists.proofs.CallerLemmas.{any-In, In-filter, In-upto, In-holds, In-map, In-right, In-at, at-In}
use Rattle.face_poset.specs.Poset.{IsCell, IsSpace, count, facets_of}
use Rattle.face_poset.specs.Below.{cell_at, closure, facets_of_all}
use Rattle.order_complex.specs.Chains.{cells_before, id_of, faces_of}
use Rattle.local_field.specs.Inside.{IsFull}
use Rattle.local_field.specs.Buildings.{dim_at, number_at, is_below, flag_of, FlagsAreFull}

-- ---- ids

abbrev pub levels : (a b c d : Bool) → ℕ
levels a b c d = cond a 0 (cond b 1 (cond c 2 (cond d 3 0)))

pub level-0 : (a b c d : Bool) → a ≡ true → levels a b c d ≡ 0
level-0 true b c d e = refl
level-0 false b c d e = absurd (false≢true e)

pub level-1 : (a b c d : Bool) → a ≡ false → b ≡ true → levels a b c d ≡ 1
level-1 true b c d e f = absurd (false≢true (sym e))
level-1 false true c d e f = refl
level-1 false false c d e f = absurd (false≢true f)

pub level-2 : (a b c d : Bool) → a ≡ false → b ≡ false → c ≡ true → levels a b c d ≡ 2
level-2 true b c d e f g = absurd (false≢true (sym e))
level-2 false true c d e f g = absurd (false≢true (sym f))
level-2 false false true d e f g = refl
level-2 false false false d e f g = absurd (false≢true g)

pub level-3 : (a b c d : Bool) → a ≡ false → b ≡ false → c ≡ false → d ≡ true → levels a b c d ≡ 3
level-3 true b c d e f g h = absurd (false≢true (sym e))
level-3 false true c d e f g h = absurd (false≢true (sym f))
level-3 false false true d e f g h = absurd (false≢true (sym g))
level-3 false false false true e f g h = refl
level-3 false false false false e f g h = absurd (false≢true h)

-- above the last id
pub level-4 : (a b c d : Bool) → a ≡ false → b ≡ false → c ≡ false → d ≡ false → levels a b c d ≡ 0
level-4 true b c d e f g h = absurd (false≢true (sym e))
level-4 false true c d e f g h = absurd (false≢true (sym f))
level-4 false false true d e f g h = absurd (false≢true (sym g))
level-4 false false false true e f g h = absurd (false≢true (sym h))
level-4 false false false false e f g h = refl

pub not-le : (a b : ℕ) → b < a → leb a b ≡ false
not-le a b l = false_from_ne_true (leb a b) (λ e. omega (arith, l, leb-true a b e))

module _ (space : List (List (List ℕ))) where
  abbrev upto_dim : ℕ → ℕ
  upto_dim d = cells_before space d

  by_level : (id : ℕ) → dim_at space id ≡ levels (leb id (upto_dim 1)) (leb id (upto_dim 2)) (leb id (upto_dim 3)) (leb id (upto_dim 4))
  by_level id = refl

  -- a cell has the dimension that its id tells
  pub dim-id : (d n : ℕ) → d ≤ 3 → 1 ≤ n → n ≤ count space d → dim_at space (id_of space (cell_at d n)) ≡ d
  dim-id zero n small low high =
      let id : ℕ = id_of space (cell_at 0 n) in
      by_level id ∙ level-0 (leb id (upto_dim 1)) (leb id (upto_dim 2)) (leb id (upto_dim 3)) (leb id (upto_dim 4)) (le-leb id (upto_dim 1) (omega (arith, high)))
  dim-id (suc zero) n small low high =
      let id : ℕ = id_of space (cell_at 1 n) in
      by_level id
      ∙ level-1 (leb id (upto_dim 1)) (leb id (upto_dim 2)) (leb id (upto_dim 3)) (leb id (upto_dim 4)) (not-le id (upto_dim 1) (omega (arith, low))) (le-leb id (upto_dim 2) (omega (arith, high)))
  dim-id (suc (suc zero)) n small low high =
      let id : ℕ = id_of space (cell_at 2 n) in
      by_level id
      ∙ level-2 (leb id (upto_dim 1)) (leb id (upto_dim 2)) (leb id (upto_dim 3)) (leb id (upto_dim 4)) (not-le id (upto_dim 1) (omega (arith, low))) (not-le id (upto_dim 2) (omega (arith, low)))
      (le-leb id (upto_dim 3) (omega (arith, high)))
  dim-id (suc (suc (suc zero))) n small low high =
      let id : ℕ = id_of space (cell_at 3 n) in
      by_level id
      ∙ level-3 (leb id (upto_dim 1)) (leb id (upto_dim 2)) (leb id (upto_dim 3)) (leb id (upto_dim 4)) (not-le id (upto_dim 1) (omega (arith, low))) (not-le id (upto_dim 2) (omega (arith, low)))
      (not-le id (upto_dim 3) (omega (arith, low))) (le-leb id (upto_dim 4) (omega (arith, high)))
  dim-id (suc (suc (suc (suc d)))) n small low high = absurd (omega (arith, small))

  pub number-id : (d n : ℕ) → d ≤ 3 → 1 ≤ n → n ≤ count space d → number_at space (id_of space (cell_at d n)) ≡ n
  number-id d n small low high = ap (λ (k : ℕ). id_of space (cell_at d n) - cells_before space k) (dim-id d n small low high) ∙ omega arith

  -- ---- a facet is below

  closure-In : (d f : ℕ) (cells : List ℕ) → In f cells → In (cell_at d f) (closure space d cells)
  closure-In zero f cells i = In-map (cell_at zero) i
  closure-In (suc d) f cells i = In-right (closure space d (facets_of_all space d cells)) (In-map (cell_at (suc d)) i)

  module _ (valid : IsSpace space) where
    pub facets-cell : (d n : ℕ) → 1 ≤ n → n ≤ count space (suc d) → IsCell (count space d) (facets_of space (suc d) n)
    facets-cell d n low high =
        let e : suc d - 1 ≡ d = omega arith in
        subst (λ (k : ℕ). IsCell (count space k) (facets_of space (suc d) n)) e (valid.cells (suc d) (omega arith) (n - 1) [] (omega (arith, low, high)))

    pub facet-range : (d n f : ℕ) → 1 ≤ n → n ≤ count space (suc d) → In f (facets_of space (suc d) n) → (1 ≤ f) × (f ≤ count space d)
    facet-range d n f low high i =
        let k = In-at i in
        let w = (facets-cell d n low high).within k.0 0 k.1 in
        (omega (arith, w.0, k.2), omega (arith, w.1, k.2))

    facet-all : (d n f : ℕ) → 1 ≤ n → n ≤ count space (suc d) → In f (facets_of space (suc d) n) → In f (facets_of_all space d (n ∷ []))
    facet-all d n f low high i =
        let e : suc d ≡ d + 1 = omega arith in
        let v = facet-range d n f low high i in
        In-filter (λ y. list_any (λ c. holds (facets_of space (d + 1) c) y) (n ∷ [])) (In-upto (count space d) f v.0 v.1)
        (any-In (λ c. holds (facets_of space (d + 1) c) f) (here {xs = []}) (In-holds (subst (λ (k : ℕ). In f (facets_of space k n)) e i)))

    pub facet-below : (d n f : ℕ) → suc d ≤ 3 → 1 ≤ n → n ≤ count space (suc d) → In f (facets_of space (suc d) n) → is_below space (id_of space (cell_at d f)) (id_of space (cell_at (suc d) n)) ≡ true
    facet-below d n f small low high i =
        let g : ℕ = id_of space (cell_at (suc d) n) in
        let x : ℕ = id_of space (cell_at d f) in
        ap (λ (k : ℕ). holds (faces_of space k (number_at space g)) x) (dim-id (suc d) n small low high)
        ∙ (ap (λ (m : ℕ). holds (faces_of space (suc d) m) x) (number-id (suc d) n small low high) ∙ In-holds (In-map (id_of space) (closure-In d f (facets_of_all space d (n ∷ [])) (facet-all d n f low high i))))

    -- ---- flags

    pub first-In : (d n : ℕ) → 1 ≤ n → n ≤ count space (suc d) → In (get_or (facets_of space (suc d) n) 0 0) (facets_of space (suc d) n)
    first-In d n low high = at-In (facets_of space (suc d) n) 0 0 (omega (arith, (facets-cell d n low high).some))

    dims-fall : (d n : ℕ) → suc d ≤ 3 → 1 ≤ n → n ≤ count space (suc d) → dim_at space (id_of space (cell_at (suc d) n)) ≡ suc (dim_at space (id_of space (cell_at d (get_or (facets_of space (suc d) n) 0 0))))
    dims-fall d n small low high =
        let w = facet-range d n (get_or (facets_of space (suc d) n) 0 0) low high (first-In d n low high) in
        dim-id (suc d) n small low high ∙ sym (ap suc (dim-id d (get_or (facets_of space (suc d) n) 0 0) (omega (arith, small)) w.0 w.1))

    pub full : (d n : ℕ) → d ≤ 3 → 1 ≤ n → n ≤ count space d → IsFull (is_below space) (dim_at space) (flag_of space d n)
    full zero n small low high = dim-id zero n small low high
    full (suc zero) n small low high =
        let i = first-In zero n low high in
        let w = facet-range zero n (get_or (facets_of space 1 n) 0 0) low high i in
        (facet-below zero n (get_or (facets_of space 1 n) 0 0) small low high i, dims-fall zero n small low high, full zero (get_or (facets_of space 1 n) 0 0) (omega arith) w.0 w.1)
    full (suc (suc d)) n small low high =
        let i = first-In (suc d) n low high in
        let w = facet-range (suc d) n (get_or (facets_of space (suc (suc d)) n) 0 0) low high i in (
          facet-below (suc d) n (get_or (facets_of space (suc (suc d)) n) 0 0) small low high i,
          dims-fall (suc d) n small low high,
          full (suc d) (get_or (facets_of space (suc (suc d)) n) 0 0) (omega (arith, small)) w.0 w.1,
        )

pub flags_full : FlagsAreFull
flags_full space dim number valid small low high = full space valid dim number small low high
