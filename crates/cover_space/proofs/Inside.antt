-- The cells of a closed cell: their ranges, those of their own closed cells, and the least vertex.
use Rattle.std.proofs.Common.{◌≡◌, inl, inr, ℕ, zero, suc, ◌+◌, ◌-◌, ◌<◌, ◌≤◌, List, [], ◌∷◌, ◌++◌, map, filter, Bool, ◌⊎◌, eqb, length, get_or, refl, ap, sym, ◌∙◌, subst, arith, Contains}
use Rattle.std.specs.List.{list_any}
use Rattle.std.proofs.lemmas.Bool.{eqb-true, eq-eqb}
use Rattle.std.proofs.lemmas.List.{get_or_past}
use Rattle.number_lists.specs.Members.{In, here}
use Rattle.number_lists.specs.Words.{upto, holds}
use Rattle.number_lists.proofs.CallerLemmas.{In-cases, In-Contains, Contains-In, In-filter, filter-In, In-inside, any-In, In-holds, In-at, at-In, In-upto, upto-In, In-map, map-In}
use Rattle.face_poset.specs.declared.cells.Cell.{Cell}
use Rattle.face_poset.specs.Poset.{IsCell, IsSpace, count, facets_of}
use Rattle.face_poset.specs.Below.{facets_of_all, cell_at, closure, closed_cell, IsBelow, itself, facet}
use Rattle.face_poset.proofs.CallerLemmas.{closed_cell-least}
use Rattle.sheet_laws.specs.Permutations.{InRange}
use Rattle.cover_space.specs.Total.{least_vertex, below}

module _ (X : List (List (List ℕ))) (hs : IsSpace X) where
  -- ---- cells and facets

  pub none_above : (d : ℕ) → 3 < d → count X d ≡ 0
  none_above d l = ap length (get_or_past X d [] (omega (arith, l, hs.layers)))

  pub dim_low : (d c : ℕ) → InRange (count X d) c → d ≤ 3
  dim_low zero c r = omega arith
  dim_low (suc zero) c r = omega arith
  dim_low (suc (suc zero)) c r = omega arith
  dim_low (suc (suc (suc zero))) c r = omega arith
  dim_low (suc (suc (suc (suc d)))) c r = absurd (omega (arith, r.0, r.1, none_above (suc (suc (suc (suc d)))) (omega arith)))

  pub facets_cell : (d c : ℕ) → InRange (count X (suc d)) c → IsCell (count X d) (facets_of X (suc d) c)
  facets_cell d c r =
      let e : suc d - 1 ≡ d = omega arith in
      subst (λ (n : ℕ). IsCell (count X n) (facets_of X (suc d) c)) e (hs.cells (suc d) (omega arith) (c - 1) [] (omega (arith, r.0, r.1)))

  pub facet_in : (d c f : ℕ) → InRange (count X (suc d)) c → In f (facets_of X (suc d) c) → InRange (count X d) f
  facet_in d c f r i =
      let is = facets_cell d c r in
      let k = In-at i in
      let w = is.within k.0 0 k.1 in
      (omega (arith, w.0, k.2), omega (arith, w.1, k.2))

  pub first_facet : (d c : ℕ) → InRange (count X (suc d)) c → In (get_or (facets_of X (suc d) c) 0 0) (facets_of X (suc d) c)
  first_facet d c r = at-In (facets_of X (suc d) c) 0 0 (omega (arith, (facets_cell d c r).some))

  -- ---- cells below a cell

  pub below-range : (d c : ℕ) → InRange (count X d) c → {e n : ℕ} → IsBelow X d c e n → InRange (count X e) n
  below-range d c r itself = r
  below-range d c r (facet e b f h i) = facet_in e b f (below-range d c r h) (Contains-In i)

  pub below-dim : (d c : ℕ) → {e n : ℕ} → IsBelow X d c e n → e ≤ d
  below-dim d c itself = omega arith
  below-dim d c (facet e b f h i) = let l = below-dim d c h in omega (arith, l)

  pub below-then : (d c e n : ℕ) → IsBelow X d c e n → {k f : ℕ} → IsBelow X e n k f → IsBelow X d c k f
  below-then d c e n h itself = h
  below-then d c e n h (facet k b f g i) = facet k b f (below-then d c e n h g) i

  pub below-top : (d c : ℕ) → {e n : ℕ} → IsBelow X d c e n → e ≡ d → n ≡ c
  below-top d c itself q = refl
  below-top d c (facet e b f h i) q = let l = below-dim d c h in absurd (omega (arith, l, q))

  -- what is below a cell but not the cell is below one of its facets
  pub below-facet : (d c : ℕ) → {e n : ℕ} → IsBelow X (suc d) c e n → e ≤ d → (f : ℕ) × In f (facets_of X (suc d) c) × IsBelow X d f e n
  below-facet d c itself l = absurd (omega (arith, l))
  below-facet d c (facet e b f h i) l = by (order (suc e) d) (λ k. below-facet d c h k)
    where
      order : (a b : ℕ) → (a ≤ b) ⊎ (b < a)
      order zero b = inl (omega arith)
      order (suc a) zero = inr (omega arith)
      order (suc a) (suc b) = elim (order a b) [ inl h ↦ inl (omega (arith, h)) | inr h ↦ inr (omega (arith, h)) ]

      by : (suc e ≤ d) ⊎ (d < suc e) → (suc e ≤ d → (g : ℕ) × In g (facets_of X (suc d) c) × IsBelow X d g (suc e) b) → (g : ℕ) × In g (facets_of X (suc d) c) × IsBelow X d g e f
      by (inl k) again = let r = again k in (r.0, r.1, facet e b f r.2 i)
      by (inr k) again =
          let same : e ≡ d = omega (arith, l, k) in
          let top : b ≡ c = below-top (suc d) c h (ap suc same) in
          (f, subst (λ (z : ℕ). In f (facets_of X (suc z) c)) same (subst (λ (z : ℕ). In f (facets_of X (suc e) z)) top (Contains-In i)), subst (λ (z : ℕ). IsBelow X d f z f) (sym same) itself)

  -- ---- the list of a closed cell

  module _ (d c : ℕ) (r : InRange (count X d) c) where
    pub In-closed : {e n : ℕ} → IsBelow X d c e n → Contains (closed_cell X d c) (cell_at e n)
    In-closed {e} {n} h = (closed_cell-least X d c hs r.0 r.1 e n).1 h

    pub closed-In : {e n : ℕ} → Contains (closed_cell X d c) (cell_at e n) → IsBelow X d c e n
    closed-In {e} {n} h = (closed_cell-least X d c hs r.0 r.1 e n).0 h

    pub In-below : {e n : ℕ} → IsBelow X d c e n → In n (below X d c e)
    In-below {e} {n} h = In-map (λ (k : Cell). k.number) (In-filter (λ (k : Cell). eqb k.dim e) (Contains-In (In-closed h)) (eq-eqb e e refl))

    pub below-In : {e n : ℕ} → In n (below X d c e) → IsBelow X d c e n
    below-In {e} {n} i =
        let s = map-In (λ (k : Cell). k.number) (filter (λ (k : Cell). eqb k.dim e) (closed_cell X d c)) i in
        let q : s.0.dim ≡ e = eqb-true s.0.dim e (filter-In (λ (k : Cell). eqb k.dim e) (closed_cell X d c) s.1) in
        let j : IsBelow X d c s.0.dim s.0.number = closed-In (In-Contains (In-inside (λ (k : Cell). eqb k.dim e) (closed_cell X d c) s.1)) in
        subst (λ (z : ℕ). IsBelow X d c e z) (sym s.2) (subst (λ (z : ℕ). IsBelow X d c z s.0.number) q j)

  -- the list of some cells with their faces begins with a vertex
  record BeginsWithVertex (d : ℕ) (cells : List ℕ) : Type 0 where
    pub vertex : ℕ
    pub rest : List Cell
    pub is : closure X d cells ≡ cell_at 0 vertex ∷ rest

  begins : (d : ℕ) (cells : List ℕ) → ((c : ℕ) → In c cells → InRange (count X d) c) → 1 ≤ length cells → BeginsWithVertex d cells
  begins zero [] w l = absurd (omega (arith, l))
  begins zero (c ∷ cells) w l = record { vertex = c; rest = map (cell_at zero) cells; is = refl }
  begins (suc d) [] w l = absurd (omega (arith, l))
  begins (suc d) (c ∷ cells) w l =
      let s : suc d ≡ d + 1 = omega arith in
      let has : ℕ → Bool = λ f. list_any (λ k. holds (facets_of X (d + 1) k) f) (c ∷ cells) in
      let f : ℕ = get_or (facets_of X (suc d) c) 0 0 in
      let i : In f (facets_of X (suc d) c) = first_facet d c (w c here) in
      let r : InRange (count X d) f = facet_in d c f (w c here) i in
      let j : In f (facets_of_all X d (c ∷ cells)) =
      In-filter has (In-upto (count X d) f r.0 r.1) (any-In (λ k. holds (facets_of X (d + 1) k) f) {x = c} here (In-holds (subst (λ (n : ℕ). In f (facets_of X n c)) s i))) in
      let k = In-at j in
      let b = begins d (facets_of_all X d (c ∷ cells)) (λ g q. upto-In (count X d) g (In-inside has (upto (count X d)) q)) (omega (arith, k.1)) in
      record { vertex = b.vertex; rest = b.rest ++ map (cell_at (suc d)) (c ∷ cells); is = ap (λ (cs : List Cell). cs ++ map (cell_at (suc d)) (c ∷ cells)) b.is }

  pub least-below : (d c : ℕ) → InRange (count X d) c → IsBelow X d c 0 (least_vertex X d c)
  least-below d c r =
      let b = begins d (c ∷ []) (λ k i. elim (In-cases i) [ inl e ↦ subst (InRange (count X d)) (sym e) r | inr n ↦ elim n [ ] ]) (omega arith) in
      let v : least_vertex X d c ≡ b.vertex = ap (λ (cs : List Cell). (get_or cs 0 (cell_at 0 0)).number) b.is in
      let i : In (cell_at 0 b.vertex) (closed_cell X d c) = subst (In (cell_at 0 b.vertex)) (sym b.is) here in
      subst (λ (z : ℕ). IsBelow X d c 0 z) (sym v) (closed-In d c r (In-Contains i))

  -- it is the first of the vertices
  pub first-below : (d c : ℕ) → InRange (count X d) c → get_or (below X d c 0) 0 0 ≡ least_vertex X d c
  first-below d c r =
      let b = begins d (c ∷ []) (λ k i. elim (In-cases i) [ inl e ↦ subst (InRange (count X d)) (sym e) r | inr n ↦ elim n [ ] ]) (omega arith) in
      ap (λ (cs : List Cell). get_or (map (λ (k : Cell). k.number) (filter (λ (k : Cell). eqb k.dim 0) cs)) 0 0) b.is ∙ sym (ap (λ (cs : List Cell). (get_or cs 0 (cell_at 0 0)).number) b.is)
