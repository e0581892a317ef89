-- The lower of a pair inside a cell is a facet of the upper that keeps the top, and both are towers.
use Rattle.std.proofs.Common.{◌≡◌, inl, inr, ℕ, zero, suc, Bool, true, List, [], ◌∷◌, ◌++◌, refl, sym, subst}
use Rattle.std.specs.List.{AllByRecursion}
use Rattle.number_lists.specs.Members.{In, here, there}
use Rattle.number_lists.proofs.CallerLemmas.{In-cases, In-map, map-In}
use Rattle.local_field.specs.Towers.{TowerPair, facets, inner, Building, pair_of, build, local, top_of, rest_of}
use Rattle.local_field.specs.Inside.{FitsIn, IsBuilding, IsFull, IsTower, IsFlagged}
use Rattle.local_field.proofs.InsideCells.{all_append, all_map, all_to}

-- ---- the lower is a facet

abbrev pub IsInner : TowerPair → Type 0
IsInner p = In p.low (inner p.up)

abbrev IsFacet : TowerPair → Type 0
IsFacet p = In p.low (facets p.up)

pub inner-facet : (s t : List ℕ) → In s (inner t) → In s (facets t)
inner-facet s [] i = i
inner-facet s (g ∷ t) i = there i

module _ (data_of : ℕ → ℕ → Building) (flag : ℕ → List ℕ) where
  build-facets : (sub : List ℕ → List TowerPair) → ((t : List ℕ) → AllByRecursion IsInner (sub t)) → (last : List TowerPair) → AllByRecursion IsFacet last → (ps : List (ℕ × ℕ)) → AllByRecursion IsFacet (build flag sub last ps)
  build-facets sub w last h [] = h
  build-facets sub w last h (p ∷ ps) =
      let to : (q : TowerPair) → IsInner q → IsFacet q = λ q i. inner-facet q.low q.up i in
      all_append IsFacet (sub (flag p.0)) (sub (p.1 ∷ flag p.0) ++ (pair_of flag p.0 p.1 ∷ build flag sub last ps)) (all_to IsInner IsFacet to (sub (flag p.0)) (w (flag p.0)))
      (all_append IsFacet (sub (p.1 ∷ flag p.0)) (pair_of flag p.0 p.1 ∷ build flag sub last ps) (all_to IsInner IsFacet to (sub (p.1 ∷ flag p.0)) (w (p.1 ∷ flag p.0))) (here, build-facets sub w last h ps))

  pub local-inner : (d : ℕ) (t : List ℕ) → AllByRecursion IsInner (local data_of flag d t)
  local-inner zero t = tt
  local-inner (suc d) [] = tt
  local-inner (suc d) (g ∷ []) = tt
  local-inner (suc d) (g ∷ f ∷ rest) =
      let sub : List ℕ → List TowerPair = local data_of flag d in (
        here,
        all_map (λ (p : TowerPair). record { low = g ∷ p.low; up = g ∷ p.up }) IsFacet IsInner (λ p i. In-map (λ (s : List ℕ). g ∷ s) i) (build flag sub (sub (f ∷ rest)) (data_of g f).pairs)
            (build-facets sub (local-inner d) (sub (f ∷ rest)) (all_to IsInner IsFacet (λ q i. inner-facet q.low q.up i) (sub (f ∷ rest)) (local-inner d (f ∷ rest))) (data_of g f).pairs),
      )

-- ---- towers

module _ (below : ℕ → ℕ → Bool) (dim : ℕ → ℕ) (data_of : ℕ → ℕ → Building) (flag : ℕ → List ℕ) (flagged : IsFlagged below dim data_of flag) where
  pub full-tower : (t : List ℕ) → IsFull below dim t → IsTower below t
  full-tower [] h = h
  full-tower (v ∷ []) h = tt
  full-tower (g ∷ f ∷ rest) h = (h.0, full-tower (f ∷ rest) h.2)

  -- the upper goes on below the top, and is a tower
  abbrev Rises : ℕ → TowerPair → Type 0
  Rises g p = IsTower below (g ∷ p.up)

  abbrev Stands : TowerPair → Type 0
  Stands p = IsTower below p.up

  abbrev AllStand : (List ℕ → List TowerPair) → Type 0
  AllStand sub = (c : ℕ) (t : List ℕ) → IsFull below dim (c ∷ t) → AllByRecursion (λ (p : TowerPair). IsTower below p.up × (top_of p.up ≡ c)) (sub (c ∷ t))

  over : (g c : ℕ) (up : List ℕ) → below c g ≡ true → IsTower below up → top_of up ≡ c → IsTower below (g ∷ up)
  over g c [] h t e = absurd t
  over g c (x ∷ up) h t e = (subst (λ (k : ℕ). below k g ≡ true) (sym e) h, t)

  flag-over : (l u : ℕ) → below l u ≡ true → dim u ≡ suc (dim l) → IsFull below dim (u ∷ flag l)
  flag-over l u h e = subst (λ (t : List ℕ). IsFull below dim (u ∷ t)) (sym (flagged.tops l)) (h, e, subst (IsFull below dim) (flagged.tops l) (flagged.full l))

  build-rises : (g : ℕ) (sub : List ℕ → List TowerPair) → AllStand sub → (last : List TowerPair) → AllByRecursion (Rises g) last → (ps : List (ℕ × ℕ)) → AllByRecursion (FitsIn below dim g) ps → AllByRecursion (Rises g) (build flag sub last ps)
  build-rises g sub w last h [] fits = h
  build-rises g sub w last h (p ∷ ps) fits =
      let l : ℕ = p.0 in
      let u : ℕ = p.1 in
      let fu : IsFull below dim (u ∷ flag l) = flag-over l u fits.0.2 fits.0.3 in
      let low : AllByRecursion (Rises g) (sub (flag l)) =
      subst (λ (t : List ℕ). AllByRecursion (Rises g) (sub t)) (sym (flagged.tops l))
      (all_to (λ (q : TowerPair). IsTower below q.up × (top_of q.up ≡ l)) (Rises g) (λ q i. over g l q.up fits.0.0 i.0 i.1) (sub (l ∷ rest_of (flag l))) (w l (rest_of (flag l)) (subst (IsFull below dim) (flagged.tops l) (flagged.full l)))) in
      all_append (Rises g) (sub (flag l)) (sub (u ∷ flag l) ++ (pair_of flag l u ∷ build flag sub last ps)) low
      (all_append (Rises g) (sub (u ∷ flag l)) (pair_of flag l u ∷ build flag sub last ps)
      (all_to (λ (q : TowerPair). IsTower below q.up × (top_of q.up ≡ u)) (Rises g) (λ q i. over g u q.up fits.0.1 i.0 i.1) (sub (u ∷ flag l)) (w u (flag l) fu))
      ((fits.0.1, full-tower (u ∷ flag l) fu), build-rises g sub w last h ps fits.1))

  pub local-stands : (d : ℕ) → AllStand (local data_of flag d)
  local-stands zero c t h = tt
  local-stands (suc d) c [] h = tt
  local-stands (suc d) c (f ∷ rest) h =
      let b : Building = data_of c f in
      let i : IsBuilding below dim c f b = flagged.builds c f h.0 h.1 in
      let sub : List ℕ → List TowerPair = local data_of flag d in (
        ((i.rooted, tt), refl),
        all_map (λ (p : TowerPair). record { low = c ∷ p.low; up = c ∷ p.up }) (Rises c) (λ (p : TowerPair). IsTower below p.up × (top_of p.up ≡ c)) (λ p k. (k, refl)) (build flag sub (sub (f ∷ rest)) b.pairs)
            (build-rises c sub (local-stands d) (sub (f ∷ rest)) (all_to (λ (q : TowerPair). IsTower below q.up × (top_of q.up ≡ f)) (Rises c) (λ q k. over c f q.up h.0 k.0 k.1) (sub (f ∷ rest)) (local-stands d f rest h.2)) b.pairs i.fit),
      )

  -- ---- a facet of a tower is one

  module _ (trans : (x c g : ℕ) → below x c ≡ true → below c g ≡ true → below x g ≡ true) where
    facet-over : (g : ℕ) (t s : List ℕ) → IsTower below (g ∷ t) → In s (facets t) → IsTower below (g ∷ s)
    facet-over g [] s h i = elim i [ ]
    facet-over g (c ∷ t) s h i = elim (In-cases i) [
      | inl e ↦ subst (λ (x : List ℕ). IsTower below (g ∷ x)) (sym e) (skip t h)
      | inr j ↦ let r = map-In (λ (x : List ℕ). c ∷ x) (facets t) j in subst (λ (x : List ℕ). IsTower below (g ∷ x)) (sym r.2) (h.0, facet-over c t r.0 h.1 r.1)
    ]
      where
        skip : (t : List ℕ) → IsTower below (g ∷ c ∷ t) → IsTower below (g ∷ t)
        skip [] h = tt
        skip (x ∷ t) h = (trans x c g h.1.0 h.0, h.1.1)

    -- with the same top
    pub inner-tower : (s t : List ℕ) → IsTower below t → In s (inner t) → IsTower below s
    inner-tower s [] h i = elim i [ ]
    inner-tower s (g ∷ t) h i = let r = map-In (λ (x : List ℕ). g ∷ x) (facets t) i in subst (IsTower below) (sym r.2) (facet-over g t r.0 h r.1)
