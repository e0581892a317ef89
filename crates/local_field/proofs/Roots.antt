-- The vertex that a collapse of a 3-cell's boundary leaves is the other end of the edge of its last pair.
use Rattle.std.proofs.Common.{◌≡◌, ◌≢◌, ◌⊎◌, inl, inr, ℕ, zero, suc, ◌-◌, ◌≤◌, List, [], ◌∷◌, ◌++◌, Bool, true, false, cond, eqb, map, reverse, take, length, get_or, refl, ap, sym, ◌∙◌, subst, arith}
use Rattle.std.specs.List.{AllByRecursion}
use Rattle.std.proofs.lemmas.Bool.{eqb-true, eq-eqb, false≢true}
use Rattle.std.proofs.lemmas.List.{map-append, reverse-append}
use Rattle.number_lists.specs.Members.{In, here, there}
use Rattle.number_lists.proofs.CallerLemmas.{at-In}
use Rattle.face_poset.specs.declared.cells.Pair.{Pair}
use Rattle.face_poset.specs.Poset.{IsSpace, count, facets_of}
use Rattle.face_poset.specs.Below.{cell_at}
use Rattle.order_complex.specs.Chains.{id_of}
use Rattle.regular_check.specs.Rules.{IsRegular}
use Rattle.sphere_collapses.specs.Collapses.{lower_of, upper_of, boundary_less, collapses}
use Rattle.sphere_collapses.proofs.CallerLemmas.{two_ends_kept}
use Rattle.local_field.specs.Towers.{Building}
use Rattle.local_field.specs.Inside.{cells_of, IsAmong, NotAbove, IsBuilding}
use Rattle.local_field.specs.Buildings.{dim_at, is_below, edge_building, solid_building}
use Rattle.local_field.proofs.FlagLaw.{dim-id, facets-cell, facet-range, facet-below, first-In}
use Rattle.local_field.proofs.Cells.{falls, trans, point-id, point-dim, over-facet}
use Rattle.local_field.proofs.SolidBuildings.{IsThere, solid-built, solid-there}

-- a list by its last element
pub cut-last : (ps : List Pair) (d : Pair) (k : ℕ) → length ps ≡ suc k → ps ≡ take k ps ++ get_or ps k d ∷ []
cut-last [] d k l = absurd (omega (arith, l))
cut-last (p ∷ []) d zero l = refl
cut-last (p ∷ q ∷ ps) d zero l = absurd (omega (arith, l))
cut-last (p ∷ ps) d (suc k) l = ap (λ (xs : List Pair). p ∷ xs) (cut-last ps d k (omega (arith, l)))

-- what is in none of the later cells is not among them
among-apart : (c x : ℕ) (ps : List (ℕ × ℕ)) (f : ℕ) (P : ℕ → Type 0) → AllByRecursion P (cells_of ps f) → IsAmong x ps f → P x
among-apart c x [] f P h e = subst P (sym e) h.0
among-apart c x (p ∷ ps) f P h (inl e) = subst P (sym e) h.0
among-apart c x (p ∷ ps) f P h (inr (inl e)) = subst P (sym e) h.1.0
among-apart c x (p ∷ ps) f P h (inr (inr i)) = among-apart c x ps f P h.1.1 i

module _ (space : List (List (List ℕ))) (valid : IsSpace space) (regular : IsRegular space) (n m : ℕ) (low : 1 ≤ n) (high : n ≤ count space 3) (disk_in : In m (facets_of space 3 n)) where
  abbrev g : ℕ
  g = id_of space (cell_at 3 n)

  abbrev f : ℕ
  f = id_of space (cell_at 2 m)

  abbrev below : ℕ → ℕ → Bool
  below = is_below space

  abbrev id_pair : Pair → ℕ × ℕ
  id_pair p = (id_of space (lower_of p), id_of space (upper_of p))

  -- some pair goes
  pub some-pair : (pairs : List Pair) → collapses space (boundary_less space n m) pairs ≡ true → 1 ≤ length pairs
  some-pair (p ∷ pairs) e = omega arith
  some-pair [] e =
      let b : IsBuilding (is_below space) (dim_at space) g f (solid_building space n m []) = solid-built space valid n m low high disk_in [] e in
      let w = facet-range space valid 2 n m low high disk_in in
      let x : ℕ = get_or (facets_of space 2 m) 0 0 in
      let i = first-In space valid 1 m w.0 w.1 in
      let v = facet-range space valid 1 m x w.0 w.1 i in
      let dx : dim_at space (id_of space (cell_at 1 x)) ≡ 1 = dim-id space 1 x (omega arith) v.0 v.1 in
      let df : dim_at space f ≡ 2 = dim-id space 2 m (omega arith) w.0 w.1 in
      let under = facet-below space valid 1 m x (omega arith) w.0 w.1 i in
      elim (b.all (id_of space (cell_at 1 x)) (over-facet space valid 2 n m (id_of space (cell_at 1 x)) (omega arith) low high disk_in under)) [
        | inl e ↦ absurd (let d = ap (dim_at space) e in let p = b.point in omega (arith, d, p, dx))
        | inr e ↦ absurd (let d = ap (dim_at space) e in omega (arith, d, df, dx))
      ]

  -- the last pair, and the vertex
  pub record IsLast (p : Pair) (root : ℕ) : Type 0 where
    pub flat : p.dim ≡ 0
    pub first : 1 ≤ p.upper
    pub last : p.upper ≤ count space 1
    pub two : length (facets_of space 1 p.upper) ≡ 2
    pub is : (edge_building space p.upper p.lower).root ≡ root

  module _ (init : List Pair) (p : Pair) (e : collapses space (boundary_less space n m) (init ++ p ∷ []) ≡ true) where
    abbrev pairs : List Pair
    pairs = init ++ p ∷ []

    abbrev built : Building
    built = solid_building space n m pairs

    abbrev l : ℕ
    l = id_of space (lower_of p)

    abbrev u : ℕ
    u = id_of space (upper_of p)

    abbrev rest : List (ℕ × ℕ)
    rest = reverse (map id_pair init)

    turned : built.pairs ≡ id_pair p ∷ rest
    turned = ap (λ (qs : List (ℕ × ℕ)). reverse qs) (map-append id_pair init (p ∷ [])) ∙ reverse-append (map id_pair init) (id_pair p ∷ [])

    is_built : IsBuilding (is_below space) (dim_at space) g f (record { root = built.root; pairs = id_pair p ∷ rest })
    is_built = subst (λ (qs : List (ℕ × ℕ)). IsBuilding (is_below space) (dim_at space) g f (record { root = built.root; pairs = qs })) turned (solid-built space valid n m low high disk_in pairs e)

    -- what is below the upper is the vertex or the lower
    only : (x : ℕ) → is_below space x u ≡ true → (x ≡ built.root) ⊎ (x ≡ l)
    only x h =
        elim (is_built.all x (trans space valid x u g h is_built.fit.0.1)) [
          | inl q ↦ inl q
          | inr (inl q) ↦ inr q
          | inr (inr (inl q)) ↦ absurd (let d = falls space valid x u h in let s = ap (dim_at space) q in omega (arith, d, s))
          | inr (inr (inr i)) ↦ absurd ((among-apart u x rest f (NotAbove (is_below space) u) is_built.order.1.0 i).1 h)
        ]

    stands : IsThere space valid (lower_of p) × IsThere space valid (upper_of p)
    stands = solid-there space valid n m low high disk_in pairs e p (in_last init)
      where
        in_last : (qs : List Pair) → In p (qs ++ p ∷ [])
        in_last [] = here
        in_last (q ∷ qs) = there (in_last qs)

    -- the two vertices of an edge below the upper, or of the upper: one of them is the lower
    ends : (k : ℕ) → 1 ≤ k → k ≤ count space 1 → ((v : ℕ) → In v (facets_of space 1 k) → is_below space v u ≡ true) → dim_at space l ≢ 0 → ⊥
    ends k a b h d =
        let vs : List ℕ = facets_of space 1 k in
        let two = two_ends_kept space valid regular k a b in
        let rises = (facets-cell space valid 0 k a b).rises 0 (omega (arith, two)) in
        let i = at-In vs 0 0 (omega (arith, two)) in
        let j = at-In vs 1 0 (omega (arith, two)) in
        let first : get_or vs 0 0 ≡ built.root = is_root (get_or vs 0 0) i in
        let second : get_or vs 1 0 ≡ built.root = is_root (get_or vs 1 0) j in
        omega (arith, rises, first, second)
      where
        is_root : (v : ℕ) → In v (facets_of space 1 k) → v ≡ built.root
        is_root v i =
            let w = facet-range space valid 0 k v a b i in
            elim (only v (h v i)) [ inl q ↦ q | inr q ↦ absurd (d (sym (ap (dim_at space) q) ∙ point-dim space valid v w.0 w.1)) ]

    last-flat : p.dim ≡ 0
    last-flat = by p.dim refl
      where
        by : (d : ℕ) → d ≡ p.dim → p.dim ≡ 0
        by zero s = sym s
        by (suc zero) s =
            let t = stands in
            let r : (1 ≤ p.lower) × (p.lower ≤ count space 1) = (t.0.low, subst (λ (k : ℕ). p.lower ≤ count space k) (sym s) t.0.high) in
            let id_is : l ≡ id_of space (cell_at 1 p.lower) = ap (λ (k : ℕ). id_of space (cell_at k p.lower)) (sym s) in
            let dl : dim_at space l ≡ 1 = ap (dim_at space) id_is ∙ dim-id space 1 p.lower (omega arith) r.0 r.1 in
            absurd (ends p.lower r.0 r.1
            (λ v i.
            let v_below : is_below space v l ≡ true = subst (λ (k : ℕ). is_below space v k ≡ true) (sym id_is) (subst (λ (k : ℕ). is_below space k (id_of space (cell_at 1 p.lower)) ≡ true) (point-id space valid v) (facet-below space valid 0 p.lower v (omega arith) r.0 r.1 i)) in
            trans space valid v l u v_below is_built.fit.0.2)
            (λ z. omega (arith, z, dl)))
        by (suc (suc d)) s = absurd (let q = stands.1.small in omega (arith, q, s))

    pub root-last : IsLast p built.root
    root-last =
        let t = stands in
        let flat = last-flat in
        let a : 1 ≤ p.upper = t.1.low in
        let b : p.upper ≤ count space 1 = subst (λ (k : ℕ). p.upper ≤ count space (suc k)) flat t.1.high in
        let vs : List ℕ = facets_of space 1 p.upper in
        let two = two_ends_kept space valid regular p.upper a b in
        record { flat = flat; first = a; last = b; two = two; is = by_end a b two flat (eqb (get_or vs 0 0) p.lower) refl }
      where
        by_end : 1 ≤ p.upper → p.upper ≤ count space 1 → length (facets_of space 1 p.upper) ≡ 2 → p.dim ≡ 0 → (t : Bool) → eqb (get_or (facets_of space 1 p.upper) 0 0) p.lower ≡ t
            → cond (eqb (get_or (facets_of space 1 p.upper) 0 0) p.lower) (get_or (facets_of space 1 p.upper) 1 0) (get_or (facets_of space 1 p.upper) 0 0) ≡ built.root
        by_end a b two flat t s =
            ap (λ (z : Bool). cond z (get_or (facets_of space 1 p.upper) 1 0) (get_or (facets_of space 1 p.upper) 0 0)) s ∙ by t s
          where
            u_is : u ≡ id_of space (cell_at 1 p.upper)
            u_is = ap (λ (k : ℕ). id_of space (cell_at (suc k) p.upper)) flat

            l_is : l ≡ p.lower
            l_is = ap (λ (k : ℕ). id_of space (cell_at k p.lower)) flat ∙ point-id space valid p.lower

            under : (v : ℕ) → In v (facets_of space 1 p.upper) → is_below space v u ≡ true
            under v i = subst (λ (k : ℕ). is_below space v k ≡ true) (sym u_is) (subst (λ (k : ℕ). is_below space k (id_of space (cell_at 1 p.upper)) ≡ true) (point-id space valid v) (facet-below space valid 0 p.upper v (omega arith) a b i))

            by : (t : Bool) → eqb (get_or (facets_of space 1 p.upper) 0 0) p.lower ≡ t → cond t (get_or (facets_of space 1 p.upper) 1 0) (get_or (facets_of space 1 p.upper) 0 0) ≡ built.root
            by true s =
                let vs : List ℕ = facets_of space 1 p.upper in
                let rises = (facets-cell space valid 0 p.upper a b).rises 0 (omega (arith, two)) in
                let first : get_or vs 0 0 ≡ p.lower = eqb-true (get_or vs 0 0) p.lower s in
                elim (only (get_or vs 1 0) (under (get_or vs 1 0) (at-In vs 1 0 (omega (arith, two))))) [ inl q ↦ q | inr q ↦ absurd (omega (arith, q, l_is, first, rises)) ]
            by false s =
                let vs : List ℕ = facets_of space 1 p.upper in
                elim (only (get_or vs 0 0) (under (get_or vs 0 0) (at-In vs 0 0 (omega (arith, two))))) [ inl q ↦ q | inr q ↦ absurd (false≢true (sym s ∙ eq-eqb (get_or vs 0 0) p.lower (q ∙ l_is))) ]

  -- by its index
  pub last-is : (pairs : List Pair) → collapses space (boundary_less space n m) pairs ≡ true → (p : Pair) (k : ℕ) → k ≡ length pairs - 1 → p ≡ get_or pairs k p → IsLast p (solid_building space n m pairs).root
  last-is pairs e p k s t =
      let l = some-pair pairs e in
      let cut : pairs ≡ take k pairs ++ get_or pairs k p ∷ [] = cut-last pairs p k (omega (arith, l, s)) in
      let is : pairs ≡ take k pairs ++ p ∷ [] = cut ∙ ap (λ (q : Pair). take k pairs ++ q ∷ []) (sym t) in
      subst (λ (qs : List Pair). IsLast p (solid_building space n m qs).root) (sym is)
      (root-last (take k pairs) p (subst (λ (qs : List Pair). collapses space (boundary_less space n m) qs ≡ true) is e))
