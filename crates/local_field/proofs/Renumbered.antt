-- A space by places: the facets of its cells, and that it is a space.
use Rattle.std.proofs.Common.{◌≡◌, ℕ, zero, suc, ◌+◌, ◌-◌, ◌<◌, ◌≤◌, List, [], ◌∷◌, ◌++◌, All, Contains, Bool, true, length, map, get_or, refl, ap, sym, ◌∙◌, subst, arith}
use Rattle.std.specs.List.Sorted.{IsStrictlyIncreasing}
use Rattle.std.proofs.lemmas.List.{get_or-map, length-map, map-append}
use Rattle.std.proofs.lemmas.List.Kept.{IsStrictlyIncreasing-filter}
use Rattle.number_lists.specs.Words.{upto, holds}
use Rattle.number_lists.specs.Members.{In}
use Rattle.number_lists.proofs.CallerLemmas.{In-map, map-In, In-upto, upto-In, In-at, at-In, In-holds, holds-In, In-filter, In-inside, same_holds, same_bool, members_sorted, increasing-upto, length-upto, get_or-upto, filter_same, upto_more}
use Rattle.face_poset.specs.Poset.{IsCell, IsSpace, count, layer, facets_of}
use Rattle.sphere_collapses.specs.Places.{ArePlaces}
use Rattle.local_field.specs.Flags.{cells_at, cell_at_place, facets_at, facets_by_place, renumbered, IsOrderOf, IsOf, HaveCells, FlagCells}

module _ (space : List (List (List ℕ))) (valid : IsSpace space) (cells : List (List ℕ)) (h : IsOf space cells) where
  abbrev size : ℕ → ℕ
  size d = length (cells_at cells d)

  abbrev row : ℕ → ℕ → ℕ
  row d p = cell_at_place cells d p

  pub order : (d : ℕ) → IsOrderOf (length (cells_at cells d)) (cells_at cells d) (cells_at h.places d)
  order d = h.order.order d

  pub place-range : (d p : ℕ) → p ≤ count space d → p ≤ length (cells_at cells d)
  place-range d p l = omega (arith, l, h.counts d)

  -- one place a cell
  pub place-once : (d p q : ℕ) → 1 ≤ p → p ≤ size d → 1 ≤ q → q ≤ size d → row d p ≡ row d q → p ≡ q
  place-once d p q a b e f s = sym ((order d).back p a b) ∙ (ap (λ (k : ℕ). get_or (cells_at h.places d) (k - 1) 0) s ∙ (order d).back q e f)

  -- the place of a cell
  pub place-of : (d c : ℕ) → 1 ≤ c → c ≤ size d → (p : ℕ) × (1 ≤ p) × (p ≤ size d) × (row d p ≡ c)
  place-of d c low high = let w = (order d).place c low high in (get_or (cells_at h.places d) (c - 1) 0, w.0, w.1, (order d).cell c low high)

  -- the facets of the cell at a place are there
  pub facets-within : (d p : ℕ) → 1 ≤ d → 1 ≤ p → p ≤ size d → (facets : List ℕ) → facets ≡ facets_of space d (row d p) → All (λ c. (1 ≤ c) × (c ≤ length (cells_at cells (d - 1)))) facets
  facets-within d p low a b facets e i x l =
      let w = (order d).within p a b in
      let cell : IsCell (count space (d - 1)) (facets_of space d (row d p)) = valid.cells d low (row d p - 1) [] (omega (arith, w.0, w.1, h.counts d)) in
      let r = subst (λ (fs : List ℕ). All (λ f. (1 ≤ f) × (f ≤ count space (d - 1))) fs) (sym e) cell.within i x l in
      (r.0, omega (arith, r.1, h.counts (d - 1)))

  -- places of facets that were sorted
  pub facets-sorted : (d p : ℕ) (facets places sorted : List ℕ) → facets ≡ facets_of space d (row d p) → ArePlaces (cells_at cells (d - 1)) facets places → IsStrictlyIncreasing sorted → ((n : ℕ) → Contains places n → Contains sorted n) → ((n : ℕ) → Contains sorted n → Contains places n)
      → sorted ≡ facets_at space cells d p
  facets-sorted d p facets places sorted e are rises keeps adds =
      let k : ℕ = d - 1 in
      members_sorted sorted (holds places) (size k) rises (λ n. same_holds sorted places n (adds n) (keeps n)) (λ n t. in-range n (holds-In places t))
      ∙ filter_same (holds places) (λ q. holds (facets_of space d (row d p)) (row k q)) (upto (size k))
      (λ i x l. (let w = upto-In (size k) (get_or (upto (size k)) i x) (at-In (upto (size k)) i x l) in
      same_bool (holds places (get_or (upto (size k)) i x)) (holds (facets_of space d (row d p)) (row k (get_or (upto (size k)) i x))) (to (get_or (upto (size k)) i x)) (from (get_or (upto (size k)) i x) w.0 w.1)))
    where
      in-range : (n : ℕ) → In n places → (1 ≤ n) × (n ≤ length (cells_at cells (d - 1)))
      in-range n i =
          let k = In-at i in
          let w = are.within k.0 0 k.1 in
          subst (λ (x : ℕ). (1 ≤ x) × (x ≤ length (cells_at cells (d - 1)))) k.2 w

      to : (q : ℕ) → holds places q ≡ true → holds (facets_of space d (row d p)) (row (d - 1) q) ≡ true
      to q t = In-holds (subst (In (row (d - 1) q)) (are.numbers_are ∙ e) (In-map (row (d - 1)) (holds-In places t)))

      from : (q : ℕ) → 1 ≤ q → q ≤ size (d - 1) → holds (facets_of space d (row d p)) (row (d - 1) q) ≡ true → holds places q ≡ true
      from q a b t =
          let r = map-In (row (d - 1)) places (subst (In (row (d - 1) q)) (sym (are.numbers_are ∙ e)) (holds-In (facets_of space d (row d p)) t)) in
          let w = in-range r.0 r.1 in
          In-holds (subst (λ (x : ℕ). In x places) (sym (place-once (d - 1) q r.0 a b w.0 w.1 r.2)) r.1)

  -- one list more
  pub lists-more : (d i : ℕ) (lists new : List (List ℕ)) (facets : List ℕ) → lists ≡ map (facets_at space cells d) (upto i) → facets ≡ facets_at space cells d (i + 1) → new ≡ lists ++ facets ∷ [] → new ≡ map (facets_at space cells d) (upto (i + 1))
  lists-more d i lists new facets e f s =
      s
      ∙ (ap (λ (xs : List (List ℕ)). xs ++ facets ∷ []) e
      ∙ (ap (λ (x : List ℕ). map (facets_at space cells d) (upto i) ++ x ∷ []) f
      ∙ sym (ap (map (facets_at space cells d)) (upto_more i) ∙ map-append (facets_at space cells d) (upto i) ((i + 1) ∷ []))))

  -- ---- a space

  long : (d : ℕ) → length (facets_by_place space cells d) ≡ count space d
  long d = length-map (upto (size d)) (facets_at space cells d) ∙ (length-upto (size d) ∙ h.counts d)

  pub counts-kept : (d : ℕ) → count (renumbered space cells) d ≡ count space d
  counts-kept zero = length-map (upto (size 0)) (λ p. []) ∙ (length-upto (size 0) ∙ h.counts 0)
  counts-kept (suc zero) = long 1
  counts-kept (suc (suc zero)) = long 2
  counts-kept (suc (suc (suc zero))) = long 3
  counts-kept (suc (suc (suc (suc d)))) = sym (above space valid.layers)
    where
      above : (xs : List (List (List ℕ))) → length xs ≡ 4 → length (get_or xs (suc (suc (suc (suc d)))) []) ≡ 0
      above [] l = refl
      above (a ∷ []) l = refl
      above (a ∷ b ∷ []) l = refl
      above (a ∷ b ∷ c ∷ []) l = refl
      above (a ∷ b ∷ c ∷ e ∷ []) l = refl
      above (a ∷ b ∷ c ∷ e ∷ x ∷ xs) l = absurd (omega (arith, l))

  -- the facets at a place, by numbers of places
  facets-cell : (d p : ℕ) → 1 ≤ d → 1 ≤ p → p ≤ size d → IsCell (size (d - 1)) (facets_at space cells d p)
  facets-cell d p low a b =
      let test : ℕ → Bool = λ q. holds (facets_of space d (row d p)) (row (d - 1) q) in
      let w = (order d).within p a b in
      let cell : IsCell (count space (d - 1)) (facets_of space d (row d p)) = valid.cells d low (row d p - 1) [] (omega (arith, w.0, w.1, h.counts d)) in
      let first : ℕ = get_or (facets_of space d (row d p)) 0 0 in
      let i : In first (facets_of space d (row d p)) = at-In (facets_of space d (row d p)) 0 0 (omega (arith, cell.some)) in
      let v = cell.within 0 0 (omega (arith, cell.some)) in
      let q = place-of (d - 1) first v.0 (omega (arith, v.1, h.counts (d - 1))) in
      let j = In-filter test (In-upto (size (d - 1)) q.0 q.1 q.2) (In-holds (subst (λ (x : ℕ). In x (facets_of space d (row d p))) (sym q.3) i)) in
      record {
        rises = IsStrictlyIncreasing-filter test (upto (size (d - 1))) (increasing-upto (size (d - 1)));
        within = λ k x l. upto-In (size (d - 1)) (get_or (facets_at space cells d p) k x) (In-inside test (upto (size (d - 1))) (at-In (facets_at space cells d p) k x l));
        some = (let z = In-at j in omega (arith, z.1));
      }

  layer-cells : (d : ℕ) → 1 ≤ d → All (IsCell (count (renumbered space cells) (d - 1))) (facets_by_place space cells d)
  layer-cells d low k x l =
      let m : k < size d = omega (arith, l, length-map (upto (size d)) (facets_at space cells d), length-upto (size d)) in
      let p : get_or (upto (size d)) k 0 ≡ k + 1 = get_or-upto (size d) k m in
      let c = facets-cell d (k + 1) low (omega arith) (omega (arith, m)) in
      let n : size (d - 1) ≡ count (renumbered space cells) (d - 1) = h.counts (d - 1) ∙ sym (counts-kept (d - 1)) in
      subst (IsCell (count (renumbered space cells) (d - 1))) (sym (get_or-map (facets_at space cells d) (upto (size d)) k 0 x (omega (arith, m, length-upto (size d))) ∙ ap (facets_at space cells d) p))
      (subst (λ (z : ℕ). IsCell z (facets_at space cells d (k + 1))) n c)

  pub renumbered-valid : IsSpace (renumbered space cells)
  renumbered-valid =
      record {
        layers = refl;
        vertices = λ k x l. get_or-map (λ (p : ℕ). []) (upto (size 0)) k 0 x (omega (arith, l, length-map {B = List ℕ} (upto (size 0)) (λ (p : ℕ). []), length-upto (size 0)));
        cells = by;
        few = (let a = counts-kept 0 in let b = counts-kept 1 in let c = counts-kept 2 in let e = counts-kept 3 in omega (arith, a, b, c, e, valid.few));
      }
    where
      by : (d : ℕ) → 1 ≤ d → All (IsCell (count (renumbered space cells) (d - 1))) (layer (renumbered space cells) d)
      by zero l = absurd (omega (arith, l))
      by (suc zero) l = layer-cells 1 l
      by (suc (suc zero)) l = layer-cells 2 l
      by (suc (suc (suc zero))) l = layer-cells 3 l
      by (suc (suc (suc (suc d)))) l = λ k x m. absurd (omega (arith, m))

  pub counts-of : HaveCells cells (renumbered space cells)
  counts-of d = h.counts d ∙ sym (counts-kept d)

  -- by its four lists
  pub renumbered-parts : (v e d s : List (List ℕ)) (n : ℕ) → n ≡ count space 0 → v ≡ map (λ p. []) (upto n) → e ≡ facets_by_place space cells 1 → d ≡ facets_by_place space cells 2 → s ≡ facets_by_place space cells 3 → v ∷ e ∷ d ∷ s ∷ [] ≡ renumbered space cells
  renumbered-parts v e d s n k a b f g =
      let none : ℕ → List (List ℕ) = λ m. map (λ (p : ℕ). []) (upto m) in
      ap (λ (x : List (List ℕ)). x ∷ e ∷ d ∷ s ∷ []) (a ∙ ap none (k ∙ sym (h.counts 0)))
      ∙ (ap (λ (x : List (List ℕ)). none (size 0) ∷ x ∷ d ∷ s ∷ []) b ∙ (ap (λ (x : List (List ℕ)). none (size 0) ∷ facets_by_place space cells 1 ∷ x ∷ s ∷ []) f ∙ ap (λ (x : List (List ℕ)). none (size 0) ∷ facets_by_place space cells 1 ∷ facets_by_place space cells 2 ∷ x ∷ []) g))

pub flags-same : (a b : FlagCells) → a.cells ≡ b.cells → a.space ≡ b.space → a.minus ≡ b.minus → a ≡ b
flags-same a b e f g =
    ap (λ (cs : List (List ℕ)). record { cells = cs; space = a.space; minus = a.minus }) e
    ∙ (ap (λ (s : List (List (List ℕ))). record { cells = b.cells; space = s; minus = a.minus }) f ∙ ap (λ (s : List (List (List ℕ))). record { cells = b.cells; space = b.space; minus = s }) g)
