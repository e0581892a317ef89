-- A space in which each cell looks like a cell of a regular space is regular.
use Rattle.std.proofs.Common.{◌≡◌, ℕ, suc, ◌+◌, ◌-◌, ◌<◌, ◌≤◌, List, [], ◌∷◌, Bool, true, eqb, map, length, get_or, refl, ap, sym, ◌∙◌, subst, arith}
use Rattle.std.specs.List.{IsDistinct, list_all, list_any}
use Rattle.std.specs.List.Sorted.{IsStrictlyIncreasing}
use Rattle.std.specs.Cmp.{both_ways}
use Rattle.std.proofs.lemmas.Bool.{eqb-true, eq-eqb, ne_eqb, and_from}
use Rattle.std.proofs.lemmas.List.{length-map, get_or-map}
use Rattle.std.proofs.lemmas.List.Kept.{IsStrictlyIncreasing-filter, AllPairs-from_increasing}
use Rattle.std.proofs.lemmas.Map.Keys.{IsDistinct-from_apart}
use Rattle.number_lists.specs.Words.{upto, holds}
use Rattle.face_poset.specs.Poset.{IsSpace, count, facets_of}
use Rattle.face_poset.specs.Below.{facets_of_all}
use Rattle.number_lists.proofs.CallerLemmas.{distinct_rising, increasing-upto, In-filter, In-inside, filter-In, any-In, any-some, all-In, In-all, holds-In, In-holds, In-at, at-In, reaches_is, length-inside}
use Rattle.number_lists.specs.Reach.{reaches, Reaches, at_start, on}
use Rattle.regular_check.specs.Rules.{two_ends, one_cycle, sharing, meet, each_twice, connected, faces_count, is_spherical, IsRegular}
use Rattle.number_lists.specs.Members.{In, here, there}
use Rattle.regular_check.proofs.Cells.{facets-cell}
use Rattle.regular_check.proofs.Distinct.{In-all_facets, all_facets-In}
use Rattle.regular_check.proofs.Leasts.{path_on, path_back}
use Rattle.regular_check.proofs.FaceCounts.{HasFaces, has_faces}
use Rattle.regular_check.proofs.RegularParts.{edges_kept, disks_kept, solids_kept, regular_parts}

-- ---- a copy of a part of one space in another

-- the cells `part` of the first space, with all their faces, stand in the second one as well: φ says where
pub record IsCopy (space other : List (List (List ℕ))) (part : ℕ → ℕ → Type 0) (φ : ℕ → ℕ → ℕ) : Type 0 where
  pub cell : (d c : ℕ) → part d c → (1 ≤ c) × (c ≤ count space d)
  pub down : (d c f : ℕ) → part (suc d) c → In f (facets_of space (suc d) c) → part d f
  pub image : (d c : ℕ) → part d c → (1 ≤ φ d c) × (φ d c ≤ count other d)
  pub once : (d a b : ℕ) → part d a → part d b → φ d a ≡ φ d b → a ≡ b
  pub to : (d c f : ℕ) → part (suc d) c → In f (facets_of space (suc d) c) → In (φ d f) (facets_of other (suc d) (φ (suc d) c))
  pub from : (d c y : ℕ) → part (suc d) c → In y (facets_of other (suc d) (φ (suc d) c)) → (f : ℕ) × In f (facets_of space (suc d) c) × (y ≡ φ d f)

-- two cells meet in either order
meet_same : (space : List (List (List ℕ))) (dim a b : ℕ) → meet space dim a b ≡ meet space dim b a
meet_same space dim a b = both_ways (meet space dim a b) (meet space dim b a) (back a b) (back b a)
  where
    back : (x y : ℕ) → meet space dim x y ≡ true → meet space dim y x ≡ true
    back x y t = let s = any-some (λ f. holds (facets_of space dim y) f) (facets_of space dim x) t in any-In (λ f. holds (facets_of space dim x) f) (holds-In (facets_of space dim y) s.2) (In-holds s.1)

module _ (space other : List (List (List ℕ))) (part : ℕ → ℕ → Type 0) (φ : ℕ → ℕ → ℕ) (hs : IsSpace space) (ho : IsSpace other) (h : IsCopy space other part φ) where
  -- these cells of the other space are the copies of those
  record AreImages (d : ℕ) (xs ys : List ℕ) : Type 0 where
    pub rises : IsStrictlyIncreasing xs
    pub rises_too : IsStrictlyIncreasing ys
    pub parts : (x : ℕ) → In x xs → part d x
    pub to : (x : ℕ) → In x xs → In (φ d x) ys
    pub from : (y : ℕ) → In y ys → (x : ℕ) × In x xs × (y ≡ φ d x)

  distinct_images : (d : ℕ) (xs : List ℕ) → IsStrictlyIncreasing xs → ((x : ℕ) → In x xs → part d x) → IsDistinct eqb (map (φ d) xs)
  distinct_images d xs r p =
      IsDistinct-from_apart eqb (map (φ d) xs)
      (λ i j k l m.
      let b : j < length xs = omega (arith, m, length-map xs (φ d)) in
      let a : i < length xs = omega (arith, l, b) in
      let lt : get_or xs i 0 < get_or xs j 0 = AllPairs-from_increasing xs r i j 0 l b in
      ne_eqb (get_or (map (φ d) xs) i k) (get_or (map (φ d) xs) j k)
      (λ e.
      let q : get_or xs i 0 ≡ get_or xs j 0 = h.once d (get_or xs i 0) (get_or xs j 0) (p (get_or xs i 0) (at-In xs i 0 a)) (p (get_or xs j 0) (at-In xs j 0 b)) (sym (get_or-map (φ d) xs i 0 k a) ∙ (e ∙ get_or-map (φ d) xs j 0 k b)) in
      omega (arith, lt, q)))

  map-In : (f : ℕ → ℕ) {y : ℕ} (xs : List ℕ) → In y (map f xs) → (x : ℕ) × In x xs × (y ≡ f x)
  map-In f [] i = elim i [ ]
  map-In f (x ∷ xs) here = (x, here, refl)
  map-In f (x ∷ xs) (there i) = let r = map-In f xs i in (r.0, there r.1, r.2)

  In-map : (f : ℕ → ℕ) {x : ℕ} {xs : List ℕ} → In x xs → In (f x) (map f xs)
  In-map f here = here
  In-map f (there i) = there (In-map f i)

  -- there are as many
  length-images : (d : ℕ) (xs ys : List ℕ) → AreImages d xs ys → length xs ≡ length ys
  length-images d xs ys i =
      let a : length (map (φ d) xs) ≤ length ys = length-inside (map (φ d) xs) ys (distinct_images d xs i.rises i.parts) (λ y k. (let r = map-In (φ d) xs k in subst (λ (z : ℕ). In z ys) (sym r.2) (i.to r.0 r.1))) in
      let b : length ys ≤ length (map (φ d) xs) = length-inside ys (map (φ d) xs) (distinct_rising ys i.rises_too) (λ y k. (let r = i.from y k in subst (λ (z : ℕ). In z (map (φ d) xs)) (sym r.2) (In-map (φ d) r.1))) in
      omega (arith, a, b, length-map xs (φ d))

  facets_rise : (sp : List (List (List ℕ))) (d c : ℕ) → IsSpace sp → 1 ≤ c → c ≤ count sp (suc d) → IsStrictlyIncreasing (facets_of sp (suc d) c)
  facets_rise sp d c v low high = let e : suc d - 1 ≡ d = omega arith in (facets-cell sp (suc d) c (count sp d) v (omega arith) low high (omega (arith, ap (count sp) e))).rises

  -- the facets of a copy
  facets_images : (d c : ℕ) → part (suc d) c → AreImages d (facets_of space (suc d) c) (facets_of other (suc d) (φ (suc d) c))
  facets_images d c p =
      let w = h.cell (suc d) c p in
      let v = h.image (suc d) c p in
      record { rises = facets_rise space d c hs w.0 w.1; rises_too = facets_rise other d (φ (suc d) c) ho v.0 v.1; parts = λ f i. h.down d c f p i; to = λ f i. h.to d c f p i; from = λ y i. h.from d c y p i }

  module _ (d : ℕ) (xs ys : List ℕ) (i : AreImages (suc d) xs ys) where
    low : (x : ℕ) → In x xs → (1 ≤ x) × (x ≤ count space (d + 1))
    low x m = let e : suc d ≡ d + 1 = omega arith in let w = h.cell (suc d) x (i.parts x m) in (w.0, omega (arith, w.1, ap (count space) e))

    low_too : (y : ℕ) → In y ys → (1 ≤ y) × (y ≤ count other (d + 1))
    low_too y m =
        let r = i.from y m in
        let w = h.image (suc d) r.0 (i.parts r.0 r.1) in
        let e : suc d ≡ d + 1 = omega arith in
        (omega (arith, w.0, r.2), omega (arith, w.1, r.2, ap (count other) e))

    -- the facets of all copies
    all_images : AreImages d (facets_of_all space d xs) (facets_of_all other d ys)
    all_images =
        let e : d + 1 ≡ suc d = omega arith in
        record {
          rises = IsStrictlyIncreasing-filter (λ f. list_any (λ c. holds (facets_of space (d + 1) c) f) xs) (upto (count space d)) (increasing-upto (count space d));
          rises_too = IsStrictlyIncreasing-filter (λ f. list_any (λ c. holds (facets_of other (d + 1) c) f) ys) (upto (count other d)) (increasing-upto (count other d));
          parts = λ f k. (let r = all_facets-In space d xs f k in h.down d r.0 f (i.parts r.0 r.1) (subst (λ (n : ℕ). In f (facets_of space n r.0)) e r.2));
          to = λ f k.
              let r = all_facets-In space d xs f k in
              let t : In (φ d f) (facets_of other (suc d) (φ (suc d) r.0)) = h.to d r.0 f (i.parts r.0 r.1) (subst (λ (n : ℕ). In f (facets_of space n r.0)) e r.2) in
              In-all_facets other d ys ho low_too (φ (suc d) r.0) (φ d f) (i.to r.0 r.1) (subst (λ (n : ℕ). In (φ d f) (facets_of other n (φ (suc d) r.0))) (sym e) t);
          from = λ y k.
              let r = all_facets-In other d ys y k in
              let s = i.from r.0 r.1 in
              let t : In y (facets_of other (suc d) (φ (suc d) s.0)) = subst (λ (c : ℕ). In y (facets_of other (suc d) c)) s.2 (subst (λ (n : ℕ). In y (facets_of other n r.0)) e r.2) in
              let u = h.from d s.0 y (i.parts s.0 s.1) t in
              (u.0, In-all_facets space d xs hs low s.0 u.0 s.1 (subst (λ (n : ℕ). In u.0 (facets_of space n s.0)) (sym e) u.1), u.2);
        }

    -- those that share a facet
    sharing_images : (c v : ℕ) → In c xs → In v (facets_of space (suc d) c) → AreImages (suc d) (sharing space (suc d) xs v) (sharing other (suc d) ys (φ d v))
    sharing_images c v m k =
        let p : part d v = h.down d c v (i.parts c m) k in
        let has : ℕ → Bool = λ x. holds (facets_of space (suc d) x) v in
        let has_too : ℕ → Bool = λ y. holds (facets_of other (suc d) y) (φ d v) in
        record {
          rises = IsStrictlyIncreasing-filter has xs i.rises;
          rises_too = IsStrictlyIncreasing-filter has_too ys i.rises_too;
          parts = λ x n. i.parts x (In-inside has xs n);
          to = λ x n.
              let a : In x xs = In-inside has xs n in
              In-filter has_too (i.to x a) (In-holds (h.to d x v (i.parts x a) (holds-In (facets_of space (suc d) x) (filter-In has xs n))));
          from = λ y n.
              let r = i.from y (In-inside has_too ys n) in
              let t : In (φ d v) (facets_of other (suc d) (φ (suc d) r.0)) = subst (λ (z : ℕ). In (φ d v) (facets_of other (suc d) z)) r.2 (holds-In (facets_of other (suc d) y) (filter-In has_too ys n)) in
              let u = h.from d r.0 (φ d v) (i.parts r.0 r.1) t in
              let same : v ≡ u.0 = h.once d v u.0 p (h.down d r.0 u.0 (i.parts r.0 r.1) u.1) u.2 in
              (r.0, In-filter has r.1 (In-holds (subst (λ (z : ℕ). In z (facets_of space (suc d) r.0)) (sym same) u.1)), r.2);
        }

    twice_images : each_twice space (suc d) xs ≡ true → each_twice other (suc d) ys ≡ true
    twice_images e =
        In-all (λ y. list_all (λ f. eqb (length (sharing other (suc d) ys f)) 2) (facets_of other (suc d) y)) ys
        (λ y m.
        let r = i.from y m in
        In-all (λ f. eqb (length (sharing other (suc d) ys f)) 2) (facets_of other (suc d) y)
        (λ z k.
        let u = h.from d r.0 z (i.parts r.0 r.1) (subst (λ (c : ℕ). In z (facets_of other (suc d) c)) r.2 k) in
        let two : length (sharing space (suc d) xs u.0) ≡ 2 =
        eqb-true (length (sharing space (suc d) xs u.0)) 2 (all-In (λ f. eqb (length (sharing space (suc d) xs f)) 2) (all-In (λ c. list_all (λ f. eqb (length (sharing space (suc d) xs f)) 2) (facets_of space (suc d) c)) e r.1) u.1) in
        let same : length (sharing space (suc d) xs u.0) ≡ length (sharing other (suc d) ys (φ d u.0)) = length-images (suc d) (sharing space (suc d) xs u.0) (sharing other (suc d) ys (φ d u.0)) (sharing_images r.0 u.0 r.1 u.1) in
        eq-eqb (length (sharing other (suc d) ys z)) 2 (ap (λ (f : ℕ). length (sharing other (suc d) ys f)) u.2 ∙ (sym same ∙ two))))

    meet_images : (a b : ℕ) → In a xs → In b xs → meet space (suc d) a b ≡ true → meet other (suc d) (φ (suc d) a) (φ (suc d) b) ≡ true
    meet_images a b m n e =
        let s = any-some (λ f. holds (facets_of space (suc d) b) f) (facets_of space (suc d) a) e in
        any-In (λ f. holds (facets_of other (suc d) (φ (suc d) b)) f) (h.to d a s.0 (i.parts a m) s.1) (In-holds (h.to d b s.0 (i.parts b n) (holds-In (facets_of space (suc d) b) s.2)))

    path_images : {a b : ℕ} → In a xs → Reaches (meet space (suc d)) xs a b → In b xs × Reaches (meet other (suc d)) ys (φ (suc d) a) (φ (suc d) b)
    path_images m at_start = (m, at_start)
    path_images m (on {y} {z} q e g) =
        let r = path_images m q in
        let n : In z xs = holds-In xs g in
        (n, on r.1 (meet_images y z r.0 n e) (In-holds (i.to z n)))

    connected_images : 1 ≤ length ys → connected space (suc d) xs ≡ true → connected other (suc d) ys ≡ true
    connected_images some e =
        let c : ℕ = get_or ys 0 0 in
        let first : In c ys = at-In ys 0 0 (omega (arith, some)) in
        let a = i.from c first in
        let start : In (get_or xs 0 0) xs = at-In xs 0 0 (let k = In-at a.1 in omega (arith, k.1)) in
        let path : (x : ℕ) → In x xs → Reaches (meet space (suc d)) xs (get_or xs 0 0) x = λ x m. (reaches_is (meet space (suc d)) xs (get_or xs 0 0) x (In-holds start)).0 (all-In (reaches (meet space (suc d)) xs (get_or xs 0 0)) e m) in
        In-all (reaches (meet other (suc d)) ys c) ys
        (λ y m.
        let r = i.from y m in
        let p : Reaches (meet space (suc d)) xs a.0 r.0 = path_on (meet space (suc d)) xs (path_back (meet space (suc d)) xs (meet_same space (suc d)) (In-holds start) (path a.0 a.1)) (path r.0 r.1) in
        let q : Reaches (meet other (suc d)) ys (φ (suc d) a.0) (φ (suc d) r.0) = (path_images a.1 p).1 in
        (reaches_is (meet other (suc d)) ys c y (In-holds first)).1 (subst (λ (z : ℕ). Reaches (meet other (suc d)) ys z y) (sym a.2) (subst (λ (z : ℕ). Reaches (meet other (suc d)) ys (φ (suc d) a.0) z) (sym r.2) q)))

  -- ---- the rules at a copy

  module _ (regular : IsRegular space) where
    pub edge_copied : (e : ℕ) → part 1 e → two_ends other (φ 1 e) ≡ true
    edge_copied e p =
        let w = h.cell 1 e p in
        let two : length (facets_of space 1 e) ≡ 2 = edges_kept space (regular_parts space regular).0 e w.0 w.1 in
        eq-eqb (length (facets_of other 1 (φ 1 e))) 2 (sym (length-images 0 (facets_of space 1 e) (facets_of other 1 (φ 1 e)) (facets_images 0 e p)) ∙ two)

    -- some facet
    some_facet : (d c : ℕ) → part (suc d) c → 1 ≤ length (facets_of other (suc d) (φ (suc d) c))
    some_facet d c p = let v = h.image (suc d) c p in let e : suc d - 1 ≡ d = omega arith in (facets-cell other (suc d) (φ (suc d) c) (count other d) ho (omega arith) v.0 v.1 (omega (arith, ap (count other) e))).some

    pub disk_copied : (c : ℕ) → part 2 c → one_cycle other (φ 2 c) ≡ true
    disk_copied c p =
        let w = h.cell 2 c p in
        let k = disks_kept space (regular_parts space regular).1 c w.0 w.1 in
        let i : AreImages 1 (facets_of space 2 c) (facets_of other 2 (φ 2 c)) = facets_images 1 c p in
        and_from (each_twice other 1 (facets_of other 2 (φ 2 c))) (connected other 1 (facets_of other 2 (φ 2 c))) (twice_images 0 (facets_of space 2 c) (facets_of other 2 (φ 2 c)) i k.0)
        (connected_images 0 (facets_of space 2 c) (facets_of other 2 (φ 2 c)) i (some_facet 1 c p) k.1)

    pub solid_copied : (c : ℕ) → part 3 c → (each_twice other 2 (facets_of other 3 (φ 3 c)) ≡ true) × (connected other 2 (facets_of other 3 (φ 3 c)) ≡ true) × (is_spherical other (φ 3 c) ≡ true)
    solid_copied c p =
        let w = h.cell 3 c p in
        let v = h.image 3 c p in
        let k = solids_kept space (regular_parts space regular).2 c w.0 w.1 in
        let disks : List ℕ = facets_of space 3 c in
        let disks_too : List ℕ = facets_of other 3 (φ 3 c) in
        let i : AreImages 2 disks disks_too = facets_images 2 c p in
        let edges : AreImages 1 (facets_of_all space 1 disks) (facets_of_all other 1 disks_too) = all_images 1 disks disks_too i in
        let points : AreImages 0 (facets_of_all space 0 (facets_of_all space 1 disks)) (facets_of_all other 0 (facets_of_all other 1 disks_too)) = all_images 0 (facets_of_all space 1 disks) (facets_of_all other 1 disks_too) edges in
        let a : HasFaces space c disks = has_faces space c hs w.0 w.1 in
        let b : HasFaces other (φ 3 c) disks_too = has_faces other (φ 3 c) ho v.0 v.1 in
        let n0 : length (facets_of_all space 0 (facets_of_all space 1 disks)) ≡ length (facets_of_all other 0 (facets_of_all other 1 disks_too)) = length-images 0 (facets_of_all space 0 (facets_of_all space 1 disks)) (facets_of_all other 0 (facets_of_all other 1 disks_too)) points in
        let n1 : length (facets_of_all space 1 disks) ≡ length (facets_of_all other 1 disks_too) = length-images 1 (facets_of_all space 1 disks) (facets_of_all other 1 disks_too) edges in
        let n2 : length disks ≡ length disks_too = length-images 2 disks disks_too i in
        let euler : faces_count space c 0 + faces_count space c 2 ≡ faces_count space c 1 + 2 = eqb-true (faces_count space c 0 + faces_count space c 2) (faces_count space c 1 + 2) k.2 in (
          twice_images 1 disks disks_too i k.0,
          connected_images 1 disks disks_too i (some_facet 2 c p) k.1,
          eq-eqb (faces_count other (φ 3 c) 0 + faces_count other (φ 3 c) 2) (faces_count other (φ 3 c) 1 + 2) (omega (arith, euler, a.vertices, a.edges, a.disks_too, b.vertices, b.edges, b.disks_too, n0, n1, n2)),
        )
