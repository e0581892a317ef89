-- A voxel with its faces is the cube of its dimension, moved.
use Rattle.std.proofs.Common.{◌≡◌, inl, inr, ℕ, zero, suc, ◌+◌, ◌-◌, ◌*◌, ◌%◌, ◌<◌, ◌≤◌, List, [], ◌∷◌, ◌++◌, Bool, true, false, cond, eqb, map, drop, get_or, refl, ap, sym, ◌∙◌, subst, arith}
use Rattle.std.proofs.lemmas.List.{map-append}
use Rattle.tuple_spaces.specs.Tuples.{dim_of, is_odd}
use Rattle.std.proofs.lemmas.Simd.{map-map}
use Rattle.tuple_spaces.proofs.OddCoordinates.{dim-cons, odd-is, odd-low, below-even, above-even, replaced}
use Rattle.tuple_spaces.proofs.ListLemmas.{two_of}
use Rattle.number_lists.specs.Members.{In, here, there}
use Rattle.number_lists.proofs.CallerLemmas.{append-In, In-map, map-In, flat_map-In, In-flat_map}
use Rattle.tuple_spaces.specs.Voxels.{voxel, faces, facets, limits_of}
use Rattle.tuple_spaces.proofs.Boxes.{Within, no_more, one_more}
use Rattle.tuple_spaces.proofs.VoxelCubes.{threes}

-- ---- facets in the cube

-- a facet of a tuple of the cube is one, with one odd coordinate fewer
pub facet_of : (sizes t u : List ℕ) → Within (threes sizes) t → In u (facets t) → Within (threes sizes) u × (dim_of u + 1 ≡ dim_of t)
facet_of [] t u no_more i = elim i [ ]
facet_of (size ∷ sizes) t u (one_more {c} {cs} l b) i =
    elim (append-In (cond (is_odd c) (((c - 1) ∷ cs) ∷ ((c + 1) ∷ cs) ∷ []) []) (map (λ v. c ∷ v) (facets cs)) i) [
      | inl p ↦
          let r = two_of (is_odd c) ((c - 1) ∷ cs) ((c + 1) ∷ cs) p in
          let o : c % 2 ≡ 1 = odd-is c r.0 in
          elim r.1 [
            | inl e ↦ subst (λ (v : List ℕ). Within (3 ∷ threes sizes) v × (dim_of v + 1 ≡ dim_of (c ∷ cs))) (sym e) (one_more (omega arith) b, replaced c (c - 1) cs r.0 (below-even c r.0))
            | inr e ↦ subst (λ (v : List ℕ). Within (3 ∷ threes sizes) v × (dim_of v + 1 ≡ dim_of (c ∷ cs))) (sym e) (one_more (omega arith) b, replaced c (c + 1) cs r.0 (above-even c r.0))
          ]
      | inr p ↦
          let r = map-In (λ v. c ∷ v) (facets cs) p in
          let k = facet_of sizes cs r.0 b r.1 in
          subst (λ (v : List ℕ). Within (3 ∷ threes sizes) v × (dim_of v + 1 ≡ dim_of (c ∷ cs))) (sym r.2) (one_more l k.0, omega (arith, dim-cons c r.0, dim-cons c cs, k.1))
    ]

pub some_facet : (t : List ℕ) → 1 ≤ dim_of t → (u : List ℕ) × In u (facets t)
some_facet [] h = absurd (omega (arith, h))
some_facet (c ∷ cs) h = by_test (is_odd c) (omega (arith, h, dim-cons c cs)) (λ k. some_facet cs k)
  where
    by_test : (b : Bool) → 1 ≤ cond b 1 0 + dim_of cs → (1 ≤ dim_of cs → (u : List ℕ) × In u (facets cs)) → (u : List ℕ) × In u (cond b (((c - 1) ∷ cs) ∷ ((c + 1) ∷ cs) ∷ []) [] ++ map (λ t. c ∷ t) (facets cs))
    by_test true l k = ((c - 1) ∷ cs, here)
    by_test false l k = let r = k (omega (arith, l)) in (c ∷ r.0, In-map (λ t. c ∷ t) r.1)

-- ---- moving

-- a tuple of the cube, moved to the voxel with the index
abbrev pub shift : (index : List ℕ) → List ℕ → List ℕ
shift [] t = []
shift (i ∷ index) [] = []
shift (i ∷ index) (c ∷ cs) = (2 * i + c) ∷ shift index cs

odd-shift : (i c : ℕ) → is_odd (2 * i + c) ≡ is_odd c
odd-shift i c = let e : (2 * i + c) % 2 ≡ c % 2 = omega arith in ap (λ (n : ℕ). eqb n 1) e

pub shift-within : {sizes index : List ℕ} (t : List ℕ) → Within sizes index → Within (threes sizes) t → Within (limits_of sizes) (shift index t)
shift-within t no_more no_more = no_more
shift-within t (one_more l h) (one_more m k) = one_more (omega (arith, l, m)) (shift-within _ h k)

pub shift-dim : {sizes index : List ℕ} (t : List ℕ) → Within sizes index → Within (threes sizes) t → dim_of (shift index t) ≡ dim_of t
shift-dim t no_more no_more = refl
shift-dim t (one_more {c = i} {cs = index} l h) (one_more {c} {cs} m k) =
    dim-cons (2 * i + c) (shift index cs)
    ∙ (ap (λ (b : Bool). cond b 1 0 + dim_of (shift index cs)) (odd-shift i c) ∙ (ap (λ (d : ℕ). cond (is_odd c) 1 0 + d) (shift-dim cs h k) ∙ sym (dim-cons c cs)))

pub shift-once : {sizes index : List ℕ} (t u : List ℕ) → Within sizes index → Within (threes sizes) t → Within (threes sizes) u → shift index t ≡ shift index u → t ≡ u
shift-once t u no_more no_more no_more e = refl
shift-once t u (one_more {c = i} {cs = index} l h) (one_more {c} {cs} m k) (one_more {c = d} {cs = ds} p q) e =
    let first : 2 * i + c ≡ 2 * i + d = ap (λ (v : List ℕ). get_or v 0 0) e in
    let x : c ≡ d = omega (arith, first) in
    let y : cs ≡ ds = shift-once cs ds h k q (ap (λ (v : List ℕ). drop 1 v) e) in
    ap (λ (n : ℕ). n ∷ cs) x ∙ ap (λ (v : List ℕ). d ∷ v) y

pub shift-facets : {sizes index : List ℕ} (t : List ℕ) → Within sizes index → Within (threes sizes) t → facets (shift index t) ≡ map (shift index) (facets t)
shift-facets t no_more no_more = refl
shift-facets t (one_more {c = i} {cs = index} l h) (one_more {c} {cs} m k) =
    let first : cond (is_odd (2 * i + c)) (((2 * i + c - 1) ∷ shift index cs) ∷ ((2 * i + c + 1) ∷ shift index cs) ∷ []) [] ≡ map (shift (i ∷ index)) (cond (is_odd c) (((c - 1) ∷ cs) ∷ ((c + 1) ∷ cs) ∷ []) []) =
    ap (λ (b : Bool). cond b (((2 * i + c - 1) ∷ shift index cs) ∷ ((2 * i + c + 1) ∷ shift index cs) ∷ []) []) (odd-shift i c) ∙ by_test i c index cs (is_odd c) refl in
    let others : map (λ v. (2 * i + c) ∷ v) (facets (shift index cs)) ≡ map (shift (i ∷ index)) (map (λ v. c ∷ v) (facets cs)) =
    ap (map (λ v. (2 * i + c) ∷ v)) (shift-facets cs h k)
    ∙ (map-map (λ v. (2 * i + c) ∷ v) (shift index) (facets cs) ∙ sym (map-map (shift (i ∷ index)) (λ v. c ∷ v) (facets cs))) in
    ap (λ (ts : List (List ℕ)). ts ++ map (λ v. (2 * i + c) ∷ v) (facets (shift index cs))) first
    ∙ (ap (λ (ts : List (List ℕ)). map (shift (i ∷ index)) (cond (is_odd c) (((c - 1) ∷ cs) ∷ ((c + 1) ∷ cs) ∷ []) []) ++ ts) others
    ∙ sym (map-append (shift (i ∷ index)) (cond (is_odd c) (((c - 1) ∷ cs) ∷ ((c + 1) ∷ cs) ∷ []) []) (map (λ v. c ∷ v) (facets cs))))
  where
    by_test : (i c : ℕ) (index cs : List ℕ) (b : Bool) → is_odd c ≡ b
        → cond b (((2 * i + c - 1) ∷ shift index cs) ∷ ((2 * i + c + 1) ∷ shift index cs) ∷ []) [] ≡ map (shift (i ∷ index)) (cond b (((c - 1) ∷ cs) ∷ ((c + 1) ∷ cs) ∷ []) [])
    by_test i c index cs true e =
        let low : 1 ≤ c = odd-low c e in
        let down : 2 * i + c - 1 ≡ 2 * i + (c - 1) = omega (arith, low) in
        let up : 2 * i + c + 1 ≡ 2 * i + (c + 1) = omega arith in
        ap (λ (n : ℕ). (n ∷ shift index cs) ∷ ((2 * i + c + 1) ∷ shift index cs) ∷ []) down ∙ ap (λ (n : ℕ). ((2 * i + (c - 1)) ∷ shift index cs) ∷ (n ∷ shift index cs) ∷ []) up
    by_test i c index cs false e = refl

-- ---- the faces of a voxel

-- a face is a tuple of the cube, moved
pub record IsMoved (sizes index t u : List ℕ) : Type 0 where
  pub small : Within (threes sizes) u
  pub is : t ≡ shift index u

-- the coordinates of the faces in one direction
abbrev near : ℕ → List ℕ
near c = (c - 1) ∷ c ∷ (c + 1) ∷ []

coordinate : (i d : ℕ) → In d (near (2 * i + 1)) → (c : ℕ) × (c < 3) × (d ≡ 2 * i + c)
coordinate i d k = by_place k
  where
    by_place : {e : ℕ} → In e (near (2 * i + 1)) → (c : ℕ) × (c < 3) × (e ≡ 2 * i + c)
    by_place here = (0, omega arith, omega arith)
    by_place (there here) = (1, omega arith, refl)
    by_place (there (there here)) = (2, omega arith, omega arith)
    by_place (there (there (there j))) = elim j [ ]

coordinate-back : (i c : ℕ) → c < 3 → In (2 * i + c) (near (2 * i + 1))
coordinate-back i zero l = let e : 2 * i + 1 - 1 ≡ 2 * i + zero = omega arith in subst (λ (n : ℕ). In n (near (2 * i + 1))) e here
coordinate-back i (suc zero) l = let e : 2 * i + 1 ≡ 2 * i + suc zero = omega arith in subst (λ (n : ℕ). In n (near (2 * i + 1))) e (there here)
coordinate-back i (suc (suc zero)) l = let e : 2 * i + 1 + 1 ≡ 2 * i + suc (suc zero) = omega arith in subst (λ (n : ℕ). In n (near (2 * i + 1))) e (there (there here))
coordinate-back i (suc (suc (suc c))) l = absurd (omega arith)

pub face-moved : (sizes index t : List ℕ) → Within sizes index → In t (faces (voxel index)) → (u : List ℕ) × IsMoved sizes index t u
face-moved [] index t no_more i = by_place i
  where
    by_place : {s : List ℕ} → In s ([] ∷ []) → (u : List ℕ) × IsMoved [] [] s u
    by_place here = ([], record { small = no_more; is = refl })
    by_place (there j) = elim j [ ]
face-moved (size ∷ sizes) index t (one_more {c = i} {cs = rest} l h) k =
    let r = flat_map-In (λ (d : ℕ). map (λ v. d ∷ v) (faces (voxel rest))) (near (2 * i + 1)) k in
    let s = map-In (λ v. r.0 ∷ v) (faces (voxel rest)) r.2 in
    let a = coordinate i r.0 r.1 in
    let b = face-moved sizes rest s.0 h s.1 in
    (a.0 ∷ b.0, record { small = one_more a.1 b.1.small; is = s.2 ∙ (ap (λ (d : ℕ). d ∷ s.0) a.2 ∙ ap (λ (v : List ℕ). (2 * i + a.0) ∷ v) b.1.is) })

pub moved-face : (sizes index u : List ℕ) → Within sizes index → Within (threes sizes) u → In (shift index u) (faces (voxel index))
moved-face [] index u no_more no_more = here
moved-face (size ∷ sizes) index u (one_more {c = i} {cs = rest} l h) (one_more {c} {cs} m k) =
    In-flat_map (λ (d : ℕ). map (λ v. d ∷ v) (faces (voxel rest))) (coordinate-back i c m) (In-map (λ v. (2 * i + c) ∷ v) (moved-face sizes rest cs h k))
