-- The places of the facets of a cell.
use Rattle.std.proofs.Common.{◌≡◌, inl, inr, ℕ, zero, suc, ◌+◌, ◌-◌, ◌*◌, ◌/◌, ◌%◌, ◌<◌, ◌≤◌, List, [], ◌∷◌, ◌++◌, Bool, true, false, cond, map, refl, ap, sym, ◌∙◌, arith, subst}
use Rattle.std.specs.List.{All}
use Rattle.std.proofs.Math.Nat.{mul_comm}
use Rattle.std.proofs.lemmas.Nat.{div-add-mod', mod_below, div_below}
use Rattle.std.proofs.lemmas.List.{map-append}
use Rattle.number_lists.specs.Members.{In, here}
use Rattle.number_lists.proofs.CallerLemmas.{append-In, In-map, map-In}
use Rattle.array_values.specs.Bits.{volume}
use Rattle.tuple_spaces.specs.Tuples.{is_odd, dim_of}
use Rattle.tuple_spaces.proofs.CallerLemmas.{dim-cons, odd-is, even-is, even_dim, odd_dim, map_same, two_of}
use Rattle.std.proofs.lemmas.Simd.{map-map}
use Rattle.tuple_spaces.specs.Voxels.{facets, limits_of}
use Rattle.voxel_spaces.specs.Places.{dim_at, facets_from, facet_places}
use Rattle.voxel_spaces.specs.BoxTuples.{strides_of, tuple_at}
use Rattle.voxel_spaces.proofs.PlacesInBoxes.{Some, all-head, all-tail, some-volume, row-below, tuple-row}
use Rattle.voxel_spaces.proofs.FacePlaces.{IsBeside, IsNear, IsOdd}

abbrev pub OddBox : List ℕ → Type 0
OddBox limits = All (λ limit. limit % 2 ≡ 1) limits

pub odd_box : (sizes : List ℕ) → OddBox (limits_of sizes)
odd_box [] k d l = absurd (omega arith)
odd_box (s ∷ ss) zero d l = omega arith
odd_box (s ∷ ss) (suc k) d l = odd_box ss k d (omega arith)

pub some_box : (sizes : List ℕ) → Some (limits_of sizes)
some_box [] k d l = absurd (omega arith)
some_box (s ∷ ss) zero d l = omega arith
some_box (s ∷ ss) (suc k) d l = some_box ss k d (omega arith)

pub some_strides : (ls : List ℕ) → Some ls → Some (strides_of ls)
some_strides [] s k d l = absurd (omega arith)
some_strides (x ∷ ls) s zero d l = some-volume ls (all-tail (λ limit. 1 ≤ limit) x ls s)
some_strides (x ∷ ls) s (suc k) d l = some_strides ls (all-tail (λ limit. 1 ≤ limit) x ls s) k d (omega arith)

-- ---- a step back from an odd coordinate

quotient-low : (m s r : ℕ) → 1 ≤ m → s * m ≤ r → s ≤ r
quotient-low zero s r a b = absurd (omega arith)
quotient-low (suc m) s r a b = let e : s * suc m ≡ s + s * m = omega arith in omega (arith, e)

pub odd-low : (r s : ℕ) → 1 ≤ s → is_odd (r / s) ≡ true → s ≤ r
odd-low r s h o =
    let q : r / s % 2 ≡ 1 = odd-is (r / s) o in
    let e : r / s * s + r % s ≡ r = div-add-mod' r s in
    quotient-low (r / s) s r (omega arith) (omega (arith, e))

head-shift : (b : Bool) (base q s : ℕ) → (b ≡ true → s ≤ q) → cond b ((base + q - s) ∷ (base + q + s) ∷ []) [] ≡ map (λ x. base + x) (cond b ((q - s) ∷ (q + s) ∷ []) [])
head-shift true base q s h =
    let l : s ≤ q = h refl in
    ap (λ (x : ℕ). x ∷ (base + q + s) ∷ []) (let e : base + q - s ≡ base + (q - s) = omega arith in e) ∙ ap (λ (x : ℕ). (base + (q - s)) ∷ x ∷ []) (let e : base + q + s ≡ base + (q + s) = omega arith in e)
head-shift false base q s h = refl

mod-le : (r s : ℕ) → r % s ≤ r
mod-le r s = let e : r / s * s + r % s ≡ r = div-add-mod' r s in omega (arith, e)

facets-shift : (ss : List ℕ) (base q r : ℕ) → Some ss → r ≤ q → facets_from ss (base + q) r ≡ map (λ x. base + x) (facets_from ss q r)
facets-shift [] base q r s h = refl
facets-shift (d ∷ ss) base q r s h =
    let one : 1 ≤ d = all-head (λ limit. 1 ≤ limit) d ss s in
    ap (λ (xs : List ℕ). xs ++ facets_from ss (base + q) (r % d)) (head-shift (is_odd (r / d)) base q d (λ o. let l : d ≤ r = odd-low r d one o in omega arith))
    ∙ (ap (λ (xs : List ℕ). map (λ x. base + x) (cond (is_odd (r / d)) ((q - d) ∷ (q + d) ∷ []) []) ++ xs) (facets-shift ss base q (r % d) (all-tail (λ limit. 1 ≤ limit) d ss s) (omega (arith, mod-le r d)))
    ∙ sym (map-append (λ x. base + x) (cond (is_odd (r / d)) ((q - d) ∷ (q + d) ∷ []) []) (facets_from ss q (r % d))))

-- the facets in the later directions
rest-shift : (p v : ℕ) (ss : List ℕ) → Some ss → facets_from ss p (p % v) ≡ map (λ x. p / v * v + x) (facet_places ss (p % v))
rest-shift p v ss s = ap (λ (n : ℕ). facets_from ss n (p % v)) (sym (div-add-mod' p v)) ∙ facets-shift ss (p / v * v) (p % v) (p % v) s (omega arith)

-- ---- what the places of facets are

pub record IsFacetOf (ls : List ℕ) (p k : ℕ) : Type 0 where
  pub below : k < volume ls
  pub dim : dim_at (strides_of ls) k + 1 ≡ dim_at (strides_of ls) p
  pub near : (v : List ℕ) → IsOdd v → IsNear v (tuple_at (strides_of ls) p) → IsNear v (tuple_at (strides_of ls) k)

-- another tuple that has an even coordinate in the place of an odd one
moved : (l d k p : ℕ) (ls : List ℕ) → d < l → p % volume ls < volume ls → k ≡ d * volume ls + p % volume ls → is_odd (p / volume ls) ≡ true → d % 2 ≡ 0 → IsBeside (p / volume ls) d → IsFacetOf (l ∷ ls) p k
moved l d k p ls low r e o even beside =
    let V : ℕ = volume ls in
    let t : List ℕ = tuple_at (strides_of ls) (p % V) in
    let is : tuple_at (strides_of (l ∷ ls)) k ≡ d ∷ t = ap (tuple_at (strides_of (l ∷ ls))) e ∙ tuple-row d (p % V) ls r in
    record {
      below = subst (λ (n : ℕ). n < volume (l ∷ ls)) (sym e) (row-below d l V (p % V) low r);
      dim = ap (λ (u : List ℕ). dim_of u + 1) is ∙ (ap (λ (n : ℕ). n + 1) (even_dim d t (even-is d even)) ∙ (let q : dim_of t + 1 ≡ suc (dim_of t) = omega arith in q ∙ sym (odd_dim (p / V) t o)));
      near = λ v odd h. subst (IsNear v) (sym is) (closer v odd h);
    }
  where
    closer : (v : List ℕ) → IsOdd v → IsNear v ((p / volume ls) ∷ tuple_at (strides_of ls) (p % volume ls)) → IsNear v (d ∷ tuple_at (strides_of ls) (p % volume ls))
    closer [] odd h = absurd h
    closer (w ∷ ws) odd h =
        let a : w % 2 ≡ 1 = odd.0 in
        let b : p / volume ls % 2 ≡ 1 = odd-is (p / volume ls) o in
        let e : p / volume ls ≡ w = elim h.0 [ inl q ↦ absurd (omega arith) | inr q ↦ elim q [ inl s ↦ s | inr s ↦ absurd (omega arith) ] ] in
        (subst (λ (n : ℕ). IsBeside n d) e beside, h.1)

pub are_facets : (ls : List ℕ) (p : ℕ) → Some ls → OddBox ls → p < volume ls → (k : ℕ) → In k (facet_places (strides_of ls) p) → IsFacetOf ls p k
are_facets [] p s odd h k i = elim i [ ]
are_facets (l ∷ ls) p s odd h k i =
    let V : ℕ = volume ls in
    let ss : List ℕ = strides_of ls in
    let c : ℕ = p / V in
    let some = all-tail (λ limit. 1 ≤ limit) l ls s in
    let one : 1 ≤ V = some-volume ls some in
    let r : p % V < V = mod_below p V (omega arith) in
    let e : c * V + p % V ≡ p = div-add-mod' p V in
    let cl : c < l = div_below p V l (omega arith) (omega (arith, h, mul_comm l V)) in
    let ol : l % 2 ≡ 1 = all-head (λ limit. limit % 2 ≡ 1) l ls odd in
    elim (append-In (cond (is_odd c) ((p - V) ∷ (p + V) ∷ []) []) (facets_from ss p (p % V)) i) [
      | inl q ↦
          let w = two_of (is_odd c) (p - V) (p + V) q in
          let oc : c % 2 ≡ 1 = odd-is c w.0 in
          elim w.1 [
            | inl a ↦ moved l (c - 1) k p ls (omega arith) r (back c V (p % V) p k (omega arith) e a) w.0 (omega arith) (inl (omega arith))
            | inr a ↦ moved l (c + 1) k p ls (omega arith) r (let z : (c + 1) * V ≡ c * V + V = omega arith in omega arith) w.0 (omega arith) (inr (inr refl))
          ]
      | inr q ↦
          let w = map-In (λ x. c * V + x) (facet_places ss (p % V)) (subst (In k) (rest-shift p V ss (some_strides ls some)) q) in
          let j : ℕ = w.0 in
          later l c k p j ls r w.2 (are_facets ls (p % V) some (all-tail (λ limit. limit % 2 ≡ 1) l ls odd) r j w.1) cl refl
    ]
  where
    back : (c v r p k : ℕ) → 1 ≤ c → c * v + r ≡ p → k ≡ p - v → k ≡ (c - 1) * v + r
    back zero v r p k a e q = absurd (omega arith)
    back (suc c) v r p k a e q = let z : suc c * v ≡ v + c * v = omega arith in let y : (suc c - 1) * v ≡ c * v = ap (λ (n : ℕ). n * v) (let x : suc c - 1 ≡ c = omega arith in x) in omega arith

    later : (l c k p j : ℕ) (ls : List ℕ) → p % volume ls < volume ls → k ≡ c * volume ls + j → IsFacetOf ls (p % volume ls) j → c < l → c ≡ p / volume ls → IsFacetOf (l ∷ ls) p k
    later l c k p j ls r e f cl ce =
        let t : List ℕ = tuple_at (strides_of ls) j in
        let u : List ℕ = tuple_at (strides_of ls) (p % volume ls) in
        let is : tuple_at (strides_of (l ∷ ls)) k ≡ c ∷ t = ap (tuple_at (strides_of (l ∷ ls))) e ∙ tuple-row c j ls f.below in
        let d : dim_of t + 1 ≡ dim_of u = f.dim in
        record {
          below = subst (λ (n : ℕ). n < volume (l ∷ ls)) (sym e) (row-below c l (volume ls) j cl f.below);
          dim = ap (λ (w : List ℕ). dim_of w + 1) is ∙ omega (arith, dim-cons c t, dim-cons c u, ap (λ (n : ℕ). dim_of (n ∷ u)) ce);
          near = λ v odd h. subst (IsNear v) (sym is) (closer c ce f v odd h);
        }
      where
        closer : (c : ℕ) → c ≡ p / volume ls → IsFacetOf ls (p % volume ls) j → (v : List ℕ) → IsOdd v → IsNear v ((p / volume ls) ∷ tuple_at (strides_of ls) (p % volume ls)) → IsNear v (c ∷ tuple_at (strides_of ls) j)
        closer c ce f [] odd h = absurd h
        closer c ce f (w ∷ ws) odd h = (subst (IsBeside w) (sym ce) h.0, f.near ws odd.1 h.1)

-- the tuples of the facets
pub facets-are : (ls : List ℕ) (p : ℕ) → Some ls → OddBox ls → p < volume ls → map (tuple_at (strides_of ls)) (facet_places (strides_of ls) p) ≡ facets (tuple_at (strides_of ls) p)
facets-are [] p s odd h = refl
facets-are (l ∷ ls) p s odd h =
    let V : ℕ = volume ls in
    let ss : List ℕ = strides_of ls in
    let T : ℕ → List ℕ = tuple_at (V ∷ ss) in
    let c : ℕ = p / V in
    let t : List ℕ = tuple_at ss (p % V) in
    let some = all-tail (λ limit. 1 ≤ limit) l ls s in
    let oddly = all-tail (λ limit. limit % 2 ≡ 1) l ls odd in
    let one : 1 ≤ V = some-volume ls some in
    let r : p % V < V = mod_below p V (omega arith) in
    let e : c * V + p % V ≡ p = div-add-mod' p V in
    let K : List ℕ = facet_places ss (p % V) in
    let tail : map T (facets_from ss p (p % V)) ≡ map (λ u. c ∷ u) (facets t) =
    (ap (map T) (rest-shift p V ss (some_strides ls some)) ∙ (map-map T (λ x. c * V + x) K
    ∙ (map_same (λ x. T (c * V + x)) (λ x. c ∷ tuple_at ss x) K (λ k i. tuple-row c k ls (are_facets ls (p % V) some oddly r k i).below)
    ∙ (sym (map-map (λ u. c ∷ u) (tuple_at ss) K) ∙ ap (map (λ u. c ∷ u)) (facets-are ls (p % V) some oddly r))))) in
    map-append T (cond (is_odd c) ((p - V) ∷ (p + V) ∷ []) []) (facets_from ss p (p % V))
    ∙ (ap (λ (us : List (List ℕ)). us ++ map T (facets_from ss p (p % V))) (heads (is_odd c) (λ o. back c V (p % V) p (let oc : c % 2 ≡ 1 = odd-is c o in omega arith) e) r e refl)
    ∙ ap (λ (us : List (List ℕ)). cond (is_odd c) (((c - 1) ∷ t) ∷ ((c + 1) ∷ t) ∷ []) [] ++ us) tail)
  where
    back : (c v r p : ℕ) → 1 ≤ c → c * v + r ≡ p → p - v ≡ (c - 1) * v + r
    back zero v r p a e = absurd (omega arith)
    back (suc c) v r p a e = let z : suc c * v ≡ v + c * v = omega arith in let y : (suc c - 1) * v ≡ c * v = ap (λ (n : ℕ). n * v) (let x : suc c - 1 ≡ c = omega arith in x) in omega arith

    heads : (b : Bool) → (b ≡ true → p - volume ls ≡ (p / volume ls - 1) * volume ls + p % volume ls) → p % volume ls < volume ls → p / volume ls * volume ls + p % volume ls ≡ p → p ≡ p
        → map (tuple_at (volume ls ∷ strides_of ls)) (cond b ((p - volume ls) ∷ (p + volume ls) ∷ []) []) ≡ cond b (((p / volume ls - 1) ∷ tuple_at (strides_of ls) (p % volume ls)) ∷ ((p / volume ls + 1) ∷ tuple_at (strides_of ls) (p % volume ls)) ∷ []) []
    heads false f r e q = refl
    heads true f r e q =
        let T : ℕ → List ℕ = tuple_at (volume ls ∷ strides_of ls) in
        let t : List ℕ = tuple_at (strides_of ls) (p % volume ls) in
        let up : p + volume ls ≡ (p / volume ls + 1) * volume ls + p % volume ls = (let z : (p / volume ls + 1) * volume ls ≡ p / volume ls * volume ls + volume ls = omega arith in omega arith) in
        ap (λ (u : List ℕ). u ∷ T (p + volume ls) ∷ []) (ap T (f refl) ∙ tuple-row (p / volume ls - 1) (p % volume ls) ls r)
        ∙ ap (λ (u : List ℕ). ((p / volume ls - 1) ∷ t) ∷ u ∷ []) (ap T up ∙ tuple-row (p / volume ls + 1) (p % volume ls) ls r)

-- a cell that is no vertex has a facet
first_facet : (ls : List ℕ) (p : ℕ) (b : Bool) → is_odd (p / volume ls) ≡ b → Some ls → 1 ≤ dim_of ((p / volume ls) ∷ tuple_at (strides_of ls) (p % volume ls))
    → (1 ≤ dim_at (strides_of ls) (p % volume ls) → (k : ℕ) × In k (facet_places (strides_of ls) (p % volume ls)))
    → (k : ℕ) × In k (cond b ((p - volume ls) ∷ (p + volume ls) ∷ []) [] ++ facets_from (strides_of ls) p (p % volume ls))
first_facet ls p true o some h more = (p - volume ls, here)
first_facet ls p false o some h more =
    let w = more (omega (arith, h, even_dim (p / volume ls) (tuple_at (strides_of ls) (p % volume ls)) o)) in
    (p / volume ls * volume ls + w.0, subst (In (p / volume ls * volume ls + w.0)) (sym (rest-shift p (volume ls) (strides_of ls) (some_strides ls some))) (In-map (λ x. p / volume ls * volume ls + x) w.1))

pub some_facet : (ls : List ℕ) (p : ℕ) → Some ls → 1 ≤ dim_at (strides_of ls) p → (k : ℕ) × In k (facet_places (strides_of ls) p)
some_facet [] p s h = absurd (omega arith)
some_facet (l ∷ ls) p s h =
    let some = all-tail (λ limit. 1 ≤ limit) l ls s in
    first_facet ls p (is_odd (p / volume ls)) refl some h (λ m. some_facet ls (p % volume ls) some m)
