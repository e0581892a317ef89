-- The space of the cells that were found.
use Rattle.std.proofs.Common.{◌≡◌, ℕ, ◌+◌, ◌*◌, ◌<◌, ◌≤◌, List, Bool, cond, nat_lt, filter, map, length, get_or, Contains, Ok, Err, refl, ap, sym, ◌∙◌, subst, arith}
use Rattle.std.specs.List.{flat_map, All, range_with_len}
use Rattle.std.specs.List.Sorted.{IsStrictlyIncreasing}
use Rattle.std.proofs.lemmas.Bool.{lt-ltb, ltb-true, false_from_ne_true}
use Rattle.std.proofs.lemmas.List.{length-map}
use Rattle.std.proofs.lemmas.List.Kept.{IsStrictlyIncreasing-filter}
use Rattle.face_poset.specs.Words.{holds}
use Rattle.number_lists.specs.Members.{In}
use Rattle.number_lists.proofs.CallerLemmas.{In-at, In-filter, filter-In, In-holds, holds-In, Contains-In, In-Contains, increasing-range}
use Rattle.array_values.specs.declared.fault.ArrayFault.TheVariants.{TooManyCells}
use Rattle.array_values.specs.Bits.{volume}
use Rattle.tuple_spaces.specs.Tuples.{space_of}
use Rattle.tuple_spaces.specs.Voxels.{facets, limits_of, cells_of, limited, voxel_space}
use Rattle.voxel_spaces.specs.Places.{voxel_place, face_places, count_at, IsClosed}
use Rattle.voxel_spaces.specs.BoxTuples.{strides_of, tuple_at}
use Rattle.voxel_spaces.proofs.PlacesInBoxes.{Some}
use Rattle.voxel_spaces.proofs.FacetPlaces.{odd_box, some_box, some_strides}
use Rattle.voxel_spaces.proofs.BoxLevels.{length-strides}
use Rattle.voxel_spaces.proofs.ClosedPlaces.{flat-cell, found-cell, closed-cells, cells-at, some-vertex, many-cells, limits-few, strides-le, voxel_place-below}
use Rattle.tuple_spaces.proofs.CallerLemmas.{In-below}

-- ---- the box

pub some-at : (ls ss : List ℕ) → ss ≡ strides_of ls → Some ls → Some ss
some-at ls ss e s = subst Some (sym e) (some_strides ls s)

pub less-at : (ls ss : List ℕ) → ss ≡ strides_of ls → Some ls → volume ls < 1099511627776 → All (λ stride. stride < 1099511627776) ss
less-at ls ss e s h = subst (All (λ stride. stride < 1099511627776)) (sym e) (λ k d l. let m = strides-le ls 1099511627775 s (omega arith) k d l in omega (arith, m))

pub alike-at : (sizes sd ss : List ℕ) → sd ≡ strides_of sizes → ss ≡ strides_of (limits_of sizes) → length sd ≡ length ss
alike-at sizes sd ss e d =
    ap (λ (xs : List ℕ). length xs) e ∙ (length-strides sizes ∙ (sym (length-map sizes (λ size. 2 * size + 1)) ∙ (sym (length-strides (limits_of sizes)) ∙ sym (ap (λ (xs : List ℕ). length xs) d))))

pub length-at : (sizes ss : List ℕ) → ss ≡ strides_of (limits_of sizes) → length ss ≡ length sizes
length-at sizes ss d = ap (λ (xs : List ℕ). length xs) d ∙ (length-strides (limits_of sizes) ∙ length-map sizes (λ size. 2 * size + 1))

pub voxels-few : (sizes sd ss I : List ℕ) → sd ≡ strides_of sizes → ss ≡ strides_of (limits_of sizes) → Some sizes → length sizes ≤ 3 → volume sizes ≤ 2147483648 → All (λ i. i < volume sizes) I → All (λ i. voxel_place sd ss i < 1099511627776) I
voxels-few sizes sd ss I e f s l h inside k d m =
    let i : ℕ = get_or I k d in
    let is : voxel_place sd ss i ≡ voxel_place (strides_of sizes) (strides_of (limits_of sizes)) i = ap (λ (xs : List ℕ). voxel_place xs ss i) e ∙ ap (λ (xs : List ℕ). voxel_place (strides_of sizes) xs i) f in
    omega (arith, is, voxel_place-below sizes i s (inside k d m), limits-few sizes s l h)

-- ---- the cells

abbrev pub all_faces : (sd ss I : List ℕ) → List ℕ
all_faces sd ss I = flat_map (λ i. face_places ss (voxel_place sd ss i)) I

abbrev pub Keeps : (xs ys : List ℕ) → Type 0
Keeps xs ys = (n : ℕ) → Contains xs n → Contains ys n

pub record IsPlaced (sizes ss I P : List ℕ) : Type 0 where
  pub closed : IsClosed ss P
  pub cells : cells_of sizes (map (tuple_at (strides_of sizes)) I) ≡ map (tuple_at ss) P
  pub vertex : 1 ≤ length I → 1 ≤ count_at ss P 0
  pub many : IsStrictlyIncreasing I → length I ≤ length P

members : (sizes I : List ℕ) → All (λ i. i < volume sizes) I → (i : ℕ) → In i I → i < volume sizes
members sizes I inside i j = let r = In-at j in omega (arith, inside r.0 0 r.1, r.2)

module _ (sizes I : List ℕ) (s : Some sizes) (l : length sizes ≤ 3) (h : volume sizes ≤ 2147483648) (inside : All (λ i. i < volume sizes) I) where
  pub placed_here : (P : List ℕ) → IsStrictlyIncreasing P → Keeps (all_faces (strides_of sizes) (strides_of (limits_of sizes)) I) P → Keeps P (all_faces (strides_of sizes) (strides_of (limits_of sizes)) I) → IsPlaced sizes (strides_of (limits_of sizes)) I P
  placed_here P inc keeps adds_none =
      let within : (i : ℕ) → In i I → i < volume sizes = members sizes I inside in
      record {
        closed = record {
          limits = limits_of sizes;
          strides_are = refl;
          some = some_box sizes;
          odd = odd_box sizes;
          few = limits-few sizes s l h;
          below = λ p i. (found-cell sizes I P s within inc keeps adds_none p (Contains-In i)).below;
          facets_there = λ p i k j. In-Contains (closed-cells sizes I P s within inc keeps adds_none p (Contains-In i) k (Contains-In j));
        };
        cells = cells-at sizes I P s within inc keeps adds_none;
        vertex = some-vertex sizes I P s within inc keeps adds_none;
        many = many-cells sizes I P s within inc keeps adds_none;
      }

  pub placed : (sd ss P : List ℕ) → sd ≡ strides_of sizes → ss ≡ strides_of (limits_of sizes) → IsStrictlyIncreasing P → Keeps (all_faces sd ss I) P → Keeps P (all_faces sd ss I) → IsPlaced sizes ss I P
  placed sd ss P e f inc keeps adds_none =
      subst (λ (xs : List ℕ). Keeps (all_faces xs ss I) P → Keeps P (all_faces xs ss I) → IsPlaced sizes ss I P) (sym e)
      (subst (λ (ys : List ℕ). Keeps (all_faces (strides_of sizes) ys I) P → Keeps P (all_faces (strides_of sizes) ys I) → IsPlaced sizes ys I P) (sym f) (placed_here P inc)) keeps adds_none

  -- the places are some list, before it is made
  there_are : (P : List ℕ) × IsPlaced sizes (strides_of (limits_of sizes)) I P
  there_are =
      let within : (i : ℕ) → In i I → i < volume sizes = members sizes I inside in
      let F : List ℕ = all_faces (strides_of sizes) (strides_of (limits_of sizes)) I in
      let n : ℕ = volume (limits_of sizes) in
      let P : List ℕ = filter (holds F) (range_with_len 0 n) in (
        P,
        placed_here P (IsStrictlyIncreasing-filter (holds F) (range_with_len 0 n) (increasing-range 0 n))
            (λ k c. let i : In k F = Contains-In c in In-Contains (In-filter (holds F) (In-below n k (flat-cell sizes I s within k i).below) (In-holds i)))
            (λ k c. In-Contains (holds-In F (filter-In (holds F) (range_with_len 0 n) (Contains-In c)))),
      )

  space-few : (cells : List (List ℕ)) → length cells ≤ 60000 → limited cells ≡ Ok (space_of facets cells)
  space-few cells m = ap (λ (b : Bool). cond b (Err TooManyCells) (Ok (space_of facets cells))) (false_from_ne_true (nat_lt 60000 (length cells)) (λ q. let z : 60000 < length cells = ltb-true 60000 (length cells) q in omega arith))

  space-many : (cells : List (List ℕ)) → 60000 < length cells → limited cells ≡ Err TooManyCells
  space-many cells m = ap (λ (b : Bool). cond b (Err TooManyCells) (Ok (space_of facets cells))) (lt-ltb 60000 (length cells) m)

  pub space-is : (ss P : List ℕ) → IsPlaced sizes ss I P → length P ≤ 60000 → voxel_space sizes (map (tuple_at (strides_of sizes)) I) ≡ Ok (space_of facets (map (tuple_at ss) P))
  space-is ss P c m = ap limited c.cells ∙ space-few (map (tuple_at ss) P) (omega (arith, length-map P (tuple_at ss)))

  pub too_many : (ss P : List ℕ) → IsPlaced sizes ss I P → 60000 < length P → voxel_space sizes (map (tuple_at (strides_of sizes)) I) ≡ Err TooManyCells
  too_many ss P c m = ap limited c.cells ∙ space-many (map (tuple_at ss) P) (omega (arith, length-map P (tuple_at ss)))

  pub too_many_voxels : IsStrictlyIncreasing I → 60000 < length I → voxel_space sizes (map (tuple_at (strides_of sizes)) I) ≡ Err TooManyCells
  too_many_voxels rises m =
      let (P, c) = there_are in
      too_many (strides_of (limits_of sizes)) P c (let z = c.many rises in omega (arith, z, m))
