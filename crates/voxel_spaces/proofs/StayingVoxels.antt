-- The voxels that stay.
use Rattle.std.proofs.Common.{◌≡◌, ℕ, zero, suc, ◌+◌, ◌-◌, ◌*◌, ◌/◌, ◌%◌, ◌<◌, ◌≤◌, List, [], ◌∷◌, ◌++◌, Bool, true, false, cond, not, ◌&&◌, ◌||◌, ◌==◌, filter, map, length, get_or, Ok, Err, refl, ap, sym, ◌∙◌, subst, arith}
use Rattle.std.specs.List.{range_with_len, All}
use Rattle.std.specs.List.Sorted.{IsStrictlyIncreasing}
use Rattle.std.proofs.Math.Nat.{mul-le-mul}
use Rattle.std.proofs.lemmas.Bool.{lt-ltb}
use Rattle.std.proofs.lemmas.Nat.{div-add-mod'}
use Rattle.std.proofs.lemmas.List.{length-map, append-nil}
use Rattle.std.proofs.lemmas.List.Kept.{IsStrictlyIncreasing-filter}
use Rattle.std.proofs.lemmas.List.FromFn.{length-map-range_with_len, get_or-map-range_with_len}
use Rattle.face_poset.specs.Words.{holds}
use Rattle.number_lists.proofs.CallerLemmas.{length-filter-le, same_increasing, In-filter, In-inside, filter-In, holds-In, In-holds, In-at, at-In, Contains-In, In-Contains, filter-map, increasing-range}
use Rattle.std.specs.Cmp.{both_ways}
use Rattle.number_lists.specs.Members.{In}
use Rattle.array_values.specs.Bits.{volume}
use Rattle.tuple_spaces.proofs.CallerLemmas.{filter-next, In-below, below-In}
use Rattle.array_values.specs.declared.fault.ArrayFault.TheVariants.{TooManyCells}
use Rattle.tuple_spaces.specs.Tuples.{space_of, boxed}
use Rattle.tuple_spaces.specs.Voxels.{facets, limits_of, limited, voxel_space}
use Rattle.voxel_spaces.specs.BoxTuples.{strides_of, tuple_at}
use Rattle.voxel_spaces.proofs.PlacesInBoxes.{Some, boxed-is}
use Rattle.voxel_spaces.proofs.ClosedPlaces.{flat-cell, cells-at, many-cells}
use Rattle.voxel_spaces.proofs.CellPlaces.{Keeps, all_faces}
use Rattle.voxel_spaces.specs.ArcComplements.{box_of, any_row, by_row, is_taken, stays}

pub some_box : (k : ℕ) → Some (box_of k)
some_box k zero d l = omega arith
some_box k (suc zero) d l = omega arith
some_box k (suc (suc zero)) d l = omega arith
some_box k (suc (suc (suc j))) d l = absurd (omega arith)

-- how many voxels the box has
pub volume-is : (k side : ℕ) → side ≡ 2 * k + 1 → volume (box_of k) ≡ side * side * 5
volume-is k side e =
    let s : side * (side * 5) ≡ side * side * 5 = grind arith in
    ap (λ (n : ℕ). n * (n * 5)) (sym e) ∙ s

abbrev pub staying : (rows : List (ℕ × ℕ)) → List ℕ
staying rows = filter (λ i. stays rows (tuple_at (strides_of (box_of (length rows))) i)) (range_with_len 0 (volume (box_of (length rows))))

pub boxed-staying : (rows : List (ℕ × ℕ)) → filter (stays rows) (boxed (box_of (length rows))) ≡ map (tuple_at (strides_of (box_of (length rows)))) (staying rows)
boxed-staying rows =
    let b : List ℕ = box_of (length rows) in
    ap (filter (stays rows)) (boxed-is b (some_box (length rows))) ∙ filter-map (stays rows) (tuple_at (strides_of b)) (range_with_len 0 (volume b))

pub staying-inside : (rows : List (ℕ × ℕ)) → All (λ i. i < volume (box_of (length rows))) (staying rows)
staying-inside rows k d l =
    let n : ℕ = volume (box_of (length rows)) in
    below-In n (get_or (staying rows) k d) (In-inside (λ i. stays rows (tuple_at (strides_of (box_of (length rows))) i)) (range_with_len 0 n) (at-In (staying rows) k d l))

pub staying-rises : (rows : List (ℕ × ℕ)) → IsStrictlyIncreasing (staying rows)
staying-rises rows =
    let n : ℕ = volume (box_of (length rows)) in
    IsStrictlyIncreasing-filter (λ i. stays rows (tuple_at (strides_of (box_of (length rows))) i)) (range_with_len 0 n) (increasing-range 0 n)

-- ---- the bottom layer stays

none-bottom : (rows : List (ℕ × ℕ)) (x y n : ℕ) → any_row (by_row x y 0) n rows ≡ false
none-bottom [] x y n = refl
none-bottom (p ∷ rows) x y n = by_test (y == 2 * n - 1) (none-bottom rows x y (suc n))
  where
    by_test : (b : Bool) → any_row (by_row x y 0) (suc n) rows ≡ false → ((b && false) || any_row (by_row x y 0) (suc n) rows) ≡ false
    by_test true h = h
    by_test false h = h

pub bottom-stays : (rows : List (ℕ × ℕ)) (x y : ℕ) → stays rows (x ∷ y ∷ 0 ∷ []) ≡ true
bottom-stays rows x y = ap (λ (b : Bool). not (b || false)) (none-bottom rows x y 1)

bottom-rest : (w q j i : ℕ) → q * (w * 5) + i ≡ 5 * j → i % 5 ≡ 0
bottom-rest w q j i e = let s : q * (w * 5) ≡ 5 * (q * w) = grind arith in omega (arith, s, e)

-- the voxel at a place that five divides is in the bottom layer
pub bottom-in : (rows : List (ℕ × ℕ)) (j : ℕ) → 5 * j < volume (box_of (length rows)) → In (5 * j) (staying rows)
bottom-in rows j l =
    let w : ℕ = 2 * length rows + 1 in
    let i : ℕ = 5 * j % (w * 5) in
    let e : 5 * j / (w * 5) * (w * 5) + i ≡ 5 * j = div-add-mod' (5 * j) (w * 5) in
    let z : i % 5 ≡ 0 = bottom-rest w (5 * j / (w * 5)) j i e in
    let t : tuple_at (strides_of (box_of (length rows))) (5 * j) ≡ (5 * j / (w * 5)) ∷ (i / 5) ∷ 0 ∷ [] = ap (λ (n : ℕ). (5 * j / (w * 5)) ∷ (i / 5) ∷ n ∷ []) (let q : i % 5 / 1 ≡ 0 = omega (arith, z) in q) in
    In-filter (λ p. stays rows (tuple_at (strides_of (box_of (length rows))) p)) (In-below (volume (box_of (length rows))) (5 * j) l) (ap (stays rows) t ∙ bottom-stays rows (5 * j / (w * 5)) (i / 5))

pub staying-some : (rows : List (ℕ × ℕ)) → 1 ≤ length (staying rows)
staying-some rows =
    let w : ℕ = 2 * length rows + 1 in
    let m : 1 * 5 ≤ w * (w * 5) = mul-le-mul (let a : 1 ≤ w = omega arith in a) (let b : 1 * 5 ≤ w * 5 = omega arith in b) in
    let r = In-at (bottom-in rows 0 (omega (arith, m))) in omega (arith, r.1)

-- where so many places of the bottom layer are in the box, so many voxels stay
staying-least : (rows : List (ℕ × ℕ)) (m : ℕ) → ((j : ℕ) → j < m → 5 * j < volume (box_of (length rows))) → m ≤ length (staying rows)
staying-least rows m h =
    let f : ℕ → ℕ = λ j. 5 * j in
    let C : List ℕ = map f (range_with_len 0 m) in
    let Q : List ℕ = staying rows in
    let long : length C ≡ m = length-map-range_with_len f 0 m in
    let at : (k : ℕ) → k < m → get_or C k 0 ≡ 5 * k = λ k l. get_or-map-range_with_len f 0 m k k 0 l (omega arith) in
    let up : IsStrictlyIncreasing C = λ k l. omega (arith, at k (omega arith), at (k + 1) (omega arith)) in
    let inside : (n : ℕ) → In n C → In n Q = λ n i.
    let r = In-at i in
    let l : r.0 < m = omega (arith, r.1, long) in
    subst (λ (k : ℕ). In k Q) (sym (at r.0 l) ∙ r.2) (bottom-in rows r.0 (h r.0 l)) in
    let same_list : C ≡ filter (holds C) Q = same_increasing C (filter (holds C) Q) up (IsStrictlyIncreasing-filter (holds C) Q (staying-rises rows))
    (λ n. both_ways (holds C n) (holds (filter (holds C) Q) n) (λ e. In-holds (In-filter (holds C) (inside n (holds-In C e)) e)) (λ e. filter-In (holds C) Q (holds-In (filter (holds C) Q) e))) in
    omega (arith, long, ap (λ (xs : List ℕ). length xs) same_list, length-filter-le (holds C) Q)

-- above 121 rows the bottom layer has too many voxels
pub staying-many : (rows : List (ℕ × ℕ)) → 121 < length rows → 60000 < length (staying rows)
staying-many rows h =
    let w : ℕ = 2 * length rows + 1 in
    let m : 245 * 1225 ≤ w * (w * 5) = mul-le-mul (let a : 245 ≤ w = omega arith in a) (let b : 1225 ≤ w * 5 = omega arith in b) in
    let least : 60001 ≤ length (staying rows) = staying-least rows 60001 (λ j l. omega (arith, m, l)) in
    omega (arith, least)

-- more than 60,000 voxels are too many cells, also in a box without a bound
pub too_many : (sizes I : List ℕ) → Some sizes → All (λ i. i < volume sizes) I → IsStrictlyIncreasing I → 60000 < length I → voxel_space sizes (map (tuple_at (strides_of sizes)) I) ≡ Err TooManyCells
too_many sizes I s inside rises m =
    let within : (i : ℕ) → In i I → i < volume sizes = λ i j. (let r = In-at j in omega (arith, inside r.0 0 r.1, r.2)) in
    let F : List ℕ = all_faces (strides_of sizes) (strides_of (limits_of sizes)) I in
    let n : ℕ = volume (limits_of sizes) in
    let P : List ℕ = filter (holds F) (range_with_len 0 n) in
    let inc : IsStrictlyIncreasing P = IsStrictlyIncreasing-filter (holds F) (range_with_len 0 n) (increasing-range 0 n) in
    let keeps : Keeps F P = λ k c. (let i : In k F = Contains-In c in In-Contains (In-filter (holds F) (In-below n k (flat-cell sizes I s within k i).below) (In-holds i))) in
    let adds_none : Keeps P F = λ k c. In-Contains (holds-In F (filter-In (holds F) (range_with_len 0 n) (Contains-In c))) in
    ap limited (cells-at sizes I P s within inc keeps adds_none)
    ∙ big (map (tuple_at (strides_of (limits_of sizes))) P) (omega (arith, length-map P (tuple_at (strides_of (limits_of sizes))), many-cells sizes I P s within inc keeps adds_none rises, m))
  where
    big : (cells : List (List ℕ)) → 60000 < length cells → limited cells ≡ Err TooManyCells
    big cells l = ap (λ (b : Bool). cond b (Err TooManyCells) (Ok (space_of facets cells))) (lt-ltb 60000 (length cells) l)

-- ---- one voxel more

pub stays-is : (rows : List (ℕ × ℕ)) (side i : ℕ) (taken : Bool) → side ≡ 2 * length rows + 1 → taken ≡ is_taken rows (i / (side * 5)) (i % (side * 5) / 5) (i % (side * 5) % 5)
    → stays rows (tuple_at (strides_of (box_of (length rows))) i) ≡ not taken
stays-is rows side i taken e h =
    let w : ℕ = 2 * length rows + 1 in
    let one : i % (w * 5) % 5 / 1 ≡ i % (w * 5) % 5 = omega arith in
    ap (λ (z : ℕ). stays rows ((i / (w * 5)) ∷ (i % (w * 5) / 5) ∷ z ∷ [])) one
    ∙ (ap (λ (s : ℕ). not (is_taken rows (i / (s * 5)) (i % (s * 5) / 5) (i % (s * 5) % 5))) (sym e) ∙ ap not (sym h))

pub one_more : (rows : List (ℕ × ℕ)) (i : ℕ) (old now new : List ℕ) → stays rows (tuple_at (strides_of (box_of (length rows))) i) ≡ true → old ≡ filter (λ j. stays rows (tuple_at (strides_of (box_of (length rows))) j)) (range_with_len 0 i)
    → now ≡ new → new ≡ old ++ i ∷ [] → now ≡ filter (λ j. stays rows (tuple_at (strides_of (box_of (length rows))) j)) (range_with_len 0 (i + 1))
one_more rows i old now new e h is pushed =
    let p : ℕ → Bool = λ j. stays rows (tuple_at (strides_of (box_of (length rows))) j) in
    is ∙ (pushed ∙ (ap (λ (xs : List ℕ). xs ++ i ∷ []) h ∙ sym (filter-next p 0 i i (omega arith) ∙ ap (λ (b : Bool). filter p (range_with_len 0 i) ++ cond b (i ∷ []) []) e)))

pub none_more : (rows : List (ℕ × ℕ)) (i : ℕ) (old now : List ℕ) → stays rows (tuple_at (strides_of (box_of (length rows))) i) ≡ false → old ≡ filter (λ j. stays rows (tuple_at (strides_of (box_of (length rows))) j)) (range_with_len 0 i)
    → now ≡ old → now ≡ filter (λ j. stays rows (tuple_at (strides_of (box_of (length rows))) j)) (range_with_len 0 (i + 1))
none_more rows i old now e h is =
    let p : ℕ → Bool = λ j. stays rows (tuple_at (strides_of (box_of (length rows))) j) in
    is ∙ (h ∙ sym (filter-next p 0 i i (omega arith) ∙ (ap (λ (b : Bool). filter p (range_with_len 0 i) ++ cond b (i ∷ []) []) e ∙ append-nil (filter p (range_with_len 0 i)))))
