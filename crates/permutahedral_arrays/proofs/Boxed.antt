-- All cells of a box, by the places of their points.
use Rattle.std.proofs.Common.{◌≡◌, ℕ, ◌+◌, ◌*◌, ◌/◌, ◌%◌, ◌<◌, ◌≤◌, List, [], ◌∷◌, ◌++◌, Bool, true, false, ◌&&◌, eqb, nat_lt, ltb-true, lt-ltb, eqb-true, eq-eqb, map, filter, get_or, refl, ap, sym, ◌∙◌, arith}
use Rattle.std.specs.List.{range_with_len, flat_map, list_any, list_all}
use Rattle.std.proofs.lemmas.Bool.{false≢true, and_from}
use Rattle.std.proofs.lemmas.List.{append-nil}
use Rattle.std.proofs.lemmas.Nat.{mod_below, div_below}
use Rattle.number_lists.proofs.CallerLemmas.{and-left, and-right, filter-flat_map, map-flat_map}
use Rattle.std.specs.Cmp.{both_ways}
use Rattle.tuple_spaces.specs.Tuples.{same, boxed}
use Rattle.tuple_spaces.proofs.CallerLemmas.{same-eq}
use Rattle.permutahedral_arrays.specs.Places as places
use Rattle.permutahedral_arrays.specs.Permutahedra.{moved, vectors, still, chains, sequences, is_among, cells_of, present_of}
use Rattle.permutahedral_arrays.proofs.Loops.{as_three, same_three, less_three, less_rows, same_loop, none_loop, boxed_two, boxed_three, all-loop, all-filter}
use Rattle.permutahedral_arrays.proofs.Marked.{slab_of, past_planes, past_rows, past_columns, place_once, length-marks, mark_moved, step_place}
use Rattle.permutahedral_arrays.proofs.Found.{present_three, present_two}
use Rattle.permutahedral_arrays.proofs.Images.{sequences-are, cells-placed, no-cells, good-cells}

-- the place of a point in a box with so many rows and columns of bits
abbrev pub place_of : (rows columns : ℕ) → (point : List ℕ) → ℕ
place_of rows columns point = get_or point 0 0 * slab_of rows columns + (get_or point 1 0 * (columns + 2) + get_or point 2 0) + 1

-- the vector of a number
abbrev pub vector_three : ℕ → List ℕ
vector_three v = (v / 4 % 2) ∷ (v / 2 % 2) ∷ (v % 2) ∷ []

abbrev pub vector_two : ℕ → List ℕ
vector_two v = (v / 2 % 2) ∷ (v % 2) ∷ []

bit_low : (v : ℕ) → v % 2 < 2
bit_low v = mod_below v 2 (omega arith)

-- ---- points in a box

-- a row and a column of the box
abbrev pub fits : (rows columns : ℕ) → (point : List ℕ) → Bool
fits rows columns [] = false
fits rows columns (x ∷ []) = false
fits rows columns (x ∷ y ∷ []) = false
fits rows columns (x ∷ y ∷ z ∷ []) = nat_lt y (rows + 2) && nat_lt z (columns + 2)
fits rows columns (x ∷ y ∷ z ∷ w ∷ ws) = false

data Fitting (rows columns : ℕ) : List ℕ → Type 0 where
  fitting : (x y z : ℕ) → y < rows + 2 → z < columns + 2 → Fitting rows columns (x ∷ y ∷ z ∷ [])

to_fitting : (r k : ℕ) (t : List ℕ) → fits r k t ≡ true → Fitting r k t
to_fitting r k [] h = absurd (false≢true h)
to_fitting r k (x ∷ []) h = absurd (false≢true h)
to_fitting r k (x ∷ y ∷ []) h = absurd (false≢true h)
to_fitting r k (x ∷ y ∷ z ∷ []) h = fitting x y z (ltb-true y (r + 2) (and-left (nat_lt y (r + 2)) (nat_lt z (k + 2)) h)) (ltb-true z (k + 2) (and-right (nat_lt y (r + 2)) (nat_lt z (k + 2)) h))
to_fitting r k (x ∷ y ∷ z ∷ w ∷ ws) h = absurd (false≢true h)

pub fits-true : (r k x y z : ℕ) → y < r + 2 → z < k + 2 → fits r k (x ∷ y ∷ z ∷ []) ≡ true
fits-true r k x y z l m = and_from (nat_lt y (r + 2)) (nat_lt z (k + 2)) (lt-ltb y (r + 2) l) (lt-ltb z (k + 2) m)

same_triple : (x y z u v w : ℕ) → x ≡ u → y ≡ v → z ≡ w → same (x ∷ y ∷ z ∷ []) (u ∷ v ∷ w ∷ []) ≡ true
same_triple x y z u v w a b c = and_from (eqb x u) (eqb y v && (eqb z w && true)) (eq-eqb x u a) (and_from (eqb y v) (eqb z w && true) (eq-eqb y v b) (and_from (eqb z w) true (eq-eqb z w c) refl))

once_fitting : (r k : ℕ) {t u : List ℕ} → Fitting r k t → Fitting r k u → eqb (place_of r k u) (place_of r k t) ≡ same t u
once_fitting r k (fitting x y z a b) (fitting u v w c d) =
    both_ways (eqb (place_of r k (u ∷ v ∷ w ∷ [])) (place_of r k (x ∷ y ∷ z ∷ []))) (same (x ∷ y ∷ z ∷ []) (u ∷ v ∷ w ∷ []))
    (λ e.
    let s : u * slab_of r k + (v * (k + 2) + w) + 1 ≡ x * slab_of r k + (y * (k + 2) + z) + 1 = eqb-true (u * slab_of r k + (v * (k + 2) + w) + 1) (x * slab_of r k + (y * (k + 2) + z) + 1) e in
    let o = place_once x y z u v w (r + 2) (k + 2) a b c d (omega (arith, s)) in
    same_triple x y z u v w o.0 o.1 o.2)
    (λ e. eq-eqb (place_of r k (u ∷ v ∷ w ∷ [])) (place_of r k (x ∷ y ∷ z ∷ [])) (ap (place_of r k) (sym (same-eq (x ∷ y ∷ z ∷ []) (u ∷ v ∷ w ∷ []) e))))

-- no two points of the box have one place
pub once_three : (r k : ℕ) (t u : List ℕ) → fits r k t ≡ true → fits r k u ≡ true → eqb (place_of r k u) (place_of r k t) ≡ same t u
once_three r k t u a b = once_fitting r k (to_fitting r k t a) (to_fitting r k u b)

pub once_two : (r k : ℕ) (t u : List ℕ) → fits r k (1 ∷ t) ≡ true → fits r k (1 ∷ u) ≡ true → eqb (place_of r k (1 ∷ u)) (place_of r k (1 ∷ t)) ≡ same t u
once_two r k t u a b = once_three r k (1 ∷ t) (1 ∷ u) a b

still_three : (x y z : ℕ) → moved (x ∷ y ∷ z ∷ []) (still 3) ≡ x ∷ y ∷ z ∷ []
still_three x y z =
    let a : x + 0 ≡ x = omega arith in
    let b : y + 0 ≡ y = omega arith in
    let c : z + 0 ≡ z = omega arith in
    ap (λ (n : ℕ). n ∷ (y + 0) ∷ (z + 0) ∷ []) a ∙ (ap (λ (n : ℕ). x ∷ n ∷ (z + 0) ∷ []) b ∙ ap (λ (n : ℕ). x ∷ y ∷ n ∷ []) c)

still_two : (y z : ℕ) → moved (y ∷ z ∷ []) (still 2) ≡ y ∷ z ∷ []
still_two y z =
    let b : y + 0 ≡ y = omega arith in
    let c : z + 0 ≡ z = omega arith in
    ap (λ (n : ℕ). n ∷ (z + 0) ∷ []) b ∙ ap (λ (n : ℕ). y ∷ n ∷ []) c

-- ---- the cells at a first point

-- the cells at the place of a first point
abbrev found_at : (p r k : ℕ) → (bits : List Bool) → (shapes : List (List ℕ)) → (x y z : ℕ) → List (List ℕ)
found_at p r k bits shapes x y z =
    filter (list_any (places.is_present (places.marks_of p r k bits))) (map (map (λ v. 1 + x * slab_of r k + y * (k + 2) + z + places.step (slab_of r k) (k + 2) v)) shapes)

none_after : (p r k : ℕ) (bits : List Bool) (shapes : List (List ℕ)) (pass : ℕ → Bool) (x y z : ℕ) → list_all (list_all pass) shapes ≡ true → y ≤ r + 1 → z ≤ k + 1
    → ((v : ℕ) → pass v ≡ true → places.mark_at p r k bits (x + v / 4 % 2) (y + v / 2 % 2) (z + v % 2) ≡ false) → found_at p r k bits shapes x y z ≡ []
none_after p r k bits shapes pass x y z h l m none =
    no-cells pass (λ v. 1 + x * slab_of r k + y * (k + 2) + z + places.step (slab_of r k) (k + 2) v) (places.is_present (places.marks_of p r k bits)) (λ v e. mark_moved p r k bits x y z v l m ∙ none v e) shapes h

none_column : (p r k : ℕ) (bits : List Bool) (shapes : List (List ℕ)) (pass : ℕ → Bool) (x y : ℕ) → list_all (list_all pass) shapes ≡ true → y ≤ r + 1 → found_at p r k bits shapes x y (k + 1) ≡ []
none_column p r k bits shapes pass x y h l =
    none_after p r k bits shapes pass x y (k + 1) h l (omega arith) (λ v _. past_columns p r k bits (x + v / 4 % 2) (y + v / 2 % 2) (k + 1 + v % 2) (λ _ b. omega (arith, b)))

none_row : (p r k : ℕ) (bits : List Bool) (shapes : List (List ℕ)) (pass : ℕ → Bool) (x z : ℕ) → list_all (list_all pass) shapes ≡ true → z ≤ k + 1 → found_at p r k bits shapes x (r + 1) z ≡ []
none_row p r k bits shapes pass x z h l =
    none_after p r k bits shapes pass x (r + 1) z h (omega arith) l (λ v _. past_rows p r k bits (x + v / 4 % 2) (r + 1 + v / 2 % 2) (z + v % 2) (λ _ b. omega (arith, b)))

none_plane : (p r k : ℕ) (bits : List Bool) (shapes : List (List ℕ)) (pass : ℕ → Bool) (y z : ℕ) → list_all (list_all pass) shapes ≡ true → y ≤ r + 1 → z ≤ k + 1 → found_at p r k bits shapes (p + 1) y z ≡ []
none_plane p r k bits shapes pass y z h l m =
    none_after p r k bits shapes pass (p + 1) y z h l m (λ v _. past_planes p r k bits (p + 1 + v / 4 % 2) (y + v / 2 % 2) (z + v % 2) (λ _ b. omega (arith, b)))

-- ---- three levels

module _ (p r k : ℕ) (bits : List Bool) (n : ℕ) (shapes : List (List ℕ)) (pass : ℕ → Bool) (vectors-are : map (λ chain. still 3 ∷ chain) (chains n (vectors 3) (still 3)) ≡ map (map vector_three) shapes) (passes : list_all (list_all pass) shapes ≡ true) where
  abbrev present3 : List (List ℕ)
  present3 = present_of (p ∷ r ∷ k ∷ []) bits

  abbrev wanted3 : List ℕ → List (List ℕ)
  wanted3 t = map (map (place_of r k)) (filter (list_any (is_among (present_of (p ∷ r ∷ k ∷ []) bits))) (sequences 3 n t))

  here_three : (x y z : ℕ) → y < r + 1 → z < k + 1 → found_at p r k bits shapes x y z ≡ wanted3 (x ∷ y ∷ z ∷ [])
  here_three x y z l m =
      cells-placed pass (λ v. 1 + x * slab_of r k + y * (k + 2) + z + places.step (slab_of r k) (k + 2) v) (λ v. moved (x ∷ y ∷ z ∷ []) (vector_three v)) (place_of r k) (places.is_present (places.marks_of p r k bits)) (is_among present3)
      (λ v _. step_place x y z v (slab_of r k) (k + 2))
      (λ v _. mark_moved p r k bits x y z v (omega (arith, l)) (omega (arith, m)) ∙ present_three p r k bits (x + v / 4 % 2) (y + v / 2 % 2) (z + v % 2)) shapes passes
      ∙ ap (λ ss. map (map (place_of r k)) (filter (list_any (is_among present3)) ss)) (sym (sequences-are 3 n (x ∷ y ∷ z ∷ []) vector_three shapes vectors-are (still_three x y z)))

  pub cells_three : places.cells_of (slab_of r k) (k + 2) (places.marks_of p r k bits) shapes ≡ map (map (place_of r k)) (cells_of (p ∷ r ∷ k ∷ []) (present_of (p ∷ r ∷ k ∷ []) bits) n)
  cells_three =
      let f : ℕ → List (List ℕ) = places.cells_at (slab_of r k) (k + 2) (places.marks_of p r k bits) shapes in
      let box : List (List ℕ) = boxed ((p + 1) ∷ (r + 1) ∷ (k + 1) ∷ []) in
      let q : List (List ℕ) → Bool = list_any (is_among present3) in
      ap (λ m. flat_map f (range_with_len 1 m)) (length-marks p r k bits)
      ∙ (as_three f (p + 2) (r + 2) (k + 2)
      ∙ (less_three (found_at p r k bits shapes) (p + 1) (r + 1) (k + 1) (p + 2) (r + 2) (k + 2) (omega arith) (omega arith) (omega arith)
      (λ x y l. none_column p r k bits shapes pass x y passes (omega (arith, l))) (λ x z l. none_row p r k bits shapes pass x z passes (omega (arith, l)))
      (λ y z l m. none_plane p r k bits shapes pass y z passes (omega (arith, l)) (omega (arith, m)))
      ∙ (same_three (found_at p r k bits shapes) (λ x y z. wanted3 (x ∷ y ∷ z ∷ [])) (p + 1) (r + 1) (k + 1) (λ x y z _ l m. here_three x y z l m)
      ∙ sym (ap (map (map (place_of r k))) (filter-flat_map q (sequences 3 n) box) ∙ (map-flat_map (map (place_of r k)) (λ t. filter q (sequences 3 n t)) box ∙ boxed_three wanted3 (p + 1) (r + 1) (k + 1))))))

  good_three : (x y z : ℕ) → y < r + 1 → z < k + 1 → list_all (list_all (fits r k)) (sequences 3 n (x ∷ y ∷ z ∷ [])) ≡ true
  good_three x y z l m =
      ap (list_all (list_all (fits r k))) (sequences-are 3 n (x ∷ y ∷ z ∷ []) vector_three shapes vectors-are (still_three x y z))
      ∙ good-cells pass (λ v. moved (x ∷ y ∷ z ∷ []) (vector_three v)) (fits r k) (λ v _. fits-true r k (x + v / 4 % 2) (y + v / 2 % 2) (z + v % 2) (omega (arith, l, bit_low (v / 2))) (omega (arith, m, bit_low v))) shapes passes

  -- all points lie in the box
  pub fit_three : list_all (list_all (fits r k)) (cells_of (p ∷ r ∷ k ∷ []) (present_of (p ∷ r ∷ k ∷ []) bits) n) ≡ true
  fit_three =
      let ok : List (List ℕ) → Bool = list_all (fits r k) in
      all-filter ok (list_any (is_among present3)) (flat_map (sequences 3 n) (boxed ((p + 1) ∷ (r + 1) ∷ (k + 1) ∷ [])))
      (ap (list_all ok) (boxed_three (sequences 3 n) (p + 1) (r + 1) (k + 1))
      ∙ all-loop ok (λ x. flat_map (λ y. flat_map (λ z. sequences 3 n (x ∷ y ∷ z ∷ [])) (range_with_len 0 (k + 1))) (range_with_len 0 (r + 1))) 0 (p + 1)
      (λ x _.
      all-loop ok (λ y. flat_map (λ z. sequences 3 n (x ∷ y ∷ z ∷ [])) (range_with_len 0 (k + 1))) 0 (r + 1)
      (λ y l. all-loop ok (λ z. sequences 3 n (x ∷ y ∷ z ∷ [])) 0 (k + 1) (λ z m. good_three x y z (omega (arith, l)) (omega (arith, m))))))

-- ---- two levels: one plane inside three

four_low : (v : ℕ) → nat_lt v 4 ≡ true → v / 4 % 2 ≡ 0
four_low v e =
    let l : v < 4 = ltb-true v 4 e in
    let q : v / 4 < 1 = div_below v 4 1 (omega arith) (omega (arith, l)) in
    let z : v / 4 ≡ 0 = omega (arith, q) in
    ap (λ (i : ℕ). i % 2) z

module _ (r k : ℕ) (bits : List Bool) (n : ℕ) (shapes : List (List ℕ)) (vectors-are : map (λ chain. still 2 ∷ chain) (chains n (vectors 2) (still 2)) ≡ map (map vector_two) shapes) (passes : list_all (list_all (λ v. nat_lt v 4)) shapes ≡ true) where
  abbrev present2 : List (List ℕ)
  present2 = present_of (r ∷ k ∷ []) bits

  abbrev place2 : List ℕ → ℕ
  place2 t = place_of r k (1 ∷ t)

  abbrev wanted2 : List ℕ → List (List ℕ)
  wanted2 t = map (map (λ u. place_of r k (1 ∷ u))) (filter (list_any (is_among (present_of (r ∷ k ∷ []) bits))) (sequences 2 n t))

  here_two : (y z : ℕ) → y < r + 1 → z < k + 1 → found_at 1 r k bits shapes 1 y z ≡ wanted2 (y ∷ z ∷ [])
  here_two y z l m =
      cells-placed (λ v. nat_lt v 4) (λ v. 1 + 1 * slab_of r k + y * (k + 2) + z + places.step (slab_of r k) (k + 2) v) (λ v. moved (y ∷ z ∷ []) (vector_two v)) place2 (places.is_present (places.marks_of 1 r k bits)) (is_among present2)
      (λ v e. step_place 1 y z v (slab_of r k) (k + 2) ∙ ap (λ (i : ℕ). (1 + i) * slab_of r k + ((y + v / 2 % 2) * (k + 2) + (z + v % 2)) + 1) (four_low v e))
      (λ v e.
      mark_moved 1 r k bits 1 y z v (omega (arith, l)) (omega (arith, m))
      ∙ (ap (λ (i : ℕ). places.mark_at 1 r k bits (1 + i) (y + v / 2 % 2) (z + v % 2)) (four_low v e) ∙ present_two r k bits (y + v / 2 % 2) (z + v % 2))) shapes passes
      ∙ ap (λ ss. map (map place2) (filter (list_any (is_among present2)) ss)) (sym (sequences-are 2 n (y ∷ z ∷ []) vector_two shapes vectors-are (still_two y z)))

  -- no cell begins in the plane before
  none_first : (y z : ℕ) → y < r + 1 → z < k + 1 → found_at 1 r k bits shapes 0 y z ≡ []
  none_first y z l m =
      none_after 1 r k bits shapes (λ v. nat_lt v 4) 0 y z passes (omega (arith, l)) (omega (arith, m))
      (λ v e. past_planes 1 r k bits (0 + v / 4 % 2) (y + v / 2 % 2) (z + v % 2) (λ b _. omega (arith, b, four_low v e)))

  none_last : (y z : ℕ) → y < r + 1 → z < k + 1 → found_at 1 r k bits shapes 2 y z ≡ []
  none_last y z l m = none_plane 1 r k bits shapes (λ v. nat_lt v 4) y z passes (omega (arith, l)) (omega (arith, m))

  abbrev plane : ℕ → List (List ℕ)
  plane x = flat_map (λ y. flat_map (found_at 1 r k bits shapes x y) (range_with_len 0 (k + 2))) (range_with_len 0 (r + 2))

  smaller : (x : ℕ) → plane x ≡ flat_map (λ y. flat_map (found_at 1 r k bits shapes x y) (range_with_len 0 (k + 1))) (range_with_len 0 (r + 1))
  smaller x =
      less_rows (found_at 1 r k bits shapes x) (r + 1) (k + 1) (r + 2) (k + 2) (omega arith) (omega arith) (λ y l. none_column 1 r k bits shapes (λ v. nat_lt v 4) x y passes (omega (arith, l)))
      (λ z l. none_row 1 r k bits shapes (λ v. nat_lt v 4) x z passes (omega (arith, l)))

  empty : (x : ℕ) → ((y z : ℕ) → y < r + 1 → z < k + 1 → found_at 1 r k bits shapes x y z ≡ []) → plane x ≡ []
  empty x h =
      smaller x
      ∙ none_loop (λ y. flat_map (found_at 1 r k bits shapes x y) (range_with_len 0 (k + 1))) 0 (r + 1) (λ y _ l. none_loop (found_at 1 r k bits shapes x y) 0 (k + 1) (λ z _ m. h y z (omega (arith, l)) (omega (arith, m))))

  middle : plane 1 ≡ flat_map (λ y. flat_map (λ z. wanted2 (y ∷ z ∷ [])) (range_with_len 0 (k + 1))) (range_with_len 0 (r + 1))
  middle =
      smaller 1
      ∙ same_loop (λ y. flat_map (found_at 1 r k bits shapes 1 y) (range_with_len 0 (k + 1))) (λ y. flat_map (λ z. wanted2 (y ∷ z ∷ [])) (range_with_len 0 (k + 1))) 0 (r + 1)
      (λ y _ l. same_loop (found_at 1 r k bits shapes 1 y) (λ z. wanted2 (y ∷ z ∷ [])) 0 (k + 1) (λ z _ m. here_two y z (omega (arith, l)) (omega (arith, m))))

  only : (a b c : List (List ℕ)) → a ≡ [] → c ≡ [] → a ++ (b ++ (c ++ [])) ≡ b
  only a b c e f = ap (λ xs. xs ++ (b ++ (c ++ []))) e ∙ (ap (λ xs. b ++ (xs ++ [])) f ∙ append-nil b)

  pub cells_two : places.cells_of (slab_of r k) (k + 2) (places.marks_of 1 r k bits) shapes ≡ map (map (λ t. place_of r k (1 ∷ t))) (cells_of (r ∷ k ∷ []) (present_of (r ∷ k ∷ []) bits) n)
  cells_two =
      let f : ℕ → List (List ℕ) = places.cells_at (slab_of r k) (k + 2) (places.marks_of 1 r k bits) shapes in
      let box : List (List ℕ) = boxed ((r + 1) ∷ (k + 1) ∷ []) in
      let q : List (List ℕ) → Bool = list_any (is_among present2) in
      ap (λ m. flat_map f (range_with_len 1 m)) (length-marks 1 r k bits)
      ∙ (as_three f 3 (r + 2) (k + 2)
      ∙ (only (plane 0) (plane 1) (plane 2) (empty 0 none_first) (empty 2 none_last)
      ∙ (middle
      ∙ sym (ap (map (map place2)) (filter-flat_map q (sequences 2 n) box) ∙ (map-flat_map (map place2) (λ t. filter q (sequences 2 n t)) box ∙ boxed_two wanted2 (r + 1) (k + 1))))))

  good_two : (y z : ℕ) → y < r + 1 → z < k + 1 → list_all (list_all (λ t. fits r k (1 ∷ t))) (sequences 2 n (y ∷ z ∷ [])) ≡ true
  good_two y z l m =
      ap (list_all (list_all (λ t. fits r k (1 ∷ t)))) (sequences-are 2 n (y ∷ z ∷ []) vector_two shapes vectors-are (still_two y z))
      ∙ good-cells (λ v. nat_lt v 4) (λ v. moved (y ∷ z ∷ []) (vector_two v)) (λ t. fits r k (1 ∷ t)) (λ v _. fits-true r k 1 (y + v / 2 % 2) (z + v % 2) (omega (arith, l, bit_low (v / 2))) (omega (arith, m, bit_low v))) shapes passes

  pub fit_two : list_all (list_all (λ t. fits r k (1 ∷ t))) (cells_of (r ∷ k ∷ []) (present_of (r ∷ k ∷ []) bits) n) ≡ true
  fit_two =
      let ok : List (List ℕ) → Bool = list_all (λ t. fits r k (1 ∷ t)) in
      all-filter ok (list_any (is_among present2)) (flat_map (sequences 2 n) (boxed ((r + 1) ∷ (k + 1) ∷ [])))
      (ap (list_all ok) (boxed_two (sequences 2 n) (r + 1) (k + 1))
      ∙ all-loop ok (λ y. flat_map (λ z. sequences 2 n (y ∷ z ∷ [])) (range_with_len 0 (k + 1))) 0 (r + 1)
      (λ y l. all-loop ok (λ z. sequences 2 n (y ∷ z ∷ [])) 0 (k + 1) (λ z m. good_two y z (omega (arith, l)) (omega (arith, m)))))
