-- The mark at the place of a point.
use Rattle.std.proofs.Common.{◌≡◌, inl, inr, ℕ, suc, ◌+◌, ◌-◌, ◌*◌, ◌/◌, ◌%◌, ◌<◌, ◌≤◌, List, Bool, true, false, cond, ◌&&◌, nat_lt, nat_le, ltb-true, leb-true, get_or, length, ap, sym, ◌∙◌, arith}
use Rattle.std.proofs.Math.Nat.{mul-le-mul_right, mul-pos, mul_assoc, add-mul}
use Rattle.std.proofs.lemmas.Bool.{cases_lt, false_from_ne_true}
use Rattle.std.proofs.lemmas.Nat.{div-mul-add, mod-mul-add, mod_below, le-div}
use Rattle.std.proofs.lemmas.List.{get_or_past}
use Rattle.std.proofs.lemmas.List.FromFn.{length-map-range_with_len, get_or-map-range_with_len}
use Rattle.number_lists.proofs.CallerLemmas.{and-left, and-right}
use Rattle.permutahedral_arrays.specs.Places.{step, is_present, is_inside, mark_at, mark_of, marks_of}

-- how many points a plane has
abbrev pub slab_of : (rows columns : ℕ) → ℕ
slab_of rows columns = (rows + 2) * (columns + 2)

-- ---- points outside

and_three : (a b c v : Bool) → ((a && (b && c)) ≡ true → ⊥) → cond (a && (b && c)) v false ≡ false
and_three a b c v h = ap (λ (t : Bool). cond t v false) (false_from_ne_true (a && (b && c)) h)

pub inside : (size c : ℕ) → is_inside size c ≡ true → (1 ≤ c) × (c ≤ size)
inside size c e =
    let a : 0 < c = ltb-true 0 c (and-left (nat_lt 0 c) (nat_le c size) e) in
    (omega (arith, a), leb-true c size (and-right (nat_lt 0 c) (nat_le c size) e))

pub past_planes : (p r k : ℕ) (bits : List Bool) (x y z : ℕ) → ((1 ≤ x) → x ≤ p → ⊥) → mark_at p r k bits x y z ≡ false
past_planes p r k bits x y z h =
    and_three (is_inside p x) (is_inside r y) (is_inside k z) (get_or bits (((x - 1) * r + (y - 1)) * k + (z - 1)) false)
    (λ e. let w = inside p x (and-left (is_inside p x) (is_inside r y && is_inside k z) e) in h w.0 w.1)

pub past_rows : (p r k : ℕ) (bits : List Bool) (x y z : ℕ) → ((1 ≤ y) → y ≤ r → ⊥) → mark_at p r k bits x y z ≡ false
past_rows p r k bits x y z h =
    and_three (is_inside p x) (is_inside r y) (is_inside k z) (get_or bits (((x - 1) * r + (y - 1)) * k + (z - 1)) false)
    (λ e. let w = inside r y (and-left (is_inside r y) (is_inside k z) (and-right (is_inside p x) (is_inside r y && is_inside k z) e)) in h w.0 w.1)

pub past_columns : (p r k : ℕ) (bits : List Bool) (x y z : ℕ) → ((1 ≤ z) → z ≤ k → ⊥) → mark_at p r k bits x y z ≡ false
past_columns p r k bits x y z h =
    and_three (is_inside p x) (is_inside r y) (is_inside k z) (get_or bits (((x - 1) * r + (y - 1)) * k + (z - 1)) false)
    (λ e. let w = inside k z (and-right (is_inside r y) (is_inside k z) (and-right (is_inside p x) (is_inside r y && is_inside k z) e)) in h w.0 w.1)

-- ---- places

pub row_below : (a b m n : ℕ) → a < m → b < n → a * n + b < m * n
row_below a b m n l k = let e : suc a * n ≤ m * n = mul-le-mul_right n l in omega (arith, e, k)

-- the coordinates of the place of a point
column_of : (x y z m n : ℕ) → z < n → (x * (m * n) + (y * n + z)) % n ≡ z
column_of x y z m n l =
    let e : x * (m * n) ≡ x * m * n = sym (mul_assoc x m n) in
    let d : (x * m + y) * n ≡ x * m * n + y * n = add-mul (x * m) y n in
    let f : x * (m * n) + (y * n + z) ≡ (x * m + y) * n + z = omega (arith, e, d) in
    ap (λ (i : ℕ). i % n) f ∙ mod-mul-add (x * m + y) n z l

plane_of : (x y z m n : ℕ) → y < m → z < n → (x * (m * n) + (y * n + z)) / (m * n) ≡ x
plane_of x y z m n l k = div-mul-add x (m * n) (y * n + z) (row_below y z m n l k)

row_of : (x y z m n : ℕ) → y < m → z < n → (x * (m * n) + (y * n + z)) % (m * n) / n ≡ y
row_of x y z m n l k = ap (λ (i : ℕ). i / n) (mod-mul-add x (m * n) (y * n + z) (row_below y z m n l k)) ∙ div-mul-add y n z k

-- two points with the same place are the same
pub place_once : (x y z u v w m n : ℕ) → y < m → z < n → v < m → w < n → x * (m * n) + (y * n + z) ≡ u * (m * n) + (v * n + w) → (x ≡ u) × (y ≡ v) × (z ≡ w)
place_once x y z u v w m n a b c d e = (
  sym (plane_of x y z m n a b) ∙ (ap (λ (i : ℕ). i / (m * n)) e ∙ plane_of u v w m n c d),
  sym (row_of x y z m n a b) ∙ (ap (λ (i : ℕ). i % (m * n) / n) e ∙ row_of u v w m n c d),
  sym (column_of x y z m n b) ∙ (ap (λ (i : ℕ). i % n) e ∙ column_of u v w m n d),
)

module _ (p r k : ℕ) (bits : List Bool) where
  inner : (x y z : ℕ) → y < r + 2 → z < k + 2 → mark_of p r k bits (x * slab_of r k + (y * (k + 2) + z)) ≡ mark_at p r k bits x y z
  inner x y z l m =
      let i : ℕ = x * slab_of r k + (y * (k + 2) + z) in
      ap (λ (c : ℕ). mark_at p r k bits c (i % slab_of r k / (k + 2)) (i % (k + 2))) (plane_of x y z (r + 2) (k + 2) l m)
      ∙ (ap (λ (c : ℕ). mark_at p r k bits x c (i % (k + 2))) (row_of x y z (r + 2) (k + 2) l m) ∙ ap (λ (c : ℕ). mark_at p r k bits x y c) (column_of x y z (r + 2) (k + 2) m))

  -- one column past the box is the border of the next row
  past_column : (x y z : ℕ) → z ≡ k + 2 → mark_of p r k bits (x * slab_of r k + (y * (k + 2) + z)) ≡ mark_at p r k bits x y z
  past_column x y z e =
      let i : ℕ = x * slab_of r k + (y * (k + 2) + z) in
      let n : y * (k + 2) + z ≡ (y + 1) * (k + 2) + 0 = omega (arith, e, add-mul y 1 (k + 2)) in
      let c : i % (k + 2) ≡ 0 = ap (λ (j : ℕ). (x * slab_of r k + j) % (k + 2)) n ∙ column_of x (y + 1) 0 (r + 2) (k + 2) (omega arith) in
      past_columns p r k bits (i / slab_of r k) (i % slab_of r k / (k + 2)) (i % (k + 2)) (λ a b. omega (arith, a, c)) ∙ sym (past_columns p r k bits x y z (λ a b. omega (arith, e, b)))

  -- one row past the box is the border of the next plane
  past_row : (x y z : ℕ) → y ≡ r + 2 → z < k + 2 → mark_of p r k bits (x * slab_of r k + (y * (k + 2) + z)) ≡ mark_at p r k bits x y z
  past_row x y z e l =
      let i : ℕ = x * slab_of r k + (y * (k + 2) + z) in
      let t : y * (k + 2) ≡ slab_of r k = ap (λ (j : ℕ). j * (k + 2)) e in
      let n : i ≡ (x + 1) * slab_of r k + (0 * (k + 2) + z) = omega (arith, t, add-mul x 1 (slab_of r k)) in
      let c : i % slab_of r k / (k + 2) ≡ 0 = ap (λ (j : ℕ). j % slab_of r k / (k + 2)) n ∙ row_of (x + 1) 0 z (r + 2) (k + 2) (omega arith) l in
      past_rows p r k bits (i / slab_of r k) (i % slab_of r k / (k + 2)) (i % (k + 2)) (λ a b. omega (arith, a, c)) ∙ sym (past_rows p r k bits x y z (λ a b. omega (arith, e, b)))

  -- the mark of a point in the box, or one past it
  pub mark_is : (x y z : ℕ) → y ≤ r + 2 → z ≤ k + 2 → mark_of p r k bits (x * slab_of r k + (y * (k + 2) + z)) ≡ mark_at p r k bits x y z
  mark_is x y z l m =
      elim (cases_lt z (k + 2)) [
        | inl a ↦
            elim (cases_lt y (r + 2)) [
              | inl b ↦ inner x y z b a
              | inr b ↦ past_row x y z (omega (arith, l, b)) a
            ]
        | inr a ↦ past_column x y z (omega (arith, m, a))
      ]

  abbrev all : ℕ
  all = (p + 2) * slab_of r k

  pub length-marks : length (marks_of p r k bits) ≡ (p + 2) * slab_of r k
  length-marks = length-map-range_with_len (mark_of p r k bits) 0 ((p + 2) * slab_of r k)

  -- what is read at a place, also past the last
  pub present_at : (i : ℕ) → is_present (marks_of p r k bits) (i + 1) ≡ mark_of p r k bits i
  present_at i =
      let e : i + 1 - 1 ≡ i = omega arith in
      ap (λ (j : ℕ). get_or (marks_of p r k bits) j false) e
      ∙ elim (cases_lt i ((p + 2) * slab_of r k)) [
        | inl a ↦ get_or-map-range_with_len (mark_of p r k bits) 0 ((p + 2) * slab_of r k) i i false a (omega arith)
        | inr a ↦
            let wide : 0 < slab_of r k = mul-pos {m = r + 2} {n = k + 2} (omega arith) (omega arith) in
            let high : p + 2 ≤ i / slab_of r k = le-div (p + 2) i (slab_of r k) wide (omega (arith, a)) in
            get_or_past (marks_of p r k bits) i false (omega (arith, a, length-marks)) ∙ sym (past_planes p r k bits (i / slab_of r k) (i % slab_of r k / (k + 2)) (i % (k + 2)) (λ b c. omega (arith, high, c)))
      ]

-- the place of a point that is moved by a vector
moved_place : (x y z a b c slab row : ℕ) → 1 + x * slab + y * row + z + (a * slab + b * row + c) ≡ (x + a) * slab + ((y + b) * row + (z + c)) + 1
moved_place x y z a b c slab row = omega (arith, add-mul x a slab, add-mul y b row)

pub step_place : (x y z v slab row : ℕ) → 1 + x * slab + y * row + z + step slab row v ≡ (x + v / 4 % 2) * slab + ((y + v / 2 % 2) * row + (z + v % 2)) + 1
step_place x y z v slab row = moved_place x y z (v / 4 % 2) (v / 2 % 2) (v % 2) slab row

-- the mark of a point of a cell
pub mark_moved : (p r k : ℕ) (bits : List Bool) (x y z v : ℕ) → y ≤ r + 1 → z ≤ k + 1
    → is_present (marks_of p r k bits) (1 + x * slab_of r k + y * (k + 2) + z + step (slab_of r k) (k + 2) v) ≡ mark_at p r k bits (x + v / 4 % 2) (y + v / 2 % 2) (z + v % 2)
mark_moved p r k bits x y z v l m =
    let a : v / 2 % 2 < 2 = mod_below (v / 2) 2 (omega arith) in
    let b : v % 2 < 2 = mod_below v 2 (omega arith) in
    ap (is_present (marks_of p r k bits)) (step_place x y z v (slab_of r k) (k + 2))
    ∙ (present_at p r k bits ((x + v / 4 % 2) * slab_of r k + ((y + v / 2 % 2) * (k + 2) + (z + v % 2)))
    ∙ mark_is p r k bits (x + v / 4 % 2) (y + v / 2 % 2) (z + v % 2) (omega (arith, l, a)) (omega (arith, m, b)))
