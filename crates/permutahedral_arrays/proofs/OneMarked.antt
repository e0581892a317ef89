-- Where a bit is 1, a place of the box is marked.
use Rattle.std.proofs.Common.{◌≡◌, ℕ, zero, suc, ◌+◌, ◌-◌, ◌*◌, ◌/◌, ◌%◌, ◌<◌, ◌≤◌, List, [], ◌∷◌, Bool, true, false, cond, ◌&&◌, length, get_or, ap, ◌∙◌, arith}
use Rattle.std.specs.List.{list_any}
use Rattle.std.proofs.Math.Nat.{mul_assoc, add-mul, mul-le-mul_right, mul-zero, zero-mul}
use Rattle.std.proofs.lemmas.Bool.{lt-ltb, le-leb, and_from}
use Rattle.std.proofs.lemmas.Nat.{div-add-mod', mod_below, div_below}
use Rattle.std.proofs.lemmas.List.{get_or_default}
use Rattle.std.proofs.lemmas.List.FromFn.{get_or-map-range_with_len}
use Rattle.std.proofs.lemmas.List.Folds.{list_any_at, Any-from_list_any}
use Rattle.array_values.specs.Bits.{volume}
use Rattle.permutahedral_arrays.specs.Places.{is_inside, mark_at, mark_of, marks_of, from_end}
use Rattle.permutahedral_arrays.proofs.Marked.{row_below, mark_is, length-marks}

inside : (size c : ℕ) → c < size → is_inside size (c + 1) ≡ true
inside size c l = and_from _ _ (lt-ltb 0 (c + 1) (omega arith)) (le-leb (c + 1) size (omega (arith, l)))

-- the mark of the point of a bit
mark-bit : (planes rows columns : ℕ) (bits : List Bool) (x y z : ℕ) → x < planes → y < rows → z < columns → mark_at planes rows columns bits (x + 1) (y + 1) (z + 1) ≡ get_or bits ((x * rows + y) * columns + z) false
mark-bit planes rows columns bits x y z lx ly lz =
    let e : (x + 1 - 1) ≡ x = omega arith in
    let f : (y + 1 - 1) ≡ y = omega arith in
    let g : (z + 1 - 1) ≡ z = omega arith in
    ap (λ (b : Bool). cond b (get_or bits (((x + 1 - 1) * rows + (y + 1 - 1)) * columns + (z + 1 - 1)) false) false)
    (and_from (is_inside planes (x + 1)) (is_inside rows (y + 1) && is_inside columns (z + 1)) (inside planes x lx) (and_from (is_inside rows (y + 1)) (is_inside columns (z + 1)) (inside rows y ly) (inside columns z lz)))
    ∙ (ap (λ (n : ℕ). get_or bits ((n * rows + (y + 1 - 1)) * columns + (z + 1 - 1)) false) e
    ∙ (ap (λ (n : ℕ). get_or bits ((x * rows + n) * columns + (z + 1 - 1)) false) f ∙ ap (λ (n : ℕ). get_or bits ((x * rows + y) * columns + n) false) g))

-- the bit at an index, by its plane, row and column
parts : (rows columns i : ℕ) → i / (rows * columns) * rows * columns + i % (rows * columns) ≡ i
parts rows columns i = omega (arith, mul_assoc (i / (rows * columns)) rows columns, div-add-mod' i (rows * columns))

whole : (rows columns i : ℕ) → (i / (rows * columns) * rows + i % (rows * columns) / columns) * columns + i % (rows * columns) % columns ≡ i
whole rows columns i =
    omega (arith, parts rows columns i, add-mul (i / (rows * columns) * rows) (i % (rows * columns) / columns) columns, div-add-mod' (i % (rows * columns)) columns)

some-factors : (a b c i : ℕ) → i < a * (b * c) → (0 < b * c) × (0 < c)
some-factors a zero c i l = let e : a * (zero * c) ≡ 0 = ap (λ (n : ℕ). a * n) (zero-mul c) ∙ mul-zero a in absurd (omega (arith, l, e))
some-factors a (suc b) zero i l = let e : a * (suc b * zero) ≡ 0 = ap (λ (n : ℕ). a * n) (mul-zero (suc b)) ∙ mul-zero a in absurd (omega (arith, l, e))
some-factors a (suc b) (suc c) i l = let m : 1 * suc c ≤ suc b * suc c = mul-le-mul_right (suc c) (let k : 1 ≤ suc b = omega arith in k) in (omega (arith, m), omega arith)

pub marked : (planes rows columns : ℕ) (bits : List Bool) → length bits ≡ planes * (rows * columns) → list_any (λ bit. bit) bits ≡ true → list_any (λ mark. mark) (marks_of planes rows columns bits) ≡ true
marked planes rows columns bits full one =
    let at = Any-from_list_any (λ (bit : Bool). bit) bits one in
    let i : ℕ = at.0 in
    let l : i < planes * (rows * columns) = omega (arith, at.2, full) in
    let some = some-factors planes rows columns i l in
    let x : ℕ = i / (rows * columns) in
    let y : ℕ = i % (rows * columns) / columns in
    let z : ℕ = i % (rows * columns) % columns in
    let lx : x < planes = div_below i (rows * columns) planes some.0 l in
    let ly : y < rows = div_below (i % (rows * columns)) columns rows some.1 (mod_below i (rows * columns) some.0) in
    let lz : z < columns = mod_below (i % (rows * columns)) columns some.1 in
    let place : ℕ = (x + 1) * ((rows + 2) * (columns + 2)) + ((y + 1) * (columns + 2) + (z + 1)) in
    let m : mark_of planes rows columns bits place ≡ true =
    mark_is planes rows columns bits (x + 1) (y + 1) (z + 1) (omega (arith, ly)) (omega (arith, lz))
    ∙ (mark-bit planes rows columns bits x y z lx ly lz ∙ (ap (λ (n : ℕ). get_or bits n false) (whole rows columns i) ∙ (get_or_default bits i false at.1 at.2 ∙ (at.3 ∙ at.4)))) in
    let inner : (y + 1) * (columns + 2) + (z + 1) < (rows + 2) * (columns + 2) = row_below (y + 1) (z + 1) (rows + 2) (columns + 2) (omega (arith, ly)) (omega (arith, lz)) in
    let low : place < (planes + 2) * ((rows + 2) * (columns + 2)) = row_below (x + 1) ((y + 1) * (columns + 2) + (z + 1)) (planes + 2) ((rows + 2) * (columns + 2)) (omega (arith, lx)) inner in
    let n : ℕ = (planes + 2) * ((rows + 2) * (columns + 2)) in
    list_any_at (λ (mark : Bool). mark) (marks_of planes rows columns bits) place false (omega (arith, low, length-marks planes rows columns bits))
    (get_or-map-range_with_len (mark_of planes rows columns bits) 0 n place place false low (omega arith) ∙ m)

pub volume-is : (sizes : List ℕ) → 2 ≤ length sizes → length sizes ≤ 3 → volume sizes ≡ from_end sizes 2 * (from_end sizes 1 * from_end sizes 0)
volume-is [] l m = absurd (omega arith)
volume-is (a ∷ []) l m = absurd (omega arith)
volume-is (a ∷ b ∷ []) l m = omega arith
volume-is (a ∷ b ∷ c ∷ []) l m = omega arith
volume-is (a ∷ b ∷ c ∷ d ∷ rest) l m = absurd (omega arith)
