-- The vectors of a shape climb, so that its points increase. A shape that leaves vectors out lies in one with a vector more.
use Rattle.std.proofs.Common.{◌≡◌, ℕ, zero, suc, ◌+◌, ◌-◌, ◌*◌, ◌/◌, ◌%◌, ◌<◌, ◌≤◌, List, [], ◌∷◌, Bool, true, false, ◌&&◌, ◌==◌, nat_le, nat_lt, get_or, refl, sym, subst, arith}
use Rattle.std.specs.List.{list_all, list_any}
use Rattle.std.specs.List.Sorted.{IsStrictlyIncreasing}
use Rattle.std.proofs.Math.Nat.{add-mul, mul-le-mul_left, mul-le-mul_right}
use Rattle.std.proofs.lemmas.Bool.{false≢true, leb-true, ltb-true}
use Rattle.std.proofs.lemmas.List.Elements.{All-cons, All-nil}
use Rattle.face_poset.specs.Poset.{IsCell}
use Rattle.number_lists.proofs.CallerLemmas.{and-left, and-right}
use Rattle.tuple_spaces.proofs.CallerLemmas.{by_dim}
use Rattle.permutahedral_arrays.specs.Places.{step, is_below, shapes_in, cell_at, holds_all}

-- ---- steps

-- what a smaller factor leaves of a product
weigh : (a b n : ℕ) → a ≤ b → 1 ≤ n → a * n + (b - a) ≤ b * n
weigh a b n l some =
    let d : ℕ = b - a in
    let e : a + d ≡ b = omega (arith, l) in
    let s : (a + d) * n ≡ a * n + d * n = add-mul a d n in
    let m : d * 1 ≤ d * n = mul-le-mul_left d some in
    subst (λ (c : ℕ). a * n + d ≤ c * n) e (omega (arith, m, s))

weighed : (slab row a b c d e f : ℕ) → 1 ≤ slab → 1 ≤ row → a ≤ d → b ≤ e → c ≤ f → 4 * a + 2 * b + c < 4 * d + 2 * e + f → a * slab + b * row + c < d * slab + e * row + f
weighed slab row a b c d e f s r l m n h = omega (arith, weigh a d slab l s, weigh b e row m r)

bits_of : (v : ℕ) → v < 8 → v ≡ 4 * (v / 4 % 2) + 2 * (v / 2 % 2) + v % 2
bits_of v l = omega arith

step-rises : (slab row v w : ℕ) → 1 ≤ slab → 1 ≤ row → v < 8 → w < 8 → is_below v w ≡ true → step slab row v < step slab row w
step-rises slab row v w s r lv lw h =
    let pa : Bool = nat_le (v / 4 % 2) (w / 4 % 2) in
    let pb : Bool = nat_le (v / 2 % 2) (w / 2 % 2) in
    let pc : Bool = nat_le (v % 2) (w % 2) in
    let pd : Bool = nat_lt v w in
    let hb = and-right pa (pb && (pc && pd)) h in
    let hc = and-right pb (pc && pd) hb in
    weighed slab row (v / 4 % 2) (v / 2 % 2) (v % 2) (w / 4 % 2) (w / 2 % 2) (w % 2) s r (leb-true (v / 4 % 2) (w / 4 % 2) (and-left pa (pb && (pc && pd)) h)) (leb-true (v / 2 % 2) (w / 2 % 2) (and-left pb (pc && pd) hb))
    (leb-true (v % 2) (w % 2) (and-left pc pd hc)) (omega (arith, bits_of v lv, bits_of w lw, ltb-true v w (and-right pc pd hc)))

-- a step is at most a slab, a row and one
step-most : (slab row v : ℕ) → step slab row v ≤ slab + row + 1
step-most slab row v =
    let a : v / 4 % 2 ≤ 1 = omega arith in
    let b : v / 2 % 2 ≤ 1 = omega arith in
    let m : v / 4 % 2 * slab ≤ 1 * slab = mul-le-mul_right slab a in
    let n : v / 2 % 2 * row ≤ 1 * row = mul-le-mul_right row b in
    omega (arith, m, n)

-- ---- shapes

-- one vector or more, each below 8, and each above the one before
abbrev pub climbs : List ℕ → Bool
climbs [] = false
climbs (v ∷ []) = nat_lt v 8
climbs (v ∷ w ∷ s) = nat_lt v 8 && (is_below v w && climbs (w ∷ s))

low_first : (w : ℕ) (s : List ℕ) → climbs (w ∷ s) ≡ true → w < 8
low_first w [] h = ltb-true w 8 h
low_first w (x ∷ s) h = ltb-true w 8 (and-left (nat_lt w 8) (is_below w x && climbs (x ∷ s)) h)

rises-cons : (x y : ℕ) (ys : List ℕ) → x < y → IsStrictlyIncreasing (y ∷ ys) → IsStrictlyIncreasing (x ∷ y ∷ ys)
rises-cons x y ys h r zero l = h
rises-cons x y ys h r (suc k) l =
    let e : suc k + 1 ≡ suc (k + 1) = omega arith in
    subst (λ (n : ℕ). get_or (y ∷ ys) k 0 < get_or (x ∷ y ∷ ys) n 0) (sym e) (r k (omega arith))

-- the points of a shape are increasing, and at most a slab, a row and one past the first
pub climb : (slab row first most : ℕ) → 1 ≤ slab → 1 ≤ row → 1 ≤ first → first + slab + row + 1 ≤ most → (s : List ℕ) → climbs s ≡ true → IsCell most (cell_at slab row first s)
climb slab row first most a b low high [] h = absurd (false≢true h)
climb slab row first most a b low high (v ∷ []) h = record {
  rises = λ k l. absurd (omega arith);
  within = All-cons (λ (n : ℕ). (1 ≤ n) × (n ≤ most)) (first + step slab row v) [] (omega (arith, low), omega (arith, step-most slab row v, high)) (All-nil (λ (n : ℕ). (1 ≤ n) × (n ≤ most)));
  some = omega arith;
}
climb slab row first most a b low high (v ∷ w ∷ s) h =
    let pw : Bool = is_below v w in
    let ps : Bool = climbs (w ∷ s) in
    let rest = and-right (nat_lt v 8) (pw && ps) h in
    let next : ps ≡ true = and-right pw ps rest in
    let is : IsCell most (cell_at slab row first (w ∷ s)) = climb slab row first most a b low high (w ∷ s) next in
    let up : step slab row v < step slab row w = step-rises slab row v w a b (ltb-true v 8 (and-left (nat_lt v 8) (pw && ps) h)) (low_first w s next) (and-left pw ps rest) in
    record {
      rises = rises-cons (first + step slab row v) (first + step slab row w) (cell_at slab row first s) (omega (arith, up)) is.rises;
      within = All-cons (λ (n : ℕ). (1 ≤ n) × (n ≤ most)) (first + step slab row v) (cell_at slab row first (w ∷ s)) (omega (arith, low), omega (arith, step-most slab row v, high)) is.within;
      some = omega arith;
    }

-- each shape lies in one of those above
abbrev pub are_refined : (above shapes : List (List ℕ)) → Bool
are_refined above shapes = list_all (λ s. list_any (λ t. holds_all t s) above) shapes

-- a fact at two and at three levels
at_depth : (P : ℕ → Type 0) → P 2 → P 3 → (depth : ℕ) → 2 ≤ depth → depth ≤ 3 → P depth
at_depth P a b zero l m = absurd (omega arith)
at_depth P a b (suc zero) l m = absurd (omega arith)
at_depth P a b (suc (suc zero)) l m = a
at_depth P a b (suc (suc (suc zero))) l m = b
at_depth P a b (suc (suc (suc (suc depth)))) l m = absurd (omega arith)

pub shapes-climb : (depth dim : ℕ) → 2 ≤ depth → depth ≤ 3 → dim ≤ 3 → list_all climbs (shapes_in depth dim) ≡ true
shapes-climb depth dim l m n =
    by_dim (λ d. list_all climbs (shapes_in depth d) ≡ true) (at_depth (λ k. list_all climbs (shapes_in k 0) ≡ true) refl refl depth l m) (at_depth (λ k. list_all climbs (shapes_in k 1) ≡ true) refl refl depth l m)
    (at_depth (λ k. list_all climbs (shapes_in k 2) ≡ true) refl refl depth l m) (at_depth (λ k. list_all climbs (shapes_in k 3) ≡ true) refl refl depth l m) dim n

pub edges-refined : (depth : ℕ) → 2 ≤ depth → depth ≤ 3 → are_refined (shapes_in depth 0) (shapes_in depth 1) ≡ true
edges-refined = at_depth (λ k. are_refined (shapes_in k 0) (shapes_in k 1) ≡ true) refl refl

pub faces-refined : (depth : ℕ) → 2 ≤ depth → depth ≤ 3 → are_refined (shapes_in depth 1) (shapes_in depth 2) ≡ true
faces-refined = at_depth (λ k. are_refined (shapes_in k 1) (shapes_in k 2) ≡ true) refl refl

pub solids-refined : (depth : ℕ) → 2 ≤ depth → depth ≤ 3 → are_refined (shapes_in depth 2) (shapes_in depth 3) ≡ true
solids-refined = at_depth (λ k. are_refined (shapes_in k 2) (shapes_in k 3) ≡ true) refl refl

-- a shape of a vertex holds the zero vector
pub vertices-start : (depth : ℕ) → 2 ≤ depth → depth ≤ 3 → list_any (λ s. list_any (λ v. v == 0) s) (shapes_in depth 0) ≡ true
vertices-start = at_depth (λ k. list_any (λ s. list_any (λ v. v == 0) s) (shapes_in k 0) ≡ true) refl refl
