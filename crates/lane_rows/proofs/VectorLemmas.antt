-- What the operations on vectors of sixteen bytes hold at each lane.
use Rattle.std.proofs.Common.{◌≡◌, ◌≢◌, ℕ, ◌+◌, ◌-◌, ◌%◌, ◌^◌, ◌<◌, ◌≤◌, List, Bool, true, false, not, cond, eqb, ltb, length, get_or, map, replicate, refl, sym, ap, ap₂, ◌∙◌, subst, arith, w8, bit_xor, eqb-true}
use Rattle.std.proofs.lemmas.Bool.{agree_below, agree_below_at, cond-true, cond-false, eq-eqb, ne_eqb, eqb-false, ltb-true, ltb-false}
use Rattle.std.proofs.Math.Nat.{mod-eq_of_lt, mod-eq-sub-mod}
use lib.Count.{count_trailing_zeros}
use Rattle.std.specs.List.{prefix_len}
use Rattle.std.proofs.lemmas.Grind.{same_number_lists}
use Rattle.std.proofs.lemmas.List.{get_or-map, length-map}
use Rattle.std.specs.Simd.Lanes.{zip2, sel_l, mask_l, top, chunk}
use Rattle.std.proofs.lemmas.Simd.{length-zip2, get_or-zip2, get_or-replicate, length-sel_l, get_or-sel_l, tops_compared, bitmask_splat, first_set_mask_l, length-chunk, run_in_chunk_le, run_in_chunk_fails, run_in_chunk_stops, swz_l, SwzOk, SwzOk-from_below, length-swz_l, get_or-swz_l_below, Each1-from_get_or}
use Rattle.lane_rows.specs.Lanes.{pair_sum}
use Rattle.lane_rows.specs.Vectors.{HasLanes, AreBelow, IsFirstIn}

-- an operator on two vectors
pub lanes-zip2 : (f : ℕ → ℕ → ℕ) (a b : List ℕ) → length a ≡ 16 → length b ≡ 16 → HasLanes (zip2 f a b) (λ k. f (get_or a k 0) (get_or b k 0))
lanes-zip2 f a b p q = record {
  long = length-zip2 f a b (p ∙ sym q) ∙ p;
  each = λ k l. get_or-zip2 f a b k 0 0 0 (omega arith) (omega arith);
}

-- lanes that are told in another way
pub lanes-same : (v : List ℕ) (f g : ℕ → ℕ) → HasLanes v f → ((k : ℕ) → k < 16 → f k ≡ g k) → HasLanes v g
lanes-same v f g h e = record { long = h.long; each = λ k l. h.each k l ∙ e k l }

-- lanes below a bound, told by what they hold
pub lanes-below : (v : List ℕ) (f : ℕ → ℕ) (n : ℕ) → HasLanes v f → ((k : ℕ) → k < 16 → f k < n) → AreBelow n v
lanes-below v f n h e k l = subst (λ x. x < n) (sym (h.each k l)) (e k l)

-- a look-up in a table
pub places_fit : (js : List ℕ) → length js ≡ 16 → AreBelow 16 js → SwzOk w8 16 16 0 js
places_fit js long below = SwzOk-from_below w8 16 1 16 0 js refl (omega arith) (Each1-from_get_or (λ j. j < 16) js 0 (λ i lt. below i (omega arith)))

pub lanes-look_up : (t js : List ℕ) → length js ≡ 16 → AreBelow 16 js → HasLanes (swz_l w8 16 t 0 js) (λ k. get_or t (get_or js k 0) 0)
lanes-look_up t js long below = record {
  long = length-swz_l w8 16 t 0 js ∙ long;
  each = λ k l. get_or-swz_l_below w8 16 t 0 js k (omega arith) (below k l) ∙ ap (λ i. get_or t i 0) (omega arith);
}

-- the sum of two pairs of binary digits
abbrev pub xor_is_sum : ℕ → ℕ → Bool
xor_is_sum x y = eqb (bit_xor x y) (pair_sum 2 x y)

pub xor-pair_sum : (x y : ℕ) → x < 4 → y < 4 → bit_xor x y ≡ pair_sum 2 x y
xor-pair_sum x y lx ly =
    eqb-true (bit_xor x y) (pair_sum 2 x y)
    (agree_below_at (λ b. xor_is_sum x b) (λ _. true) 4 y (agree_below_at (λ a. agree_below (λ b. xor_is_sum a b) (λ _. true) 4) (λ _. true) 4 x refl lx) ly)

-- less a modulus where that is not below 0
abbrev pub less : ℕ → ℕ → ℕ
less a b = (a + (2 ^ 8 - b)) % 2 ^ 8

less_once : (x m : ℕ) (b : Bool) → 0 < m → m ≤ 13 → x < m + m → ltb x (less x m) ≡ b → cond b x (less x m) ≡ x % m
less_once x m true pos small lt e =
    let l : x < (x + (2 ^ 8 - m)) % 2 ^ 8 = ltb-true x (less x m) e in
    let low : x < m = omega arith in
    sym (mod-eq_of_lt low)
less_once x m false pos small lt e =
    let l : (x + (2 ^ 8 - m)) % 2 ^ 8 ≤ x = ltb-false x (less x m) e in
    let high : m ≤ x = omega arith in
    let is : (x + (2 ^ 8 - m)) % 2 ^ 8 ≡ x - m = omega arith in
    let low : x - m < m = omega arith in
    is ∙ sym (mod-eq-sub-mod high ∙ mod-eq_of_lt low)

pub lanes-reduced : (xs : List ℕ) (m : ℕ) → length xs ≡ 16 → 0 < m → m ≤ 13 → AreBelow (m + m) xs
    → HasLanes (sel_l (map (top 7) (zip2 (λ a b. cond (ltb a b) 255 0) xs (zip2 less xs (replicate 16 m)))) xs (zip2 less xs (replicate 16 m))) (λ k. get_or xs k 0 % m)
lanes-reduced xs m long pos small below =
    let ys : List ℕ = zip2 less xs (replicate 16 m) in
    let long' : length ys ≡ 16 = length-zip2 less xs (replicate 16 m) long ∙ long in
    let tests : List Bool = zip2 ltb xs ys in
    let long'' : length tests ≡ 16 = length-zip2 ltb xs ys (long ∙ sym long') ∙ long in
    subst (λ ms. HasLanes (sel_l ms xs ys) (λ k. get_or xs k 0 % m)) (sym (tops_compared w8 ltb xs ys))
    (record {
      long = length-sel_l tests xs ys (long'' ∙ sym long) (long'' ∙ sym long') ∙ long'';
      each = λ k l.
          let is : get_or ys k 0 ≡ less (get_or xs k 0) m = get_or-zip2 less xs (replicate 16 m) k 0 0 0 (omega arith) l ∙ ap (less (get_or xs k 0)) (get_or-replicate 16 k m 0 l) in
          let test : get_or tests k false ≡ ltb (get_or xs k 0) (less (get_or xs k 0) m) = get_or-zip2 ltb xs ys k 0 0 false (omega arith) (omega arith) ∙ ap (ltb (get_or xs k 0)) is in
          get_or-sel_l tests xs ys k 0 (omega arith) (omega arith) (omega arith)
          ∙ (ap (λ b. cond b (get_or xs k 0) (get_or ys k 0)) test
          ∙ (ap (λ y. cond (ltb (get_or xs k 0) (less (get_or xs k 0) m)) (get_or xs k 0) y) is
          ∙ less_once (get_or xs k 0) m (ltb (get_or xs k 0) (less (get_or xs k 0) m)) pos small (below k l) refl));
    })

-- the first lane that is not 0
abbrev pub is_other : ℕ → Bool
is_other x = not (eqb x 0)

zero_from : (x : ℕ) (b : Bool) → eqb x 0 ≡ b → not b ≡ false → x ≡ 0
zero_from x true e h = eqb-true x 0 e
zero_from x false e h = absurd (cc)

other_from : (x : ℕ) (b : Bool) → eqb x 0 ≡ b → not b ≡ true → x ≢ 0
other_from x true e h = absurd (cc)
other_from x false e h = eqb-false x 0 e

first_by_prefix : (row : List ℕ) (at r : ℕ) → at + 16 ≤ length row → r ≡ prefix_len (λ x. not (is_other x)) (chunk at 16 row) → IsFirstIn row at r
first_by_prefix row at r room counted = record {
  within = run_in_chunk_le is_other row at 16 r 0 room counted;
  zeros = λ k from to. zero_from (get_or row k 0) (eqb (get_or row k 0) 0) refl (run_in_chunk_fails is_other row at 16 r 0 room counted k from to);
  other = λ short. other_from (get_or row (at + r) 0) (eqb (get_or row (at + r) 0) 0) refl (run_in_chunk_stops is_other row at 16 r 0 room counted short);
}

abbrev pub others_in : List ℕ → ℕ → ℕ
others_in row at = mask_l (map is_other (chunk at 16 row))

pub mask-others : (row : List ℕ) (at : ℕ) → at + 16 ≤ length row
    → mask_l (map (top 7) (zip2 (λ a b. cond (not (eqb a b)) 255 0) (chunk at 16 row) (replicate 16 0))) % 2 ^ 64 ≡ others_in row at
mask-others row at room = bitmask_splat w8 (λ a b. not (eqb a b)) (chunk at 16 row) 16 0 (length-chunk at 16 row room) (omega arith)

pub none_in : (row : List ℕ) (at : ℕ) → at + 16 ≤ length row → others_in row at ≡ 0 → IsFirstIn row at 16
none_in row at room none =
    first_by_prefix row at 16 room
    (sym (cond-true _ _ _ (eq-eqb (others_in row at) 0 none)) ∙ first_set_mask_l is_other (chunk at 16 row) 16 (length-chunk at 16 row room) (omega arith))

pub some_in : (row : List ℕ) (at m : ℕ) → at + 16 ≤ length row → m ≡ others_in row at → m ≢ 0 → IsFirstIn row at (count_trailing_zeros 64 m)
some_in row at m room is some =
    first_by_prefix row at (count_trailing_zeros 64 m) room
    (ap (count_trailing_zeros 64) is
    ∙ (sym (cond-false _ _ _ (ne_eqb (others_in row at) 0 (λ none. some (is ∙ none)))) ∙ first_set_mask_l is_other (chunk at 16 row) 16 (length-chunk at 16 row room) (omega arith)))

-- two digits to base 3, by tables
abbrev pub digit_tables : List ℕ → List ℕ → List ℕ → List ℕ → ℕ → ℕ → ℕ
digit_tables first second digit three x y = get_or digit (get_or first x 0 + get_or first y 0) 0 + get_or three (get_or second x 0 + get_or second y 0) 0

pub lanes-three : (first second digit three left right a b c d s t u v w : List ℕ)
    → agree_below (λ x. agree_below (λ y. eqb (digit_tables first second digit three x y) (pair_sum 3 x y)) (λ _. true) 9) (λ _. true) 9 ≡ true
    → AreBelow 9 left → AreBelow 9 right
    → HasLanes a (λ k. get_or first (get_or left k 0) 0) → HasLanes b (λ k. get_or first (get_or right k 0) 0) → HasLanes s (λ k. get_or a k 0 + get_or b k 0)
    → HasLanes c (λ k. get_or second (get_or left k 0) 0) → HasLanes d (λ k. get_or second (get_or right k 0) 0) → HasLanes t (λ k. get_or c k 0 + get_or d k 0)
    → HasLanes u (λ k. get_or digit (get_or s k 0) 0) → HasLanes v (λ k. get_or three (get_or t k 0) 0) → HasLanes w (λ k. get_or u k 0 + get_or v k 0)
    → HasLanes w (λ k. pair_sum 3 (get_or left k 0) (get_or right k 0))
lanes-three first second digit three left right a b c d s t u v w works bl br ha hb hs hc hd ht hu hv hw = record {
  long = hw.long;
  each = λ k l.
      let x : ℕ = get_or left k 0 in
      let y : ℕ = get_or right k 0 in
      let low : get_or s k 0 ≡ get_or first x 0 + get_or first y 0 = hs.each k l ∙ ap₂ (λ i j. i + j) (ha.each k l) (hb.each k l) in
      let high : get_or t k 0 ≡ get_or second x 0 + get_or second y 0 = ht.each k l ∙ ap₂ (λ i j. i + j) (hc.each k l) (hd.each k l) in
      hw.each k l
      ∙ (ap₂ (λ i j. i + j) (hu.each k l ∙ ap (λ i. get_or digit i 0) low) (hv.each k l ∙ ap (λ i. get_or three i 0) high)
      ∙ eqb-true (digit_tables first second digit three x y) (pair_sum 3 x y)
      (agree_below_at (λ y. eqb (digit_tables first second digit three x y) (pair_sum 3 x y)) (λ _. true) 9 y
      (agree_below_at (λ x. agree_below (λ y. eqb (digit_tables first second digit three x y) (pair_sum 3 x y)) (λ _. true) 9) (λ _. true) 9 x works (bl k l)) (br k l)));
}

-- eight places in a list
pub composed-swizzle : (xs js : List ℕ) → length js ≡ 8 → ((k : ℕ) → k < 8 → get_or js k 0 < 8) → swz_l w8 8 xs 0 js ≡ map (λ s. get_or xs s 0) js
composed-swizzle xs js long below =
    same_number_lists (swz_l w8 8 xs 0 js) (map (λ s. get_or xs s 0) js) (length-swz_l w8 8 xs 0 js ∙ sym (length-map js (λ s. get_or xs s 0)))
    (λ k lt.
    let l : k < 8 = omega (arith, length-swz_l w8 8 xs 0 js) in
    get_or-swz_l_below w8 8 xs 0 js k (omega arith) (below k l) ∙ (ap (λ i. get_or xs i 0) (omega arith) ∙ sym (get_or-map (λ s. get_or xs s 0) js k 0 0 (omega arith))))
