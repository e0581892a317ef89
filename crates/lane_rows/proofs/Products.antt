-- Sums of products, a part after a part.
use Rattle.std.proofs.Common.{◌≡◌, ℕ, suc, ◌+◌, ◌*◌, ◌<◌, ◌≤◌, List, [], ◌∷◌, ◌++◌, length, sum, drop, get_or, T, true, ◌&&◌, Fits, w8, ap₂, refl, ap, sym, ◌∙◌, arith, zero-add}
use Rattle.std.specs.Simd.Lanes.{sum_l, products, dots, pair_sums, all_below, fold_l, Each1}
use Rattle.std.proofs.lemmas.Bool.{lt-ltb}
use Rattle.std.proofs.lemmas.Float.{T_from_true}
use Rattle.std.proofs.lemmas.List.Sums.{sum_by_from}
use Rattle.std.proofs.lemmas.Simd.{chunk-drop, length-chunk, sum_bound, sum_dots, fold-sum, length-zip2, Each1-from_get_or, Each1-zip2, Each2-of, dot4_Fits}
use Rattle.std.proofs.Math.Nat.{mul-le-mul}
use Rattle.lane_rows.specs.Lanes.{zip2, chunk}

pub sum-cons : (x : ℕ) (xs : List ℕ) → sum (x ∷ xs) ≡ x + sum xs
sum-cons x xs = sum_by_from (λ n. n) (0 + x) xs ∙ ap (λ n. n + sum xs) (zero-add x)

pub sum-sum_l : (xs : List ℕ) → sum xs ≡ sum_l xs
sum-sum_l [] = refl
sum-sum_l (x ∷ xs) = sum-cons x xs ∙ ap (λ n. x + n) (sum-sum_l xs)

abbrev of_two : List ℕ → List ℕ → ℕ
of_two xs ys = sum (zip2 (λ x y. x * y) xs ys)

of_two-append : (a c b d : List ℕ) → length a ≡ length c → of_two (a ++ b) (c ++ d) ≡ of_two a c + of_two b d
of_two-append [] [] b d same = sym (zero-add (of_two b d))
of_two-append [] (y ∷ c) b d same = absurd (omega arith)
of_two-append (x ∷ a) [] b d same = absurd (omega arith)
of_two-append (x ∷ a) (y ∷ c) b d same =
    let rest : of_two (a ++ b) (c ++ d) ≡ of_two a c + of_two b d = of_two-append a c b d (omega arith) in
    let whole : of_two (x ∷ a ++ b) (y ∷ c ++ d) ≡ x * y + of_two (a ++ b) (c ++ d) = sum-cons (x * y) (zip2 (λ x y. x * y) (a ++ b) (c ++ d)) in
    let first : of_two (x ∷ a) (y ∷ c) ≡ x * y + of_two a c = sum-cons (x * y) (zip2 (λ x y. x * y) a c) in
    omega arith

-- the products from place i on are those of sixteen places and those after them
pub chunk_of_products : (xs ys : List ℕ) (i : ℕ) → i + 16 ≤ length xs → length xs ≡ length ys
    → of_two (drop i xs) (drop i ys) ≡ of_two (chunk i 16 xs) (chunk i 16 ys) + of_two (drop (i + 16) xs) (drop (i + 16) ys)
chunk_of_products xs ys i room same =
    ap (λ l. of_two l (drop i ys)) (chunk-drop i 16 xs)
    ∙ (ap (λ l. of_two (chunk i 16 xs ++ drop (i + 16) xs) l) (chunk-drop i 16 ys)
    ∙ of_two-append (chunk i 16 xs) (chunk i 16 ys) (drop (i + 16) xs) (drop (i + 16) ys) (length-chunk i 16 xs room ∙ sym (length-chunk i 16 ys (omega arith))))

-- sixteen places more
pub whole_next : (xs ys : List ℕ) (total more i next : ℕ) → next ≡ i + 16 → total + of_two (drop i xs) (drop i ys) ≡ of_two xs ys
    → of_two (drop i xs) (drop i ys) ≡ of_two (chunk i 16 xs) (chunk i 16 ys) + of_two (drop (i + 16) xs) (drop (i + 16) ys) → more ≡ of_two (chunk i 16 xs) (chunk i 16 ys)
    → total + more + of_two (drop next xs) (drop next ys) ≡ of_two xs ys
whole_next xs ys total more i next e whole step is =
    ap (λ n. total + more + of_two (drop n xs) (drop n ys)) e ∙ omega arith

all_below_true : (n : ℕ) (xs : List ℕ) → ((k : ℕ) → k < length xs → get_or xs k 0 < n) → all_below n xs ≡ true
all_below_true n [] h = refl
all_below_true n (x ∷ xs) h = ap₂ (λ a b. a && b) (lt-ltb x n (h 0 (omega arith))) (all_below_true n xs (λ k lt. h (suc k) (omega arith)))

module _ (xs ys : List ℕ) (longx : length xs ≡ 16) (longy : length ys ≡ 16) (smallx : (k : ℕ) → k < 16 → get_or xs k 0 < 13) (smally : (k : ℕ) → k < 16 → get_or ys k 0 < 13) where
  pub all_small : (n : ℕ) → 13 ≤ n → T (all_below n ys)
  all_small n le = T_from_true (all_below n ys) (all_below_true n ys (λ k lt. let y : get_or ys k 0 < 13 = smally k (omega arith) in omega arith))

  pub dot_fits : Each1 (Fits w8) xs → T (all_below 32768 (pair_sums (products xs ys)))
  dot_fits fits = dot4_Fits xs ys fits (all_small 65 (omega arith))

  each_product : Each1 (λ p. p ≤ 169) (products xs ys)
  each_product =
      Each1-zip2 (λ x y. x * y) (λ p. p ≤ 169) xs ys
      (Each2-of (λ x. x ≤ 13) (λ y. y ≤ 13) (λ x y. x * y ≤ 169) (λ a b p q. mul-le-mul p q) xs ys
      (Each1-from_get_or (λ x. x ≤ 13) xs 0 (λ k lt. let x : get_or xs k 0 < 13 = smallx k (omega arith) in omega arith))
      (Each1-from_get_or (λ y. y ≤ 13) ys 0 (λ k lt. let y : get_or ys k 0 < 13 = smally k (omega arith) in omega arith)))

  pub dots_small : sum_l (dots xs ys) ≤ 16 * 169
  dots_small =
      let bound : sum_l (products xs ys) ≤ 169 * length (products xs ys) = sum_bound 169 (products xs ys) each_product in
      let long : length (products xs ys) ≡ 16 = length-zip2 (λ x y. x * y) xs ys (longx ∙ sym longy) ∙ longx in
      let same : sum_l (dots xs ys) ≡ sum_l (products xs ys) = (sum_dots 4 xs ys longx longy).0 in
      omega (arith, ap (λ n. 169 * n) long)

  pub dots_are : fold_l (λ s x. s + x) 0 (dots xs ys) ≡ of_two xs ys
  dots_are = fold-sum 0 (dots xs ys) ∙ (zero-add (sum_l (dots xs ys)) ∙ ((sum_dots 4 xs ys longx longy).0 ∙ sym (sum-sum_l (products xs ys))))

  pub fold_small : fold_l (λ s x. s + x) 0 (dots xs ys) ≤ 16 * 169
  fold_small = let is : fold_l (λ s x. s + x) 0 (dots xs ys) ≡ 0 + sum_l (dots xs ys) = fold-sum 0 (dots xs ys) in omega (arith, dots_small)
