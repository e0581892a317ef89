use Rattle.std.proofs.Common.{◌≡◌, ◌≢◌, ℕ, zero, suc, ◌+◌, ◌*◌, ◌<◌, List, [], ◌∷◌, length, sum, drop, get_or, Some, None, true, false, not, ◌==◌, refl, ap, ◌∙◌, arith, zero-add}
use Rattle.std.specs.List.{position_or_len}
use Rattle.std.proofs.lemmas.List.Sums.{position_or_len_is, sum_by_from}
use Rattle.std.proofs.lemmas.Bool.{lt-ltb}
use Rattle.std.proofs.lemmas.Bool.Decides.{nat_tests}
use Rattle.lane_rows.specs.Lanes.{zip2, first_place}

-- the products from place i on are the one at i and those after it
pub products_from : (xs ys : List ℕ) (i : ℕ) → i < length xs → length xs ≡ length ys → sum (zip2 (λ x y. x * y) (drop i xs) (drop i ys)) ≡ get_or xs i 0 * get_or ys i 0 + sum (zip2 (λ x y. x * y) (drop (suc i) xs) (drop (suc i) ys))
products_from [] ys i lt same = absurd (omega arith)
products_from (x ∷ xs) [] i lt same = absurd (omega arith)
products_from (x ∷ xs) (y ∷ ys) zero lt same = sum_by_from (λ n. n) (0 + x * y) (zip2 (λ a b. a * b) xs ys) ∙ ap (λ n. n + sum (zip2 (λ a b. a * b) xs ys)) (zero-add (x * y))
products_from (x ∷ xs) (y ∷ ys) (suc i) lt same = products_from xs ys i (omega arith) (omega arith)

is_zero_fails : (n : ℕ) → n ≡ 0 → not (n == 0) ≡ false
is_zero_fails n h = grind (arith, nat_tests)

is_nonzero_passes : (n : ℕ) → n ≢ 0 → not (n == 0) ≡ true
is_nonzero_passes n h = grind (arith, nat_tests)

-- the first number that is not 0 stands at place i
pub place_found : (xs : List ℕ) (i : ℕ) → i < length xs → ((k : ℕ) → k < i → get_or xs k 0 ≡ 0) → get_or xs i 0 ≢ 0 → first_place xs ≡ Some i
place_found xs i lt before here =
    let is : position_or_len (λ x. not (x == 0)) xs ≡ i =
    position_or_len_is (λ x. not (x == 0)) xs i 0 (omega arith) (λ k h. is_zero_fails (get_or xs k 0) (before k h)) (λ _. is_nonzero_passes (get_or xs i 0) here) in
    rw (is, lt-ltb i (length xs) lt) refl

-- each number is 0
pub place_missing : (xs : List ℕ) → ((k : ℕ) → k < length xs → get_or xs k 0 ≡ 0) → first_place xs ≡ None
place_missing xs none =
    let is : position_or_len (λ x. not (x == 0)) xs ≡ length xs =
    position_or_len_is (λ x. not (x == 0)) xs (length xs) 0 (omega arith) (λ k h. is_zero_fails (get_or xs k 0) (none k h)) (λ lt. absurd (omega arith)) in
    rw is (grind (arith, nat_tests))
