-- How many tuples of each dimension there are.
use Rattle.std.proofs.Common.{◌≡◌, ℕ, zero, suc, ◌+◌, ◌-◌, ◌*◌, ◌%◌, ◌^◌, ◌≤◌, List, [], ◌∷◌, ◌++◌, Bool, true, false, cond, eqb, filter, map, length, refl, ap, ◌∙◌, arith}
use Rattle.std.specs.List.{range_with_len, flat_map}
use Rattle.std.proofs.Math.Nat.{mul-le-mul_right, pow-suc, pow-zero}
use Rattle.std.proofs.lemmas.Bool.{eq-eqb, eqb-true, ne_eqb}
use Rattle.std.proofs.lemmas.List.{length-append, length-map}
use Rattle.std.proofs.lemmas.List.Concat.{flat_map-append}
use Rattle.std.proofs.lemmas.List.Elements.{filter-append}
use Rattle.std.specs.Cmp.{both_ways}
use Rattle.tuple_spaces.specs.Tuples.{tuples, dim_of, is_odd, cells_in, numbers_in}
use Rattle.tuple_spaces.specs.Torus.{facets_round, torus_of, HasTorusCounts}
use Rattle.tuple_spaces.proofs.ListLemmas.{range-more}
use Rattle.tuple_spaces.proofs.OddCoordinates.{even-is, even_dim, odd_dim}

-- as many pass as before
length-filter-map : {A B : Type 0} (p : B → Bool) (q : A → Bool) (f : A → B) (xs : List A) → ((x : A) → p (f x) ≡ q x) → length (filter p (map f xs)) ≡ length (filter q xs)
length-filter-map p q f [] h = refl
length-filter-map p q f (x ∷ xs) h = ap (λ (b : Bool). length (cond b (f x ∷ filter p (map f xs)) (filter p (map f xs)))) (h x) ∙ by_test (q x) (length-filter-map p q f xs h)
  where
    by_test : (b : Bool) → length (filter p (map f xs)) ≡ length (filter q xs) → length (cond b (f x ∷ filter p (map f xs)) (filter p (map f xs))) ≡ length (cond b (x ∷ filter q xs) (filter q xs))
    by_test true e = omega (arith, e)
    by_test false e = e

none_pass : {A B : Type 0} (p : B → Bool) (f : A → B) (xs : List A) → ((x : A) → p (f x) ≡ false) → length (filter p (map f xs)) ≡ 0
none_pass p f [] h = refl
none_pass p f (x ∷ xs) h = ap (λ (b : Bool). length (cond b (f x ∷ filter p (map f xs)) (filter p (map f xs)))) (h x) ∙ none_pass p f xs h

-- rows of two kinds in turn
module _ {A : Type 0} (p : A → Bool) (f : ℕ → List A) (evens odds : ℕ) (h : (c : ℕ) → is_odd c ≡ false → length (filter p (f c)) ≡ evens) (g : (c : ℕ) → is_odd c ≡ true → length (filter p (f c)) ≡ odds) where
  passed-more : (n : ℕ) → length (filter p (flat_map f (range_with_len 0 (n + 1)))) ≡ length (filter p (flat_map f (range_with_len 0 n))) + length (filter p (f n))
  passed-more n =
      ap (λ (ns : List ℕ). length (filter p (flat_map f ns))) (range-more n)
      ∙ (ap (λ xs. length (filter p xs)) (flat_map-append f (range_with_len 0 n) (n ∷ []))
      ∙ (ap length (filter-append p (flat_map f (range_with_len 0 n)) (f n ++ []))
      ∙ (length-append (filter p (flat_map f (range_with_len 0 n))) (filter p (f n ++ []))
      ∙ ap (λ (k : ℕ). length (filter p (flat_map f (range_with_len 0 n))) + k)
      (ap length (filter-append p (f n) []) ∙ (length-append (filter p (f n)) [] ∙ omega arith)))))

  rows_in_turn : (n : ℕ) → length (filter p (flat_map f (range_with_len 0 (2 * n)))) ≡ n * evens + n * odds
  rows_in_turn zero = omega arith
  rows_in_turn (suc n) =
      let e : 2 * suc n ≡ 2 * n + 1 + 1 = omega arith in
      let even : is_odd (2 * n) ≡ false = even-is (2 * n) (omega arith) in
      let odd : is_odd (2 * n + 1) ≡ true = eq-eqb ((2 * n + 1) % 2) 1 (omega arith) in
      ap (λ (k : ℕ). length (filter p (flat_map f (range_with_len 0 k)))) e
      ∙ (passed-more (2 * n + 1) ∙ omega (arith, passed-more (2 * n), rows_in_turn n, h (2 * n) even, g (2 * n + 1) odd))

-- ---- the number of tuples of a size and a dimension

module _ (size : ℕ) where
  abbrev many : ℕ → ℕ → ℕ
  many n dim = length (cells_in (tuples n (2 * size)) dim)

  suc_test : (a b : ℕ) → eqb (suc a) (suc b) ≡ eqb a b
  suc_test a b = both_ways (eqb (suc a) (suc b)) (eqb a b) (λ e. eq-eqb a b (let q : suc a ≡ suc b = eqb-true (suc a) (suc b) e in omega arith)) (λ e. eq-eqb (suc a) (suc b) (let q : a ≡ b = eqb-true a b e in omega arith))

  many-suc : (n dim : ℕ) → many (suc n) (suc dim) ≡ size * many n (suc dim) + size * many n dim
  many-suc n dim =
      let ts : List (List ℕ) = tuples n (2 * size) in
      rows_in_turn (λ t. eqb (dim_of t) (suc dim)) (λ (c : ℕ). map (λ t. c ∷ t) ts) (many n (suc dim)) (many n dim)
      (λ c o. length-filter-map (λ t. eqb (dim_of t) (suc dim)) (λ t. eqb (dim_of t) (suc dim)) (λ t. c ∷ t) ts (λ t. ap (λ (k : ℕ). eqb k (suc dim)) (even_dim c t o)))
      (λ c o. length-filter-map (λ t. eqb (dim_of t) (suc dim)) (λ t. eqb (dim_of t) dim) (λ t. c ∷ t) ts (λ t. ap (λ (k : ℕ). eqb k (suc dim)) (odd_dim c t o) ∙ suc_test (dim_of t) dim)) size

  many-zero : (n : ℕ) → many (suc n) 0 ≡ size * many n 0
  many-zero n =
      let ts : List (List ℕ) = tuples n (2 * size) in
      rows_in_turn (λ t. eqb (dim_of t) 0) (λ (c : ℕ). map (λ t. c ∷ t) ts) (many n 0) 0
      (λ c o. length-filter-map (λ t. eqb (dim_of t) 0) (λ t. eqb (dim_of t) 0) (λ t. c ∷ t) ts (λ t. ap (λ (k : ℕ). eqb k 0) (even_dim c t o)))
      (λ c o. none_pass (λ t. eqb (dim_of t) 0) (λ t. c ∷ t) ts (λ t. ap (λ (k : ℕ). eqb k 0) (odd_dim c t o) ∙ ne_eqb (suc (dim_of t)) 0 (λ q. omega (arith, q)))) size
      ∙ omega arith

  one-zero : many 1 0 ≡ size
  one-zero = many-zero 0 ∙ omega arith

  one-one : many 1 1 ≡ size
  one-one = many-suc 0 0 ∙ omega arith

  -- the empty tuple has dimension 0
  point : (d : ℕ) → many 0 (suc d) ≡ 0
  point d = ap (λ (b : Bool). length {A = List ℕ} (cond b ([] ∷ []) [])) (ne_eqb 0 (suc d) (λ q. omega (arith, q)))

  one-more : (d : ℕ) → many 1 (suc (suc d)) ≡ 0
  one-more d = many-suc 0 (suc d) ∙ (ap (λ (k : ℕ). size * k + size * many 0 (suc d)) (point (suc d)) ∙ (ap (λ (k : ℕ). size * 0 + size * k) (point d) ∙ omega arith))

  two-zero : many 2 0 ≡ size * size
  two-zero = many-zero 1 ∙ ap (λ (k : ℕ). size * k) one-zero

  two-one : many 2 1 ≡ 2 * (size * size)
  two-one = many-suc 1 0 ∙ (ap (λ (k : ℕ). size * k + size * many 1 0) one-one ∙ (ap (λ (k : ℕ). size * size + size * k) one-zero ∙ omega arith))

  two-two : many 2 2 ≡ size * size
  two-two = many-suc 1 1 ∙ (ap (λ (k : ℕ). size * k + size * many 1 1) (one-more 0) ∙ (ap (λ (k : ℕ). size * 0 + size * k) one-one ∙ omega arith))

  two-three : many 2 3 ≡ 0
  two-three = many-suc 1 2 ∙ (ap (λ (k : ℕ). size * k + size * many 1 2) (one-more 1) ∙ (ap (λ (k : ℕ). size * 0 + size * k) (one-more 0) ∙ omega arith))

  cube-is : size ^ 3 ≡ size * size * size
  cube-is = pow-suc size 2 ∙ ap (λ (k : ℕ). k * size) (pow-suc size 1 ∙ ap (λ (k : ℕ). k * size) (pow-suc size 0 ∙ (ap (λ (k : ℕ). k * size) (pow-zero size) ∙ omega arith)))

  pub many-vertices : many 3 0 ≡ size ^ 3
  many-vertices = many-zero 2 ∙ (ap (λ (k : ℕ). size * k) two-zero ∙ omega (arith, cube-is))

  pub many-edges : many 3 1 ≡ 3 * size ^ 3
  many-edges = many-suc 2 0 ∙ (ap (λ (k : ℕ). size * k + size * many 2 0) two-one ∙ (ap (λ (k : ℕ). size * (2 * (size * size)) + size * k) two-zero ∙ omega (arith, cube-is)))

  pub many-squares : many 3 2 ≡ 3 * size ^ 3
  many-squares = many-suc 2 1 ∙ (ap (λ (k : ℕ). size * k + size * many 2 1) two-two ∙ (ap (λ (k : ℕ). size * (size * size) + size * k) two-one ∙ omega (arith, cube-is)))

  pub many-cubes : many 3 3 ≡ size ^ 3
  many-cubes = many-suc 2 2 ∙ (ap (λ (k : ℕ). size * k + size * many 2 2) two-three ∙ (ap (λ (k : ℕ). size * 0 + size * k) two-two ∙ omega (arith, cube-is)))

  pub torus_counts : HasTorusCounts size (torus_of size)
  torus_counts =
      record { vertices = long 0 ∙ many-vertices; edges = long 1 ∙ many-edges; squares = long 2 ∙ many-squares; cubes = long 3 ∙ many-cubes }
    where
      long : (dim : ℕ) → length (map (λ t. numbers_in (cells_in (tuples 3 (2 * size)) (dim - 1)) (facets_round (2 * size) t)) (cells_in (tuples 3 (2 * size)) dim)) ≡ length (cells_in (tuples 3 (2 * size)) dim)
      long dim = length-map (cells_in (tuples 3 (2 * size)) dim) (λ t. numbers_in (cells_in (tuples 3 (2 * size)) (dim - 1)) (facets_round (2 * size) t))

  pub some_vertex : 1 ≤ size → 1 ≤ size ^ 3
  some_vertex h =
      let a : 1 * size ≤ size * size = mul-le-mul_right size h in
      let b : 1 * size ≤ size * size * size = mul-le-mul_right size (let c : 1 ≤ size * size = omega (arith, a, h) in c) in
      omega (arith, b, h, cube-is)
