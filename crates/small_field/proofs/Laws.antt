use Rattle.std.proofs.Common.{◌≡◌, ◌≢◌, ℕ, zero, suc, ◌<◌, List, [], ◌∷◌, ◌++◌, length, map, get_or, set, get_or-set_same, get_or-set_other, length-set, refl, ap, sym, ◌∙◌, arith, subst}
use Rattle.std.specs.List.{swap}
use Rattle.std.specs.List.Sorted.{IsPermutation, apply_swaps, SwapsInRange}
use Rattle.std.proofs.lemmas.List.{get_or_default}
use Rattle.std.proofs.lemmas.List.Edits.{length-swap}
use native.Mathlib.Decide.{dec_lt}
use Prim.{yes, no}
use Rattle.lane_rows.specs.Lanes.{zip2}
use Rattle.small_field.specs.Field.{Ops, IsField}
use Rattle.small_field.specs.Laws.{total, FurtherLaws}

module _ (k : Ops) (f : IsField k) where
  pub zero_below : 0 < k.size
  zero_below = let h : 1 < k.size = f.one_below in omega arith

  pub add_zero : (x : ℕ) → x < k.size → k.add x 0 ≡ x
  add_zero x h = f.add_comm x 0 ∙ f.zero_add x h

  -- what is its own double is zero
  pub double_is_zero : (m : ℕ) → m < k.size → m ≡ k.add m m → m ≡ 0
  double_is_zero m h e =
      sym (add_zero m h) ∙ (ap (λ n. k.add m n) (sym (f.add_neg m)) ∙ (sym (f.add_assoc m m (k.neg m)) ∙ (ap (λ n. k.add n (k.neg m)) (sym e) ∙ f.add_neg m)))

  pub mul_zero : (x : ℕ) → k.mul x 0 ≡ 0
  mul_zero x = double_is_zero (k.mul x 0) (f.mul_below x 0) (ap (λ n. k.mul x n) (sym (f.zero_add 0 zero_below)) ∙ f.mul_add x 0 0)

  pub zero_mul : (x : ℕ) → k.mul 0 x ≡ 0
  zero_mul x = f.mul_comm 0 x ∙ mul_zero x

  -- (a + b) + (c + d) is (a + c) + (b + d)
  pub add_swap : (a b c d : ℕ) → k.add (k.add a b) (k.add c d) ≡ k.add (k.add a c) (k.add b d)
  add_swap a b c d =
      f.add_assoc a b (k.add c d) ∙ (ap (λ n. k.add a n) (sym (f.add_assoc b c d) ∙ (ap (λ n. k.add n d) (f.add_comm b c) ∙ f.add_assoc c b d)) ∙ sym (f.add_assoc a c (k.add b d)))

  pub add_mul : (x y z : ℕ) → k.mul (k.add x y) z ≡ k.add (k.mul x z) (k.mul y z)
  add_mul x y z = f.mul_comm (k.add x y) z ∙ (f.mul_add z x y ∙ (ap (λ n. k.add n (k.mul z y)) (f.mul_comm z x) ∙ ap (λ n. k.add (k.mul x z) n) (f.mul_comm z y)))

  -- a negative is the only one
  pub neg_unique : (x y : ℕ) → y < k.size → k.add x y ≡ 0 → y ≡ k.neg x
  neg_unique x y h e =
      sym (f.zero_add y h) ∙ (ap (λ n. k.add n y) (sym (f.add_neg x) ∙ f.add_comm x (k.neg x)) ∙ (f.add_assoc (k.neg x) x y ∙ (ap (λ n. k.add (k.neg x) n) e ∙ add_zero (k.neg x) (f.neg_below x))))

  pub mul_neg : (x y : ℕ) → k.mul x (k.neg y) ≡ k.neg (k.mul x y)
  mul_neg x y = neg_unique (k.mul x y) (k.mul x (k.neg y)) (f.mul_below x (k.neg y)) (sym (f.mul_add x y (k.neg y)) ∙ (ap (λ n. k.mul x n) (f.add_neg y) ∙ mul_zero x))

  pub neg_mul : (x y : ℕ) → k.mul (k.neg x) y ≡ k.neg (k.mul x y)
  neg_mul x y = f.mul_comm (k.neg x) y ∙ (mul_neg y x ∙ ap k.neg (f.mul_comm y x))

  pub neg_zero : k.neg 0 ≡ 0
  neg_zero = sym (neg_unique 0 0 zero_below (f.zero_add 0 zero_below))

  pub neg_add : (a b : ℕ) → k.neg (k.add a b) ≡ k.add (k.neg a) (k.neg b)
  neg_add a b =
      sym (neg_unique (k.add a b) (k.add (k.neg a) (k.neg b)) (f.add_below (k.neg a) (k.neg b))
      (add_swap a b (k.neg a) (k.neg b) ∙ (ap (λ n. k.add n (k.add b (k.neg b))) (f.add_neg a) ∙ (ap (λ n. k.add 0 n) (f.add_neg b) ∙ f.zero_add 0 zero_below))))

  pub neg_neg : (x : ℕ) → x < k.size → k.neg (k.neg x) ≡ x
  neg_neg x h = sym (neg_unique (k.neg x) x h (f.add_comm (k.neg x) x ∙ f.add_neg x))

  pub inv_mul : (x : ℕ) → x < k.size → x ≢ 0 → k.mul (k.inv x) x ≡ 1
  inv_mul x h ne = f.mul_comm (k.inv x) x ∙ f.mul_inv x h ne

  -- what was added, and what was multiplied by, taken back
  pub add_back : (x y : ℕ) → y < k.size → k.add (k.neg x) (k.add x y) ≡ y
  add_back x y h = sym (f.add_assoc (k.neg x) x y) ∙ (ap (λ n. k.add n y) (f.add_comm (k.neg x) x ∙ f.add_neg x) ∙ f.zero_add y h)

  pub mul_back : (x y : ℕ) → x < k.size → x ≢ 0 → y < k.size → k.mul (k.inv x) (k.mul x y) ≡ y
  mul_back x y lx ne ly = sym (f.mul_assoc (k.inv x) x y) ∙ (ap (λ n. k.mul n y) (inv_mul x lx ne) ∙ f.one_mul y ly)

  pub add_cancel : (x y z : ℕ) → y < k.size → z < k.size → k.add x y ≡ k.add x z → y ≡ z
  add_cancel x y z ly lz e = sym (add_back x y ly) ∙ (ap (k.add (k.neg x)) e ∙ add_back x z lz)

  pub mul_cancel : (x y z : ℕ) → x < k.size → x ≢ 0 → y < k.size → z < k.size → k.mul x y ≡ k.mul x z → y ≡ z
  mul_cancel x y z lx ne ly lz e = sym (mul_back x y lx ne ly) ∙ (ap (k.mul (k.inv x)) e ∙ mul_back x z lx ne lz)

  -- a product is zero
  pub factor_zero : (a x : ℕ) → a < k.size → a ≢ 0 → x < k.size → k.mul a x ≡ 0 → x ≡ 0
  factor_zero a x la ne lx e = sym (mul_back a x la ne lx) ∙ (ap (k.mul (k.inv a)) e ∙ mul_zero (k.inv a))

  -- sums over lists
  pub total_below : (xs : List ℕ) → total k xs < k.size
  total_below [] = zero_below
  total_below (x ∷ xs) = f.add_below x (total k xs)

  pub total-append : (xs ys : List ℕ) → total k (xs ++ ys) ≡ k.add (total k xs) (total k ys)
  total-append [] ys = sym (f.zero_add (total k ys) (total_below ys))
  total-append (x ∷ xs) ys = ap (k.add x) (total-append xs ys) ∙ sym (f.add_assoc x (total k xs) (total k ys))

  pub total-sums : (xs ys : List ℕ) → length xs ≡ length ys → total k (zip2 k.add xs ys) ≡ k.add (total k xs) (total k ys)
  total-sums [] [] same = sym (f.zero_add 0 zero_below)
  total-sums [] (y ∷ ys) same = absurd (omega arith)
  total-sums (x ∷ xs) [] same = absurd (omega arith)
  total-sums (x ∷ xs) (y ∷ ys) same = ap (k.add (k.add x y)) (total-sums xs ys (omega arith)) ∙ add_swap x y (total k xs) (total k ys)

  pub mul_total : (x : ℕ) (ys : List ℕ) → k.mul x (total k ys) ≡ total k (map (k.mul x) ys)
  mul_total x [] = mul_zero x
  mul_total x (y ∷ ys) = f.mul_add x y (total k ys) ∙ ap (k.add (k.mul x y)) (mul_total x ys)

  pub neg_total : (xs : List ℕ) → k.neg (total k xs) ≡ total k (map k.neg xs)
  neg_total [] = neg_zero
  neg_total (x ∷ xs) = neg_add x (total k xs) ∙ ap (k.add (k.neg x)) (neg_total xs)

  -- one number is put in the place of another
  exchange : (a b c : ℕ) → k.add (k.add a b) c ≡ k.add (k.add c b) a
  exchange a b c = f.add_comm (k.add a b) c ∙ (ap (k.add c) (f.add_comm a b) ∙ sym (f.add_assoc c b a))

  pub total-set : (xs : List ℕ) (i v : ℕ) → i < length xs → k.add (total k (set xs i v)) (get_or xs i 0) ≡ k.add (total k xs) v
  total-set [] i v lt = absurd (omega arith)
  total-set (x ∷ xs) zero v lt = exchange v (total k xs) x
  total-set (x ∷ xs) (suc i) v lt =
      f.add_assoc x (total k (set xs i v)) (get_or xs i 0) ∙ (ap (k.add x) (total-set xs i v (omega arith)) ∙ sym (f.add_assoc x (total k xs) v))

  placed : (xs : List ℕ) (i j : ℕ) → i < length xs → j < length xs → get_or (set xs i (get_or xs j 0)) j 0 ≡ get_or xs j 0
  placed xs i j li lj =
      elim (dec_lt i j) [
        | yes l ↦ let ne : j ≢ i = omega arith in get_or-set_other xs i j (get_or xs j 0) 0 ne
        | no m ↦
            elim (dec_lt j i) [
              | yes l ↦ let ne : j ≢ i = omega arith in get_or-set_other xs i j (get_or xs j 0) 0 ne
              | no n ↦
                  let e : i ≡ j = omega arith in
                  subst (λ (p : ℕ). get_or (set xs p (get_or xs j 0)) j 0 ≡ get_or xs j 0) (sym e) (get_or-set_same xs j (get_or xs j 0) 0 lj)
            ]
      ]

  total-exchanged : (xs : List ℕ) (i j : ℕ) → i < length xs → j < length xs → total k (set (set xs i (get_or xs j 0)) j (get_or xs i 0)) ≡ total k xs
  total-exchanged xs i j li lj =
      let x : ℕ = get_or xs i 0 in
      let y : ℕ = get_or xs j 0 in
      let A : List ℕ = set xs i y in
      let B : List ℕ = set A j x in
      let la : j < length A = omega (arith, length-set {A = ℕ}) in
      let last : k.add (total k B) y ≡ k.add (total k A) x = ap (k.add (total k B)) (sym (placed xs i j li lj)) ∙ total-set A j x la in
      let both : k.add (total k B) y ≡ k.add (total k xs) y = last ∙ total-set xs i y li in
      add_cancel y (total k B) (total k xs) (total_below B) (total_below xs) (f.add_comm y (total k B) ∙ (both ∙ f.add_comm (total k xs) y))

  total-swap : (xs : List ℕ) (i j : ℕ) → i < length xs → j < length xs → total k (swap xs i j) ≡ total k xs
  total-swap [] i j li lj = refl
  total-swap (d ∷ xs) i j li lj =
      ap (λ (v : ℕ). total k (set (set (d ∷ xs) i v) j (get_or (d ∷ xs) i d))) (get_or_default (d ∷ xs) j d 0 lj)
      ∙ (ap (λ (v : ℕ). total k (set (set (d ∷ xs) i (get_or (d ∷ xs) j 0)) j v)) (get_or_default (d ∷ xs) i d 0 li) ∙ total-exchanged (d ∷ xs) i j li lj)

  total-swaps : (xs : List ℕ) (ms : List (ℕ × ℕ)) → SwapsInRange (length xs) ms → (length (apply_swaps xs ms) ≡ length xs) × (total k (apply_swaps xs ms) ≡ total k xs)
  total-swaps xs [] h = (refl, refl)
  total-swaps xs (m ∷ ms) h =
      let r : (length (apply_swaps xs ms) ≡ length xs) × (total k (apply_swaps xs ms) ≡ total k xs) = total-swaps xs ms h.2 in (
        length-swap (apply_swaps xs ms) m.0 m.1 ∙ r.0,
        total-swap (apply_swaps xs ms) m.0 m.1 (subst (λ (n : ℕ). m.0 < n) (sym r.0) h.0) (subst (λ (n : ℕ). m.1 < n) (sym r.0) h.1) ∙ r.1,
      )

  -- in another order
  pub total-rearranged : (xs ys : List ℕ) → IsPermutation xs ys → total k ys ≡ total k xs
  total-rearranged xs ys h = ap (total k) h.is ∙ (total-swaps xs h.moves h.below).1

  pub further_laws : FurtherLaws k
  further_laws = record {
    mul_zero = mul_zero;
    neg_zero = neg_zero;
    neg_neg = neg_neg;
    neg_add = neg_add;
    mul_neg = mul_neg;
    add_cancel = add_cancel;
    mul_cancel = mul_cancel;
    no_zero_divisor = factor_zero;
    total-append = total-append;
    total-rearranged = total-rearranged;
    total-sums = total-sums;
    mul_total = mul_total;
    neg_total = neg_total;
  }
