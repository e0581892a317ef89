-- The laws of a field by trying all elements, where the operations read each number modulo the size. This is a law with
-- its proof, beside the definitions since a law of an impl may cite a file of specs alone.
--   all_below n test         each number below n passes the test
--   is_field k               the laws of a field hold for the numbers below the size
--   Wraps k                  sum, product and negative read a number modulo the size, and inverses are below it
--   tried_field k            where both are so, k has the laws of a field
--   four_field, nine_field   the fields of 4 and of 9 elements have them
use Rattle.std.proofs.Common.{◌≡◌, ℕ, ◌+◌, ◌*◌, ◌/◌, ◌<◌, ◌%◌, Bool, true, ◌||◌, ◌&&◌, ◌==◌, ltb, ◌-◌, List, arith, lit<, ap, sym, ◌∙◌, subst, refl}
use Rattle.std.specs.Prelude.{slice_index}
use Rattle.std.proofs.Math.Nat.{mod-add-div, mod-mod_of_dvd, dvd-mul_right, add-mul-div_right, add-mul-mod_self_left, mod-eq_of_lt, mul-pos}
use Rattle.std.proofs.lemmas.Nat.{mod_below}
use Rattle.std.proofs.lemmas.Bool.{agree_below, agree_below_at, and_parts, eqb-true, ltb-true}
use Rattle.std.proofs.lemmas.Bool.Decides.{nat_tests}
use Rattle.small_field.specs.Field.{Ops, IsField}
use Rattle.small_field.specs.Quadratic.{constant_of, linear_of, number_of_sum, quadratic, four, four_inverses, nine, nine_inverses}

abbrev pub all_below : ℕ → (ℕ → Bool) → Bool
all_below n test = agree_below test (λ _. true) n

pub passes : (n : ℕ) (test : ℕ → Bool) (x : ℕ) → all_below n test ≡ true → x < n → test x ≡ true
passes n test x h lt = agree_below_at test (λ _. true) n x h lt

abbrev pub is_field_at : Ops → ℕ → ℕ → ℕ → Bool
is_field_at k x y z =
    (k.add (k.add x y) z == k.add x (k.add y z)) && ((k.mul (k.mul x y) z == k.mul x (k.mul y z)) && (k.mul x (k.add y z) == k.add (k.mul x y) (k.mul x z)))

abbrev pub is_field_of_two : Ops → ℕ → ℕ → Bool
is_field_of_two k x y = (k.add x y == k.add y x) && ((k.mul x y == k.mul y x) && (ltb (k.add x y) k.size && ltb (k.mul x y) k.size))

abbrev pub is_field_of_one : Ops → ℕ → Bool
is_field_of_one k x = (k.add x (k.neg x) == 0) && ((k.add 0 x == x) && ((k.mul 1 x == x) && (ltb (k.neg x) k.size && ((x == 0) || (k.mul x (k.inv x) == 1)))))

abbrev pub at_two : Ops → ℕ → ℕ → Bool
at_two k x y = is_field_of_two k x y && all_below k.size (is_field_at k x y)

abbrev pub at_one : Ops → ℕ → Bool
at_one k x = is_field_of_one k x && all_below k.size (at_two k x)

abbrev pub is_field : Ops → Bool
is_field k = all_below k.size (at_one k)

pub record Wraps (k : Ops) : Type 0 where
  pub add : (x y : ℕ) → k.add x y ≡ k.add (x % k.size) (y % k.size)
  pub mul : (x y : ℕ) → k.mul x y ≡ k.mul (x % k.size) (y % k.size)
  pub neg : (x : ℕ) → k.neg x ≡ k.neg (x % k.size)
  pub inv : (x : ℕ) → k.inv x < k.size

pub record AtOne (k : Ops) (x : ℕ) : Type 0 where
  pub add_neg : k.add x (k.neg x) ≡ 0
  pub zero_add : k.add 0 x ≡ x
  pub one_mul : k.mul 1 x ≡ x
  pub neg_below : k.neg x < k.size
  pub mul_inv : ((x == 0) || (k.mul x (k.inv x) == 1)) ≡ true

one_from : (k : Ops) (x : ℕ) → is_field_of_one k x ≡ true → AtOne k x
one_from k x h =
    let a = and_parts (k.add x (k.neg x) == 0) ((k.add 0 x == x) && ((k.mul 1 x == x) && (ltb (k.neg x) k.size && ((x == 0) || (k.mul x (k.inv x) == 1))))) h in
    let b = and_parts (k.add 0 x == x) ((k.mul 1 x == x) && (ltb (k.neg x) k.size && ((x == 0) || (k.mul x (k.inv x) == 1)))) a.1 in
    let c = and_parts (k.mul 1 x == x) (ltb (k.neg x) k.size && ((x == 0) || (k.mul x (k.inv x) == 1))) b.1 in
    let d = and_parts (ltb (k.neg x) k.size) ((x == 0) || (k.mul x (k.inv x) == 1)) c.1 in
    record {
      add_neg = eqb-true (k.add x (k.neg x)) 0 a.0;
      zero_add = eqb-true (k.add 0 x) x b.0;
      one_mul = eqb-true (k.mul 1 x) x c.0;
      neg_below = ltb-true (k.neg x) k.size d.0;
      mul_inv = d.1;
    }

pub record AtTwo (k : Ops) (x y : ℕ) : Type 0 where
  pub add_comm : k.add x y ≡ k.add y x
  pub mul_comm : k.mul x y ≡ k.mul y x
  pub add_below : k.add x y < k.size
  pub mul_below : k.mul x y < k.size

two_from : (k : Ops) (x y : ℕ) → is_field_of_two k x y ≡ true → AtTwo k x y
two_from k x y h =
    let a = and_parts (k.add x y == k.add y x) ((k.mul x y == k.mul y x) && (ltb (k.add x y) k.size && ltb (k.mul x y) k.size)) h in
    let b = and_parts (k.mul x y == k.mul y x) (ltb (k.add x y) k.size && ltb (k.mul x y) k.size) a.1 in
    let c = and_parts (ltb (k.add x y) k.size) (ltb (k.mul x y) k.size) b.1 in
    record {
      add_comm = eqb-true (k.add x y) (k.add y x) a.0;
      mul_comm = eqb-true (k.mul x y) (k.mul y x) b.0;
      add_below = ltb-true (k.add x y) k.size c.0;
      mul_below = ltb-true (k.mul x y) k.size c.1;
    }

pub record AtThree (k : Ops) (x y z : ℕ) : Type 0 where
  pub add_assoc : k.add (k.add x y) z ≡ k.add x (k.add y z)
  pub mul_assoc : k.mul (k.mul x y) z ≡ k.mul x (k.mul y z)
  pub mul_add : k.mul x (k.add y z) ≡ k.add (k.mul x y) (k.mul x z)

three_from : (k : Ops) (x y z : ℕ) → is_field_at k x y z ≡ true → AtThree k x y z
three_from k x y z h =
    let a = and_parts (k.add (k.add x y) z == k.add x (k.add y z)) ((k.mul (k.mul x y) z == k.mul x (k.mul y z)) && (k.mul x (k.add y z) == k.add (k.mul x y) (k.mul x z))) h in
    let b = and_parts (k.mul (k.mul x y) z == k.mul x (k.mul y z)) (k.mul x (k.add y z) == k.add (k.mul x y) (k.mul x z)) a.1 in
    record {
      add_assoc = eqb-true (k.add (k.add x y) z) (k.add x (k.add y z)) a.0;
      mul_assoc = eqb-true (k.mul (k.mul x y) z) (k.mul x (k.mul y z)) b.0;
      mul_add = eqb-true (k.mul x (k.add y z)) (k.add (k.mul x y) (k.mul x z)) b.1;
    }

module _ (k : Ops) (large : 1 < k.size) (wraps : Wraps k) (works : is_field k ≡ true) where
  below : (x : ℕ) → x % k.size < k.size
  below x = mod_below x k.size (omega arith)

  again : (x : ℕ) → (x % k.size) % k.size ≡ x % k.size
  again x = mod-eq_of_lt (below x)

  of_one : (x : ℕ) → x < k.size → AtOne k x
  of_one x lx = one_from k x (and_parts (is_field_of_one k x) (all_below k.size (at_two k x)) (passes k.size (at_one k) x works lx)).0

  row_of : (x y : ℕ) → x < k.size → y < k.size → at_two k x y ≡ true
  row_of x y lx ly = passes k.size (at_two k x) y (and_parts (is_field_of_one k x) (all_below k.size (at_two k x)) (passes k.size (at_one k) x works lx)).1 ly

  of_two : (x y : ℕ) → AtTwo k (x % k.size) (y % k.size)
  of_two x y =
      two_from k (x % k.size) (y % k.size)
      (and_parts (is_field_of_two k (x % k.size) (y % k.size)) (all_below k.size (is_field_at k (x % k.size) (y % k.size))) (row_of (x % k.size) (y % k.size) (below x) (below y))).0

  of_three : (x y z : ℕ) → AtThree k (x % k.size) (y % k.size) (z % k.size)
  of_three x y z =
      three_from k (x % k.size) (y % k.size) (z % k.size)
      (passes k.size (is_field_at k (x % k.size) (y % k.size)) (z % k.size)
      (and_parts (is_field_of_two k (x % k.size) (y % k.size)) (all_below k.size (is_field_at k (x % k.size) (y % k.size))) (row_of (x % k.size) (y % k.size) (below x) (below y))).1
      (below z))

  add_left : (x y : ℕ) → k.add x y ≡ k.add (x % k.size) y
  add_left x y = wraps.add x y ∙ sym (wraps.add (x % k.size) y ∙ ap (λ i. k.add i (y % k.size)) (again x))

  add_right : (x y : ℕ) → k.add x y ≡ k.add x (y % k.size)
  add_right x y = wraps.add x y ∙ sym (wraps.add x (y % k.size) ∙ ap (λ i. k.add (x % k.size) i) (again y))

  mul_left : (x y : ℕ) → k.mul x y ≡ k.mul (x % k.size) y
  mul_left x y = wraps.mul x y ∙ sym (wraps.mul (x % k.size) y ∙ ap (λ i. k.mul i (y % k.size)) (again x))

  mul_right : (x y : ℕ) → k.mul x y ≡ k.mul x (y % k.size)
  mul_right x y = wraps.mul x y ∙ sym (wraps.mul x (y % k.size) ∙ ap (λ i. k.mul (x % k.size) i) (again y))

  pub tried_field : IsField k
  tried_field = record {
    one_below = large;
    add_below = λ x y. subst (λ i. i < k.size) (sym (wraps.add x y)) (of_two x y).add_below;
    mul_below = λ x y. subst (λ i. i < k.size) (sym (wraps.mul x y)) (of_two x y).mul_below;
    neg_below = λ x. subst (λ i. i < k.size) (sym (wraps.neg x)) (of_one (x % k.size) (below x)).neg_below;
    inv_below = wraps.inv;
    add_assoc = λ x y z.
        ap (λ i. k.add i z) (wraps.add x y)
        ∙ (add_right (k.add (x % k.size) (y % k.size)) z
        ∙ ((of_three x y z).add_assoc ∙ sym (ap (λ i. k.add x i) (wraps.add y z) ∙ add_left x (k.add (y % k.size) (z % k.size)))));
    add_comm = λ x y. wraps.add x y ∙ ((of_two x y).add_comm ∙ sym (wraps.add y x));
    mul_assoc = λ x y z.
        ap (λ i. k.mul i z) (wraps.mul x y)
        ∙ (mul_right (k.mul (x % k.size) (y % k.size)) z
        ∙ ((of_three x y z).mul_assoc ∙ sym (ap (λ i. k.mul x i) (wraps.mul y z) ∙ mul_left x (k.mul (y % k.size) (z % k.size)))));
    mul_comm = λ x y. wraps.mul x y ∙ ((of_two x y).mul_comm ∙ sym (wraps.mul y x));
    mul_add = λ x y z.
        ap (λ i. k.mul x i) (wraps.add y z)
        ∙ (mul_left x (k.add (y % k.size) (z % k.size))
        ∙ ((of_three x y z).mul_add ∙ sym (ap (λ i. k.add i (k.mul x z)) (wraps.mul x y) ∙ ap (λ i. k.add (k.mul (x % k.size) (y % k.size)) i) (wraps.mul x z))));
    add_neg = λ x.
        ap (λ i. k.add x i) (wraps.neg x) ∙ (add_left x (k.neg (x % k.size)) ∙ (of_one (x % k.size) (below x)).add_neg);
    zero_add = λ x h. (of_one x h).zero_add;
    one_mul = λ x h. (of_one x h).one_mul;
    mul_inv = λ x h ne.
        let one = (of_one x h).mul_inv in
        grind (arith, nat_tests);
  }

-- only the two parts of a number count
linear_wraps : (p n : ℕ) → 0 < p → linear_of p (n % (p * p)) ≡ linear_of p n
linear_wraps p n pos =
    let t = n / (p * p) in
    let m = n % (p * p) in
    let whole : n ≡ m + (p * t) * p = omega (arith, mod-add-div n (p * p)) in
    sym (ap (λ i. (i / p) % p) whole ∙ (ap (λ i. i % p) (add-mul-div_right m (p * t) pos) ∙ add-mul-mod_self_left (m / p) p t))

constant_wraps : (p n : ℕ) → constant_of p (n % (p * p)) ≡ constant_of p n
constant_wraps p n = mod-mod_of_dvd p n (dvd-mul_right p p)

by_parts : (f : ℕ → ℕ → ℕ → ℕ → ℕ) (p m n : ℕ) → 0 < p
    → f (constant_of p m) (linear_of p m) (constant_of p n) (linear_of p n) ≡ f (constant_of p (m % (p * p))) (linear_of p (m % (p * p))) (constant_of p (n % (p * p))) (linear_of p (n % (p * p)))
by_parts f p m n pos =
    sym
    (ap (λ i. f i (linear_of p (m % (p * p))) (constant_of p (n % (p * p))) (linear_of p (n % (p * p)))) (constant_wraps p m)
    ∙ (ap (λ i. f (constant_of p m) i (constant_of p (n % (p * p))) (linear_of p (n % (p * p)))) (linear_wraps p m pos)
    ∙ (ap (λ i. f (constant_of p m) (linear_of p m) i (linear_of p (n % (p * p)))) (constant_wraps p n) ∙ ap (λ i. f (constant_of p m) (linear_of p m) (constant_of p n) i) (linear_wraps p n pos))))

quadratic_wraps : (p c d : ℕ) (inverses : List ℕ) → 0 < p → Wraps (quadratic p c d inverses)
quadratic_wraps p c d inverses pos =
    let square : 0 < p * p = mul-pos pos pos in
    record {
      add = λ m n. by_parts (λ a b e f. number_of_sum p (a + e) (b + f)) p m n pos;
      mul = λ m n. by_parts (λ a b e f. number_of_sum p (a * e + c * (b * f)) (a * f + b * e + d * (b * f))) p m n pos;
      neg = λ n. by_parts (λ a b e f. number_of_sum p (p - a) (p - b)) p n n pos;
      inv = λ n. mod_below (slice_index inverses n) (p * p) square;
    }

pub four_field : IsField four
four_field = tried_field four (lit< tt) (quadratic_wraps 2 1 1 four_inverses (lit< tt)) refl

pub nine_field : IsField nine
nine_field = tried_field nine (lit< tt) (quadratic_wraps 3 2 0 nine_inverses (lit< tt)) refl
