-- The tree of lists: counts, its order, and what comes after a list in it.
use Rattle.std.proofs.Common.{◌≡◌, ℕ, zero, suc, ◌+◌, ◌-◌, ◌*◌, ◌^◌, ◌<◌, ◌≤◌, List, [], ◌∷◌, ◌++◌, length, refl, ap, arith, sym, ◌∙◌, Bool, true, false, ◌&&◌, ◌||◌}
use Rattle.std.specs.Prelude.{filter, ◌==◌, nat_lt}
use Rattle.std.specs.List.{flat_map, range_with_len, AllByRecursion}
use Rattle.std.proofs.lemmas.Bool.{eq-eqb}
use Rattle.std.proofs.lemmas.List.{append_assoc, length-append, append-nil}
use Rattle.std.proofs.lemmas.List.Concat.{flat_map-append}
use Rattle.std.proofs.Math.Nat.{pow-zero, pow-suc, mul-le-mul_left, zero-add, add-zero, suc-add, add-suc}
use Rattle.number_lists.proofs.CallerLemmas.{filter-flat_map}
use Rattle.sheet_laws.specs.Permutations.{InRange}
use Rattle.sheet_laws.specs.Tables.{precedes}
use Rattle.live_laws.specs.Trees.{from, beyond, down, sub, later, rest, Closed}

-- ---- counting

pub length-flat_map : {A B : Type 0} (f : A → List B) (k : ℕ) → ((x : A) → length (f x) ≡ k) → (xs : List A) → length (flat_map f xs) ≡ length xs * k
length-flat_map f k e [] = grind arith
length-flat_map f k e (x ∷ xs) = length-append (f x) (flat_map f xs) ∙ grind (arith, e x, length-flat_map f k e xs)

pub length-from : (a n : ℕ) → length (from a n) ≡ n
length-from a zero = refl
length-from a (suc n) = ap suc (length-from (suc a) n)

-- how many lists go on by 1 to n numbers
pub many : ℕ → ℕ → ℕ
many m zero = 0
many m (suc n) = m * suc (many m n)

pub length-beyond : (m n : ℕ) (p : List ℕ) → length (beyond m n p) ≡ many m n
unfolding many
length-beyond m zero p = refl
length-beyond m (suc n) p = length-flat_map (λ x. (p ++ x ∷ []) ∷ beyond m n (p ++ x ∷ [])) (suc (many m n)) (λ x. ap suc (length-beyond m n (p ++ x ∷ []))) (from 1 m) ∙ ap (λ k. k * suc (many m n)) (length-from 1 m)

pub many_below : (m n : ℕ) → 2 ≤ m → many m n + 2 ≤ 2 * m ^ n
unfolding many
many_below m zero h = rw (pow-zero m) (omega arith)
many_below m (suc n) h = rw (pow-suc m n) (by_parts (m ^ n) (many m n) (many_below m n h))
  where
    by_parts : (k a : ℕ) → a + 2 ≤ 2 * k → m * suc a + 2 ≤ 2 * (k * m)
    by_parts k a e = let f : m * (a + 2) ≤ m * (2 * k) = mul-le-mul_left m e in grind (arith, f, h)

pub many_ones : (n : ℕ) → many 1 n ≡ n
unfolding many
many_ones zero = refl
many_ones (suc n) = grind (arith, many_ones n)

-- ---- lists in order

pub from-split : (a n k : ℕ) → from a (n + k) ≡ from a n ++ from (a + n) k
from-split a zero k = rw (zero-add, add-zero) refl
from-split a (suc n) k = rw (suc-add n k, add-suc a n) (ap (λ r. a ∷ r) (from-split (suc a) n k ∙ ap (λ b. from (suc a) n ++ from b k) (omega arith)))

pub precedes-cancel : (q a b : List ℕ) → precedes (q ++ a) (q ++ b) ≡ precedes a b
precedes-cancel [] a b = refl
precedes-cancel (x ∷ q) a b = rw (self_lt x, eq-eqb x x refl, precedes-cancel q a b) refl
  where
    self_lt : (x : ℕ) → nat_lt x x ≡ false
    self_lt x = grind arith

-- over the numbers from a on, n of them
pub flat_map-from : {B : Type 0} (f g : ℕ → List B) (a n : ℕ) → ((x : ℕ) → a ≤ x → x < a + n → f x ≡ g x) → flat_map f (from a n) ≡ flat_map g (from a n)
flat_map-from f g a zero e = refl
flat_map-from f g a (suc n) e = rw (e a (omega arith) (omega arith), flat_map-from f g (suc a) n (λ x h k. e x (omega (arith, h)) (omega (arith, k)))) refl

pub flat_map-none : {A B : Type 0} (xs : List A) → flat_map {A = B} (λ x. []) xs ≡ []
flat_map-none [] = refl
flat_map-none (x ∷ xs) = flat_map-none xs

-- ---- what a test keeps of a subtree

module _ (live : List ℕ → Bool) (m : ℕ) (t : List ℕ → Bool) where
  pub keeps_down : (n : ℕ) (s : List ℕ) → ((w : List ℕ) → t (s ++ w) ≡ true) → filter t (down live m n s) ≡ down live m n s
  keeps_down zero s h = refl
  keeps_down (suc n) s h = rw (filter-flat_map t (λ x. sub live m n (s ++ x ∷ [])) (from 1 m))
      (flat_map-from _ _ 1 m (λ x l k. one (s ++ x ∷ []) (live (s ++ x ∷ [])) (h (x ∷ [])) (keeps_down n (s ++ x ∷ []) (λ w. rw (append_assoc s (x ∷ []) w) (h (x ∷ w))))))
    where
      one : (q : List ℕ) (b : Bool) → t q ≡ true → filter t (down live m n q) ≡ down live m n q
          → filter t (elim b [ true ↦ q ∷ down live m n q | false ↦ [] ]) ≡ elim b [ true ↦ q ∷ down live m n q | false ↦ [] ]
      one q true e k = rw (e, k) refl
      one q false e k = refl

  keeps_sub : (n : ℕ) (s : List ℕ) → ((w : List ℕ) → t (s ++ w) ≡ true) → filter t (sub live m n s) ≡ sub live m n s
  keeps_sub n s h = one (live s) (rw (append-nil s) at (h [])) (keeps_down n s h)
    where
      one : (b : Bool) → t s ≡ true → filter t (down live m n s) ≡ down live m n s
          → filter t (elim b [ true ↦ s ∷ down live m n s | false ↦ [] ]) ≡ elim b [ true ↦ s ∷ down live m n s | false ↦ [] ]
      one true e k = rw (e, k) refl
      one false e k = refl

  drops_down : (n : ℕ) (s : List ℕ) → ((w : List ℕ) → t (s ++ w) ≡ false) → filter t (down live m n s) ≡ []
  drops_down zero s h = refl
  drops_down (suc n) s h = rw (filter-flat_map t (λ x. sub live m n (s ++ x ∷ [])) (from 1 m))
      (flat_map-from _ (λ x. []) 1 m (λ x l k. one (s ++ x ∷ []) (live (s ++ x ∷ [])) (h (x ∷ [])) (drops_down n (s ++ x ∷ []) (λ w. rw (append_assoc s (x ∷ []) w) (h (x ∷ w))))) ∙ flat_map-none (from 1 m))
    where
      one : (q : List ℕ) (b : Bool) → t q ≡ false → filter t (down live m n q) ≡ []
          → filter t (elim b [ true ↦ q ∷ down live m n q | false ↦ [] ]) ≡ []
      one q true e k = rw (e, k) refl
      one q false e k = refl

  drops_sub : (n : ℕ) (s : List ℕ) → ((w : List ℕ) → t (s ++ w) ≡ false) → filter t (sub live m n s) ≡ []
  drops_sub n s h = one (live s) (rw (append-nil s) at (h [])) (drops_down n s h)
    where
      one : (b : Bool) → t s ≡ false → filter t (down live m n s) ≡ []
          → filter t (elim b [ true ↦ s ∷ down live m n s | false ↦ [] ]) ≡ []
      one true e k = rw (e, k) refl
      one false e k = refl

  -- where the subtree's own list is live and dropped
  opens_sub : (n : ℕ) (s : List ℕ) → live s ≡ true → t s ≡ false → filter t (sub live m n s) ≡ filter t (down live m n s)
  opens_sub n s e k = one (live s) e k
    where
      one : (b : Bool) → b ≡ true → t s ≡ false → filter t (elim b [ true ↦ s ∷ down live m n s | false ↦ [] ]) ≡ filter t (down live m n s)
      one true e k = rw k refl
      one false e k = absurd (grind (arith, e))

-- ---- the part of the tree after a list in it

pub smaller_first : (q r w : List ℕ) (x y : ℕ) → x < y → precedes (q ++ y ∷ r) (q ++ x ∷ w) ≡ false
smaller_first q r w x y l = precedes-cancel q (y ∷ r) (x ∷ w) ∙ by_test (nat_lt y x) (y == x) (grind (arith, l)) (grind (arith, l))
  where
    by_test : (a b : Bool) → a ≡ false → b ≡ false → (a || (b && precedes r w)) ≡ false
    by_test false false e k = refl
    by_test false true e k = absurd (grind (arith, k))
    by_test true b e k = absurd (grind (arith, e))

pub greater_later : (q r w : List ℕ) (x y : ℕ) → y < x → precedes (q ++ y ∷ r) (q ++ x ∷ w) ≡ true
greater_later q r w x y l = precedes-cancel q (y ∷ r) (x ∷ w) ∙ by_test (nat_lt y x) (grind (arith, l))
  where
    by_test : (a : Bool) → a ≡ true → (a || ((y == x) && precedes r w)) ≡ true
    by_test true e = refl
    by_test false e = absurd (grind (arith, e))

own_not_after : (q r : List ℕ) (y : ℕ) → precedes (q ++ y ∷ r) (q ++ y ∷ []) ≡ false
own_not_after q r y = precedes-cancel q (y ∷ r) (y ∷ []) ∙ by_tail r (nat_lt y y) (y == y) (grind arith)
  where
    by_tail : (r : List ℕ) (a b : Bool) → a ≡ false → (a || (b && precedes r [])) ≡ false
    by_tail [] false true e = refl
    by_tail [] false false e = refl
    by_tail (x ∷ r) false true e = refl
    by_tail (x ∷ r) false false e = refl
    by_tail r true b e = absurd (grind (arith, e))

empty_before : (q w : List ℕ) (x : ℕ) → precedes (q ++ []) (q ++ x ∷ w) ≡ true
empty_before q w x = precedes-cancel q [] (x ∷ w)

module _ (live : List ℕ → Bool) (closed : Closed live) (m : ℕ) where
  pub after : (n : ℕ) (q r : List ℕ) → length r ≤ n → AllByRecursion (InRange m) r → live (q ++ r) ≡ true
      → filter (precedes (q ++ r)) (down live m n q) ≡ rest live m n q r 1
  after zero q r l h e = refl
  after (suc n) q [] l h e = rw (filter-flat_map (precedes (q ++ [])) (λ x. sub live m n (q ++ x ∷ [])) (from 1 m))
      (flat_map-from _ _ 1 m (λ x k j. keeps_sub live m (precedes (q ++ [])) n (q ++ x ∷ []) (λ w. rw (append_assoc q (x ∷ []) w) (empty_before q w x)))
      ∙ ap (λ k. flat_map (λ x. sub live m n (q ++ x ∷ [])) (from 1 k)) (omega arith))
  after (suc n) q (y ∷ r) l h e =
      rw (filter-flat_map (precedes (q ++ y ∷ r)) (λ x. sub live m n (q ++ x ∷ [])) (from 1 m))
      (joined m n q r y (y - 1) (m - y) (omega (arith, h.0.0, h.0.1)) (omega (arith, h.0.0))
      (opens_sub live m (precedes (q ++ y ∷ r)) n (q ++ y ∷ []) (closed (q ++ y ∷ []) r (rw (sym (append_assoc q (y ∷ []) r)) at e)) (own_not_after q r y)
      ∙ rw (sym (append_assoc q (y ∷ []) r)) (after n (q ++ y ∷ []) r (omega (arith, l)) h.1 (rw (sym (append_assoc q (y ∷ []) r)) at e))))
    where
      joined : (m n : ℕ) (q r : List ℕ) (y b a : ℕ) → m ≡ b + suc a → y ≡ suc b
          → filter (precedes (q ++ y ∷ r)) (sub live m n (q ++ y ∷ [])) ≡ rest live m n (q ++ y ∷ []) r 1
          → flat_map (λ x. filter (precedes (q ++ y ∷ r)) (sub live m n (q ++ x ∷ []))) (from 1 m) ≡ rest live m n (q ++ y ∷ []) r 1 ++ later live m n q (suc y) a
      joined m n q r y b a e k own = ap (flat_map (λ x. filter (precedes (q ++ y ∷ r)) (sub live m n (q ++ x ∷ [])))) (split_at m y b a e k)
          ∙ (flat_map-append (λ x. filter (precedes (q ++ y ∷ r)) (sub live m n (q ++ x ∷ []))) (from 1 b) (y ∷ from (suc y) a)
          ∙ (rw (before m n q r y b k, own, above m n q r y a) refl))
        where
          split_at : (m y b a : ℕ) → m ≡ b + suc a → y ≡ suc b → from 1 m ≡ from 1 b ++ (y ∷ from (suc y) a)
          split_at m y b a e k = rw (e, k) (from-split 1 b (suc a) ∙ ap (λ i. from 1 b ++ from i (suc a)) (omega arith))

          before : (m n : ℕ) (q r : List ℕ) (y b : ℕ) → y ≡ suc b → flat_map (λ x. filter (precedes (q ++ y ∷ r)) (sub live m n (q ++ x ∷ []))) (from 1 b) ≡ []
          before m n q r y b k = flat_map-from _ (λ x. []) 1 b (λ x i j. drops_sub live m (precedes (q ++ y ∷ r)) n (q ++ x ∷ []) (λ w. rw (append_assoc q (x ∷ []) w) (smaller_first q r w x y (omega (arith, j, k))))) ∙ flat_map-none (from 1 b)

          above : (m n : ℕ) (q r : List ℕ) (y a : ℕ) → flat_map (λ x. filter (precedes (q ++ y ∷ r)) (sub live m n (q ++ x ∷ []))) (from (suc y) a) ≡ flat_map (λ x. sub live m n (q ++ x ∷ [])) (from (suc y) a)
          above m n q r y a = flat_map-from _ _ (suc y) a (λ x k j. keeps_sub live m (precedes (q ++ y ∷ r)) n (q ++ x ∷ []) (λ w. rw (append_assoc q (x ∷ []) w) (greater_later q r w x y k)))

-- ---- one step of the walk

pub rest_pops : (live : List ℕ → Bool) (m n : ℕ) (q r : List ℕ) (y v : ℕ) → length r < n
    → rest live m n q (r ++ y ∷ []) v ≡ rest live m (n - length r - 1) (q ++ (r ++ y ∷ [])) [] v ++ rest live m n q r (suc y)
rest_pops live m zero q r y v l = absurd (omega (arith, l))
rest_pops live m (suc n) q [] y v l = rw (n_is n) (ap (λ k. rest live m n (q ++ y ∷ []) [] v ++ later live m n q (suc y) k) (m_is m y))
  where
    n_is : (n : ℕ) → suc n - 0 - 1 ≡ n
    n_is n = omega arith

    m_is : (m y : ℕ) → m - y ≡ suc m - suc y
    m_is m y = omega arith
rest_pops live m (suc n) q (x ∷ r) y v l =
    ap (λ a. a ++ later live m n q (suc x) (m - x)) (rest_pops live m n (q ++ x ∷ []) r y v (omega (arith, l)))
    ∙ (append_assoc (rest live m (n - length r - 1) ((q ++ x ∷ []) ++ (r ++ y ∷ [])) [] v) (rest live m n (q ++ x ∷ []) r (suc y)) (later live m n q (suc x) (m - x))
    ∙ rw (to_go n (length r), append_assoc q (x ∷ []) (r ++ y ∷ [])) refl)
  where
    to_go : (n k : ℕ) → suc n - suc k - 1 ≡ n - k - 1
    to_go n k = omega arith

-- the numbers from a on, as std has them
pub from-range : (a n : ℕ) → from a n ≡ range_with_len a n
from-range a zero = refl
from-range a (suc n) = ap (λ (l : List ℕ). a ∷ l) (ap (λ (b : ℕ). from b n) (one_more a) ∙ from-range (a + 1) n)
  where
    one_more : (a : ℕ) → suc a ≡ a + 1
    one_more a = omega arith
