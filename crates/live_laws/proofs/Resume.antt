-- All live partial tables stand in order, and runs join.
use Rattle.std.proofs.Common.{◌≡◌, ℕ, zero, suc, ◌+◌, ◌*◌, ◌<◌, ◌≤◌, List, [], ◌∷◌, ◌++◌, map, length, take, refl, ap, arith, sym, ◌∙◌, Bool, true, false, cond, ◌&&◌, ◌||◌}
use Rattle.std.specs.Prelude.{filter, ◌==◌, nat_lt}
use Rattle.std.specs.List.{list_all, flat_map}
use Rattle.std.proofs.lemmas.Bool.{eqb-true, and_from}
use Rattle.std.proofs.lemmas.List.{append_assoc, append-nil}
use Rattle.std.proofs.lemmas.List.Elements.{filter-append}
use Rattle.number_lists.proofs.CallerLemmas.{and-left, and-right}
use Rattle.sheet_laws.specs.Tables.{precedes}
use Rattle.live_laws.specs.Trees.{from, beyond, down, sub}
use Rattle.live_laws.specs.Live.{Relations, Position, sound, is_live, comes_after, live_of, is_listed}
use Rattle.live_laws.specs.Orders.{in_order, LiveInOrder, LiveResumes, RunsJoin}
use Rattle.live_laws.proofs.Trees.{precedes-cancel, greater_later}
use Rattle.live_laws.proofs.Orders.{precedes-back, precedes-self, precedes-trans, one}
use Rattle.live_laws.proofs.Left.{descend, live-sound, more, equal}
use Rattle.live_laws.proofs.Sound.{sound_closed}

-- a list in order: each comes before all later ones
abbrev sorted : List (List ℕ) → Bool
sorted [] = true
sorted (x ∷ xs) = list_all (precedes x) xs && sorted xs

all-append : {A : Type 0} (p : A → Bool) (xs ys : List A) → list_all p xs ≡ true → list_all p ys ≡ true → list_all p (xs ++ ys) ≡ true
all-append p [] ys e h = h
all-append p (x ∷ xs) ys e h = and_from _ _ (and-left (p x) _ e) (all-append p xs ys (and-right (p x) _ e) h)

-- over the numbers from a on
all-flat_map : {A : Type 0} (p : A → Bool) (f : ℕ → List A) (a n : ℕ) → ((x : ℕ) → a ≤ x → x < a + n → list_all p (f x) ≡ true) → list_all p (flat_map f (from a n)) ≡ true
all-flat_map p f a zero e = refl
all-flat_map p f a (suc n) e = all-append p (f a) (flat_map f (from (suc a) n)) (e a (omega arith) (omega arith)) (all-flat_map p f (suc a) n (λ x h k. e x (omega (arith, h)) (omega (arith, k))))

module _ (live : List ℕ → Bool) (m : ℕ) where
  all_down : (t : List ℕ → Bool) (n : ℕ) (s : List ℕ) → ((x : ℕ) (w : List ℕ) → t (s ++ x ∷ w) ≡ true) → list_all t (down live m n s) ≡ true
  all_down t zero s h = refl
  all_down t (suc n) s h = all-flat_map t (λ x. sub live m n (s ++ x ∷ [])) 1 m (λ x l k. one (s ++ x ∷ []) (live (s ++ x ∷ [])) (h x []) (all_down t n (s ++ x ∷ []) (λ y w. rw (append_assoc s (x ∷ []) (y ∷ w)) (h x (y ∷ w)))))
    where
      one : (q : List ℕ) (b : Bool) → t q ≡ true → list_all t (down live m n q) ≡ true → list_all t (elim b [ true ↦ q ∷ down live m n q | false ↦ [] ]) ≡ true
      one q true e k = and_from _ _ e k
      one q false e k = refl

  all_sub : (t : List ℕ → Bool) (n : ℕ) (s : List ℕ) → ((w : List ℕ) → t (s ++ w) ≡ true) → list_all t (sub live m n s) ≡ true
  all_sub t n s h = one (live s) (rw (append-nil s) at (h [])) (all_down t n s (λ x w. h (x ∷ w)))
    where
      one : (b : Bool) → t s ≡ true → list_all t (down live m n s) ≡ true → list_all t (elim b [ true ↦ s ∷ down live m n s | false ↦ [] ]) ≡ true
      one true e k = and_from _ _ e k
      one false e k = refl

sorted-append : (xs ys : List (List ℕ)) → sorted xs ≡ true → sorted ys ≡ true → list_all (λ x. list_all (precedes x) ys) xs ≡ true → sorted (xs ++ ys) ≡ true
sorted-append [] ys e h k = h
sorted-append (x ∷ xs) ys e h k = and_from _ _ (all-append (precedes x) xs ys (and-left (list_all (precedes x) xs) _ e) (and-left (list_all (precedes x) ys) _ k))
    (sorted-append xs ys (and-right (list_all (precedes x) xs) _ e) h (and-right (list_all (precedes x) ys) _ k))

after_own : (s w : List ℕ) (x : ℕ) → precedes s (s ++ x ∷ w) ≡ true
after_own s w x = rw (append-nil s) at (precedes-cancel s [] (x ∷ w))

module _ (live : List ℕ → Bool) (m : ℕ) where
  sorted_numbers : (n : ℕ) (s : List ℕ) → ((x : ℕ) → sorted (sub live m n (s ++ x ∷ [])) ≡ true) → (a k : ℕ) → sorted (flat_map (λ x. sub live m n (s ++ x ∷ [])) (from a k)) ≡ true
  sorted_numbers n s h a zero = refl
  sorted_numbers n s h a (suc k) = sorted-append (sub live m n (s ++ a ∷ [])) (flat_map (λ x. sub live m n (s ++ x ∷ [])) (from (suc a) k)) (h a) (sorted_numbers n s h (suc a) k)
      (all_sub live m (λ q. list_all (precedes q) (flat_map (λ x. sub live m n (s ++ x ∷ [])) (from (suc a) k))) n (s ++ a ∷ [])
      (λ w. all-flat_map (precedes ((s ++ a ∷ []) ++ w)) (λ x. sub live m n (s ++ x ∷ [])) (suc a) k
      (λ x l j. all_sub live m (precedes ((s ++ a ∷ []) ++ w)) n (s ++ x ∷ []) (λ v. rw (append_assoc s (a ∷ []) w, append_assoc s (x ∷ []) v) (greater_later s w v x a l)))))

  sorted_sub : (n : ℕ) (s : List ℕ) → sorted (sub live m n s) ≡ true
  sorted_sub zero s = one (live s)
    where
      one : (b : Bool) → sorted (elim b [ true ↦ s ∷ [] | false ↦ [] ]) ≡ true
      one true = refl
      one false = refl
  sorted_sub (suc n) s = one (live s) (all_down live m (precedes s) (suc n) s (λ x w. after_own s w x)) (sorted_numbers n s (λ x. sorted_sub n (s ++ x ∷ [])) 1 m)
    where
      one : (b : Bool) → list_all (precedes s) (down live m (suc n) s) ≡ true → sorted (down live m (suc n) s) ≡ true → sorted (elim b [ true ↦ s ∷ down live m (suc n) s | false ↦ [] ]) ≡ true
      one true e h = and_from _ _ e h
      one false e h = refl

  sorted_down : (n : ℕ) (s : List ℕ) → sorted (down live m n s) ≡ true
  sorted_down zero s = refl
  sorted_down (suc n) s = sorted_numbers n s (λ x. sorted_sub n (s ++ x ∷ [])) 1 m

-- ---- positions

all-pairs : (k : ℕ) (t : Position → Bool) (u : List ℕ → Bool) → ((q : List ℕ) → t (k, q) ≡ u q) → (xs : List (List ℕ)) → list_all t (map (λ q. (k, q)) xs) ≡ list_all u xs
all-pairs k t u e [] = refl
all-pairs k t u e (x ∷ xs) = rw (e x, all-pairs k t u e xs) refl

order-pairs : (k : ℕ) (xs : List (List ℕ)) → in_order (map (λ q. (k, q)) xs) ≡ sorted xs
order-pairs k [] = refl
order-pairs k (x ∷ xs) = rw (all-pairs k (comes_after (k, x)) (precedes x) (λ q. equal k x q) xs, order-pairs k xs) refl

order-append : (xs ys : List Position) → in_order xs ≡ true → in_order ys ≡ true → list_all (λ x. list_all (comes_after x) ys) xs ≡ true → in_order (xs ++ ys) ≡ true
order-append [] ys e h k = h
order-append (x ∷ xs) ys e h k = and_from _ _ (all-append (comes_after x) xs ys (and-left (list_all (comes_after x) xs) _ e) (and-left (list_all (comes_after x) ys) _ k))
    (order-append xs ys (and-right (list_all (comes_after x) xs) _ e) h (and-right (list_all (comes_after x) ys) _ k))

all-map : (k : ℕ) (t : Position → Bool) → ((q : List ℕ) → t (k, q) ≡ true) → (xs : List (List ℕ)) → list_all t (map (λ q. (k, q)) xs) ≡ true
all-map k t e [] = refl
all-map k t e (x ∷ xs) = and_from _ _ (e x) (all-map k t e xs)

of_one : (P : Relations) (k : ℕ) → in_order (live_of P k) ≡ true
of_one P k = order-pairs k (filter (is_live P k) (beyond k (k * P.generators) []))
    ∙ rw (live-sound P k (k * P.generators) [], descend (sound P k) (λ q z h. sound_closed P k q z h) k (k * P.generators) []) (sorted_down (sound P k) k (k * P.generators) [])

from_on : (P : Relations) (a n : ℕ) → in_order (flat_map (live_of P) (from a n)) ≡ true
from_on P a zero = refl
from_on P a (suc n) = order-append (live_of P a) (flat_map (live_of P) (from (suc a) n)) (of_one P a) (from_on P (suc a) n)
    (all-map a (λ x. list_all (comes_after x) (flat_map (live_of P) (from (suc a) n))) (λ q. all-flat_map (comes_after (a, q)) (live_of P) (suc a) n (λ k l j. all-map k (comes_after (a, q)) (λ r. more a q k r l) (filter (is_live P k) (beyond k (k * P.generators) [])))) (filter (is_live P a) (beyond a (a * P.generators) [])))

pub live_in_order : LiveInOrder
live_in_order P n = from_on P 1 n

-- ---- those after one of them

not-after-self : (q : Position) → comes_after q q ≡ false
not-after-self q = equal q.0 q.1 q.1 ∙ precedes-self q.1

not-after-back : (q r : Position) → comes_after q r ≡ true → comes_after r q ≡ false
not-after-back q r e = one (nat_lt q.0 r.0) (q.0 == r.0) (nat_lt r.0 q.0) (r.0 == q.0) refl refl refl refl e (precedes-back q.1 r.1)
  where
    one : (a b c d : Bool) → nat_lt q.0 r.0 ≡ a → (q.0 == r.0) ≡ b → nat_lt r.0 q.0 ≡ c → (r.0 == q.0) ≡ d → (a || (b && precedes q.1 r.1)) ≡ true
        → (precedes q.1 r.1 ≡ true → precedes r.1 q.1 ≡ false) → (c || (d && precedes r.1 q.1)) ≡ false
    one true b true d h i j k e next = absurd (grind (arith, h, j))
    one true b false true h i j k e next = absurd (grind (arith, h, eqb-true r.0 q.0 k))
    one a b false false h i j k e next = refl
    one false true false true h i j k e next = next e
    one false true true d h i j k e next = absurd (grind (arith, j, eqb-true q.0 r.0 i))
    one false false c d h i j k e next = absurd (grind (arith, e))

keep_all : (q : Position) (ys : List Position) → list_all (comes_after q) ys ≡ true → filter (comes_after q) ys ≡ ys
keep_all q [] e = refl
keep_all q (z ∷ ys) e = rw (and-left (comes_after q z) _ e, keep_all q ys (and-right (comes_after q z) _ e)) refl

all-at : (x y : Position) (xs ys : List Position) → list_all (comes_after x) (xs ++ y ∷ ys) ≡ true → comes_after x y ≡ true
all-at x y [] ys e = and-left (comes_after x y) _ e
all-at x y (z ∷ xs) ys e = all-at x y xs ys (and-right (comes_after x z) _ e)

after_one : (xs ys : List Position) (q : Position) → in_order (xs ++ q ∷ ys) ≡ true → filter (comes_after q) (xs ++ q ∷ ys) ≡ ys
after_one [] ys q e = rw (not-after-self q) (keep_all q ys (and-left (list_all (comes_after q) ys) _ e))
after_one (x ∷ xs) ys q e = rw (not-after-back x q (all-at x q xs ys (and-left (list_all (comes_after x) (xs ++ q ∷ ys)) _ e))) (after_one xs ys q (and-right (list_all (comes_after x) (xs ++ q ∷ ys)) _ e))

all-of-filter : (t : Position → Bool) (zs : List Position) → list_all t (filter t zs) ≡ true
all-of-filter t [] = refl
all-of-filter t (z ∷ zs) = one (t z) refl (all-of-filter t zs)
  where
    one : (b : Bool) → t z ≡ b → list_all t (filter t zs) ≡ true → list_all t (cond b (z ∷ filter t zs) (filter t zs)) ≡ true
    one true e h = and_from _ _ e h
    one false e h = h

all-filter : (p t : Position → Bool) (zs : List Position) → list_all p zs ≡ true → list_all p (filter t zs) ≡ true
all-filter p t [] e = refl
all-filter p t (z ∷ zs) e = one (t z) (all-filter p t zs (and-right (p z) _ e))
  where
    one : (b : Bool) → list_all p (filter t zs) ≡ true → list_all p (cond b (z ∷ filter t zs) (filter t zs)) ≡ true
    one true h = and_from _ _ (and-left (p z) _ e) h
    one false h = h

order-filter : (t : Position → Bool) (zs : List Position) → in_order zs ≡ true → in_order (filter t zs) ≡ true
order-filter t [] e = refl
order-filter t (z ∷ zs) e = one (t z) (order-filter t zs (and-right (list_all (comes_after z) zs) _ e))
  where
    one : (b : Bool) → in_order (filter t zs) ≡ true → in_order (cond b (z ∷ filter t zs) (filter t zs)) ≡ true
    one true h = and_from _ _ (all-filter (comes_after z) t zs (and-left (list_all (comes_after z) zs) _ e)) h
    one false h = h

filter-within : (t u : Position → Bool) → ((z : Position) → u z ≡ true → t z ≡ true) → (zs : List Position) → filter u (filter t zs) ≡ filter u zs
filter-within t u k [] = refl
filter-within t u k (z ∷ zs) = one (t z) (u z) refl refl (filter-within t u k zs)
  where
    one : (a b : Bool) → t z ≡ a → u z ≡ b → filter u (filter t zs) ≡ filter u zs → filter u (cond a (z ∷ filter t zs) (filter t zs)) ≡ cond b (z ∷ filter u zs) (filter u zs)
    one true true e h g = rw (h, g) refl
    one true false e h g = rw (h, g) refl
    one false false e h g = g
    one false true e h g = absurd (clash (t z) (k z h) e)
      where
        clash : (c : Bool) → c ≡ true → c ≡ false → ⊥
        clash true i j = grind (arith, j)
        clash false i j = grind (arith, i)

comes-trans : (a b c : Position) → comes_after a b ≡ true → comes_after b c ≡ true → comes_after a c ≡ true
comes-trans a b c e h = one a.0 b.0 c.0 (precedes a.1 b.1) (precedes b.1 c.1) (precedes a.1 c.1) e h (precedes-trans a.1 b.1 c.1)

pub live_resumes : LiveResumes
live_resumes P n t q xs ys e =
    let h : comes_after t q ≡ true = all-at_end xs (rw e at (all-of-filter (comes_after t) (flat_map (live_of P) (from 1 n)))) in
    sym (filter-within (comes_after t) (comes_after q) (λ z k. comes-trans t q z h k) (flat_map (live_of P) (from 1 n)))
    ∙ (ap (filter (comes_after q)) e ∙ after_one xs ys q (rw e at (order-filter (comes_after t) (flat_map (live_of P) (from 1 n)) (live_in_order P n))))
  where
    all-at_end : (xs : List Position) → list_all (comes_after t) (xs ++ q ∷ ys) ≡ true → comes_after t q ≡ true
    all-at_end xs k = all-at t q xs ys k

take-over : (xs ys : List Position) (q : Position) (b : ℕ) → take (length xs + 1 + b) (xs ++ q ∷ ys) ≡ (xs ++ q ∷ []) ++ take b ys
take-over [] ys q b = ap (λ k. take k (q ∷ ys)) (first b)
  where
    first : (b : ℕ) → 0 + 1 + b ≡ suc b
    first b = omega arith
take-over (x ∷ xs) ys q b = ap (λ k. take k (x ∷ (xs ++ q ∷ ys))) (next (length xs) b) ∙ ap (λ r. x ∷ r) (take-over xs ys q b)
  where
    next : (k b : ℕ) → suc k + 1 + b ≡ suc (k + 1 + b)
    next k b = omega arith

pub runs_join : RunsJoin
runs_join P n t q xs ys b e = rw (live_resumes P n t q xs ys e, e, take-over xs ys q b) (sym (filter-append (is_listed P) (xs ++ q ∷ []) (take b ys)))
