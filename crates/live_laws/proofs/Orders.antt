-- The order of lists of numbers, and the lists of full length in the tree.
use Rattle.std.proofs.Common.{◌≡◌, ℕ, zero, suc, ◌+◌, ◌<◌, List, [], ◌∷◌, ◌++◌, map, length, get_or, refl, ap, arith, sym, ◌∙◌, Bool, true, false, ◌&&◌, ◌||◌}
use Rattle.std.specs.Prelude.{filter, ◌==◌, nat_lt}
use Rattle.std.specs.List.{flat_map}
use Rattle.std.proofs.lemmas.Bool.{eqb-true, eq-eqb}
use Rattle.std.proofs.lemmas.List.{append_assoc, length-append, map-id}
use Rattle.number_lists.proofs.CallerLemmas.{filter-flat_map, map-flat_map}
use Rattle.sheet_laws.specs.Tables.{precedes}
use Rattle.sheet_laws.specs.Permutations.{lists}
use Rattle.live_laws.specs.Trees.{from, beyond}
use Rattle.live_laws.proofs.Trees.{flat_map-from, from-range}

-- where two lists first differ decides
pub first_smaller : (a b : List ℕ) (i : ℕ) → ((j : ℕ) → j < i → get_or a j 0 ≡ get_or b j 0) → i < length a → i < length b → get_or a i 0 < get_or b i 0 → precedes a b ≡ true
first_smaller [] b i k l h e = absurd (omega (arith, l))
first_smaller (x ∷ a) [] i k l h e = absurd (omega (arith, h))
first_smaller (x ∷ a) (y ∷ b) zero k l h e = one (nat_lt x y) (grind (arith, e))
  where
    one : (t : Bool) → t ≡ true → (t || ((x == y) && precedes a b)) ≡ true
    one true r = refl
    one false r = absurd (grind (arith, r))
first_smaller (x ∷ a) (y ∷ b) (suc i) k l h e = one (nat_lt x y) (x == y) (eq-eqb x y (k 0 (omega arith))) (first_smaller a b i (λ j r. k (suc j) (omega (arith, r))) (omega (arith, l)) (omega (arith, h)) e)
  where
    one : (t u : Bool) → u ≡ true → precedes a b ≡ true → (t || (u && precedes a b)) ≡ true
    one true u r q = refl
    one false true r q = q
    one false false r q = absurd (grind (arith, r))

pub first_greater : (a b : List ℕ) (i : ℕ) → ((j : ℕ) → j < i → get_or a j 0 ≡ get_or b j 0) → i < length a → i < length b → get_or b i 0 < get_or a i 0 → precedes a b ≡ false
first_greater [] b i k l h e = absurd (omega (arith, l))
first_greater (x ∷ a) [] i k l h e = absurd (omega (arith, h))
first_greater (x ∷ a) (y ∷ b) zero k l h e = one (nat_lt x y) (x == y) (grind (arith, e)) (grind (arith, e))
  where
    one : (t u : Bool) → t ≡ false → u ≡ false → (t || (u && precedes a b)) ≡ false
    one false false r q = refl
    one true u r q = absurd (grind (arith, r))
    one false true r q = absurd (grind (arith, q))
first_greater (x ∷ a) (y ∷ b) (suc i) k l h e = one (nat_lt x y) (x == y) (not_less x y (k 0 (omega arith))) (first_greater a b i (λ j r. k (suc j) (omega (arith, r))) (omega (arith, l)) (omega (arith, h)) e)
  where
    not_less : (x y : ℕ) → x ≡ y → nat_lt x y ≡ false
    not_less x y e = grind (arith, e)

    one : (t u : Bool) → t ≡ false → precedes a b ≡ false → (t || (u && precedes a b)) ≡ false
    one false true r q = q
    one false false r q = refl
    one true u r q = absurd (grind (arith, r))

-- of two lists of one length one is the smaller, or they are the same
pub one_comes_first : (a b : List ℕ) → length a ≡ length b → precedes a b ≡ false → precedes b a ≡ false → a ≡ b
one_comes_first [] [] l h e = refl
one_comes_first [] (y ∷ b) l h e = absurd (grind (arith, l))
one_comes_first (x ∷ a) [] l h e = absurd (grind (arith, l))
one_comes_first (x ∷ a) (y ∷ b) l h e = one (nat_lt x y) (nat_lt y x) refl refl h e (one_comes_first a b (length-tail l))
  where
    length-tail : suc (length a) ≡ suc (length b) → length a ≡ length b
    length-tail l = omega (arith, l)

    one : (t u : Bool) → nat_lt x y ≡ t → nat_lt y x ≡ u → (t || ((x == y) && precedes a b)) ≡ false → (u || ((y == x) && precedes b a)) ≡ false
        → (precedes a b ≡ false → precedes b a ≡ false → a ≡ b) → x ∷ a ≡ y ∷ b
    one true u k j h e next = absurd (grind (arith, h))
    one false true k j h e next = absurd (grind (arith, e))
    one false false k j h e next = let s : x ≡ y = grind (arith, k, j) in same s (rw (eq-eqb x y s) at h) (rw (eq-eqb y x (sym s)) at e) next
      where
        same : x ≡ y → precedes a b ≡ false → precedes b a ≡ false → (precedes a b ≡ false → precedes b a ≡ false → a ≡ b) → x ∷ a ≡ y ∷ b
        same s h e next = rw (s, next h e) refl

-- none comes both before and after
pub precedes-back : (a b : List ℕ) → precedes a b ≡ true → precedes b a ≡ false
precedes-back [] [] e = refl
precedes-back [] (y ∷ b) e = refl
precedes-back (x ∷ a) [] e = absurd (grind (arith, e))
precedes-back (x ∷ a) (y ∷ b) e = one (nat_lt x y) (nat_lt y x) (x == y) (y == x) refl refl refl refl e (precedes-back a b)
  where
    one : (t u v w : Bool) → nat_lt x y ≡ t → nat_lt y x ≡ u → (x == y) ≡ v → (y == x) ≡ w → (t || (v && precedes a b)) ≡ true
        → (precedes a b ≡ true → precedes b a ≡ false) → (u || (w && precedes b a)) ≡ false
    one true true v w h k i j e next = absurd (grind (arith, h, k))
    one false true true w h k i j e next = absurd (grind (arith, k, eqb-true x y i))
    one false u false w h k i j e next = absurd (grind (arith, e))
    one t false v false h k i j e next = refl
    one false false true true h k i j e next = next e
    one true false v true h k i j e next = absurd (grind (arith, h, eqb-true y x j))

pub precedes-self : (a : List ℕ) → precedes a a ≡ false
precedes-self [] = refl
precedes-self (x ∷ a) = one (nat_lt x x) (x == x) (grind arith) (precedes-self a)
  where
    one : (t u : Bool) → t ≡ false → precedes a a ≡ false → (t || (u && precedes a a)) ≡ false
    one false true r q = q
    one false false r q = refl
    one true u r q = absurd (grind (arith, r))

-- all lists of n numbers from 1 to m, by the numbers from 1 on
abbrev lists_from : ℕ → ℕ → List (List ℕ)
lists_from m zero = [] ∷ []
lists_from m (suc n) = flat_map (λ x. map (λ r. x ∷ r) (lists_from m n)) (from 1 m)

lists-from : (m n : ℕ) → lists_from m n ≡ lists m n
lists-from m zero = refl
lists-from m (suc n) = ap (λ (ls : List (List ℕ)). flat_map (λ x. map (λ r. x ∷ r) ls) (from 1 m)) (lists-from m n) ∙ ap (flat_map (λ x. map (λ r. x ∷ r) (lists m n))) (from-range 1 m)

by_numbers : (m n k : ℕ) (p : List ℕ) → ((x : ℕ) → filter (λ q. length q == k) ((p ++ x ∷ []) ∷ beyond m n (p ++ x ∷ [])) ≡ map (λ r. p ++ r) (map (λ r. x ∷ r) (lists_from m n)))
    → filter (λ q. length q == k) (beyond m (suc n) p) ≡ map (λ r. p ++ r) (lists_from m (suc n))
by_numbers m n k p e = filter-flat_map (λ q. length q == k) (λ x. (p ++ x ∷ []) ∷ beyond m n (p ++ x ∷ [])) (from 1 m)
    ∙ (flat_map-from _ _ 1 m (λ x i j. e x) ∙ sym (map-flat_map (λ r. p ++ r) (λ x. map (λ r. x ∷ r) (lists_from m n)) (from 1 m)))

moved : (p : List ℕ) (x : ℕ) (rs : List (List ℕ)) → map (λ r. (p ++ x ∷ []) ++ r) rs ≡ map (λ r. p ++ r) (map (λ r. x ∷ r) rs)
moved p x [] = refl
moved p x (r ∷ rs) = rw (append_assoc p (x ∷ []) r, moved p x rs) refl

-- the lists of full length below p
full_below : (m n k : ℕ) (p : List ℕ) → length p + suc n ≡ k → filter (λ q. length q == k) (beyond m (suc n) p) ≡ map (λ r. p ++ r) (lists_from m (suc n))
full_below m zero k p l = by_numbers m zero k p (λ x. rw (eq-eqb (length (p ++ x ∷ [])) k (length-append p (x ∷ []) ∙ l)) refl)
full_below m (suc n) k p l = by_numbers m (suc n) k p (λ x. rw (not_full (length (p ++ x ∷ [])) (length-append p (x ∷ [])))
    (full_below m n k (p ++ x ∷ []) (rw (length-append p (x ∷ [])) (omega (arith, l))) ∙ moved p x (lists_from m (suc n))))
  where
    not_full : (i : ℕ) → i ≡ length p + 1 → (i == k) ≡ false
    not_full i e = one (i == k) refl
      where
        one : (b : Bool) → (i == k) ≡ b → b ≡ false
        one false h = refl
        one true h = absurd (omega (arith, eqb-true i k h, e, l))

-- the lists of full length below the root, in order, are all lists of that length
pub full_are_lists : (m n : ℕ) → filter (λ q. length q == suc n) (beyond m (suc n) []) ≡ lists m (suc n)
full_are_lists m n = full_below m n (suc n) [] (omega arith) ∙ (map-id (lists_from m (suc n)) ∙ lists-from m (suc n))

-- the same at one number each
pub one : (x y z : ℕ) (p q r : Bool) → (nat_lt x y || ((x == y) && p)) ≡ true → (nat_lt y z || ((y == z) && q)) ≡ true → (p ≡ true → q ≡ true → r ≡ true) → (nat_lt x z || ((x == z) && r)) ≡ true
one x y z p q r e h k = by_cases (nat_lt x y) (x == y) (nat_lt y z) (y == z) (nat_lt x z) (x == z) refl refl refl refl refl refl e h
  where
    by_cases : (a b c d f g : Bool) → nat_lt x y ≡ a → (x == y) ≡ b → nat_lt y z ≡ c → (y == z) ≡ d → nat_lt x z ≡ f → (x == z) ≡ g
        → (a || (b && p)) ≡ true → (c || (d && q)) ≡ true → (f || (g && r)) ≡ true
    by_cases a b c d true g i j l n o s e h = refl
    by_cases true b true d false g i j l n o s e h = absurd (grind (arith, i, l, o))
    by_cases true b false true false g i j l n o s e h = absurd (grind (arith, i, o, eqb-true y z n))
    by_cases true b false false false g i j l n o s e h = absurd (grind (arith, h))
    by_cases false true true d false g i j l n o s e h = absurd (grind (arith, l, o, eqb-true x y j))
    by_cases false true false true false true i j l n o s e h = k e h
    by_cases false true false true false false i j l n o s e h = absurd (grind (arith, s, eq-eqb x z (eqb-true x y j ∙ eqb-true y z n)))
    by_cases false true false false false g i j l n o s e h = absurd (grind (arith, h))
    by_cases false false c d false g i j l n o s e h = absurd (grind (arith, e))

pub precedes-trans : (a b c : List ℕ) → precedes a b ≡ true → precedes b c ≡ true → precedes a c ≡ true
precedes-trans [] [] c e h = absurd (grind (arith, e))
precedes-trans [] (y ∷ b) [] e h = absurd (grind (arith, h))
precedes-trans [] (y ∷ b) (z ∷ c) e h = refl
precedes-trans (x ∷ a) [] c e h = absurd (grind (arith, e))
precedes-trans (x ∷ a) (y ∷ b) [] e h = absurd (grind (arith, h))
precedes-trans (x ∷ a) (y ∷ b) (z ∷ c) e h = one x y z (precedes a b) (precedes b c) (precedes a c) e h (precedes-trans a b c)
