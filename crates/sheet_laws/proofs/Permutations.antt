-- Permutations as lists, and as functions with an inverse.
use Rattle.std.proofs.Common.{◌≡◌, inl, inr, ℕ, zero, suc, ◌+◌, ◌-◌, ◌<◌, ◌≤◌, List, [], ◌∷◌, map, length, get_or, subst, refl, ap, arith, sym, ◌∙◌, Bool, true, false, cond, ◌&&◌, filter}
use Rattle.std.specs.Prelude.{◌==◌, not, nat_le}
use Rattle.std.specs.List.{list_all, range_with_len}
use Rattle.std.proofs.lemmas.Bool.{eqb-true, eq-eqb, not-true, not_from_false, false_from_ne_true, and_parts, and_from, leb-true, le-leb, false≢true}
use Rattle.std.proofs.lemmas.List.{map-id}
use Rattle.std.proofs.lemmas.List.FromFn.{get_or-map-range_with_len, length-map-range_with_len}
use Rattle.std.proofs.lemmas.Grind.{same_number_lists}
use Rattle.number_lists.specs.Members.{In, here, there}
use Rattle.number_lists.specs.Words.{upto, holds}
use Rattle.number_lists.proofs.CallerLemmas.{In-cases, In-all, all-In, In-holds, holds-In, In-upto, upto-In, map-In, In-inside, range-In, at-In, length-upto}
use Rattle.pair_laws.specs.Tree.{distinct}
use Rattle.pair_laws.proofs.CallerLemmas.{all_of}
use Rattle.sheet_laws.specs.Permutations.{InRange, is_permutation, at, back, values}

-- a function that permutes the numbers from 1 to m
pub record Turn (m : ℕ) (f : ℕ → ℕ) : Type 0 where
  pub inv : ℕ → ℕ
  pub into : (s : ℕ) → InRange m s → InRange m (f s)
  pub inv_into : (s : ℕ) → InRange m s → InRange m (inv s)
  pub left : (s : ℕ) → InRange m s → inv (f s) ≡ s
  pub right : (s : ℕ) → InRange m s → f (inv s) ≡ s

pub turn_id : (m : ℕ) → Turn m (λ s. s)
turn_id m = record { inv = λ s. s; into = λ s r. r; inv_into = λ s r. r; left = λ s r. refl; right = λ s r. refl }

pub turn_then : (m : ℕ) (f g : ℕ → ℕ) → Turn m f → Turn m g → Turn m (λ s. g (f s))
turn_then m f g t u = record {
  inv = λ s. t.inv (u.inv s);
  into = λ s r. u.into (f s) (t.into s r);
  inv_into = λ s r. t.inv_into (u.inv s) (u.inv_into s r);
  left = λ s r. ap t.inv (u.left (f s) (t.into s r)) ∙ t.left s r;
  right = λ s r. ap g (t.right (u.inv s) (u.inv_into s r)) ∙ u.right s r;
}

pub turn_back : (m : ℕ) (f : ℕ → ℕ) → (t : Turn m f) → Turn m t.inv
turn_back m f t = record { inv = f; into = t.inv_into; inv_into = t.into; left = t.right; right = t.left }

-- ---- lists without repetition

pub distinct-head : (x : ℕ) (xs : List ℕ) → distinct (x ∷ xs) ≡ true → In x xs → ⊥
distinct-head x xs d i = false≢true (sym (not-true (holds xs x) (and_parts (not (holds xs x)) (distinct xs) d).0) ∙ In-holds i)

pub distinct-tail : (x : ℕ) (xs : List ℕ) → distinct (x ∷ xs) ≡ true → distinct xs ≡ true
distinct-tail x xs d = (and_parts (not (holds xs x)) (distinct xs) d).1

pub distinct-cons : (x : ℕ) (xs : List ℕ) → (In x xs → ⊥) → distinct xs ≡ true → distinct (x ∷ xs) ≡ true
distinct-cons x xs n d = and_from (not (holds xs x)) (distinct xs) (not_from_false (holds xs x) (false_from_ne_true (holds xs x) (λ e. n (holds-In xs e)))) d

pub distinct-range : (a n : ℕ) → distinct (range_with_len a n) ≡ true
distinct-range a zero = refl
distinct-range a (suc n) = distinct-cons a (range_with_len (a + 1) n) (λ i. (let r = range-In (a + 1) n a i in omega (arith, r.0))) (distinct-range (a + 1) n)

pub distinct-filter : (p : ℕ → Bool) (xs : List ℕ) → distinct xs ≡ true → distinct (filter p xs) ≡ true
distinct-filter p [] d = refl
distinct-filter p (x ∷ xs) d = by (p x) (distinct-filter p xs (distinct-tail x xs d))
  where
    by : (b : Bool) → distinct (filter p xs) ≡ true → distinct (cond b (x ∷ filter p xs) (filter p xs)) ≡ true
    by true e = distinct-cons x (filter p xs) (λ i. distinct-head x xs d (In-inside p xs i)) e
    by false e = e

distinct-map : (f : ℕ → ℕ) (xs : List ℕ) → ((x y : ℕ) → In x xs → In y xs → f x ≡ f y → x ≡ y) → distinct xs ≡ true → distinct (map f xs) ≡ true
distinct-map f [] h d = refl
distinct-map f (x ∷ xs) h d =
    distinct-cons (f x) (map f xs) (λ i. (let r = map-In f xs i in distinct-head x xs d (rw (h x r.0 here (there r.1) r.2) r.1)))
    (distinct-map f xs (λ y z i j e. h y z (there i) (there j) e) (distinct-tail x xs d))

-- ---- what a permutation is

pub record Parts (m : ℕ) (f : List ℕ) : Type 0 where
  pub long : length f ≡ m
  pub ranged : (s : ℕ) → In s f → InRange m s
  pub once : distinct f ≡ true

range-true : (m s : ℕ) → (nat_le 1 s && nat_le s m) ≡ true → InRange m s
range-true m s e = let b = and_parts (nat_le 1 s) (nat_le s m) e in (leb-true 1 s b.0, leb-true s m b.1)

range-from : (m s : ℕ) → InRange m s → (nat_le 1 s && nat_le s m) ≡ true
range-from m s r = and_from (nat_le 1 s) (nat_le s m) (le-leb 1 s r.0) (le-leb s m r.1)

pub parts-of : (m : ℕ) (f : List ℕ) → is_permutation m f ≡ true → Parts m f
parts-of m f e =
    let a = and_parts (length f == m) (list_all (λ s. nat_le 1 s && nat_le s m) f && distinct f) e in
    let b = and_parts (list_all (λ s. nat_le 1 s && nat_le s m) f) (distinct f) a.1 in
    record { long = eqb-true (length f) m a.0; ranged = λ s i. range-true m s (all-In (λ s. nat_le 1 s && nat_le s m) b.0 i); once = b.1 }

pub from-parts : (m : ℕ) (f : List ℕ) → Parts m f → is_permutation m f ≡ true
from-parts m f h =
    and_from (length f == m) (list_all (λ s. nat_le 1 s && nat_le s m) f && distinct f) (eq-eqb (length f) m h.long)
    (and_from (list_all (λ s. nat_le 1 s && nat_le s m) f) (distinct f) (In-all (λ s. nat_le 1 s && nat_le s m) f (λ s i. range-from m s (h.ranged s i))) h.once)

-- each number from 1 to m is a value
pub all_there : (m : ℕ) (f : List ℕ) (s : ℕ) → is_permutation m f ≡ true → InRange m s → In s f
all_there m f s e r =
    let h = parts-of m f e in
    holds-In f (all_of f (upto m) h.once (In-all (λ x. holds (upto m) x) f (λ x i. In-holds (In-upto m x (h.ranged x i).0 (h.ranged x i).1))) (omega (arith, h.long, length-upto m)) s (In-upto m s r.0 r.1))

-- the place of a number that is there
record IsPlace (xs : List ℕ) (s n : ℕ) : Type 0 where
  pub low : 1 ≤ n
  pub high : n ≤ length xs
  pub is : get_or xs (n - 1) 0 ≡ s

place-there : (xs : List ℕ) (s : ℕ) → In s xs → IsPlace xs s (back xs s)
place-there [] s i = elim i [ ]
place-there (x ∷ xs) s i = by (x == s) refl (λ j. place-there xs s j) (elim-first i)
  where
    elim-first : In s (x ∷ xs) → (x == s) ≡ false → In s xs
    elim-first i e = elim (In-cases i) [ inl k ↦ absurd (false≢true (sym e ∙ eq-eqb x s (sym k))) | inr j ↦ j ]

    by : (b : Bool) → (x == s) ≡ b → (In s xs → IsPlace xs s (back xs s)) → ((x == s) ≡ false → In s xs) → IsPlace (x ∷ xs) s (cond b 1 (suc (back xs s)))
    by true e h k = record { low = omega arith; high = omega arith; is = eqb-true x s e }
    by false e h k = let r = h (k e) in record { low = omega arith; high = omega (arith, r.high); is = ap (λ i. get_or (x ∷ xs) i 0) (one_less (back xs s) r.low) ∙ r.is }
      where
        one_less : (i : ℕ) → 1 ≤ i → suc i - 1 ≡ suc (i - 1)
        one_less i l = omega (arith, l)

pub back-range : (xs : List ℕ) (s : ℕ) → In s xs → InRange (length xs) (back xs s)
back-range xs s i = let r = place-there xs s i in (r.low, r.high)

pub at-back : (xs : List ℕ) (s : ℕ) → In s xs → at xs (back xs s) ≡ s
at-back xs s i = (place-there xs s i).is

-- the place of what stands at a place
back-place : (xs : List ℕ) (i : ℕ) → distinct xs ≡ true → i < length xs → back xs (get_or xs i 0) ≡ suc i
back-place [] i d l = absurd (omega (arith, l))
back-place (x ∷ xs) zero d l = rw (eq-eqb x x refl) refl
back-place (x ∷ xs) (suc i) d l = by (x == get_or xs i 0) refl (back-place xs i (distinct-tail x xs d) (omega (arith, l)))
  where
    by : (b : Bool) → (x == get_or xs i 0) ≡ b → back xs (get_or xs i 0) ≡ suc i → cond b 1 (suc (back xs (get_or xs i 0))) ≡ suc (suc i)
    by false e h = ap suc h
    by true e h = absurd (distinct-head x xs d (rw (eqb-true x (get_or xs i 0) e) (at-In xs i 0 (omega (arith, l)))))

pub back-at : (xs : List ℕ) (s : ℕ) → distinct xs ≡ true → InRange (length xs) s → back xs (at xs s) ≡ s
back-at xs s d r = back-place xs (s - 1) d (omega (arith, r.0, r.1)) ∙ one_more s r.0
  where
    one_more : (s : ℕ) → 1 ≤ s → suc (s - 1) ≡ s
    one_more s l = omega (arith, l)

pub at-range : (xs : List ℕ) (s : ℕ) → InRange (length xs) s → In (at xs s) xs
at-range xs s r = at-In xs (s - 1) 0 (omega (arith, r.0, r.1))

-- a permutation and its inverse undo each other
pub back-of-at : (m : ℕ) (f : List ℕ) → is_permutation m f ≡ true → (s : ℕ) → InRange m s → back f (at f s) ≡ s
back-of-at m f e s r = let h = parts-of m f e in back-at f s h.once (rw h.long r)

pub at-of-back : (m : ℕ) (f : List ℕ) → is_permutation m f ≡ true → (s : ℕ) → InRange m s → at f (back f s) ≡ s
at-of-back m f e s r = at-back f s (all_there m f s e r)

-- a permutation as a function
pub turn_of : (m : ℕ) (f : List ℕ) → is_permutation m f ≡ true → Turn m (at f)
turn_of m f e =
    let h = parts-of m f e in
    record {
      inv = back f;
      into = λ s r. h.ranged (at f s) (at-range f s (rw h.long r));
      inv_into = λ s r. rw h.long at (back-range f s (all_there m f s e r));
      left = back-of-at m f e;
      right = at-of-back m f e;
    }

pub back_turn : (m : ℕ) (f : List ℕ) → is_permutation m f ≡ true → Turn m (back f)
back_turn m f e =
    let h = parts-of m f e in
    record {
      inv = at f;
      into = λ s r. rw h.long at (back-range f s (all_there m f s e r));
      inv_into = λ s r. h.ranged (at f s) (at-range f s (rw h.long r));
      left = at-of-back m f e;
      right = back-of-at m f e;
    }

-- ---- the values of a function

pub at_values : (m : ℕ) (f : ℕ → ℕ) (s : ℕ) → InRange m s → at (values m f) s ≡ f s
at_values m f s r = get_or-map-range_with_len f 1 m (s - 1) s 0 (omega (arith, r.0, r.1)) (omega (arith, r.0))

-- a function into the numbers from 1 to m that takes no value twice
pub values_permute : (m : ℕ) (f : ℕ → ℕ) → ((s : ℕ) → InRange m s → InRange m (f s)) → ((s t : ℕ) → InRange m s → InRange m t → f s ≡ f t → s ≡ t) → is_permutation m (values m f) ≡ true
values_permute m f into once = from-parts m (values m f) (record {
  long = length-map-range_with_len f 1 m;
  ranged = λ s i. (let r = map-In f (upto m) i in rw r.2 (into r.0 (upto-In m r.0 r.1)));
  once = distinct-map f (upto m) (λ x y i j e. once x y (upto-In m x i) (upto-In m y j) e) (distinct-range 1 m);
})

pub turn-once : (m : ℕ) (f : ℕ → ℕ) → Turn m f → (s t : ℕ) → InRange m s → InRange m t → f s ≡ f t → s ≡ t
turn-once m f h s t r q e = sym (h.left s r) ∙ (ap h.inv e ∙ h.left t q)

pub list_of : (m : ℕ) (f : ℕ → ℕ) → Turn m f → is_permutation m (values m f) ≡ true
list_of m f t = values_permute m f t.into (turn-once m f t)

pub back_values : (m : ℕ) (f : ℕ → ℕ) → (t : Turn m f) → (s : ℕ) → InRange m s → back (values m f) s ≡ t.inv s
back_values m f t s r =
    let h = parts-of m (values m f) (list_of m f t) in
    ap (back (values m f)) (sym (t.right s r) ∙ sym (at_values m f (t.inv s) (t.inv_into s r)))
    ∙ back-at (values m f) (t.inv s) h.once (rw h.long (t.inv_into s r))

-- two lists of m numbers with the same values are the same
pub same_turns : (m : ℕ) (f g : List ℕ) → length f ≡ m → length g ≡ m → ((s : ℕ) → InRange m s → at f s ≡ at g s) → f ≡ g
same_turns m f g l k h = same_number_lists f g (l ∙ sym k) (λ i lt.
    let e : suc i - 1 ≡ i = omega arith in
    subst (λ (j : ℕ). get_or f j 0 ≡ get_or g j 0) e (h (suc i) (omega arith, omega (arith, lt, l))))

-- ---- the identity

upto-values : (m : ℕ) → values m (λ s. s) ≡ upto m
upto-values m = map-id (upto m)

pub identity_permutes : (m : ℕ) → is_permutation m (upto m) ≡ true
identity_permutes m = rw (upto-values m) at (list_of m (λ s. s) (turn_id m))

pub at_identity : (m s : ℕ) → InRange m s → at (upto m) s ≡ s
at_identity m s r = rw (upto-values m) at (at_values m (λ s. s) s r)

pub back_identity : (m s : ℕ) → InRange m s → back (upto m) s ≡ s
unfolding turn_id
back_identity m s r = rw (upto-values m) at (back_values m (λ s. s) (turn_id m) s r)
