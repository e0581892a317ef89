-- Increasing lists of numbers: their members and counts, and the numbers from 1 to n.
use Rattle.std.proofs.Common.{◌≡◌, ◌≢◌, ◌⊎◌, inl, inr, ℕ, suc, ◌+◌, ◌-◌, ◌<◌, ◌≤◌, List, [], ◌∷◌, ◌++◌, length, take, get_or, map, Bool, true, false, cond, ◌||◌, ◌&&◌, eqb, refl, ap, sym, ◌∙◌, subst, arith, filter, All, Any, Contains, count_by, set, zero-add}
use Rattle.std.specs.List.{range_with_len, IsDistinct}
use Rattle.std.specs.List.Sorted.{IsStrictlyIncreasing}
use Rattle.std.specs.Cmp.{both_ways}
use Rattle.std.proofs.lemmas.Bool.{eqb-true, eq-eqb, ne_eqb, false≢true, cases_lt}
use Rattle.std.proofs.Math.Bool.{and-false}
use Rattle.std.proofs.lemmas.Bool.Decides.{eqb_tells}
use Rattle.std.proofs.lemmas.List.{map-id, get_or_default, get_or-take, length-take-le, same_lists, length-set, get_or-set_same, get_or-set_other}
use Rattle.std.proofs.lemmas.List.FromFn.{map-range_with_len_more, length-map-range_with_len, get_or-map-range_with_len, length-range_with_len, get_or-range_with_len}
use Rattle.std.proofs.lemmas.List.Sums.{sum_by-cons}
use Rattle.std.proofs.lemmas.List.Folds.{Any-from_list_any, list_any_at, list_any_none, list_any_more}
use Rattle.std.proofs.lemmas.List.Elements.{All-head, All-tail, recursion_from_All}
use Rattle.std.proofs.lemmas.List.Kept.{AllPairs-from_increasing, IsStrictlyIncreasing-filter}
use Rattle.number_lists.specs.Words.{upto, holds}

pub upto_more : (n : ℕ) → upto (n + 1) ≡ upto n ++ (n + 1) ∷ []
upto_more n =
    sym (map-id (range_with_len 1 (n + 1))) ∙ (map-range_with_len_more (λ (x : ℕ). x) 1 n (n + 1) (omega arith) ∙ ap (λ (xs : List ℕ). xs ++ (n + 1) ∷ []) (map-id (range_with_len 1 n)))

pub length-upto : (n : ℕ) → length (upto n) ≡ n
length-upto n = length-range_with_len 1 n

pub get_or-upto : (n i : ℕ) → i < n → get_or (upto n) i 0 ≡ i + 1
get_or-upto n i l = get_or-range_with_len 1 n i 0 l ∙ omega arith

pub All-upto : (n : ℕ) → All (λ x. (1 ≤ x) × (x ≤ n)) (upto n)
All-upto n k d l =
    let lt : k < n = omega (arith, length-upto n) in
    let e : get_or (upto n) k d ≡ 1 + k = get_or-range_with_len 1 n k d lt in
    (omega arith, omega arith)

-- two tests that agree at each element of a list keep the same elements
pub filter_same : {X : Type 0} (p q : X → Bool) (xs : List X) → All (λ x. p x ≡ q x) xs → filter p xs ≡ filter q xs
filter_same p q [] h = refl
filter_same p q (x ∷ xs) h =
    ap (λ (b : Bool). cond b (x ∷ filter p xs) (filter p xs)) (All-head (λ x. p x ≡ q x) x xs h)
    ∙ ap (λ (ys : List _). cond (q x) (x ∷ ys) ys) (filter_same p q xs (All-tail (λ x. p x ≡ q x) x xs h))

-- membership as a test

pub Contains-holds : (xs : List ℕ) (x : ℕ) → Contains xs x → holds xs x ≡ true
Contains-holds xs x (k, l, e) = list_any_at (λ y. eqb y x) xs k x l (eq-eqb (get_or xs k x) x e)

pub holds-Contains : (xs : List ℕ) (x : ℕ) → holds xs x ≡ true → Contains xs x
holds-Contains xs x h =
    let a : Any (λ y. eqb y x ≡ true) xs = Any-from_list_any (λ y. eqb y x) xs h in
    let e : a.1 ≡ x = eqb-true a.1 x a.4 in
    (a.0, a.2, get_or_default xs a.0 x a.1 a.2 ∙ (a.3 ∙ e))

pub holds-none : (xs : List ℕ) (x : ℕ) → All (λ y. y ≢ x) xs → holds xs x ≡ false
holds-none xs x h = list_any_none (λ y. eqb y x) xs (λ k d l. ne_eqb (get_or xs k d) x (h k d l))

pub holds_more : (xs : List ℕ) (i x : ℕ) → i < length xs → holds (take (i + 1) xs) x ≡ (holds (take i xs) x || eqb (get_or xs i 0) x)
holds_more xs i x l = list_any_more (λ y. eqb y x) xs i 0 l

-- increasing lists

-- an element is not among those before it
pub holds-before : (xs : List ℕ) (i : ℕ) → IsStrictlyIncreasing xs → i < length xs → holds (take i xs) (get_or xs i 0) ≡ false
holds-before xs i h l =
    holds-none (take i xs) (get_or xs i 0) (λ k d lt.
    let short : length (take i xs) ≡ i = length-take-le i xs (omega arith) in
    let less : get_or xs k 0 < get_or xs i 0 = AllPairs-from_increasing xs h k i 0 (omega arith) l in
    let same : get_or (take i xs) k d ≡ get_or xs k 0 = get_or-take i xs k d (omega arith) ∙ get_or_default xs k d 0 (omega arith) in
    λ e. let q : get_or xs k 0 ≡ get_or xs i 0 = sym same ∙ e in omega arith)

pub increasing_tail : (x : ℕ) (xs : List ℕ) → IsStrictlyIncreasing (x ∷ xs) → IsStrictlyIncreasing xs
increasing_tail x xs h k l =
    let e : suc k + 1 ≡ suc (k + 1) = omega arith in
    subst (λ (m : ℕ). get_or xs k 0 < get_or (x ∷ xs) m 0) e (h (suc k) (omega arith))

-- the first element is below all others
pub increasing_head : (x : ℕ) (xs : List ℕ) → IsStrictlyIncreasing (x ∷ xs) → All (λ y. x < y) xs
increasing_head x xs h k d l =
    AllPairs-from_increasing (x ∷ xs) h 0 (suc k) d (omega arith) (omega arith)

-- an increasing list has a number at one place only
pub increasing-once : (xs : List ℕ) (i j : ℕ) → IsStrictlyIncreasing xs → i < length xs → j < length xs → get_or xs i 0 ≡ get_or xs j 0 → i ≡ j
increasing-once xs i j h l m e =
    elim (cases_lt i j) [
      | inl q ↦ absurd (omega (arith, AllPairs-from_increasing xs h i j 0 q m, e))
      | inr q ↦ elim (cases_lt j i) [ inl r ↦ absurd (omega (arith, AllPairs-from_increasing xs h j i 0 r l, e)) | inr r ↦ omega (arith, q, r) ]
    ]

-- an increasing list has each number at most once
pub count-increasing : (xs : List ℕ) (y : ℕ) → IsStrictlyIncreasing xs → count_by (λ x. eqb x y) xs ≡ cond (holds xs y) 1 0
count-increasing [] y h = refl
count-increasing (x ∷ xs) y h =
    let rest : count_by (λ z. eqb z y) xs ≡ cond (holds xs y) 1 0 = count-increasing xs y (increasing_tail x xs h) in
    let both : count_by (λ z. eqb z y) (x ∷ xs) ≡ cond (eqb x y) 1 0 + cond (holds xs y) 1 0 = sum_by-cons (λ z. cond (eqb z y) 1 0) x xs ∙ ap (λ (n : ℕ). cond (eqb x y) 1 0 + n) rest in
    elim (eqb_tells x y) [
      | inl p ↦
          let none : holds xs y ≡ false = holds-none xs y (λ k d l e. omega (arith, increasing_head x xs h k d l, p.1)) in
          both ∙ (ap (λ (b : Bool). cond b 1 0 + cond (holds xs y) 1 0) p.0 ∙ (ap (λ (b : Bool). 1 + cond b 1 0) none ∙ sym (ap (λ (b : Bool). cond (b || holds xs y) 1 0) p.0)))
      | inr p ↦
          both ∙ (ap (λ (b : Bool). cond b 1 0 + cond (holds xs y) 1 0) p.0 ∙ (zero-add (cond (holds xs y) 1 0) ∙ sym (ap (λ (b : Bool). cond (b || holds xs y) 1 0) p.0)))
    ]

-- a list over the numbers 1 to n with one element changed
pub set-map-upto : {X : Type 0} (F G : ℕ → X) (n g : ℕ) (y : X) → 1 ≤ g → g ≤ n → G g ≡ y → ((f : ℕ) → f ≢ g → F f ≡ G f) → set (map F (upto n)) (g - 1) y ≡ map G (upto n)
set-map-upto F G n g y low high here others =
    same_lists (set (map F (upto n)) (g - 1) y) (map G (upto n)) (length-set (map F (upto n)) (g - 1) y ∙ (length-map-range_with_len F 1 n ∙ sym (length-map-range_with_len G 1 n)))
    (λ k d l.
    let lt : k < n = omega (arith, length-set (map F (upto n)) (g - 1) y, length-map-range_with_len F 1 n) in
    let to : get_or (map G (upto n)) k d ≡ G (k + 1) = get_or-map-range_with_len G 1 n k (k + 1) d lt (omega arith) in
    let from : get_or (map F (upto n)) k d ≡ F (k + 1) = get_or-map-range_with_len F 1 n k (k + 1) d lt (omega arith) in
    elim (eqb_tells k (g - 1)) [
      | inl p ↦
          let e : k + 1 ≡ g = let q : k ≡ g - 1 = p.1 in omega arith in
          ap (λ (j : ℕ). get_or (set (map F (upto n)) (g - 1) y) j d) p.1
          ∙ (get_or-set_same (map F (upto n)) (g - 1) y d (omega (arith, length-map-range_with_len F 1 n)) ∙ (sym here ∙ (ap G (sym e) ∙ sym to)))
      | inr p ↦
          get_or-set_other (map F (upto n)) (g - 1) k y d p.1
          ∙ (from ∙ (others (k + 1) (λ e. p.1 (omega arith)) ∙ sym to))
    ])

-- sorted lists by their members

pub same_holds : (xs ys : List ℕ) (n : ℕ) → (Contains xs n → Contains ys n) → (Contains ys n → Contains xs n) → holds xs n ≡ holds ys n
same_holds xs ys n f g =
    both_ways (holds xs n) (holds ys n) (λ h. Contains-holds ys n (f (holds-Contains xs n h))) (λ h. Contains-holds xs n (g (holds-Contains ys n h)))

-- a number of an increasing list that is not the first is above it
above_head : (x n : ℕ) (xs : List ℕ) → IsStrictlyIncreasing (x ∷ xs) → holds (x ∷ xs) n ≡ true → (n ≡ x) ⊎ (x < n)
above_head x n xs h has =
    elim (eqb_tells x n) [
      | inl p ↦ inl (sym p.1)
      | inr p ↦
          let rest : holds xs n ≡ true = sym (ap (λ (b : Bool). b || holds xs n) p.0) ∙ has in
          let at : Contains xs n = holds-Contains xs n rest in
          let less : x < get_or xs at.0 n = increasing_head x xs h at.0 n at.1 in
          let here : get_or xs at.0 n ≡ n = at.2 in
          inr (omega arith)
    ]

-- a list from a number on has no smaller one
not_below : (x n : ℕ) (xs : List ℕ) → IsStrictlyIncreasing (x ∷ xs) → n ≤ x → holds xs n ≡ false
not_below x n xs h le = holds-none xs n (λ k d l e. omega (arith, increasing_head x xs h k d l, e))

has_head : (x : ℕ) (xs : List ℕ) → holds (x ∷ xs) x ≡ true
has_head x xs = ap (λ (c : Bool). c || holds xs x) (eq-eqb x x refl)

tails : (x : ℕ) (xs ys : List ℕ) (n : ℕ) → IsStrictlyIncreasing (x ∷ xs) → IsStrictlyIncreasing (x ∷ ys) → holds (x ∷ xs) n ≡ holds (x ∷ ys) n → holds xs n ≡ holds ys n
tails x xs ys n a b h =
    elim (eqb_tells x n) [
      | inl p ↦ let q : x ≡ n = p.1 in not_below x n xs a (omega arith) ∙ sym (not_below x n ys b (omega arith))
      | inr p ↦ ap (λ (c : Bool). c || holds xs n) (sym p.0) ∙ (h ∙ ap (λ (c : Bool). c || holds ys n) p.0)
    ]

-- increasing lists with the same members are the same
pub same_increasing : (xs ys : List ℕ) → IsStrictlyIncreasing xs → IsStrictlyIncreasing ys → ((n : ℕ) → holds xs n ≡ holds ys n) → xs ≡ ys
same_increasing [] [] a b h = refl
same_increasing [] (y ∷ ys) a b h = absurd (false≢true (h y ∙ has_head y ys))
same_increasing (x ∷ xs) [] a b h = absurd (false≢true (sym (h x) ∙ has_head x xs))
same_increasing (x ∷ xs) (y ∷ ys) a b h =
    let u : (x ≡ y) ⊎ (y < x) = above_head y x ys b (sym (h x) ∙ has_head x xs) in
    let v : (y ≡ x) ⊎ (x < y) = above_head x y xs a (h y ∙ has_head y ys) in
    let e : y ≡ x = elim u [ inl p ↦ sym p | inr p ↦ elim v [ inl q ↦ q | inr q ↦ absurd (omega arith) ] ] in
    let b' : IsStrictlyIncreasing (x ∷ ys) = subst (λ (z : ℕ). IsStrictlyIncreasing (z ∷ ys)) e b in
    let h' : (n : ℕ) → holds (x ∷ xs) n ≡ holds (x ∷ ys) n = λ n. h n ∙ ap (λ (z : ℕ). holds (z ∷ ys) n) e in
    let rest : xs ≡ ys = same_increasing xs ys (increasing_tail x xs a) (increasing_tail x ys b') (λ n. tails x xs ys n a b' (h' n)) in
    ap (λ (zs : List ℕ). x ∷ zs) rest ∙ ap (λ (z : ℕ). z ∷ ys) (sym e)

filter_step : (p : ℕ → Bool) (x : ℕ) (xs : List ℕ) (n : ℕ) → holds (filter p xs) n ≡ (p n && holds xs n)
    → (b : Bool) → p x ≡ b → holds (cond b (x ∷ filter p xs) (filter p xs)) n ≡ (p n && (eqb x n || holds xs n))
filter_step p x xs n rest true e =
    elim (eqb_tells x n) [
      | inl q ↦
          let yes : p n ≡ true = ap p (sym q.1) ∙ e in
          ap (λ (c : Bool). c || holds (filter p xs) n) q.0 ∙ sym (ap (λ (c : Bool). c && (eqb x n || holds xs n)) yes ∙ ap (λ (c : Bool). c || holds xs n) q.0)
      | inr q ↦ ap (λ (c : Bool). c || holds (filter p xs) n) q.0 ∙ (rest ∙ ap (λ (c : Bool). p n && (c || holds xs n)) (sym q.0))
    ]
filter_step p x xs n rest false e =
    elim (eqb_tells x n) [
      | inl q ↦
          let no : p n ≡ false = ap p (sym q.1) ∙ e in
          rest ∙ (ap (λ (c : Bool). c && holds xs n) no ∙ sym (ap (λ (c : Bool). c && (eqb x n || holds xs n)) no))
      | inr q ↦ rest ∙ ap (λ (c : Bool). p n && (c || holds xs n)) (sym q.0)
    ]

-- the members of a filtered list
pub holds-filter : (p : ℕ → Bool) (xs : List ℕ) (n : ℕ) → holds (filter p xs) n ≡ (p n && holds xs n)
holds-filter p [] n = sym (and-false (p n))
holds-filter p (x ∷ xs) n = filter_step p x xs n (holds-filter p xs n) (p x) refl

pub increasing-range : (a n : ℕ) → IsStrictlyIncreasing (range_with_len a n)
increasing-range a n k l =
    let m : k + 1 < n = omega (arith, l, length-range_with_len a n) in
    omega (arith, get_or-range_with_len a n k 0 (omega arith), get_or-range_with_len a n (k + 1) 0 m)

pub increasing-upto : (n : ℕ) → IsStrictlyIncreasing (upto n)
increasing-upto n = increasing-range 1 n

pub holds-upto : (most n : ℕ) → 1 ≤ n → n ≤ most → holds (upto most) n ≡ true
holds-upto most n low high =
    let at : get_or (upto most) (n - 1) n ≡ 1 + (n - 1) = get_or-range_with_len 1 most (n - 1) n (omega arith) in
    Contains-holds (upto most) n (n - 1, omega (arith, length-upto most), (let e : get_or (upto most) (n - 1) n ≡ n = omega arith in e))

-- an increasing list whose members are the numbers up to `most` that pass a test
pub members_sorted : (xs : List ℕ) (p : ℕ → Bool) (most : ℕ) → IsStrictlyIncreasing xs → ((n : ℕ) → holds xs n ≡ p n) → ((n : ℕ) → p n ≡ true → (1 ≤ n) × (n ≤ most)) → xs ≡ filter p (upto most)
members_sorted xs p most rises same within =
    same_increasing xs (filter p (upto most)) rises (IsStrictlyIncreasing-filter p (upto most) (increasing-upto most))
    (λ n. same n ∙ sym (holds-filter p (upto most) n ∙ by_test n (p n) refl))
  where
    by_test : (n : ℕ) (b : Bool) → p n ≡ b → (b && holds (upto most) n) ≡ b
    by_test n true e = let w : (1 ≤ n) × (n ≤ most) = within n e in holds-upto most n w.0 w.1
    by_test n false e = refl

-- no number stands twice
pub distinct_rising : (xs : List ℕ) → IsStrictlyIncreasing xs → IsDistinct eqb xs
unfolding IsDistinct
distinct_rising [] h = tt
distinct_rising (x ∷ xs) h =
    (recursion_from_All (λ y. eqb x y ≡ false) xs (λ k d l. ne_eqb x (get_or xs k d) (λ e. omega (arith, increasing_head x xs h k d l, e))), distinct_rising xs (increasing_tail x xs h))

pub length-filter-le : {X : Type 0} (p : X → Bool) (xs : List X) → length (filter p xs) ≤ length xs
length-filter-le p [] = omega arith
length-filter-le p (x ∷ xs) =
    let rest : length (filter p xs) ≤ length xs = length-filter-le p xs in
    elim (p x) as (λ b. length (cond b (x ∷ filter p xs) (filter p xs)) ≤ suc (length xs)) [ true ↦ omega arith | false ↦ omega arith ]
