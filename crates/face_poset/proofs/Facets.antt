-- Lemmas on the facets of a cell that is read.
use Rattle.std.proofs.Common.{◌≡◌, ◌≢◌, ◌<◌, ◌≤◌, ◌+◌, ◌++◌, ◌∷◌, [], ℕ, zero, suc, Bool, true, false, not, cond, ◌||◌, eqb, ltb, List, length, get_or, take, filter, refl, sym, ◌∙◌, ap, arith, Contains, Ok, Err, IsPermutation}
use Rattle.std.proofs.lemmas.Cmp.{nat_eq_equiv}
use Rattle.std.specs.List.{list_any, IsDistinct, refill, AllByRecursion}
use Rattle.std.specs.List.Sorted.{IsStrictlyIncreasing, IsNonDecreasing}
use Rattle.std.proofs.lemmas.Bool.{eq-eqb, eqb-false, ltb-false, false≢true, ne_eqb, or_parts}
use Rattle.std.proofs.lemmas.List.{take_all, append-nil, drop_all}
use Rattle.std.proofs.lemmas.List.Folds.{list_any_at}
use Rattle.std.proofs.lemmas.List.Sorted.{Contains-permutation, IsPermutation-sym}
use Rattle.std.proofs.lemmas.Map.Keys.{IsDistinct-IsPermutation, IsStrictlyIncreasing-from_distinct}
use Rattle.face_poset.specs.declared.fault.SpaceFault.TheVariants.{BadCount, FaceOutOfRange, RepeatedFace}
use Rattle.number_lists.specs.Words.{upto, holds}
use Rattle.face_poset.specs.Below.{cell_at}
use Rattle.face_poset.specs.Reader.{repeats, facets_from}
use Rattle.number_lists.proofs.CallerLemmas.{holds-Contains, same_holds, members_sorted, distinct_rising}

-- a number that is 0 or above `below`
abbrev pub is_outside : ℕ → ℕ → Bool
is_outside below n = eqb n 0 || ltb below n

-- what the checks of a cell with facets give, where its count is right
pub facets_checked : (dim below n t : ℕ) (fs : List ℕ) (outside twice : Bool) → 1 ≤ dim → t ≢ 0 → t ≡ length fs → list_any (is_outside below) fs ≡ outside → repeats fs ≡ twice
    → facets_from dim below n (t ∷ fs) ≡ cond outside (Err (FaceOutOfRange (cell_at dim n))) (cond twice (Err (RepeatedFace (cell_at dim n))) (Ok (filter (holds fs) (upto below))))
facets_checked zero below n t fs outside twice low some long a b = absurd (omega arith)
facets_checked (suc dim) below n t fs outside twice low some long a b =
    let count : (eqb t 0 || not (eqb t (length fs))) ≡ false = ap (λ (c : Bool). c || not (eqb t (length fs))) (ne_eqb t 0 some) ∙ ap not (eq-eqb t (length fs) long) in
    ap (λ (c : Bool). cond c (Err (BadCount (cell_at (suc dim) n))) (cond (list_any (is_outside below) fs) (Err (FaceOutOfRange (cell_at (suc dim) n))) (cond (repeats fs) (Err (RepeatedFace (cell_at (suc dim) n))) (Ok (filter (holds fs) (upto below)))))) count
    ∙ (ap (λ (c : Bool). cond c (Err (FaceOutOfRange (cell_at (suc dim) n))) (cond (repeats fs) (Err (RepeatedFace (cell_at (suc dim) n))) (Ok (filter (holds fs) (upto below))))) a
    ∙ ap (λ (c : Bool). cond outside (Err (FaceOutOfRange (cell_at (suc dim) n))) (cond c (Err (RepeatedFace (cell_at (suc dim) n))) (Ok (filter (holds fs) (upto below))))) b)

-- numbers that stand twice

all_differ : (x : ℕ) (xs : List ℕ) → holds xs x ≡ false → AllByRecursion (λ y. eqb x y ≡ false) xs
all_differ x [] h = tt
all_differ x (y ∷ xs) h = let p : (eqb y x ≡ false) × (holds xs x ≡ false) = or_parts (eqb y x) (holds xs x) h in (nat_eq_equiv.symm x y ∙ p.0, all_differ x xs p.1)

none_same : (x : ℕ) (xs : List ℕ) → AllByRecursion (λ y. eqb x y ≡ false) xs → holds xs x ≡ false
none_same x [] h = refl
none_same x (y ∷ xs) h = ap (λ (c : Bool). c || holds xs x) (nat_eq_equiv.symm y x ∙ h.0) ∙ none_same x xs h.1

distinct : (xs : List ℕ) → repeats xs ≡ false → IsDistinct eqb xs
unfolding IsDistinct
distinct [] h = tt
distinct (x ∷ xs) h = let p : (holds xs x ≡ false) × (repeats xs ≡ false) = or_parts (holds xs x) (repeats xs) h in (all_differ x xs p.0, distinct xs p.1)

pub none_twice : (xs : List ℕ) → IsDistinct eqb xs → repeats xs ≡ false
unfolding IsDistinct
none_twice [] h = refl
none_twice (x ∷ xs) h = ap (λ (c : Bool). c || repeats xs) (none_same x xs h.0) ∙ none_twice xs h.1

-- after the sort the numbers rise just where none stands twice

pub rising_once : (fs sorted : List ℕ) → IsPermutation fs sorted → IsStrictlyIncreasing sorted → repeats fs ≡ false
rising_once fs sorted moved rises = none_twice fs (IsDistinct-IsPermutation eqb nat_eq_equiv.symm sorted fs (IsPermutation-sym fs sorted moved) (distinct_rising sorted rises))

pub falling_twice : (fs sorted : List ℕ) (k : ℕ) → IsPermutation fs sorted → IsNonDecreasing sorted → k + 1 < length sorted → get_or sorted (k + 1) 0 ≤ get_or sorted k 0 → repeats fs ≡ true
falling_twice fs sorted k moved up l le = by_test (repeats fs) refl
  where
    by_test : (b : Bool) → repeats fs ≡ b → b ≡ true
    by_test true e = refl
    by_test false e =
        let rises : IsStrictlyIncreasing sorted = IsStrictlyIncreasing-from_distinct sorted up (IsDistinct-IsPermutation eqb nat_eq_equiv.symm fs sorted moved (distinct fs e)) in
        absurd (omega (arith, rises k l))

-- the facets in order

pub inside : (below : ℕ) (fs : List ℕ) (n : ℕ) → list_any (is_outside below) fs ≡ false → holds fs n ≡ true → (1 ≤ n) × (n ≤ below)
inside below fs n none has =
    let at : Contains fs n = holds-Contains fs n has in
    let test : is_outside below n ≡ false = ap (is_outside below) (sym at.2) ∙ fails (is_outside below) fs at.0 n at.1 none in
    let p : (eqb n 0 ≡ false) × (ltb below n ≡ false) = or_parts (eqb n 0) (ltb below n) test in
    let some : n ≢ 0 = eqb-false n 0 p.0 in
    (omega arith, ltb-false below n p.1)
  where
    fails : (p : ℕ → Bool) (xs : List ℕ) (k d : ℕ) → k < length xs → list_any p xs ≡ false → p (get_or xs k d) ≡ false
    fails p xs k d l none = by_test (p (get_or xs k d)) refl
      where
        by_test : (b : Bool) → p (get_or xs k d) ≡ b → b ≡ false
        by_test true e = absurd (false≢true (sym none ∙ list_any_at p xs k d l e))
        by_test false e = refl

pub sorted_is : (below : ℕ) (fs sorted : List ℕ) → IsPermutation fs sorted → IsStrictlyIncreasing sorted → list_any (is_outside below) fs ≡ false → sorted ≡ filter (holds fs) (upto below)
sorted_is below fs sorted moved rises none =
    members_sorted sorted (holds fs) below rises
    (λ n. same_holds sorted fs n (Contains-permutation sorted fs n (IsPermutation-sym fs sorted moved)) (Contains-permutation fs sorted n moved))
    (λ n has. inside below fs n none has)

-- a list that is written over whole
pub refill_whole : (xs ws : List ℕ) → length ws ≡ length xs → refill (length xs) xs ws ≡ ws
refill_whole xs ws e =
    ap (λ (ys : List ℕ). take (length xs) (ws ++ ys)) (drop_all (length ws) xs (omega arith))
    ∙ (ap (take (length xs)) (append-nil ws) ∙ take_all (length xs) ws (omega arith))
