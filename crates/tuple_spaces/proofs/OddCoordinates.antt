-- Odd coordinates, and how they tell the dimension of a tuple; and the test of tuples.
use Rattle.std.proofs.Common.{◌≡◌, ℕ, suc, ◌+◌, ◌-◌, ◌%◌, ◌≤◌, List, [], ◌∷◌, Bool, true, false, cond, eqb, filter, length, refl, ap, ◌∙◌, arith}
use Rattle.std.proofs.lemmas.Bool.{eqb-true, eq-eqb, ne_eqb, false≢true, and_from}
use Rattle.number_lists.proofs.CallerLemmas.{and-left, and-right}
use Rattle.tuple_spaces.specs.Tuples.{dim_of, is_odd, same}

-- ---- one coordinate

pub odd-is : (c : ℕ) → is_odd c ≡ true → c % 2 ≡ 1
odd-is c e = eqb-true (c % 2) 1 e

pub even-is : (c : ℕ) → c % 2 ≡ 0 → is_odd c ≡ false
even-is c e = ne_eqb (c % 2) 1 (λ q. omega (arith, e, q))

pub odd-low : (c : ℕ) → is_odd c ≡ true → 1 ≤ c
odd-low c e = let o : c % 2 ≡ 1 = odd-is c e in omega arith

-- the coordinates beside an odd one are even
pub below-even : (c : ℕ) → is_odd c ≡ true → is_odd (c - 1) ≡ false
below-even c e = let o : c % 2 ≡ 1 = odd-is c e in even-is (c - 1) (omega arith)

pub above-even : (c : ℕ) → is_odd c ≡ true → is_odd (c + 1) ≡ false
above-even c e = let o : c % 2 ≡ 1 = odd-is c e in even-is (c + 1) (omega arith)

-- ---- the dimension of a tuple

pub dim-cons : (c : ℕ) (cs : List ℕ) → dim_of (c ∷ cs) ≡ cond (is_odd c) 1 0 + dim_of cs
dim-cons c cs = by_test (is_odd c)
  where
    by_test : (b : Bool) → length (cond b (c ∷ filter is_odd cs) (filter is_odd cs)) ≡ cond b 1 0 + length (filter is_odd cs)
    by_test true = omega arith
    by_test false = omega arith

pub odd_dim : (c : ℕ) (t : List ℕ) → is_odd c ≡ true → dim_of (c ∷ t) ≡ suc (dim_of t)
odd_dim c t o = dim-cons c t ∙ (ap (λ (b : Bool). cond b 1 0 + dim_of t) o ∙ omega arith)

pub even_dim : (c : ℕ) (t : List ℕ) → is_odd c ≡ false → dim_of (c ∷ t) ≡ dim_of t
even_dim c t o = dim-cons c t ∙ (ap (λ (b : Bool). cond b 1 0 + dim_of t) o ∙ omega arith)

-- an odd coordinate is replaced by an even one
pub replaced : (c d : ℕ) (cs : List ℕ) → is_odd c ≡ true → is_odd d ≡ false → dim_of (d ∷ cs) + 1 ≡ dim_of (c ∷ cs)
replaced c d cs o e = omega (arith, even_dim d cs e, odd_dim c cs o)

-- ---- the test of tuples

pub same-eq : (t u : List ℕ) → same t u ≡ true → t ≡ u
same-eq [] [] e = refl
same-eq [] (d ∷ ds) e = absurd (false≢true e)
same-eq (c ∷ cs) [] e = absurd (false≢true e)
same-eq (c ∷ cs) (d ∷ ds) e =
    let p : c ≡ d = eqb-true c d (and-left (eqb c d) (same cs ds) e) in
    ap (λ (x : ℕ). x ∷ cs) p ∙ ap (λ (xs : List ℕ). d ∷ xs) (same-eq cs ds (and-right (eqb c d) (same cs ds) e))

pub eq-same : (t : List ℕ) → same t t ≡ true
eq-same [] = refl
eq-same (c ∷ cs) = and_from (eqb c c) (same cs cs) (eq-eqb c c refl) (eq-same cs)
