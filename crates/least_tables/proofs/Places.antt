-- Places of a table, counted from 0, with their rows and columns.
use Rattle.std.proofs.Common.{◌≡◌, ℕ, suc, ◌+◌, ◌-◌, ◌*◌, ◌/◌, ◌%◌, ◌<◌, ◌≤◌, List, get_or, ap, arith, subst, ◌∙◌}
use Rattle.std.proofs.lemmas.Nat.{div-mul-add, mod-mul-add}
use Rattle.std.proofs.lemmas.List.FromFn.{get_or-map-range_with_len}
use Rattle.std.proofs.Math.Nat.{mul_comm}
use Rattle.sheet_laws.specs.Permutations.{at, back}
use Rattle.sheet_laws.specs.Tables.{cell, renumbered}
use Rattle.live_laws.proofs.CallerLemmas.{placed, place-below}
use Rattle.least_tables.specs.Numberings.{IsNextPlace}

pub less : (n : ℕ) → suc n - 1 ≡ n
less n = omega arith

pub one_more : (n : ℕ) → 1 ≤ n → suc (n - 1) ≡ n
one_more n l = omega (arith, l)

-- the row and the column of a place
pub row-of : (c r g i : ℕ) → i ≡ c * r + g → g < c → i / c ≡ r
row-of c r g i e l = ap (λ (n : ℕ). n / c) (e ∙ ap (λ (n : ℕ). n + g) (mul_comm c r)) ∙ div-mul-add r c g l

pub column-of : (c r g i : ℕ) → i ≡ c * r + g → g < c → i % c ≡ g
column-of c r g i e l = ap (λ (n : ℕ). n % c) (e ∙ ap (λ (n : ℕ). n + g) (mul_comm c r)) ∙ mod-mul-add r c g l

-- a row and the column of some place meet at a place of the table
pub met-below : (c m j o : ℕ) → j < m * c → o < m → c * o + j % c < m * c
met-below c m j o l k =
    let p = placed c m j l in
    subst (λ (n : ℕ). n < m * c) (ap (λ (n : ℕ). c * n + (suc (j % c) - 1)) (less o) ∙ ap (λ (n : ℕ). c * o + n) (less (j % c)))
    (place-below c m (suc o) (suc (j % c)) (omega arith, omega (arith, k)) p.column)

-- a cell of a renumbered table
pub renumbered-at : (c m : ℕ) (f t : List ℕ) (j o : ℕ) → j < m * c → back f (suc (j / c)) ≡ suc o → get_or (renumbered c m f t) j 0 ≡ at f (get_or t (c * o + j % c) 0)
renumbered-at c m f t j o l e =
    get_or-map-range_with_len (λ i. at f (cell c t (back f (suc (i / c))) (suc (i % c)))) 0 (m * c) j j 0 l (none j)
    ∙ (ap (λ (n : ℕ). at f (cell c t n (suc (j % c)))) e
    ∙ ap (λ (n : ℕ). at f (get_or t n 0)) (ap (λ (n : ℕ). c * n + (suc (j % c) - 1)) (less o) ∙ ap (λ (n : ℕ). c * o + n) (less (j % c))))
  where
    none : (k : ℕ) → 0 + k ≡ k
    none k = omega arith

-- ---- one place after another

pub next-row : (c r g : ℕ) → g + 1 ≡ c → IsNextPlace c r g (r + 1) 0
next-row c r g e = record { place = by (c * (r + 1)) (c * r) (times c r); within = omega (arith, e) }
  where
    times : (c r : ℕ) → c * (r + 1) ≡ c * r + c
    times c r = grind arith

    by : (a b : ℕ) → a ≡ b + c → a + 0 ≡ suc (b + g)
    by a b h = omega (arith, h, e)

pub next-column : (c r g : ℕ) → g < c → (g + 1 ≡ c → ⊥) → IsNextPlace c r g r (g + 1)
next-column c r g l n = record { place = by (c * r); within = below }
  where
    by : (a : ℕ) → a + (g + 1) ≡ suc (a + g)
    by a = omega arith

    below : g + 1 < c
    below = omega (arith, l, n)
