-- The exchange of two sheets.
use Rattle.std.proofs.Common.{◌≡◌, ℕ, suc, ◌+◌, ◌*◌, ◌/◌, ◌%◌, ◌<◌, ◌≤◌, List, length, get_or, refl, ap, arith, sym, subst, ◌∙◌, Bool, true, false, cond}
use Rattle.std.specs.Prelude.{◌==◌}
use Rattle.std.proofs.lemmas.Bool.{eqb-true, eq-eqb}
use Rattle.std.proofs.lemmas.List.FromFn.{get_or-map-range_with_len}
use Rattle.std.proofs.Math.Nat.{mul-div-le, mul_comm, le_trans}
use Rattle.std.proofs.lemmas.Nat.{le-div}
use Rattle.sheet_laws.specs.Permutations.{InRange, is_permutation, at, back, values}
use Rattle.sheet_laws.specs.Tables.{cell, precedes, renumbered}
use Rattle.sheet_laws.proofs.CallerLemmas.{Turn, list_of, back_values, at_values}
use Rattle.live_laws.proofs.Orders.{first_smaller}
use Rattle.live_laws.proofs.Classes.{placed, length-renumbered}

pub exchange : (a b s : ℕ) → ℕ
exchange a b s = cond (s == a) b (cond (s == b) a s)

pub exchange-first : (a b : ℕ) → exchange a b a ≡ b
unfolding exchange
exchange-first a b = rw (eq-eqb a a refl) refl

pub exchange-second : (a b : ℕ) → exchange a b b ≡ a
unfolding exchange
exchange-second a b = by (b == a) refl (eq-eqb b b refl)
  where
    by : (t : Bool) → (b == a) ≡ t → (b == b) ≡ true → cond t b (cond (b == b) a b) ≡ a
    by true e h = eqb-true b a e
    by false e h = rw h refl

pub exchange-other : (a b s : ℕ) → (s ≡ a → ⊥) → (s ≡ b → ⊥) → exchange a b s ≡ s
unfolding exchange
exchange-other a b s h k = by (s == a) (s == b) refl refl
  where
    by : (t u : Bool) → (s == a) ≡ t → (s == b) ≡ u → cond t b (cond u a s) ≡ s
    by true u e g = absurd (h (eqb-true s a e))
    by false true e g = absurd (k (eqb-true s b g))
    by false false e g = refl

exchange-twice : (a b s : ℕ) → exchange a b (exchange a b s) ≡ s
unfolding exchange
exchange-twice a b s = by (s == a) (s == b) refl refl
  where
    by : (t u : Bool) → (s == a) ≡ t → (s == b) ≡ u → exchange a b (cond t b (cond u a s)) ≡ s
    by true u e g = exchange-second a b ∙ sym (eqb-true s a e)
    by false true e g = exchange-first a b ∙ sym (eqb-true s b g)
    by false false e g = rw (e, g) refl

exchange-into : (m a b s : ℕ) → InRange m a → InRange m b → InRange m s → InRange m (exchange a b s)
unfolding exchange
exchange-into m a b s h k l = by (s == a) (s == b)
  where
    by : (t u : Bool) → InRange m (cond t b (cond u a s))
    by true u = k
    by false true = h
    by false false = l

pub turn_exchange : (m a b : ℕ) → InRange m a → InRange m b → Turn m (exchange a b)
turn_exchange m a b h k = record { inv = exchange a b; into = λ s r. exchange-into m a b s h k r; inv_into = λ s r. exchange-into m a b s h k r; left = λ s r. exchange-twice a b s; right = λ s r. exchange-twice a b s }

-- the cell of a renumbered table at a place whose row stays
cell_at : (c m : ℕ) (cells : List ℕ) (f : ℕ → ℕ) → (t : Turn m f) → (i : ℕ) → i < m * c → InRange m (suc (i / c)) → t.inv (suc (i / c)) ≡ suc (i / c) → InRange m (get_or cells i 0)
    → get_or (renumbered c m (values m f) cells) i 0 ≡ f (get_or cells i 0)
cell_at c m cells f t i l r e h =
    get_or-map-range_with_len (λ i. at (values m f) (cell c cells (back (values m f) (suc (i / c))) (suc (i % c)))) 0 (m * c) i i 0 l (none i)
    ∙ (ap (λ s. at (values m f) (cell c cells s (suc (i % c)))) (back_values m f t (suc (i / c)) r ∙ e)
    ∙ (ap (at (values m f)) (ap (λ j. get_or cells j 0) (placed c m i l).is) ∙ at_values m f (get_or cells i 0) h))
  where
    none : (k : ℕ) → 0 + k ≡ k
    none k = omega arith

div-le-div : (a b k : ℕ) → 0 < k → a ≤ b → a / k ≤ b / k
div-le-div a b k p l = le-div (a / k) b k p (subst (λ v. v ≤ b) (mul_comm k (a / k)) (le_trans (mul-div-le a k) l))

-- where a cell is above the next sheet that may appear, the exchange of the two gives a smaller table
module _ (c m k i x : ℕ) (cells : List ℕ) (p : 0 < c) (len : length cells ≡ m * c) (l : i < m * c) (r : InRange m k) (row : suc (i / c) ≤ k)
    (before : (j : ℕ) → j < i → InRange k (get_or cells j 0)) (is : get_or cells i 0 ≡ x) (above : suc k < x) (most : x ≤ m) where
  next_range : InRange m (suc k)
  next_range = (omega arith, omega (arith, above, most))

  cell_above : InRange m x
  cell_above = (omega (arith, above), most)

  turned : Turn m (exchange (suc k) x)
  turned = turn_exchange m (suc k) x next_range cell_above

  low : (s : ℕ) → s ≤ k → exchange (suc k) x s ≡ s
  low s h = exchange-other (suc k) x s (λ e. absurd (omega (arith, e, h))) (λ e. absurd (omega (arith, e, h, above)))

  row_stays : (j : ℕ) → suc (j / c) ≤ k → turned.inv (suc (j / c)) ≡ suc (j / c)
  unfolding turned turn_exchange
  row_stays j h = low (suc (j / c)) h

  pub exchange_permutes : is_permutation m (values m (exchange (suc k) x)) ≡ true
  exchange_permutes = list_of m (exchange (suc k) x) turned

  pub exchange_is_smaller : precedes (renumbered c m (values m (exchange (suc k) x)) cells) cells ≡ true
  exchange_is_smaller = first_smaller (renumbered c m (values m (exchange (suc k) x)) cells) cells i
      (λ j h. let q : suc (j / c) ≤ k = by_row j h in
      cell_at c m cells (exchange (suc k) x) turned j (omega (arith, h, l)) (omega arith, omega (arith, q, r.1)) (row_stays j q) ((before j h).0, omega (arith, (before j h).1, r.1)) ∙ low (get_or cells j 0) (before j h).1)
      (rw (length-renumbered c m (values m (exchange (suc k) x)) cells) l) (rw len l)
      (rw (cell_at c m cells (exchange (suc k) x) turned i l (omega arith, omega (arith, row, r.1)) (row_stays i row) (rw is cell_above), is, exchange-second (suc k) x) above)
    where
      by_row : (j : ℕ) → j < i → suc (j / c) ≤ k
      by_row j h = let d : j / c ≤ i / c = div-le-div j i c p (omega (arith, h)) in omega (arith, d, row)
