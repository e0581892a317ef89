-- Whole cells that meet the rules of first appearance are a table.
use Rattle.std.proofs.Common.{◌≡◌, inl, inr, ℕ, zero, suc, ◌+◌, ◌-◌, ◌*◌, ◌/◌, ◌%◌, ◌<◌, List, [], ◌∷◌, ◌++◌, length, take, drop, get_or, ap, arith, sym, ◌∙◌, true, false, ◌&&◌}
use Rattle.std.specs.Prelude.{◌==◌, not, nat_lt, nat_le}
use Rattle.std.specs.List.{list_all}
use Rattle.std.proofs.lemmas.Bool.{and_parts, and_from, eq-eqb, leb-true, not-true, false≢true, or_left, or_right, cases_order}
use Rattle.std.proofs.lemmas.List.{take-append-drop, length-take-le, get_or-take}
use Rattle.std.proofs.Math.Seq.{drop-cons}
use Rattle.number_lists.specs.Words.{upto}
use Rattle.number_lists.proofs.CallerLemmas.{In-all, upto-In}
use Rattle.sheet_laws.specs.Permutations.{InRange, is_permutation}
use Rattle.sheet_laws.specs.Tables.{cell, column, is_table}
use Rattle.sheet_laws.proofs.CallerLemmas.{values_permute}
use Rattle.live_laws.specs.Live.{appeared, taken, may_follow, follows}
use Rattle.live_laws.proofs.CallerLemmas.{place-below, follows-append}
use Rattle.cover_laws.proofs.Gauge.{place, place-row, place-column}

In-taken : (c j x o : ℕ) (p : List ℕ) (k : ℕ) → k < length p → (o + k) % c ≡ j % c → x ≡ get_or p k 0 → taken c j x o p ≡ true
In-taken c j x o [] k l e h = absurd (omega (arith, l))
In-taken c j x o (y ∷ p) zero l e h =
    or_left ((o % c == j % c) && (x == y)) (taken c j x (suc o) p)
    (and_from (o % c == j % c) (x == y) (eq-eqb (o % c) (j % c) (ap (λ (n : ℕ). n % c) (none o) ∙ e)) (eq-eqb x y h))
  where
    none : (n : ℕ) → n ≡ n + 0
    none n = omega arith
In-taken c j x o (y ∷ p) (suc k) l e h =
    or_right ((o % c == j % c) && (x == y)) (taken c j x (suc o) p) (In-taken c j x (suc o) p k (omega (arith, l)) (ap (λ (n : ℕ). n % c) (later o k) ∙ e) h)
  where
    later : (o n : ℕ) → suc o + n ≡ o + suc n
    later o n = omega arith

module _ (c m : ℕ) (t : List ℕ) (long : length t ≡ m * c) (appears : follows c m [] t ≡ true) where
  -- what the rules say of a cell
  record IsMet (i : ℕ) : Type 0 where
    pub ranged : InRange m (get_or t i 0)
    pub fresh : taken c i (get_or t i 0) 0 (take i t) ≡ false

  met : (i : ℕ) → i < m * c → IsMet i
  met i l =
      let row = nat_le (suc (length p / c)) (appeared 1 p) && not (taken c (length p) x 0 p) in
      let a = and_parts (nat_lt (length p) (m * c)) ((nat_le 1 x && nat_le x m) && (nat_le x (suc (appeared 1 p)) && row)) may in
      let b = and_parts (nat_le 1 x && nat_le x m) (nat_le x (suc (appeared 1 p)) && row) a.1 in
      let r = and_parts (nat_le 1 x) (nat_le x m) b.0 in
      let d = and_parts (nat_le x (suc (appeared 1 p))) row b.1 in
      let f = and_parts (nat_le (suc (length p / c)) (appeared 1 p)) (not (taken c (length p) x 0 p)) d.1 in
      record {
        ranged = (leb-true 1 x r.0, leb-true x m r.1);
        fresh = ap (λ (k : ℕ). taken c k x 0 p) (sym (length-take-le i t (omega (arith, l, long)))) ∙ not-true (taken c (length p) x 0 p) f.1;
      }
    where
      p : List ℕ
      p = take i t

      x : ℕ
      x = get_or t i 0

      may : may_follow c m (take i t) (get_or t i 0) ≡ true
      may =
          let split : take i t ++ (x ∷ drop (suc i) t) ≡ t =
          ap (λ (r : List ℕ). take i t ++ r) (sym (drop-cons t i 0 (rw long l))) ∙ take-append-drop i t in
          let e : (follows c m [] (take i t) && follows c m (take i t) (x ∷ drop (suc i) t)) ≡ true =
          sym (follows-append c m [] (take i t) (x ∷ drop (suc i) t)) ∙ (ap (follows c m []) split ∙ appears) in
          let f = and_parts (follows c m [] (take i t)) (follows c m (take i t) (x ∷ drop (suc i) t)) e in
          (and_parts (may_follow c m (take i t) x) (follows c m (take i t ++ x ∷ []) (drop (suc i) t)) f.1).0

  -- no cell stands in its column before
  once : (i j : ℕ) → i < j → j < m * c → i % c ≡ j % c → get_or t i 0 ≡ get_or t j 0 → ⊥
  once i j l k e h =
      false≢true (sym (met j k).fresh
      ∙ In-taken c j (get_or t j 0) 0 (take j t) i (rw (length-take-le j t (omega (arith, k, long))) l)
      (ap (λ (n : ℕ). n % c) (none i) ∙ e) (sym h ∙ sym (get_or-take j t i 0 l)))
    where
      none : (n : ℕ) → 0 + n ≡ n
      none n = omega arith

  column-permutes : (g : ℕ) → InRange c g → is_permutation m (column c m t g) ≡ true
  column-permutes g q = values_permute m (λ s. cell c t s g) (λ s r. (met (place c m s g r q) (place-below c m s g r q)).ranged) apart
    where
      same_column : (s k : ℕ) → (r : InRange m s) → (z : InRange m k) → place c m s g r q % c ≡ place c m k g z q % c
      same_column s k r z = less (place c m s g r q % c) (place c m k g z q % c) (place-column c m s g r q ∙ sym (place-column c m k g z q))
        where
          less : (a b : ℕ) → suc a ≡ suc b → a ≡ b
          less a b e = omega (arith, e)

      apart : (s k : ℕ) → InRange m s → InRange m k → cell c t s g ≡ cell c t k g → s ≡ k
      apart s k r z e = elim (cases_order (c * (s - 1) + (g - 1)) (c * (k - 1) + (g - 1))) [
        | inl h ↦ sym (place-row c m s g r q) ∙ (ap (λ (n : ℕ). suc (n / c)) h ∙ place-row c m k g z q)
        | inr o ↦ elim o [
          | inl l ↦ absurd (once (c * (s - 1) + (g - 1)) (c * (k - 1) + (g - 1)) l (place-below c m k g z q) (same_column s k r z) e)
          | inr l ↦ absurd (once (c * (k - 1) + (g - 1)) (c * (s - 1) + (g - 1)) l (place-below c m s g r q) (same_column k s z r) (sym e))
        ]
      ]

  pub table-from : is_table c m t ≡ true
  table-from =
      and_from (length t == m * c) (list_all (λ g. is_permutation m (column c m t g)) (upto c)) (eq-eqb (length t) (m * c) long)
      (In-all (λ g. is_permutation m (column c m t g)) (upto c) (λ g i. column-permutes g (upto-In c g i)))
