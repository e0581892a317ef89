-- A least table that is transitive meets the rules of first appearance.
use Rattle.std.proofs.Common.{◌≡◌, ◌⊎◌, inl, inr, ℕ, zero, suc, ◌+◌, ◌-◌, ◌*◌, ◌/◌, ◌%◌, ◌<◌, ◌≤◌, List, [], ◌∷◌, ◌++◌, length, take, get_or, refl, ap, arith, sym, subst, ◌∙◌, true, false, ◌&&◌}
use Rattle.std.specs.Prelude.{◌==◌, not, nat_lt, nat_le, max}
use Rattle.std.proofs.lemmas.Bool.{eqb-true, false≢true, and_from, and_parts, or_cases, cases_lt, lt-ltb, le-leb, not_from_false, false_from_ne_true}
use Rattle.std.proofs.lemmas.List.{get_or-take, length-take-le}
use Rattle.std.proofs.Math.Seq.{take-suc, take-length}
use Rattle.std.proofs.Math.Nat.{mul-le-mul_left, mul-suc, mul-div-le}
use Rattle.number_lists.specs.Members.{In, here, there}
use Rattle.number_lists.proofs.CallerLemmas.{In-cases, at-In, In-at}
use Rattle.sheet_laws.specs.Permutations.{InRange, is_permutation, at, back, values}
use Rattle.sheet_laws.specs.Tables.{cell, column, is_table, is_least, Reached, first, along, against, IsTransitive}
use Rattle.sheet_laws.proofs.CallerLemmas.{turn_of, turn-once, all_there, at-back, back-range, at_values, values_permute, back-of-at, parts-of, least_is_exact}
use Rattle.live_laws.specs.Live.{appeared, taken, may_follow, follows}
use Rattle.live_laws.specs.Classes.{LeastAppearsInOrder}
use Rattle.live_laws.proofs.Sound.{follows-append}
use Rattle.live_laws.proofs.Whole.{table-long, table-column, at-column, cell-range}
use Rattle.live_laws.proofs.Classes.{placed}
use Rattle.live_laws.proofs.Turned.{exchange, exchange_permutes, exchange_is_smaller}

-- ---- the greatest sheet that has appeared

max-left : (a b : ℕ) → a ≤ max a b
max-left a b = grind arith

max-right : (a b : ℕ) → b ≤ max a b
max-right a b = grind arith

max-below : (a b m : ℕ) → a ≤ m → b ≤ m → max a b ≤ m
max-below a b m l k = grind (arith, l, k)

pub appeared-seen : (s : ℕ) (p : List ℕ) → s ≤ appeared s p
appeared-seen s [] = omega arith
appeared-seen s (x ∷ p) = omega (arith, appeared-seen (max s x) p, max-left s x)

pub appeared-above : (s : ℕ) (p : List ℕ) (x : ℕ) → In x p → x ≤ appeared s p
appeared-above s [] x i = elim i [ ]
appeared-above s (y ∷ p) x i = elim (In-cases i) [ inl e ↦ omega (arith, e, appeared-seen (max s y) p, max-right s y) | inr j ↦ appeared-above (max s y) p x j ]

pub appeared-below : (s : ℕ) (p : List ℕ) (m : ℕ) → s ≤ m → ((x : ℕ) → In x p → x ≤ m) → appeared s p ≤ m
appeared-below s [] m l h = l
appeared-below s (y ∷ p) m l h = appeared-below (max s y) p m (max-below s y m l (h y here)) (λ x i. h x (there i))

pub appeared-append : (s : ℕ) (p q : List ℕ) → appeared s (p ++ q) ≡ appeared (appeared s p) q
appeared-append s [] q = refl
appeared-append s (x ∷ p) q = appeared-append (max s x) p q

-- ---- what stands in the column already

pub record IsTaken (c j x o : ℕ) (p : List ℕ) : Type 0 where
  pub place : ℕ
  pub within : place < length p
  pub same_column : (o + place) % c ≡ j % c
  pub same : get_or p place 0 ≡ x

pub taken-some : (c j x o : ℕ) (p : List ℕ) → taken c j x o p ≡ true → IsTaken c j x o p
taken-some c j x o [] e = absurd (false≢true e)
taken-some c j x o (y ∷ p) e = by (or_cases ((o % c == j % c) && (x == y)) (taken c j x (suc o) p) e) (λ k. taken-some c j x (suc o) p k)
  where
    by : (((o % c == j % c) && (x == y)) ≡ true) ⊎ (taken c j x (suc o) p ≡ true) → (taken c j x (suc o) p ≡ true → IsTaken c j x (suc o) p) → IsTaken c j x o (y ∷ p)
    by (inl k) h =
        let b = and_parts (o % c == j % c) (x == y) k in
        record { place = 0; within = omega arith; same_column = ap (λ (n : ℕ). n % c) (none o) ∙ eqb-true (o % c) (j % c) b.0; same = sym (eqb-true x y b.1) }
      where
        none : (n : ℕ) → n + 0 ≡ n
        none n = omega arith
    by (inr k) h =
        let r = h k in
        record { place = suc r.place; within = omega (arith, r.within); same_column = ap (λ (n : ℕ). n % c) (later o r.place) ∙ r.same_column; same = r.same }
      where
        later : (o n : ℕ) → o + suc n ≡ suc o + n
        later o n = omega arith

-- ---- one cell after another

module _ (c m : ℕ) (t : List ℕ) (some : 1 ≤ c) (table : is_table c m t ≡ true) (least : is_least c m t ≡ true) (transitive : IsTransitive c m t) where
  long : length t ≡ m * c
  long = table-long c m t table

  -- a cell by its place
  cell-place : (i : ℕ) → i < m * c → cell c t (suc (i / c)) (suc (i % c)) ≡ get_or t i 0
  cell-place i l = ap (λ (j : ℕ). get_or t j 0) (placed c m i l).is

  place-range : (i : ℕ) → i < m * c → InRange m (get_or t i 0)
  place-range i l = let p = placed c m i l in rw (cell-place i l) at (cell-range c m t table (suc (i / c)) (suc (i % c)) p.row p.column)

  module _ (i : ℕ) (l : i < m * c) where
    p : List ℕ
    p = take i t

    x : ℕ
    x = get_or t i 0

    k : ℕ
    k = appeared 1 p

    long-p : length p ≡ i
    unfolding p
    long-p = length-take-le i t (omega (arith, l, long))

    low-k : 1 ≤ k
    unfolding k
    low-k = appeared-seen 1 p

    at-p : (j : ℕ) → j < i → get_or p j 0 ≡ get_or t j 0
    unfolding p
    at-p j h = get_or-take i t j 0 h

    before : (j : ℕ) → j < i → InRange k (get_or t j 0)
    unfolding k
    before j h = ((place-range j (omega (arith, h, l))).0, rw (at-p j h) at (appeared-above 1 p (get_or p j 0) (at-In p j 0 (rw long-p h))))

    k-below : k ≤ m
    unfolding k
    k-below = appeared-below 1 p m (omega (arith, (placed c m i l).row.0, (placed c m i l).row.1)) (λ y j. small y (In-at j))
      where
        small : (y : ℕ) → (n : ℕ) × (n < length p) × (get_or p n 0 ≡ y) → y ≤ m
        small y r = let h : r.0 < i = rw long-p at r.1 in rw (sym r.2) (rw (at-p r.0 h) (place-range r.0 (omega (arith, h, l))).1)

    -- where the row has not appeared, the columns keep the sheets up to k
    module _ (high : k ≤ i / c) where
      keeps : (s g : ℕ) → InRange k s → InRange c g → InRange k (cell c t s g)
      keeps s g r q = before (c * (s - 1) + (g - 1)) (by (c * (s - 1)) (c * k) (c * (i / c)) below_k (mul-le-mul_left c high) (mul-div-le i c))
        where
          below_k : c * (s - 1) + c ≤ c * k
          below_k = rw (mul-suc c (s - 1)) at (mul-le-mul_left c (next s r.0 r.1))
            where
              next : (s : ℕ) → 1 ≤ s → s ≤ k → suc (s - 1) ≤ k
              next s a b = omega (arith, a, b)

          by : (a b d : ℕ) → a + c ≤ b → b ≤ d → d ≤ i → a + (g - 1) < i
          by a b d e f h = omega (arith, e, f, h, q.0, q.1)

      in-range : (s : ℕ) → InRange k s → InRange m s
      in-range s r = (r.0, omega (arith, r.1, k-below))

      -- and so back along them
      column-k : (g : ℕ) → InRange c g → is_permutation k (values k (λ s. cell c t s g)) ≡ true
      column-k g q = values_permute k (λ s. cell c t s g) (λ s r. keeps s g r q) (λ s n r j e.
          turn-once m (at (column c m t g)) (turn_of m (column c m t g) (table-column c m t table g q)) s n (in-range s r) (in-range n j)
          (at-column c m t g s (in-range s r) ∙ (e ∙ sym (at-column c m t g n (in-range n j)))))

      keeps-back : (s g : ℕ) → InRange k s → InRange c g → InRange k (back (column c m t g) s)
      keeps-back s g r q =
          let v = values k (λ s. cell c t s g) in
          let j = all_there k v s (column-k g q) r in
          let n : InRange k (back v s) = rw (parts-of k v (column-k g q)).long at (back-range v s j) in
          let e : cell c t (back v s) g ≡ s = sym (at_values k (λ s. cell c t s g) (back v s) n) ∙ at-back v s j in
          subst (λ (y : ℕ). InRange k y)
          (sym (back-of-at m (column c m t g) (table-column c m t table g q) (back v s) (in-range (back v s) n)) ∙ ap (back (column c m t g)) (at-column c m t g (back v s) (in-range (back v s) n) ∙ e))
          n

      reached-low : {s : ℕ} → Reached c m t s → InRange k s
      reached-low first = (omega arith, low-k)
      reached-low (along {s} {g} h q) = let r = reached-low h in rw (at-column c m t g s (in-range s r)) (keeps s g r q)
      reached-low (against {s} {g} h q) = keeps-back s g (reached-low h) q

      absurd_row : ⊥
      absurd_row = let r = reached-low (transitive (suc (i / c)) (placed c m i l).row) in omega (arith, r.1, high)

    row-appeared : suc (i / c) ≤ k
    row-appeared = by (cases_lt (i / c) k)
      where
        by : (i / c < k) ⊎ (k ≤ i / c) → suc (i / c) ≤ k
        by (inl h) = omega (arith, h)
        by (inr h) = absurd (absurd_row h)

    not-above : x ≤ suc k
    unfolding x
    not-above = by (cases_lt (suc k) (get_or t i 0))
      where
        by : (suc k < get_or t i 0) ⊎ (get_or t i 0 ≤ suc k) → get_or t i 0 ≤ suc k
        by (inr h) = h
        by (inl h) =
            let most : get_or t i 0 ≤ m = (place-range i l).1 in
            absurd (false≢true
            (sym ((least_is_exact c m t).0 least (values m (exchange (suc k) (get_or t i 0))) (exchange_permutes c m k i (get_or t i 0) t some long l (low-k, k-below) row-appeared before refl h most))
            ∙ exchange_is_smaller c m k i (get_or t i 0) t some long l (low-k, k-below) row-appeared before refl h most))

    not-taken : taken c i x 0 p ≡ false
    unfolding x
    not-taken = false_from_ne_true (taken c i (get_or t i 0) 0 p) (λ e. twice (taken-some c i (get_or t i 0) 0 p e))
      where
        twice : IsTaken c i (get_or t i 0) 0 p → ⊥
        twice r =
            let h : r.place < i = rw long-p at r.within in
            let q = placed c m i l in
            let b = placed c m r.place (omega (arith, h, l)) in
            let g : suc (r.place % c) ≡ suc (i % c) = ap suc (ap (λ (n : ℕ). n % c) (none r.place) ∙ r.same_column) in
            let e : cell c t (suc (r.place / c)) (suc (i % c)) ≡ cell c t (suc (i / c)) (suc (i % c)) =
            ap (cell c t (suc (r.place / c))) (sym g) ∙ (cell-place r.place (omega (arith, h, l)) ∙ (sym (at-p r.place h) ∙ (r.same ∙ sym (cell-place i l)))) in
            let rows : suc (r.place / c) ≡ suc (i / c) =
            turn-once m (at (column c m t (suc (i % c)))) (turn_of m (column c m t (suc (i % c))) (table-column c m t table (suc (i % c)) q.column)) (suc (r.place / c)) (suc (i / c)) b.row q.row
            (at-column c m t (suc (i % c)) (suc (r.place / c)) b.row ∙ (e ∙ sym (at-column c m t (suc (i % c)) (suc (i / c)) q.row))) in
            let same : r.place ≡ i = sym b.is ∙ (ap (λ (s : ℕ). c * (s - 1) + (suc (r.place % c) - 1)) rows ∙ (ap (λ (g : ℕ). c * (suc (i / c) - 1) + (g - 1)) g ∙ q.is)) in
            omega (arith, h, same)
          where
            none : (n : ℕ) → n ≡ 0 + n
            none n = omega arith

    may : may_follow c m p x ≡ true
    unfolding x k
    may =
        and_from (nat_lt (length p) (m * c)) _ (lt-ltb (length p) (m * c) (rw long-p l))
        (and_from (nat_le 1 (get_or t i 0) && nat_le (get_or t i 0) m) _ (and_from (nat_le 1 (get_or t i 0)) (nat_le (get_or t i 0) m) (le-leb 1 (get_or t i 0) (place-range i l).0) (le-leb (get_or t i 0) m (place-range i l).1))
        (and_from (nat_le (get_or t i 0) (suc (appeared 1 p))) _ (le-leb (get_or t i 0) (suc (appeared 1 p)) not-above)
        (and_from (nat_le (suc (length p / c)) (appeared 1 p)) (not (taken c (length p) (get_or t i 0) 0 p)) (le-leb (suc (length p / c)) (appeared 1 p) (rw long-p row-appeared))
        (not_from_false (taken c (length p) (get_or t i 0) 0 p) (rw long-p not-taken)))))

  pub all-follow : (i : ℕ) → i ≤ m * c → follows c m [] (take i t) ≡ true
  unfolding p x
  all-follow zero l = refl
  all-follow (suc i) l =
      let h : i < m * c = omega (arith, l) in
      ap (follows c m []) (take-suc t i 0 (rw long h)) ∙ (follows-append c m [] (take i t) (get_or t i 0 ∷ [])
      ∙ and_from (follows c m [] (take i t)) (may_follow c m (take i t) (get_or t i 0) && true) (all-follow i (omega (arith, l))) (and_from (may_follow c m (take i t) (get_or t i 0)) true (one i h) refl))
    where
      one : (i : ℕ) → i < m * c → may_follow c m (take i t) (get_or t i 0) ≡ true
      one i h = may i h

pub least_appears : LeastAppearsInOrder
least_appears c m t some table least transitive = ap (follows c m []) (sym (whole (table-long c m t table))) ∙ all-follow c m t some table least transitive (m * c) (omega arith)
  where
    whole : length t ≡ m * c → take (m * c) t ≡ t
    whole e = ap (λ (n : ℕ). take n t) (sym e) ∙ take-length t
