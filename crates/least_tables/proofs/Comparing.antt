-- A table compared with its renumberings, cell by cell. c, m and t are the columns, the sheets and the cells; N are the new numbers of the
-- sheets, O the sheets of the new numbers, k is how many of these are settled; all of them are counted from 0.
use Rattle.std.proofs.Common.{◌≡◌, ◌⊎◌, inl, inr, ℕ, suc, ◌+◌, ◌-◌, ◌*◌, ◌/◌, ◌%◌, ◌<◌, ◌≤◌, List, length, take, get_or, ap, arith, sym, subst, ◌∙◌, true, false}
use Rattle.std.proofs.lemmas.Bool.{cases_lt}
use Rattle.std.proofs.lemmas.List.{get_or-take, length-take-le}
use Rattle.std.proofs.lemmas.Grind.{same_number_lists}
use Rattle.std.proofs.Math.Nat.{eq-or-lt_of_le}
use Rattle.number_lists.proofs.CallerLemmas.{In-at}
use Rattle.sheet_laws.specs.Permutations.{InRange, is_permutation, at, back, values}
use Rattle.sheet_laws.specs.Tables.{precedes, renumbered}
use Rattle.sheet_laws.proofs.CallerLemmas.{Turn, turn_of, turn-once, list_of, back_values, at_values, back-of-at}
use Rattle.live_laws.proofs.CallerLemmas.{placed, length-renumbered, first_smaller, first_greater, precedes-self, appeared-below}
use Rattle.least_tables.specs.Numberings.{IsNumbering, IsBegun, HasNumber, HasNone, IsGiven}
use Rattle.least_tables.specs.Smaller.{IsGrown, HasSmaller, HasNoSmaller}
use Rattle.least_tables.proofs.Places.{less, one_more, row-of, column-of, met-below, renumbered-at}

-- the cell that the numbering puts at the place j, and its number, counted from 1
abbrev pub met : (c : ℕ) (t O : List ℕ) (j : ℕ) → ℕ
met c t O j = get_or t (c * get_or O (j / c) 0 + j % c) 0

abbrev pub named : (c : ℕ) (t N O : List ℕ) (j : ℕ) → ℕ
named c t N O j = suc (get_or N (met c t O j - 1) 0)

-- a permutation that gives the settled numbers as well
abbrev pub Agrees : (k : ℕ) (O h : List ℕ) → Type 0
Agrees k O h = (n : ℕ) → n < k → at h (suc (get_or O n 0)) ≡ suc n

-- before the place i the table of the numbering is the table itself, and each permutation that begins with the sheet b, from 0, agrees, or
-- makes no smaller table
pub record IsCompared (c m b i k : ℕ) (t N O : List ℕ) : Type 0 where
  pub numbering : IsNumbering m N O
  pub some : 1 ≤ k
  pub most : k ≤ m
  pub same : (j : ℕ) → j < i → named c t N O j ≡ get_or t j 0
  pub below : (j : ℕ) → j < i → get_or t j 0 ≤ k
  pub others : (h : List ℕ) → is_permutation m h ≡ true → at h (suc b) ≡ 1 → Agrees k O h ⊎ (precedes (renumbered c m h t) t ≡ false)

pub begun : (c m b : ℕ) (t N O : List ℕ) → b < m → IsBegun m b N O → IsCompared c m b 0 1 t N O
begun c m b t N O l g = record {
  numbering = g.numbering;
  some = omega arith;
  most = omega (arith, l);
  same = λ j i. absurd (omega (arith, i));
  below = λ j i. absurd (omega (arith, i));
  others = λ h p e. inl (λ n i. (let z : 0 ≡ n = omega (arith, i) in subst (λ (x : ℕ). at h (suc (get_or O x 0)) ≡ suc x) z (ap (λ (x : ℕ). at h (suc x)) g.first ∙ e)));
}

module _ (c m : ℕ) (t : List ℕ) (g : IsGrown c m t) where
  in-table : (j : ℕ) → j < m * c → j < length t
  in-table j l = rw g.long l

  -- ---- the numbering as a permutation

  turned : (N O : List ℕ) → IsNumbering m N O → Turn m (λ s. suc (get_or N (s - 1) 0))
  turned N O h = record {
    inv = λ s. suc (get_or O (s - 1) 0);
    into = λ s r. (let b = h.number (s - 1) (low s r) in (omega arith, omega (arith, b)));
    inv_into = λ s r. (let b = h.sheet (s - 1) (low s r) in (omega arith, omega (arith, b)));
    left = λ s r. ap (λ (n : ℕ). suc (get_or O n 0)) (less (get_or N (s - 1) 0)) ∙ (ap suc (h.left (s - 1) (low s r)) ∙ one_more s r.0);
    right = λ s r. ap (λ (n : ℕ). suc (get_or N n 0)) (less (get_or O (s - 1) 0)) ∙ (ap suc (h.right (s - 1) (low s r)) ∙ one_more s r.0);
  }
    where
      low : (s : ℕ) → InRange m s → s - 1 < m
      low s r = omega (arith, r.0, r.1)

  row-below : (j : ℕ) → j < m * c → j / c < m
  row-below j l = let p = (placed c m j l).row in omega (arith, p.1)

  met-range : (N O : List ℕ) → IsNumbering m N O → (j : ℕ) → j < m * c → InRange m (met c t O j)
  met-range N O h j l = g.ranged (c * get_or O (j / c) 0 + j % c) (in-table (c * get_or O (j / c) 0 + j % c) (met-below c m j (get_or O (j / c) 0) l (h.sheet (j / c) (row-below j l))))

  -- the renumbered table of a numbering
  renumbered-named : (N O : List ℕ) → IsNumbering m N O → (j : ℕ) → j < m * c → get_or (renumbered c m (values m (λ s. suc (get_or N (s - 1) 0))) t) j 0 ≡ named c t N O j
  unfolding turned
  renumbered-named N O h j l =
      renumbered-at c m (values m (λ s. suc (get_or N (s - 1) 0))) t j (get_or O (j / c) 0) l
      (back_values m (λ s. suc (get_or N (s - 1) 0)) (turned N O h) (suc (j / c)) (placed c m j l).row ∙ ap (λ (n : ℕ). suc (get_or O n 0)) (less (j / c)))
      ∙ at_values m (λ s. suc (get_or N (s - 1) 0)) (met c t O j) (met-range N O h j l)

  -- ---- a permutation that agrees

  module _ (k : ℕ) (N O h : List ℕ) (n : IsNumbering m N O) (most : k ≤ m) (p : is_permutation m h ≡ true) (a : Agrees k O h) (j : ℕ) (l : j < m * c) (low : j / c < k) where
    agreed-at : get_or (renumbered c m h t) j 0 ≡ at h (met c t O j)
    agreed-at =
        let o = n.sheet (j / c) (omega (arith, low, most)) in
        renumbered-at c m h t j (get_or O (j / c) 0) l (ap (back h) (sym (a (j / c) low)) ∙ back-of-at m h p (suc (get_or O (j / c) 0)) (omega arith, omega (arith, o)))

    place-below : met c t O j - 1 < m
    place-below = let r = met-range N O n j l in omega (arith, r.0, r.1)

    place-is : suc (met c t O j - 1) ≡ met c t O j
    place-is = let r = met-range N O n j l in one_more (met c t O j) r.0

    pub agreed-settled : get_or N (met c t O j - 1) 0 < k → get_or (renumbered c m h t) j 0 ≡ named c t N O j
    agreed-settled s =
        agreed-at ∙ (ap (at h) (sym place-is) ∙ (ap (λ (x : ℕ). at h (suc x)) (sym (n.left (met c t O j - 1) place-below)) ∙ a (get_or N (met c t O j - 1) 0) s))

    pub agreed-free : k ≤ get_or N (met c t O j - 1) 0 → k < get_or (renumbered c m h t) j 0
    agreed-free f = by (cases_lt k (get_or (renumbered c m h t) j 0))
      where
        v : ℕ
        v = at h (met c t O j)

        ranged : InRange m (at h (met c t O j))
        ranged = (turn_of m h p).into (met c t O j) (met-range N O n j l)

        clash : at h (met c t O j) ≤ k → ⊥
        clash s =
            let i : at h (met c t O j) - 1 < k = omega (arith, ranged.0, s) in
            let e : at h (suc (get_or O (at h (met c t O j) - 1) 0)) ≡ at h (met c t O j) = a (at h (met c t O j) - 1) i ∙ one_more (at h (met c t O j)) ranged.0 in
            let b = n.sheet (at h (met c t O j) - 1) (omega (arith, i, most)) in
            let same : suc (get_or O (at h (met c t O j) - 1) 0) ≡ met c t O j =
            turn-once m (at h) (turn_of m h p) (suc (get_or O (at h (met c t O j) - 1) 0)) (met c t O j) (omega arith, omega (arith, b)) (met-range N O n j l) e in
            let num : get_or N (met c t O j - 1) 0 ≡ at h (met c t O j) - 1 =
            ap (λ (x : ℕ). get_or N (x - 1) 0) (sym same) ∙ (ap (λ (x : ℕ). get_or N x 0) (less (get_or O (at h (met c t O j) - 1) 0)) ∙ n.right (at h (met c t O j) - 1) (omega (arith, i, most))) in
            omega (arith, num, i, f)

        by : (k < get_or (renumbered c m h t) j 0) ⊎ (get_or (renumbered c m h t) j 0 ≤ k) → k < get_or (renumbered c m h t) j 0
        by (inl s) = s
        by (inr s) = absurd (clash (subst (λ (x : ℕ). x ≤ k) agreed-at s))

  -- ---- one place

  module _ (b i k : ℕ) (N O : List ℕ) (q : IsCompared c m b i k t N O) where
    -- the rows of the places so far have settled numbers
    row-known : (j : ℕ) → j ≤ i → j < m * c → j / c < k
    row-known j l h =
        let r = g.rows j (in-table j h) in
        let a = appeared-below 1 (take j t) k q.some (λ x n. small x (In-at n)) in
        omega (arith, r, a)
      where
        long : length (take j t) ≡ j
        long = length-take-le j t (let d = in-table j h in omega (arith, d))

        small : (x : ℕ) → (n : ℕ) × (n < length (take j t)) × (get_or (take j t) n 0 ≡ x) → x ≤ k
        small x r = let d : r.0 < j = rw long at r.1 in subst (λ (y : ℕ). y ≤ k) (sym (get_or-take j t r.0 0 d) ∙ r.2) (q.below r.0 (omega (arith, d, l)))

    -- what was compared has settled numbers
    settled : (j : ℕ) → j < i → get_or N (met c t O j - 1) 0 < k
    settled j l = let e = q.same j l in let s = q.below j l in omega (arith, e, s)

    agreed-before : (h : List ℕ) → is_permutation m h ≡ true → Agrees k O h → (j : ℕ) → j < i → j < m * c → get_or (renumbered c m h t) j 0 ≡ get_or t j 0
    agreed-before h p a j l d = agreed-settled k N O h q.numbering q.most p a j d (row-known j (omega (arith, l)) d) (settled j l) ∙ q.same j l

    -- the cell at the place i of the numbering, by the row r and the column a of the place
    pub cell-below : (r a : ℕ) → i < length t → i ≡ c * r + a → (0 < c → a < c) → c * get_or O r 0 + a < length t
    cell-below r a l e w =
        let d : i < m * c = rw g.long at l in
        let h : a < c = w (placed c m i d).some in
        let row : i / c ≡ r = row-of c r a i e h in
        let o : get_or O r 0 < m = q.numbering.sheet r (subst (λ (n : ℕ). n < m) row (row-below i d)) in
        subst (λ (n : ℕ). n < length t) (ap (λ (n : ℕ). c * get_or O r 0 + n) (column-of c r a i e h)) (rw (sym g.long) at (met-below c m i (get_or O r 0) d o))

    pub cell-met : (r a y : ℕ) → i < length t → i ≡ c * r + a → (0 < c → a < c) → y ≡ get_or t (c * get_or O r 0 + a) 0 → met c t O i ≡ suc (y - 1)
    cell-met r a y l e w f =
        let d : i < m * c = rw g.long at l in
        let h : a < c = w (placed c m i d).some in
        let z : 1 ≤ y = subst (λ (n : ℕ). 1 ≤ n) (sym f) (g.ranged (c * get_or O r 0 + a) (cell-below r a l e w)).0 in
        ap (λ (n : ℕ). get_or t (c * get_or O n 0 + i % c) 0) (row-of c r a i e h) ∙ (ap (λ (n : ℕ). get_or t (c * get_or O r 0 + n) 0) (column-of c r a i e h) ∙ (sym f ∙ sym (one_more y z)))

    -- at the end
    pub all-compared : i ≡ m * c → HasNoSmaller c m b t
    all-compared e h p f = by (q.others h p f)
      where
        by : Agrees k O h ⊎ (precedes (renumbered c m h t) t ≡ false) → precedes (renumbered c m h t) t ≡ false
        by (inr n) = n
        by (inl a) =
            subst (λ (x : List ℕ). precedes x t ≡ false)
            (sym (same_number_lists (renumbered c m h t) t (length-renumbered c m h t ∙ sym g.long)
            (λ j l. (let d : j < m * c = rw (length-renumbered c m h t) at l in agreed-before h p a j (omega (arith, d, e)) d))))
            (precedes-self t)

    module _ (y K : ℕ) (U V : List ℕ) (eight : m ≤ 8) (l : i < m * c) (is : met c t O i ≡ suc y) (v : IsGiven k y N O U V K) where
      y-below : y < m
      y-below = let r = met-range N O q.numbering i l in omega (arith, r.1, is)

      then : IsNumbering m U V
      then = v.numbering m eight q.numbering y-below

      row-stays : (j : ℕ) → j ≤ i → j < m * c → get_or V (j / c) 0 ≡ get_or O (j / c) 0
      row-stays j h d = v.sheets_stay (j / c) (row-known j h d)

      met-stays : (j : ℕ) → j ≤ i → j < m * c → met c t V j ≡ met c t O j
      met-stays j h d = ap (λ (o : ℕ). get_or t (c * o + j % c) 0) (row-stays j h d)

      same-then : (j : ℕ) → j < i → named c t U V j ≡ get_or t j 0
      same-then j h =
          let d : j < m * c = omega (arith, h, l) in
          ap (λ (x : ℕ). suc (get_or U (x - 1) 0)) (met-stays j (omega (arith, h)) d) ∙ (ap suc (v.numbers_stay (met c t O j - 1) (settled j h)) ∙ q.same j h)

      place-y : met c t O i - 1 ≡ y
      place-y = ap (λ (x : ℕ). x - 1) is ∙ less y

      named-here : named c t U V i ≡ suc (get_or U y 0)
      named-here = ap (λ (x : ℕ). suc (get_or U (x - 1) 0)) (met-stays i (omega arith) l) ∙ ap (λ (x : ℕ). suc (get_or U x 0)) place-y

      -- the numbering gives a smaller table
      pub finds-smaller : suc (get_or U y 0) < get_or t i 0 → HasSmaller c m t
      unfolding turned
      finds-smaller s = record {
        by = values m (λ s. suc (get_or U (s - 1) 0));
        permutes = list_of m (λ s. suc (get_or U (s - 1) 0)) (turned U V then);
        smaller =
            first_smaller (renumbered c m (values m (λ s. suc (get_or U (s - 1) 0))) t) t i
            (λ j h. renumbered-named U V then j (omega (arith, h, l)) ∙ same-then j h)
            (rw (length-renumbered c m (values m (λ s. suc (get_or U (s - 1) 0))) t) l) (in-table i l)
            (subst (λ (x : ℕ). x < get_or t i 0) (sym (renumbered-named U V then i l ∙ named-here)) s);
      }

      -- what a permutation that agrees puts there: the number of the sheet, or more where it had none
      pub data Puts (h : List ℕ) : Type 0 where
        settles : get_or (renumbered c m h t) i 0 ≡ suc (get_or U y 0) → K ≡ k → V ≡ O → suc (get_or U y 0) ≤ k → Puts h
        frees : k < get_or (renumbered c m h t) i 0 → get_or (renumbered c m h t) i 0 ≡ at h (suc y) → get_or U y 0 ≡ k → get_or V k 0 ≡ y → K ≡ suc k → Puts h

      puts : (h : List ℕ) → is_permutation m h ≡ true → Agrees k O h → Puts h
      puts h p a = by v.either
        where
          low : i / c < k
          low = row-known i (omega arith) l

          by : HasNumber k y N O U V K ⊎ HasNone k y N U V K → Puts h
          by (inl s) =
              let n : get_or N (met c t O i - 1) 0 < k = subst (λ (x : ℕ). get_or N x 0 < k) (sym place-y) s.settled in
              let e : get_or N y 0 ≡ get_or U y 0 = ap (λ (x : List ℕ). get_or x y 0) (sym s.numbers_same) in
              settles (agreed-settled k N O h q.numbering q.most p a i l low n ∙ (ap (λ (x : ℕ). suc (get_or N x 0)) place-y ∙ ap suc e)) s.known s.sheets_same (omega (arith, e, s.settled))
          by (inr s) =
              let n : k ≤ get_or N (met c t O i - 1) 0 = subst (λ (x : ℕ). k ≤ get_or N x 0) (sym place-y) s.free in
              frees (agreed-free k N O h q.numbering q.most p a i l low n) (agreed-at k N O h q.numbering q.most p a i l low ∙ ap (at h) is) s.number s.sheet s.known

      greater-at : (h : List ℕ) → is_permutation m h ≡ true → Agrees k O h → get_or t i 0 < get_or (renumbered c m h t) i 0 → precedes (renumbered c m h t) t ≡ false
      greater-at h p a s =
          first_greater (renumbered c m h t) t i (λ j d. agreed-before h p a j d (omega (arith, d, l))) (rw (length-renumbered c m h t) l) (in-table i l) s

      -- each permutation that begins with b gives a greater one
      pub finds-greater : get_or t i 0 < suc (get_or U y 0) → HasNoSmaller c m b t
      finds-greater s h p f = by (q.others h p f)
        where
          least : Puts h → get_or t i 0 < get_or (renumbered c m h t) i 0
          least (settles e d o z) = omega (arith, e, s)
          least (frees e d u o z) = omega (arith, e, u, s)

          by : Agrees k O h ⊎ (precedes (renumbered c m h t) t ≡ false) → precedes (renumbered c m h t) t ≡ false
          by (inr n) = n
          by (inl a) = greater-at h p a (least (puts h p a))

      -- the comparison goes on
      pub goes-on : suc (get_or U y 0) ≡ get_or t i 0 → IsCompared c m b (suc i) K t U V
      goes-on e = record {
        numbering = then;
        some = by-case (λ z w. omega (arith, z, q.some)) (λ z w. omega (arith, z));
        most = by-case (λ z w. omega (arith, z, q.most)) (λ z w. (let b : get_or U y 0 < m = then.number y y-below in omega (arith, z, w, b)));
        same = λ j d. at-most j (eq-or-lt_of_le (up j d));
        below = λ j d. low j (eq-or-lt_of_le (up j d));
        others = λ h p f. next h p (q.others h p f);
      }
        where
          up : (j : ℕ) → j < suc i → j ≤ i
          up j d = omega (arith, d)

          by-case : {P : Type 0} → (K ≡ k → suc (get_or U y 0) ≤ k → P) → (K ≡ suc k → get_or U y 0 ≡ k → P) → P
          by-case {P} f d = by v.either
            where
              by : HasNumber k y N O U V K ⊎ HasNone k y N U V K → P
              by (inl s) = f s.known (let w : get_or U y 0 ≡ get_or N y 0 = ap (λ (x : List ℕ). get_or x y 0) s.numbers_same in omega (arith, w, s.settled))
              by (inr s) = d s.known s.number

          at-most : (j : ℕ) → (j ≡ i) ⊎ (j < i) → named c t U V j ≡ get_or t j 0
          at-most j (inl d) = subst (λ (x : ℕ). named c t U V x ≡ get_or t x 0) (sym d) (named-here ∙ e)
          at-most j (inr d) = same-then j d

          low : (j : ℕ) → (j ≡ i) ⊎ (j < i) → get_or t j 0 ≤ K
          low j (inl d) = subst (λ (x : ℕ). get_or t x 0 ≤ K) (sym d) (by-case (λ z w. omega (arith, e, z, w)) (λ z w. omega (arith, e, z, w)))
          low j (inr d) = let a = q.below j d in by-case (λ z w. omega (arith, a, z)) (λ z w. omega (arith, a, z))

          next : (h : List ℕ) → is_permutation m h ≡ true → Agrees k O h ⊎ (precedes (renumbered c m h t) t ≡ false) → Agrees K V h ⊎ (precedes (renumbered c m h t) t ≡ false)
          next h p (inr n) = inr n
          next h p (inl a) = by (puts h p a)
            where
              by : Puts h → Agrees K V h ⊎ (precedes (renumbered c m h t) t ≡ false)
              by (settles f d o z) = inl (subst (λ (x : List ℕ). Agrees K x h) (sym o) (λ n r. a n (omega (arith, r, d))))
              by (frees f d u o z) = elim (eq-or-lt_of_le f) [
                | inl w ↦ inl (λ n r. grown n (eq-or-lt_of_le (within n r)) w)
                | inr w ↦ inr (greater-at h p a (omega (arith, w, e, u)))
              ]
                where
                  within : (n : ℕ) → n < K → n ≤ k
                  within n r = omega (arith, r, z)

                  grown : (n : ℕ) → (n ≡ k) ⊎ (n < k) → suc k ≡ get_or (renumbered c m h t) i 0 → at h (suc (get_or V n 0)) ≡ suc n
                  grown n (inl r) w = subst (λ (x : ℕ). at h (suc (get_or V x 0)) ≡ suc x) (sym r) (ap (λ (x : ℕ). at h (suc x)) o ∙ (sym d ∙ sym w))
                  grown n (inr r) w = ap (λ (x : ℕ). at h (suc x)) (v.sheets_stay n r) ∙ a n r
