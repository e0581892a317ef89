-- Walks through whole tables.
use Rattle.std.proofs.Common.{◌≡◌, ℕ, zero, suc, ◌+◌, ◌-◌, ◌*◌, ◌<◌, ◌≤◌, List, [], ◌∷◌, map, length, get_or, refl, ap, arith, sym, ◌∙◌, subst, Bool, true, false, cond, inl, inr}
use Rattle.std.specs.Prelude.{◌==◌, ℤ, pos, negsuc, Option, Some, None, find, slice_get}
use Rattle.std.specs.List.{list_all}
use Rattle.std.proofs.lemmas.Bool.{eqb-true, eq-eqb, false≢true, and_parts}
use Rattle.std.proofs.Math.Nat.{mul_comm}
use Rattle.number_lists.specs.Members.{In}
use Rattle.number_lists.specs.Words.{upto}
use Rattle.number_lists.proofs.CallerLemmas.{In-cases, all-In, In-upto}
use Rattle.pair_laws.specs.Letters.{follow}
use Rattle.sheet_laws.specs.Permutations.{InRange, is_permutation, at, back}
use Rattle.sheet_laws.specs.Tables.{cell, column, is_table}
use Rattle.sheet_laws.proofs.CallerLemmas.{turn_of, back_turn, all_there, at_values, number-range}
use Rattle.live_laws.specs.Trees.{from}
use Rattle.live_laws.specs.Walks.{entry, is_entry, led, trace, generator, AreLetters, move, FullWalksFollow}
use Rattle.live_laws.proofs.Trees.{from-range}

-- the parts of what a table is
pub table-long : (c m : ℕ) (cells : List ℕ) → is_table c m cells ≡ true → length cells ≡ m * c
table-long c m cells e = eqb-true (length cells) (m * c) (and_parts (length cells == m * c) (list_all (λ g. is_permutation m (column c m cells g)) (upto c)) e).0

pub table-column : (c m : ℕ) (cells : List ℕ) → is_table c m cells ≡ true → (g : ℕ) → InRange c g → is_permutation m (column c m cells g) ≡ true
table-column c m cells e g r =
    all-In (λ g. is_permutation m (column c m cells g)) (and_parts (length cells == m * c) (list_all (λ g. is_permutation m (column c m cells g)) (upto c)) e).1 (In-upto c g r.0 r.1)

-- the cell in a row of a column
pub at-column : (c m : ℕ) (cells : List ℕ) (g s : ℕ) → InRange m s → at (column c m cells g) s ≡ cell c cells s g
at-column c m cells g s r = at_values m (λ s. cell c cells s g) s r

pub cell-range : (c m : ℕ) (cells : List ℕ) → is_table c m cells ≡ true → (s g : ℕ) → InRange m s → InRange c g → InRange m (cell c cells s g)
cell-range c m cells e s g r q = rw (at-column c m cells g s r) at ((turn_of m (column c m cells g) (table-column c m cells e g q)).into s r)

-- the place of a cell
pub place-below : (c m s g : ℕ) → InRange m s → InRange c g → c * (s - 1) + (g - 1) < m * c
place-below c m s g r q = by (c * (s - 1)) (m * c) (c * m) (number-range c m s g r q).1 (mul_comm c m)
  where
    by : (a b d : ℕ) → a + g ≤ d → d ≡ b → a + (g - 1) < b
    by a b d h e = omega (arith, h, e, q.0)

get-within : (xs : List ℕ) (i : ℕ) → i < length xs → slice_get xs i ≡ Some (get_or xs i 0)
get-within [] i l = absurd (omega (arith, l))
get-within (x ∷ xs) zero l = refl
get-within (x ∷ xs) (suc i) l = get-within xs i (omega (arith, l))

pub entry-is : (c m : ℕ) (cells : List ℕ) → is_table c m cells ≡ true → (s g : ℕ) → InRange m s → InRange c g → entry c cells s g ≡ Some (cell c cells s g)
entry-is c m cells e s g r q = get-within cells (c * (s - 1) + (g - 1)) (subst (λ (n : ℕ). c * (s - 1) + (g - 1) < n) (sym (table-long c m cells e)) (place-below c m s g r q))

-- the first number from a on whose value is s is at its place among the values
find-place : (f : ℕ → ℕ) (p : ℕ → Bool) (k n s : ℕ) → ((t : ℕ) → k < t → t ≤ k + n → p t ≡ (f t == s)) → In s (map f (from (suc k) n)) → find p (from (suc k) n) ≡ Some (k + back (map f (from (suc k) n)) s)
find-place f p k zero s h i = elim i [ ]
find-place f p k (suc n) s h i = by (f (suc k) == s) refl (λ j. find-place f p (suc k) n s (λ t l q. h t (omega (arith, l)) (omega (arith, q))) j)
  where
    rest : (f (suc k) == s) ≡ false → In s (map f (from (suc (suc k)) n))
    rest e = elim (In-cases i) [ inl j ↦ absurd (false≢true (sym e ∙ eq-eqb (f (suc k)) s (sym j))) | inr j ↦ j ]

    first : p (suc k) ≡ (f (suc k) == s)
    first = h (suc k) (omega arith) (omega arith)

    by : (b : Bool) → (f (suc k) == s) ≡ b → (In s (map f (from (suc (suc k)) n)) → find p (from (suc (suc k)) n) ≡ Some (suc k + back (map f (from (suc (suc k)) n)) s))
        → cond (p (suc k)) (Some (suc k)) (find p (from (suc (suc k)) n)) ≡ Some (k + cond (f (suc k) == s) 1 (suc (back (map f (from (suc (suc k)) n)) s)))
    by true e g = rw (first, e) (ap (λ (x : ℕ). Some x) (omega arith))
    by false e g = rw (first, e) (g (rest e) ∙ ap (λ (x : ℕ). Some x) (omega arith))

module _ (c m : ℕ) (cells : List ℕ) (e : is_table c m cells ≡ true) where
  -- a letter leads where its column does
  pub led-is : (l : ℤ) (s : ℕ) → InRange c (generator l) → InRange m s → led c m cells l s ≡ Some (move c m cells l s)
  led-is (pos g) s q r = entry-is c m cells e s g r q ∙ ap (λ (x : ℕ). Some x) (sym (at-column c m cells g s r))
  led-is (negsuc g) s q r =
      find-place (λ t. cell c cells t (suc g)) (λ t. is_entry c cells t (suc g) s) 0 m s
      (λ t l k. ap (λ (o : Option ℕ). elim o [ None ↦ false | Some u ↦ u == s ]) (entry-is c m cells e t (suc g) (omega (arith, l), omega (arith, k)) q))
      (subst (λ (xs : List ℕ). In s xs) (sym same) (all_there m (column c m cells (suc g)) s (table-column c m cells e (suc g) q) r))
      ∙ ap (λ (x : ℕ). Some x) (none (back (map (λ t. cell c cells t (suc g)) (from 1 m)) s) ∙ ap (λ (xs : List ℕ). back xs s) same)
    where
      same : map (λ t. cell c cells t (suc g)) (from 1 m) ≡ column c m cells (suc g)
      same = ap (map (λ t. cell c cells t (suc g))) (from-range 1 m)

      none : (k : ℕ) → 0 + k ≡ k
      none k = omega arith

  pub move-range : (l : ℤ) (s : ℕ) → InRange c (generator l) → InRange m s → InRange m (move c m cells l s)
  move-range (pos g) s q r = (turn_of m (column c m cells g) (table-column c m cells e g q)).into s r
  move-range (negsuc g) s q r = (back_turn m (column c m cells (suc g)) (table-column c m cells e (suc g) q)).into s r

  pub trace-is : (w : List ℤ) (s : ℕ) → AreLetters c w → InRange m s → trace c m cells w s ≡ Some (follow (move c m cells) w s)
  trace-is [] s h r = refl
  trace-is (l ∷ w) s h r =
      ap (λ (o : Option ℕ). elim o [ None ↦ None | Some t ↦ trace c m cells w t ]) (led-is l s h.0 r)
      ∙ trace-is w (move c m cells l s) h.1 (move-range l s h.0 r)

pub full_walks_follow : FullWalksFollow
full_walks_follow c m cells w s e h r = trace-is c m cells e w s h r
