-- Where letters lead in a whole table.
use Rattle.std.proofs.Common.{◌≡◌, ◌≢◌, ℕ, zero, suc, ◌+◌, ◌-◌, ◌*◌, ◌<◌, ◌≤◌, List, [], ◌∷◌, ◌++◌, map, length, get_or, All, refl, ap, sym, ◌∙◌, subst, arith, Bool, true, false, cond, inl, inr, ◌⊎◌}
use Rattle.std.specs.Prelude.{ℤ, pos, negsuc, ◌==◌, unsigned_abs, FitsSigned}
use Rattle.std.proofs.Math.Nat.{mul_comm}
use Rattle.std.proofs.lemmas.Int.{to_z-of_z}
use lib.Signed.{lt_z}
use mir.Syntax.{w32}
use mir.Val.{of_z, to_z}
use Rattle.sheet_tables.specs.Tables.{Rows}
use Rattle.std.proofs.lemmas.Bool.{eqb-true, eq-eqb, cases_lt}
use Rattle.std.proofs.lemmas.List.{map-append, length-map, get_or-map}
use Rattle.std.proofs.lemmas.List.FromFn.{get_or-map-range_with_len, length-map-range_with_len}
use Rattle.number_lists.specs.Words.{upto}
use Rattle.number_lists.proofs.CallerLemmas.{In-at, upto_more}
use Rattle.pair_laws.specs.Letters.{follow}
use Rattle.sheet_laws.specs.Permutations.{InRange, at, back}
use Rattle.sheet_laws.specs.Tables.{cell, column, is_table}
use Rattle.sheet_laws.proofs.CallerLemmas.{all_there, at_values}
use Rattle.live_laws.specs.Walks.{generator, AreLetters, move}
use Rattle.live_laws.proofs.CallerLemmas.{at-column, table-column, move-range}
use Rattle.edge_words.specs.Labels.{label_of, IsLabel}
use Rattle.edge_words.specs.Moves.{inverse_column, inverse_columns}

-- the cell that the table tells
pub cell-entry : (c m : ℕ) (cells : List ℕ) (s g : ℕ) → InRange m s → get_or cells ((s - 1) * c + (g - 1)) 0 ≡ at (column c m cells g) s
cell-entry c m cells s g r = ap (λ (k : ℕ). get_or cells (k + (g - 1)) 0) (mul_comm (s - 1) c) ∙ sym (at-column c m cells g s r)

-- where a letter leads, by the column of its generator
move-ahead : (c m : ℕ) (cells : List ℕ) (g : ℤ) (s : ℕ) → lt_z (pos 0) g ≡ true → at (column c m cells (generator g)) s ≡ move c m cells g s
move-ahead c m cells (pos n) s e = refl
move-ahead c m cells (negsuc n) s e = absurd (grind (arith, e))

move-back : (c m : ℕ) (cells : List ℕ) (g : ℤ) (s : ℕ) → lt_z (pos 0) g ≡ false → 1 ≤ generator g → back (column c m cells (generator g)) s ≡ move c m cells g s
move-back c m cells (pos zero) s e l = absurd (omega (arith, l))
move-back c m cells (pos (suc n)) s e l = absurd (grind (arith, e))
move-back c m cells (negsuc n) s e l = refl

abs-generator : (g : ℤ) → unsigned_abs g ≡ generator g
abs-generator (pos n) = refl
abs-generator (negsuc n) = refl

-- a letter whose generator is told leads where the code finds it
module _ (t : Rows) (few : t.sheets ≤ 8) (e : is_table t.columns t.sheets t.cells ≡ true) (g : ℤ) (s n : ℕ) (f : FitsSigned w32 g) (abs : n ≡ unsigned_abs (to_z w32 (of_z w32 g))) (q : InRange t.columns (generator g)) (r : InRange t.sheets s) where
  is : n ≡ generator g
  is = abs ∙ (ap unsigned_abs (to_z-of_z w32 g f) ∙ abs-generator g)

  read : (b : Bool) → lt_z (pos 0) (to_z w32 (of_z w32 g)) ≡ b → lt_z (pos 0) g ≡ b
  read b h = rw (to_z-of_z w32 g f) at h

  pub ahead-is : (v : ℕ) → lt_z (pos 0) (to_z w32 (of_z w32 g)) ≡ true → v ≡ get_or t.cells ((s - 1) * t.columns + (n - 1)) 0 → v ≡ move t.columns t.sheets t.cells g s
  ahead-is v h d =
      d
      ∙ (cell-entry t.columns t.sheets t.cells s n r
      ∙ (ap (λ (k : ℕ). at (column t.columns t.sheets t.cells k) s) is ∙ move-ahead t.columns t.sheets t.cells g s (read true h)))

  pub move-within : (v : ℕ) → v ≡ move t.columns t.sheets t.cells g s → InRange t.sheets v
  move-within v h = rw h (move-range t.columns t.sheets t.cells e g s q r)

  module _ (inverses : List (List ℕ)) (i : inverses ≡ inverse_columns t.columns t.sheets t.cells) where
    pub column-within : n - 1 < length inverses
    column-within = omega (arith, is, q.0, q.1, ap (λ (l : List (List ℕ)). length l) i, length-map-range_with_len (inverse_column t.columns t.sheets t.cells) 1 t.columns)

    module _ (l : List ℕ) (told : l ≡ get_or inverses (n - 1) []) where
      column-is : l ≡ inverse_column t.columns t.sheets t.cells (generator g)
      column-is =
          told
          ∙ (ap (λ (ls : List (List ℕ)). get_or ls (n - 1) []) i
          ∙ get_or-map-range_with_len (inverse_column t.columns t.sheets t.cells) 1 t.columns (n - 1) (generator g) [] (omega (arith, is, q.0, q.1)) (omega (arith, is, q.0)))

      pub sheet-within : s - 1 < length l
      sheet-within = omega (arith, r.0, r.1, ap (λ (xs : List ℕ). length xs) column-is, length-map-range_with_len (back (column t.columns t.sheets t.cells (generator g))) 1 t.sheets)

      pub back-is : lt_z (pos 0) (to_z w32 (of_z w32 g)) ≡ false → get_or l (s - 1) 0 ≡ move t.columns t.sheets t.cells g s
      back-is h =
          ap (λ (xs : List ℕ). at xs s) column-is
          ∙ (at_values t.sheets (back (column t.columns t.sheets t.cells (generator g))) s r ∙ move-back t.columns t.sheets t.cells g s (read false h) q.0)

      pub back-small : lt_z (pos 0) (to_z w32 (of_z w32 g)) ≡ false → get_or l (s - 1) 0 < 256
      back-small h = let w = move-within (get_or l (s - 1) 0) (back-is h) in omega (arith, w.1, few)

-- the first row with a sheet
pub back-first : (xs : List ℕ) (i s : ℕ) → i < length xs → ((k : ℕ) → k < i → get_or xs k 0 ≢ s) → get_or xs i 0 ≡ s → back xs s ≡ suc i
back-first [] i s l n e = absurd (omega (arith, l))
back-first (x ∷ xs) zero s l n e = rw (eq-eqb x s e) refl
back-first (x ∷ xs) (suc i) s l n e = by (x == s) refl (back-first xs i s (omega (arith, l)) (λ k q. n (suc k) (omega (arith, q))) e)
  where
    by : (b : Bool) → (x == s) ≡ b → back xs s ≡ suc i → cond (x == s) 1 (suc (back xs s)) ≡ suc (suc i)
    by true q r = absurd (n 0 (omega arith) (eqb-true x s q))
    by false q r = rw q (ap suc r)

-- the cells of a column, as a loop reads them
pub row-read : (c m : ℕ) (cells : List ℕ) (g i v : ℕ) → i < m → v ≡ get_or cells ((i + 1 - 1) * c + (g - 1)) 0 → v ≡ get_or (column c m cells g) i 0
row-read c m cells g i v l e = e ∙ (cell-entry c m cells (i + 1) g (omega arith, omega (arith, l)) ∙ ap (λ (k : ℕ). get_or (column c m cells g) k 0) (omega arith))

pub row-first : (c m : ℕ) (cells : List ℕ) (g i s : ℕ) → i < m → ((k : ℕ) → k < i → get_or (column c m cells g) k 0 ≢ s) → get_or (column c m cells g) i 0 ≡ s → i + 1 ≡ back (column c m cells g) s
row-first c m cells g i s l n e =
    omega arith ∙ sym (back-first (column c m cells g) i s (omega (arith, l, length-map-range_with_len (λ s. cell c cells s g) 1 m)) n e)

pub rows-passed : (xs : List ℕ) (i s v : ℕ) → ((k : ℕ) → k < i → get_or xs k 0 ≢ s) → v ≡ get_or xs i 0 → v ≢ s → (k : ℕ) → k < i + 1 → get_or xs k 0 ≢ s
rows-passed xs i s v n e d k l h = by (cases_lt k i)
  where
    by : (k < i) ⊎ (i ≤ k) → ⊥
    by (inl m) = n k m h
    by (inr m) = d (e ∙ (ap (λ (j : ℕ). get_or xs j 0) (omega (arith, l, m)) ∙ h))

-- a list of values, one more at a time
pub values-more : {B : Type 0} (f : ℕ → B) (items new : List B) (i : ℕ) (x : B) → items ≡ map f (upto i) → new ≡ items ++ x ∷ [] → x ≡ f (i + 1) → new ≡ map f (upto (i + 1))
values-more {B} f items new i x e h g =
    h ∙ (ap (λ (xs : List B). xs ++ x ∷ []) e ∙ (ap (λ (y : B). map f (upto i) ++ y ∷ []) g ∙ sym (ap (map f) (upto_more i) ∙ map-append f (upto i) ((i + 1) ∷ []))))

pub values-all : {B : Type 0} (f : ℕ → B) (items : List B) (i n : ℕ) → items ≡ map f (upto i) → i ≡ n → items ≡ map f (upto n)
values-all {B} f items i n e h = e ∙ ap (λ (k : ℕ). map f (upto k)) h

pub row-there : (c m : ℕ) (cells : List ℕ) (g s : ℕ) → is_table c m cells ≡ true → InRange c g → InRange m s → ((k : ℕ) → k < m → get_or (column c m cells g) k 0 ≢ s) → ⊥
row-there c m cells g s e q r n =
    let a = In-at (all_there m (column c m cells g) s (table-column c m cells e g q) r) in
    n a.0 (omega (arith, a.1, length-map-range_with_len (λ s. cell c cells s g) 1 m)) a.2

-- ---- labels

module _ (c m : ℕ) (cells : List ℕ) (e : is_table c m cells ≡ true) where
  follow-range : (w : List ℤ) (s : ℕ) → AreLetters c w → InRange m s → InRange m (follow (move c m cells) w s)
  follow-range [] s h r = r
  follow-range (g ∷ w) s h r = follow-range w (move c m cells g s) h.1 (move-range c m cells e g s h.0 r)

  label-range : (w : List ℤ) → AreLetters c w → All (InRange m) (label_of c m cells w)
  label-range w h k d l =
      let n : k < m = omega (arith, l, length-map-range_with_len (follow (move c m cells) w) 1 m) in
      subst (InRange m) (sym (get_or-map-range_with_len (follow (move c m cells) w) 1 m k (k + 1) d n (omega arith))) (follow-range w (k + 1) h (omega arith, omega (arith, n)))

  pub label-is : (w : List ℤ) → AreLetters c w → IsLabel m (label_of c m cells w)
  label-is w h = record { full = length-map-range_with_len (follow (move c m cells) w) 1 m; within = label-range w h }

  pub labels-are : (ws : List (List ℤ)) (us : List (List ℕ)) → All (AreLetters c) ws → us ≡ map (label_of c m cells) ws → All (IsLabel m) us
  labels-are ws us h i k d l =
      let n : k < length ws = omega (arith, l, ap (λ (xs : List (List ℕ)). length xs) i, length-map ws (label_of c m cells)) in
      subst (IsLabel m) (sym (ap (λ (xs : List (List ℕ)). get_or xs k d) i ∙ get_or-map (label_of c m cells) ws k [] d n)) (label-is (get_or ws k []) (h k [] n))
