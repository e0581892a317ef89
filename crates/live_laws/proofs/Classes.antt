-- Renumberings of a table: one after another, and the least of them.
use Rattle.std.proofs.Common.{◌≡◌, ◌⊎◌, inl, inr, ℕ, suc, ◌+◌, ◌-◌, ◌*◌, ◌/◌, ◌%◌, ◌<◌, ◌≤◌, List, [], ◌∷◌, map, length, get_or, refl, ap, arith, sym, subst, ◌∙◌, Bool, true, false}
use Rattle.std.specs.Prelude.{◌==◌}
use Rattle.std.specs.List.{list_all}
use Rattle.std.proofs.lemmas.Bool.{eq-eqb, false≢true, and_from, cases_lt}
use Rattle.std.proofs.lemmas.Nat.{div-mul-add, mod-mul-add, mod_below}
use Rattle.std.proofs.Math.Nat.{mod-add-div, mul_comm, mul-zero, mul-le-mul_left, mul-div-le}
use Rattle.std.proofs.lemmas.Grind.{same_number_lists}
use Rattle.std.proofs.lemmas.List.FromFn.{get_or-map-range_with_len, length-map-range_with_len}
use Rattle.number_lists.specs.Members.{In, here, there}
use Rattle.number_lists.specs.Words.{upto}
use Rattle.number_lists.proofs.CallerLemmas.{In-cases, In-all, In-map, map-In, filter-In, upto-In}
use Rattle.sheet_laws.specs.Permutations.{InRange, is_permutation, at, back, values, lists}
use Rattle.sheet_laws.specs.Tables.{cell, column, is_table, precedes, renumbered, renumberings}
use Rattle.sheet_laws.proofs.CallerLemmas.{Turn, turn_of, back_turn, turn_then, list_of, at_values, values_permute, turn-once, parts-of, back-of-at, at-of-back, same_turns, identity_permutes, In-renumberings, least_is_exact}
use Rattle.live_laws.specs.Classes.{IsOnlyLeast, ClassHasOneLeast}
use Rattle.live_laws.proofs.Orders.{precedes-self, precedes-trans, one_comes_first}
use Rattle.live_laws.proofs.Whole.{table-column, at-column, cell-range, place-below}

-- ---- places

-- the row and the column of a place
place-row : (c s g : ℕ) → 1 ≤ s → InRange c g → suc ((c * (s - 1) + (g - 1)) / c) ≡ s
place-row c s g l r = ap suc (ap (λ (n : ℕ). (n + (g - 1)) / c) (mul_comm c (s - 1)) ∙ div-mul-add (s - 1) c (g - 1) (omega (arith, r.0, r.1))) ∙ one_more s l
  where
    one_more : (s : ℕ) → 1 ≤ s → suc (s - 1) ≡ s
    one_more s l = omega (arith, l)

place-column : (c s g : ℕ) → InRange c g → suc ((c * (s - 1) + (g - 1)) % c) ≡ g
place-column c s g r = ap suc (ap (λ (n : ℕ). (n + (g - 1)) % c) (mul_comm c (s - 1)) ∙ mod-mul-add (s - 1) c (g - 1) (omega (arith, r.0, r.1))) ∙ one_more g r.0
  where
    one_more : (s : ℕ) → 1 ≤ s → suc (s - 1) ≡ s
    one_more s l = omega (arith, l)

-- and back
pub record IsPlaced (c m i : ℕ) : Type 0 where
  pub some : 1 ≤ c
  pub row : InRange m (suc (i / c))
  pub column : InRange c (suc (i % c))
  pub is : c * (suc (i / c) - 1) + (suc (i % c) - 1) ≡ i

pub placed : (c m i : ℕ) → i < m * c → IsPlaced c m i
placed c m i l = record {
  some = some;
  row = (omega arith, below);
  column = (omega arith, mod_below i c some);
  is = ap (λ (k : ℕ). c * k + (suc (i % c) - 1)) (less (i / c)) ∙ (ap (λ (k : ℕ). c * (i / c) + k) (less (i % c)) ∙ turned (c * (i / c)) (i % c) (mod-add-div i c));
}
  where
    some : 1 ≤ c
    some = by (cases_lt 0 c)
      where
        by : (0 < c) ⊎ (c ≤ 0) → 1 ≤ c
        by (inl k) = omega (arith, k)
        by (inr k) = let e : c ≡ 0 = omega (arith, k) in absurd (omega (arith, rw (e, mul-zero m) at l))

    below : i / c < m
    below = by (cases_lt (i / c) m)
      where
        by : (i / c < m) ⊎ (m ≤ i / c) → i / c < m
        by (inl k) = k
        by (inr k) = absurd (omega (arith, l, mul_comm c m, mul-le-mul_left c k, mul-div-le i c))

    less : (k : ℕ) → suc k - 1 ≡ k
    less k = omega arith

    turned : (a b : ℕ) → b + a ≡ i → a + b ≡ i
    turned a b e = omega (arith, e)

-- tables with the same cells are the same
pub same-cells : (c m : ℕ) (xs ys : List ℕ) → length xs ≡ m * c → length ys ≡ m * c → ((s g : ℕ) → InRange m s → InRange c g → cell c xs s g ≡ cell c ys s g) → xs ≡ ys
same-cells c m xs ys l k h = same_number_lists xs ys (l ∙ sym k) (λ i lt.
    let p = placed c m i (rw l at lt) in
    subst (λ (j : ℕ). get_or xs j 0 ≡ get_or ys j 0) p.is (h (suc (i / c)) (suc (i % c)) p.row p.column))

-- ---- a renumbered table

pub length-renumbered : (c m : ℕ) (f cells : List ℕ) → length (renumbered c m f cells) ≡ m * c
length-renumbered c m f cells = length-map-range_with_len (λ i. at f (cell c cells (back f (suc (i / c))) (suc (i % c)))) 0 (m * c)

pub renumbered-cell : (c m : ℕ) (f cells : List ℕ) (s g : ℕ) → InRange m s → InRange c g → cell c (renumbered c m f cells) s g ≡ at f (cell c cells (back f s) g)
renumbered-cell c m f cells s g r q =
    get_or-map-range_with_len (λ i. at f (cell c cells (back f (suc (i / c))) (suc (i % c)))) 0 (m * c) (c * (s - 1) + (g - 1)) (c * (s - 1) + (g - 1)) 0 (place-below c m s g r q) (none (c * (s - 1) + (g - 1)))
    ∙ (ap (λ (k : ℕ). at f (cell c cells (back f k) (suc ((c * (s - 1) + (g - 1)) % c)))) (place-row c s g r.0 q)
    ∙ ap (λ (k : ℕ). at f (cell c cells (back f s) k)) (place-column c s g q))
  where
    none : (k : ℕ) → 0 + k ≡ k
    none k = omega arith

-- f, and then g
pub after_both : (m : ℕ) → (f g : List ℕ) → List ℕ
after_both m f g = values m (λ s. at g (at f s))

pub after-permutes : (m : ℕ) (f g : List ℕ) → is_permutation m f ≡ true → is_permutation m g ≡ true → is_permutation m (after_both m f g) ≡ true
unfolding after_both
after-permutes m f g e h = list_of m (λ s. at g (at f s)) (turn_then m (at f) (at g) (turn_of m f e) (turn_of m g h))

-- renumbered twice
pub renumbered-twice : (c m : ℕ) (cells f g : List ℕ) → is_table c m cells ≡ true → is_permutation m f ≡ true → is_permutation m g ≡ true
    → renumbered c m g (renumbered c m f cells) ≡ renumbered c m (after_both m f g) cells
unfolding after_both
renumbered-twice c m cells f g t e h =
    same-cells c m (renumbered c m g (renumbered c m f cells)) (renumbered c m (after_both m f g) cells) (length-renumbered c m g (renumbered c m f cells)) (length-renumbered c m (after_both m f g) cells) cells_are
  where
    back_both : (s : ℕ) → InRange m s → back (values m (λ s. at g (at f s))) s ≡ back f (back g s)
    back_both s r =
        let b : InRange m (back g s) = (back_turn m g h).into s r in
        let a : InRange m (back f (back g s)) = (back_turn m f e).into (back g s) b in
        ap (back (values m (λ s. at g (at f s)))) (sym (at_values m (λ s. at g (at f s)) (back f (back g s)) a ∙ (ap (at g) (at-of-back m f e (back g s) b) ∙ at-of-back m g h s r)))
        ∙ back-of-at m (values m (λ s. at g (at f s))) (list_of m (λ s. at g (at f s)) (turn_then m (at f) (at g) (turn_of m f e) (turn_of m g h))) (back f (back g s)) a

    cells_are : (s k : ℕ) → InRange m s → InRange c k → cell c (renumbered c m g (renumbered c m f cells)) s k ≡ cell c (renumbered c m (values m (λ s. at g (at f s))) cells) s k
    cells_are s k r q =
        let b : InRange m (back g s) = (back_turn m g h).into s r in
        let a : InRange m (back f (back g s)) = (back_turn m f e).into (back g s) b in
        renumbered-cell c m g (renumbered c m f cells) s k r q
        ∙ (ap (at g) (renumbered-cell c m f cells (back g s) k b q)
        ∙ (sym (at_values m (λ s. at g (at f s)) (cell c cells (back f (back g s)) k) (cell-range c m cells t (back f (back g s)) k a q))
        ∙ sym (renumbered-cell c m (values m (λ s. at g (at f s))) cells s k r q ∙ ap (λ (x : ℕ). at (values m (λ s. at g (at f s))) (cell c cells x k)) (back_both s r))))

-- a renumbered table is a table
pub renumbered-table : (c m : ℕ) (cells f : List ℕ) → is_table c m cells ≡ true → is_permutation m f ≡ true → is_table c m (renumbered c m f cells) ≡ true
renumbered-table c m cells f t e =
    and_from (length (renumbered c m f cells) == m * c) (list_all (λ g. is_permutation m (column c m (renumbered c m f cells) g)) (upto c))
    (eq-eqb (length (renumbered c m f cells)) (m * c) (length-renumbered c m f cells))
    (In-all (λ g. is_permutation m (column c m (renumbered c m f cells) g)) (upto c) (λ g i. columns g (upto-In c g i)))
  where
    columns : (g : ℕ) → InRange c g → is_permutation m (column c m (renumbered c m f cells) g) ≡ true
    columns g q = values_permute m (λ s. cell c (renumbered c m f cells) s g) into once
      where
        col : is_permutation m (column c m cells g) ≡ true
        col = table-column c m cells t g q

        is : (s : ℕ) → InRange m s → cell c (renumbered c m f cells) s g ≡ at f (at (column c m cells g) (back f s))
        is s r = renumbered-cell c m f cells s g r q ∙ ap (at f) (sym (at-column c m cells g (back f s) ((back_turn m f e).into s r)))

        whole : Turn m (λ s. at f (at (column c m cells g) (back f s)))
        whole = turn_then m (λ s. at (column c m cells g) (back f s)) (at f) (turn_then m (back f) (at (column c m cells g)) (back_turn m f e) (turn_of m (column c m cells g) col)) (turn_of m f e)

        into : (s : ℕ) → InRange m s → InRange m (cell c (renumbered c m f cells) s g)
        into s r = rw (is s r) (whole.into s r)

        once : (s k : ℕ) → InRange m s → InRange m k → cell c (renumbered c m f cells) s g ≡ cell c (renumbered c m f cells) k g → s ≡ k
        once s k r j x = turn-once m (λ s. at f (at (column c m cells g) (back f s))) whole s k r j (sym (is s r) ∙ (x ∙ is k j))

-- ---- the least of some lists

record HasFirst (xs : List (List ℕ)) : Type 0 where
  pub least : List ℕ
  pub among : In least xs
  pub low : (z : List ℕ) → In z xs → precedes z least ≡ false

first_of : (x : List ℕ) (xs : List (List ℕ)) → HasFirst (x ∷ xs)
first_of x [] = record { least = x; among = here; low = λ z i. elim (In-cases i) [ inl e ↦ rw e (precedes-self x) | inr n ↦ elim n [ ] ] }
first_of x (y ∷ xs) = by (first_of y xs) (precedes x (first_of y xs).least) refl
  where
    by : (r : HasFirst (y ∷ xs)) (b : Bool) → precedes x r.least ≡ b → HasFirst (x ∷ y ∷ xs)
    by r true e = record {
      least = x;
      among = here;
      low = λ z i. elim (In-cases i) [ inl k ↦ rw k (precedes-self x) | inr j ↦ not_before z j (precedes z x) refl ];
    }
      where
        not_before : (z : List ℕ) → In z (y ∷ xs) → (b : Bool) → precedes z x ≡ b → precedes z x ≡ false
        not_before z j true k = absurd (false≢true (sym (r.low z j) ∙ precedes-trans z x r.least k e))
        not_before z j false k = k
    by r false e = record { least = r.least; among = there r.among; low = λ z i. elim (In-cases i) [ inl k ↦ rw k e | inr j ↦ r.low z j ] }

has_first : (xs : List (List ℕ)) {z : List ℕ} → In z xs → HasFirst xs
has_first [] i = elim i [ ]
has_first (x ∷ xs) i = first_of x xs

-- ---- one renumbering is least

module _ (c m : ℕ) (cells : List ℕ) (t : is_table c m cells ≡ true) where
  In-class : (f : List ℕ) → is_permutation m f ≡ true → In (renumbered c m f cells) (map (λ f. renumbered c m f cells) (renumberings m))
  In-class f e = In-map (λ f. renumbered c m f cells) (In-renumberings m f e)

  -- renumberings of one table are renumberings of each other
  pub between : (f g : List ℕ) → is_permutation m f ≡ true → is_permutation m g ≡ true → (h : List ℕ) × (is_permutation m h ≡ true) × (renumbered c m h (renumbered c m f cells) ≡ renumbered c m g cells)
  unfolding after_both
  between f g e k = (h, permutes, renumbered-twice c m cells f h t e permutes ∙ ap (λ (x : List ℕ). renumbered c m x cells) both)
    where
      h : List ℕ
      h = values m (λ s. at g (back f s))

      permutes : is_permutation m (values m (λ s. at g (back f s))) ≡ true
      permutes = list_of m (λ s. at g (back f s)) (turn_then m (back f) (at g) (back_turn m f e) (turn_of m g k))

      both : values m (λ s. at (values m (λ s. at g (back f s))) (at f s)) ≡ g
      both =
          same_turns m (values m (λ s. at (values m (λ s. at g (back f s))) (at f s))) g (length-map-range_with_len (λ s. at (values m (λ s. at g (back f s))) (at f s)) 1 m) (parts-of m g k).long
          (λ s r. at_values m (λ s. at (values m (λ s. at g (back f s))) (at f s)) s r
          ∙ (at_values m (λ s. at g (back f s)) (at f s) ((turn_of m f e).into s r) ∙ ap (at g) (back-of-at m f e s r)))

  -- what no renumbering precedes is the only least one
  only_one : (l : List ℕ) → ((z : List ℕ) → In z (map (λ f. renumbered c m f cells) (renumberings m)) → precedes z l ≡ false) → (f : List ℕ) → is_permutation m f ≡ true → l ≡ renumbered c m f cells → IsOnlyLeast c m cells l
  only_one l low f permutes e = record {
    by = f;
    permutes = permutes;
    is = e;
    least = (least_is_exact c m l).1 (λ g k.
        subst (λ (x : List ℕ). precedes x l ≡ false) (sym (ap (renumbered c m g) e ∙ renumbered-twice c m cells f g t permutes k))
        (low (renumbered c m (after_both m f g) cells) (In-class (after_both m f g) (after-permutes m f g permutes k))));
    only = λ g k h.
        let b = between g f k permutes in
        one_comes_first (renumbered c m g cells) l (length-renumbered c m g cells ∙ sym (ap (λ (x : List ℕ). length x) e ∙ length-renumbered c m f cells))
        (low (renumbered c m g cells) (In-class g k))
        (subst (λ (x : List ℕ). precedes x (renumbered c m g cells) ≡ false) (b.2 ∙ sym e) ((least_is_exact c m (renumbered c m g cells)).0 h b.0 b.1));
  }

pub class_has_one_least : ClassHasOneLeast
class_has_one_least c m cells t =
    let r = has_first (map (λ f. renumbered c m f cells) (renumberings m)) (In-class c m cells t (upto m) (identity_permutes m)) in
    let f = map-In (λ f. renumbered c m f cells) (renumberings m) r.among in
    (r.least, only_one c m cells t r.least r.low f.0 (filter-In (is_permutation m) (lists m m) f.1) f.2)
