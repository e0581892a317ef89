-- Words without the column of a new cell, and how many live partial tables there are.
use Rattle.std.proofs.Common.{◌≡◌, ℕ, zero, suc, ◌+◌, ◌-◌, ◌*◌, ◌%◌, ◌^◌, ◌<◌, ◌≤◌, List, [], ◌∷◌, ◌++◌, length, refl, ap, arith, sym, ◌∙◌, Bool, true, false, cond, ◌&&◌}
use Rattle.std.specs.Prelude.{filter, ◌==◌, ℤ, pos, negsuc, Option, Some, None, find, slice_get}
use Rattle.std.specs.List.{list_all, flat_map, AllByRecursion}
use Rattle.std.proofs.lemmas.Bool.{eq-eqb, or_parts}
use Rattle.std.proofs.lemmas.List.{length-append, append-nil, length-map}
use Rattle.std.proofs.lemmas.List.Concat.{flat_map-append}
use Rattle.std.proofs.Math.Nat.{mul-add-mod_self_left, mod-eq_of_lt}
use Rattle.number_lists.proofs.CallerLemmas.{and-left, and-right, length-filter-le}
use Rattle.live_laws.specs.Trees.{from, beyond}
use Rattle.live_laws.specs.Walks.{entry, is_entry, led, trace, never_fails, generator, mentions, AreLetters}
use Rattle.live_laws.specs.Live.{Relations, may_follow, follows, is_live, comes_after, live_of, live, live_bound, OneCellMore, LiveTablesAreFew}
use Rattle.live_laws.proofs.Trees.{from-split, many, many_below, many_ones, length-beyond}
use Rattle.live_laws.proofs.Sound.{sound_more}

-- ---- a word without the new cell's column

get-other : (p : List ℕ) (x i : ℕ) → (i ≡ length p → ⊥) → slice_get (p ++ x ∷ []) i ≡ slice_get p i
get-other [] x zero h = absurd (h refl)
get-other [] x (suc i) h = refl
get-other (y ∷ p) x zero h = refl
get-other (y ∷ p) x (suc i) h = get-other p x i (λ e. h (ap suc e))

entry-other : (c : ℕ) (p : List ℕ) (x s g : ℕ) → 0 < g → g ≤ c → (g == suc (length p % c)) ≡ false → entry c (p ++ x ∷ []) s g ≡ entry c p s g
entry-other c p x s g h l e = get-other p x (c * (s - 1) + (g - 1)) (λ k. clash (column_of k))
  where
    column_of : c * (s - 1) + (g - 1) ≡ length p → g - 1 ≡ length p % c
    column_of k = sym (mod-eq_of_lt {n = g - 1} {m = c} (omega (arith, h, l))) ∙ (sym (mul-add-mod_self_left c (s - 1) (g - 1)) ∙ ap (λ i. i % c) k)

    clash : g - 1 ≡ length p % c → ⊥
    clash k = both (g == suc (length p % c)) (eq-eqb g (suc (length p % c)) (omega (arith, h, k))) e
      where
        both : (b : Bool) → b ≡ true → b ≡ false → ⊥
        both true i j = grind (arith, j)
        both false i j = grind (arith, i)

find-same : (f g : ℕ → Bool) → ((u : ℕ) → f u ≡ g u) → (xs : List ℕ) → find f xs ≡ find g xs
find-same f g e [] = refl
find-same f g e (x ∷ xs) = rw (e x, find-same f g e xs) refl

led-other : (c m : ℕ) (p : List ℕ) (x : ℕ) (l : ℤ) (s : ℕ) → (0 < generator l) × (generator l ≤ c) → (generator l == suc (length p % c)) ≡ false → led c m (p ++ x ∷ []) l s ≡ led c m p l s
led-other c m p x (pos g) s h e = entry-other c p x s g h.0 h.1 e
led-other c m p x (negsuc g) s h e = find-same (λ t. is_entry c (p ++ x ∷ []) t (suc g) s) (λ t. is_entry c p t (suc g) s)
    (λ t. ap (λ o. elim o [ None ↦ false | Some u ↦ u == s ]) (entry-other c p x t (suc g) h.0 h.1 e)) (from 1 m)

-- a word without the column of the new cell is walked as before
pub unmentioned : (c m : ℕ) (p : List ℕ) (x : ℕ) (w : List ℤ) (s : ℕ) → AreLetters c w → mentions (suc (length p % c)) w ≡ false → trace c m (p ++ x ∷ []) w s ≡ trace c m p w s
unmentioned c m p x [] s h e = refl
unmentioned c m p x (l ∷ w) s h e = ap (λ o. elim o [ None ↦ None | Some t ↦ trace c m (p ++ x ∷ []) w t ]) (led-other c m p x l s h.0 ((or_parts (generator l == suc (length p % c)) _ e).0))
    ∙ one (led c m p l s) (λ t. unmentioned c m p x w t h.1 ((or_parts (generator l == suc (length p % c)) _ e).1))
  where
    one : (o : Option ℕ) → ((t : ℕ) → trace c m (p ++ x ∷ []) w t ≡ trace c m p w t)
        → ◌≡◌ {A = Option ℕ} (elim o [ None ↦ None | Some t ↦ trace c m (p ++ x ∷ []) w t ]) (elim o [ None ↦ None | Some t ↦ trace c m p w t ])
    one None k = refl
    one (Some t) k = k t

-- ---- the bound

of_sheets : (P : Relations) (m : ℕ) → length (live_of P m) ≤ many m (m * P.generators)
of_sheets P m = let h : length (filter (is_live P m) (beyond m (m * P.generators) [])) ≤ length (beyond m (m * P.generators) []) = length-filter-le (is_live P m) (beyond m (m * P.generators) []) in
    rw length-map (rw (length-beyond m (m * P.generators) []) at h)

one_more : (P : Relations) (k : ℕ) → length (flat_map (live_of P) (from 1 (suc k))) ≡ length (flat_map (live_of P) (from 1 k)) + length (live_of P (suc k))
one_more P k = ap (λ xs. length (flat_map (live_of P) xs)) (ap (from 1) (next k) ∙ from-split 1 k 1)
    ∙ (ap length (flat_map-append (live_of P) (from 1 k) (from (1 + k) 1))
    ∙ (length-append (flat_map (live_of P) (from 1 k)) (live_of P (1 + k) ++ [])
    ∙ ap (λ i. length (flat_map (live_of P) (from 1 k)) + i) (ap length (append-nil (live_of P (1 + k))) ∙ ap (λ i. length (live_of P i)) (omega arith))))
  where
    next : (k : ℕ) → suc k ≡ k + 1
    next k = omega arith

sum_of_sheets : (P : Relations) (n : ℕ) → length (flat_map (live_of P) (from 1 n)) ≤ live_bound P.generators n
sum_of_sheets P zero = omega arith
sum_of_sheets P (suc zero) = rw (append-nil (live_of P 1)) (one_sheet (length (live_of P 1)) P.generators (of_sheets P 1) (many_ones (1 * P.generators)))
  where
    one_sheet : (k c : ℕ) → k ≤ many 1 (1 * c) → many 1 (1 * c) ≡ 1 * c → k ≤ c
    one_sheet k c h e = omega (arith, h, e)
sum_of_sheets P (suc (suc n)) = add (length (flat_map (live_of P) (from 1 (suc (suc n))))) (length (flat_map (live_of P) (from 1 (suc n)))) (length (live_of P (suc (suc n)))) (live_bound P.generators (suc n)) (many (suc (suc n)) (suc (suc n) * P.generators)) (2 * suc (suc n) ^ (suc (suc n) * P.generators))
    (one_more P (suc n)) (sum_of_sheets P (suc n)) (of_sheets P (suc (suc n))) (many_below (suc (suc n)) (suc (suc n) * P.generators) (omega arith))
  where
    add : (k a b u v w : ℕ) → k ≡ a + b → a ≤ u → b ≤ v → v + 2 ≤ w → k ≤ u + w
    add k a b u v w i h l e = omega (arith, i, h, l, e)

pub live_at_most : LiveTablesAreFew
live_at_most P n t = let h : length (live P n t) ≤ length (flat_map (live_of P) (from 1 n)) = length-filter-le (comes_after t) (flat_map (live_of P) (from 1 n)) in
    let k : length (flat_map (live_of P) (from 1 n)) ≤ live_bound P.generators n = sum_of_sheets P n in omega (arith, h, k)

-- ---- only the relators that name the new cell's generator

never_fails-same : (c m : ℕ) (p q : List ℕ) (w : List ℤ) → ((s : ℕ) → trace c m q w s ≡ trace c m p w s) → (xs : List ℕ) → list_all (λ s. elim (trace c m q w s) [ None ↦ true | Some t ↦ t == s ]) xs ≡ list_all (λ s. elim (trace c m p w s) [ None ↦ true | Some t ↦ t == s ]) xs
never_fails-same c m p q w h [] = refl
never_fails-same c m p q w h (s ∷ xs) = ap (λ (o : Option ℕ). elim o [ None ↦ true | Some t ↦ t == s ] && list_all (λ s. elim (trace c m q w s) [ None ↦ true | Some t ↦ t == s ]) xs) (h s)
    ∙ ap (λ (b : Bool). elim (trace c m p w s) [ None ↦ true | Some t ↦ t == s ] && b) (never_fails-same c m p q w h xs)

only-named : (c m : ℕ) (p : List ℕ) (x : ℕ) (ws : List (List ℤ)) → AllByRecursion (AreLetters c) ws → list_all (never_fails c m p) ws ≡ true
    → list_all (never_fails c m (p ++ x ∷ [])) ws ≡ list_all (never_fails c m (p ++ x ∷ [])) (filter (mentions (suc (length p % c))) ws)
only-named c m p x [] h e = refl
only-named c m p x (w ∷ ws) h e = by (mentions (suc (length p % c)) w) refl (only-named c m p x ws h.1 (and-right (never_fails c m p w) _ e))
  where
    by : (b : Bool) → mentions (suc (length p % c)) w ≡ b → list_all (never_fails c m (p ++ x ∷ [])) ws ≡ list_all (never_fails c m (p ++ x ∷ [])) (filter (mentions (suc (length p % c))) ws)
        → list_all (never_fails c m (p ++ x ∷ [])) (w ∷ ws) ≡ list_all (never_fails c m (p ++ x ∷ [])) (cond b (w ∷ filter (mentions (suc (length p % c))) ws) (filter (mentions (suc (length p % c))) ws))
    by true k r = ap (λ (b : Bool). never_fails c m (p ++ x ∷ []) w && b) r
    by false k r = ap (λ (b : Bool). b && list_all (never_fails c m (p ++ x ∷ [])) ws) (never_fails-same c m p (p ++ x ∷ []) w (λ s. unmentioned c m p x w s h.0 k) (from 1 m) ∙ and-left (never_fails c m p w) _ e) ∙ r

pub one_cell_more : OneCellMore
one_cell_more P m p x h e =
    sound_more P m p x e ∙ ap (λ (b : Bool). may_follow P.generators m p x && b) (only-named P.generators m p x P.relators h (and-right (follows P.generators m [] p) _ e))
