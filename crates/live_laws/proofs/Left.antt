-- The live partial tables after sound cells are what a walk has left.
use Rattle.std.proofs.Common.{◌≡◌, ℕ, zero, suc, ◌+◌, ◌-◌, ◌*◌, ◌<◌, List, [], ◌∷◌, ◌++◌, map, length, refl, ap, arith, sym, ◌∙◌, Bool, true, false, cond, ◌&&◌, ◌||◌}
use Rattle.std.specs.Prelude.{filter, ◌==◌, nat_lt}
use Rattle.std.specs.List.{flat_map}
use Rattle.std.proofs.lemmas.Bool.{eqb-true, eq-eqb}
use Rattle.std.proofs.lemmas.List.{append_assoc, length-append}
use Rattle.std.proofs.lemmas.List.Concat.{flat_map-append}
use Rattle.number_lists.proofs.CallerLemmas.{filter-flat_map}
use Rattle.sheet_laws.specs.Tables.{precedes}
use Rattle.live_laws.specs.Trees.{from, beyond, down, rest, Closed}
use Rattle.live_laws.specs.Live.{Relations, Position, sound, is_live, comes_after, live_of, live}
use Rattle.live_laws.specs.Orders.{LiveIsLeft}
use Rattle.live_laws.proofs.Trees.{flat_map-from, flat_map-none, from-split, after}
use Rattle.live_laws.proofs.Sound.{sound_closed}

-- what holds of no list that begins with s
drops_beyond : (t : List ℕ → Bool) (m n : ℕ) (s : List ℕ) → ((w : List ℕ) → t (s ++ w) ≡ false) → filter t (beyond m n s) ≡ []
drops_beyond t m zero s h = refl
drops_beyond t m (suc n) s h = filter-flat_map t (λ x. (s ++ x ∷ []) ∷ beyond m n (s ++ x ∷ [])) (from 1 m)
    ∙ (flat_map-from _ (λ x. []) 1 m (λ x l k. rw (h (x ∷ [])) (drops_beyond t m n (s ++ x ∷ []) (λ w. rw (append_assoc s (x ∷ []) w) (h (x ∷ w))))) ∙ flat_map-none (from 1 m))

not-live : (live : List ℕ → Bool) → Closed live → (s : List ℕ) → live s ≡ false → (w : List ℕ) → live (s ++ w) ≡ false
not-live live closed s e w = one (live (s ++ w)) refl
  where
    one : (b : Bool) → live (s ++ w) ≡ b → b ≡ false
    one false k = refl
    one true k = absurd (clash (live s) (closed s w k) e)
      where
        clash : (b : Bool) → b ≡ true → b ≡ false → ⊥
        clash true h g = grind (arith, g)
        clash false h g = grind (arith, h)

pub descend : (live : List ℕ → Bool) → Closed live → (m n : ℕ) (q : List ℕ) → filter live (beyond m n q) ≡ down live m n q
descend live closed m zero q = refl
descend live closed m (suc n) q = filter-flat_map live (λ x. (q ++ x ∷ []) ∷ beyond m n (q ++ x ∷ [])) (from 1 m)
    ∙ flat_map-from _ _ 1 m (λ x l k. one (q ++ x ∷ []) (live (q ++ x ∷ [])) refl (descend live closed m n (q ++ x ∷ [])))
  where
    one : (s : List ℕ) (b : Bool) → live s ≡ b → filter live (beyond m n s) ≡ down live m n s
        → cond b (s ∷ filter live (beyond m n s)) (filter live (beyond m n s)) ≡ elim b [ true ↦ s ∷ down live m n s | false ↦ [] ]
    one s true e h = ap (λ r. s ∷ r) h
    one s false e h = drops_beyond live m n s (not-live live closed s e)

-- the lists of the tree are not empty
pub live-sound : (P : Relations) (m n : ℕ) (s : List ℕ) → filter (is_live P m) (beyond m n s) ≡ filter (sound P m) (beyond m n s)
live-sound P m zero s = refl
live-sound P m (suc n) s = filter-flat_map (is_live P m) (λ x. (s ++ x ∷ []) ∷ beyond m n (s ++ x ∷ [])) (from 1 m)
    ∙ (flat_map-from _ _ 1 m (λ x l k. rw (same x, live-sound P m n (s ++ x ∷ [])) refl) ∙ sym (filter-flat_map (sound P m) (λ x. (s ++ x ∷ []) ∷ beyond m n (s ++ x ∷ [])) (from 1 m)))
  where
    same : (x : ℕ) → is_live P m (s ++ x ∷ []) ≡ sound P m (s ++ x ∷ [])
    same x = ap (λ b. b && sound P m (s ++ x ∷ [])) (longer (length (s ++ x ∷ [])) (length-append s (x ∷ [])))
      where
        longer : (i : ℕ) → i ≡ length s + 1 → nat_lt 0 i ≡ true
        longer i e = grind (arith, e)

-- filters over pairs with one number of sheets
of_pairs : (t : Position → Bool) (u : List ℕ → Bool) (k : ℕ) → ((q : List ℕ) → t (k, q) ≡ u q) → (xs : List (List ℕ)) → filter t (map (λ q. (k, q)) xs) ≡ map (λ q. (k, q)) (filter u xs)
of_pairs t u k e [] = refl
of_pairs t u k e (x ∷ xs) = rw (e x, of_pairs t u k e xs) (one (u x))
  where
    one : (b : Bool) → cond {A = List Position} b ((k, x) ∷ map (λ q. (k, q)) (filter u xs)) (map (λ q. (k, q)) (filter u xs)) ≡ map (λ q. (k, q)) (cond b (x ∷ filter u xs) (filter u xs))
    one true = refl
    one false = refl

filter-none : {A : Type 0} (xs : List A) → filter (λ x. false) xs ≡ []
filter-none [] = refl
filter-none (x ∷ xs) = filter-none xs

filter-all : {A : Type 0} (xs : List A) → filter (λ x. true) xs ≡ xs
filter-all [] = refl
filter-all (x ∷ xs) = ap (λ r. x ∷ r) (filter-all xs)

module _ (m : ℕ) (p : List ℕ) where
  pub fewer : (k : ℕ) (q : List ℕ) → k < m → comes_after (m, p) (k, q) ≡ false
  fewer k q l = one (nat_lt m k) (m == k) (grind (arith, l)) (differ (m == k) refl)
    where
      differ : (b : Bool) → (m == k) ≡ b → b ≡ false
      differ false e = refl
      differ true e = absurd (omega (arith, l, eqb-true m k e))

      one : (a b : Bool) → a ≡ false → b ≡ false → (a || (b && precedes p q)) ≡ false
      one false false h g = refl
      one true b h g = absurd (grind (arith, h))
      one false true h g = absurd (grind (arith, g))

  pub more : (k : ℕ) (q : List ℕ) → m < k → comes_after (m, p) (k, q) ≡ true
  more k q l = one (nat_lt m k) (grind (arith, l))
    where
      one : (a : Bool) → a ≡ true → (a || ((m == k) && precedes p q)) ≡ true
      one true h = refl
      one false h = absurd (grind (arith, h))

  pub equal : (q : List ℕ) → comes_after (m, p) (m, q) ≡ precedes p q
  equal q = one (nat_lt m m) (m == m) (grind arith) (eq-eqb m m refl)
    where
      one : (a b : Bool) → a ≡ false → b ≡ true → (a || (b && precedes p q)) ≡ precedes p q
      one false true h g = refl
      one true b h g = absurd (grind (arith, h))
      one false false h g = absurd (grind (arith, g))

pub live_is_left : LiveIsLeft
live_is_left P n m p i r a e =
    filter-flat_map (comes_after (m, p)) (live_of P) (from 1 n)
    ∙ (ap (flat_map (λ k. filter (comes_after (m, p)) (live_of P k))) (split_at n m (m - 1) (n - m) (omega (arith, i.0, i.1)) (omega (arith, i.0)))
    ∙ (flat_map-append (λ k. filter (comes_after (m, p)) (live_of P k)) (from 1 (m - 1)) (m ∷ from (suc m) (n - m))
    ∙ (ap (λ r. r ++ flat_map (λ k. filter (comes_after (m, p)) (live_of P k)) (m ∷ from (suc m) (n - m))) before
    ∙ (ap (λ r. r ++ flat_map (λ k. filter (comes_after (m, p)) (live_of P k)) (from (suc m) (n - m))) own
    ∙ ap (λ r. map (λ q. (m, q)) (rest (sound P m) m (m * P.generators) [] p 1) ++ r) above))))
  where
    split_at : (n m b a : ℕ) → n ≡ b + suc a → m ≡ suc b → from 1 n ≡ from 1 b ++ (m ∷ from (suc m) a)
    split_at n m b a e k = rw (e, k) (from-split 1 b (suc a) ∙ ap (λ i. from 1 b ++ from i (suc a)) (omega arith))

    before : flat_map (λ k. filter (comes_after (m, p)) (live_of P k)) (from 1 (m - 1)) ≡ []
    before = flat_map-from _ (λ k. []) 1 (m - 1) (λ k a b. of_pairs (comes_after (m, p)) (λ q. false) k (λ q. fewer m p k q (omega (arith, b, i.0))) (filter (is_live P k) (beyond k (k * P.generators) [])) ∙ ap (map (λ q. (k, q))) (filter-none (filter (is_live P k) (beyond k (k * P.generators) [])))) ∙ flat_map-none (from 1 (m - 1))

    above : flat_map (λ k. filter (comes_after (m, p)) (live_of P k)) (from (suc m) (n - m)) ≡ flat_map (live_of P) (from (suc m) (n - m))
    above = flat_map-from _ _ (suc m) (n - m) (λ k i j. of_pairs (comes_after (m, p)) (λ q. true) k (λ q. more m p k q i) (filter (is_live P k) (beyond k (k * P.generators) [])) ∙ ap (map (λ q. (k, q))) (filter-all (filter (is_live P k) (beyond k (k * P.generators) []))))

    own : filter (comes_after (m, p)) (live_of P m) ≡ map (λ q. (m, q)) (rest (sound P m) m (m * P.generators) [] p 1)
    own = of_pairs (comes_after (m, p)) (precedes p) m (λ q. equal m p q) (filter (is_live P m) (beyond m (m * P.generators) []))
        ∙ ap (map (λ q. (m, q))) (ap (filter (precedes p)) (live-sound P m (m * P.generators) [] ∙ descend (sound P m) (λ q z k. sound_closed P m q z k) m (m * P.generators) [])
        ∙ after (sound P m) (λ q z k. sound_closed P m q z k) m (m * P.generators) [] p r a e)
