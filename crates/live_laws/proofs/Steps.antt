-- The four moves of a walk.
use Rattle.std.proofs.Common.{◌≡◌, ℕ, zero, suc, ◌+◌, ◌-◌, ◌<◌, ◌≤◌, List, [], ◌∷◌, ◌++◌, length, refl, ap, arith, ◌∙◌, ◌⊎◌, inl, inr, Bool, true, false}
use Rattle.std.specs.List.{flat_map}
use Rattle.std.proofs.lemmas.List.{append_assoc}
use Rattle.live_laws.specs.Trees.{from, down, sub, later, rest, StepsDown, StepsOn, StepsUp, StepsOut}
use Rattle.live_laws.proofs.Trees.{rest_pops}

module _ (live : List ℕ → Bool) (m : ℕ) where
  -- the first of the numbers left
  one_number : (n : ℕ) (q : List ℕ) (v : ℕ) → v ≤ m → later live m n q v (suc m - v) ≡ sub live m n (q ++ v ∷ []) ++ later live m n q (suc v) (m - v)
  one_number n q v l = ap (later live m n q v) (count m v l)
    where
      count : (m v : ℕ) → v ≤ m → suc m - v ≡ suc (m - v)
      count m v l = omega (arith, l)

  sub_dead : (n : ℕ) (s : List ℕ) → live s ≡ false → sub live m n s ≡ []
  sub_dead n s e = one (live s) e
    where
      one : (b : Bool) → b ≡ false → ◌≡◌ {A = List (List ℕ)} (elim b [ true ↦ s ∷ down live m n s | false ↦ [] ]) []
      one false e = refl
      one true e = absurd (grind (arith, e))

  sub_live : (n : ℕ) (s : List ℕ) → live s ≡ true → sub live m n s ≡ s ∷ down live m n s
  sub_live n s e = one (live s) e
    where
      one : (b : Bool) → b ≡ true → elim b [ true ↦ s ∷ down live m n s | false ↦ [] ] ≡ s ∷ down live m n s
      one true e = refl
      one false e = absurd (grind (arith, e))

  down_is_rest : (n : ℕ) (s : List ℕ) → down live m n s ≡ rest live m n s [] 1
  down_is_rest zero s = refl
  down_is_rest (suc n) s = ap (λ k. flat_map (λ x. sub live m n (s ++ x ∷ [])) (from 1 k)) (omega arith)

  on : (n : ℕ) (q r : List ℕ) (v : ℕ) → length r < n → v ≤ m → live (q ++ (r ++ v ∷ [])) ≡ false → rest live m n q r v ≡ rest live m n q r (suc v)
  on zero q r v l h e = absurd (omega (arith, l))
  on (suc n) q [] v l h e = one_number n q v h ∙ (ap (λ a. a ++ later live m n q (suc v) (m - v)) (sub_dead n (q ++ v ∷ []) e) ∙ ap (later live m n q (suc v)) (count m v))
    where
      count : (m v : ℕ) → m - v ≡ suc m - suc v
      count m v = omega arith
  on (suc n) q (y ∷ r) v l h e = ap (λ a. a ++ later live m n q (suc y) (m - y)) (on n (q ++ y ∷ []) r v (omega (arith, l)) h (rw (append_assoc q (y ∷ []) (r ++ v ∷ [])) e))

  below : (n : ℕ) (q r : List ℕ) (v : ℕ) → length r < n → v ≤ m → live (q ++ (r ++ v ∷ [])) ≡ true
      → rest live m n q r v ≡ (q ++ (r ++ v ∷ [])) ∷ rest live m n q (r ++ v ∷ []) 1
  below zero q r v l h e = absurd (omega (arith, l))
  below (suc n) q [] v l h e = one_number n q v h ∙ ap (λ a. a ++ later live m n q (suc v) (m - v)) (sub_live n (q ++ v ∷ []) e ∙ ap (λ a. (q ++ v ∷ []) ∷ a) (down_is_rest n (q ++ v ∷ [])))
  below (suc n) q (y ∷ r) v l h e = ap (λ a. a ++ later live m n q (suc y) (m - y))
      (below n (q ++ y ∷ []) r v (omega (arith, l)) h (rw (append_assoc q (y ∷ []) (r ++ v ∷ [])) e)
      ∙ ap (λ s. s ∷ rest live m n (q ++ y ∷ []) (r ++ v ∷ []) 1) (append_assoc q (y ∷ []) (r ++ v ∷ [])))

  out : (n : ℕ) (q : List ℕ) (v : ℕ) → (m < v) ⊎ (n ≡ 0) → rest live m n q [] v ≡ []
  out zero q v h = refl
  out (suc n) q v (inl h) = ap (later live m n q v) (none m v h)
    where
      none : (m v : ℕ) → m < v → suc m - v ≡ 0
      none m v h = omega (arith, h)
  out (suc n) q v (inr h) = absurd (omega (arith, h))

  up : (n : ℕ) (q r : List ℕ) (y v : ℕ) → length r < n → (m < v) ⊎ (length r + 1 ≡ n) → rest live m n q (r ++ y ∷ []) v ≡ rest live m n q r (suc y)
  up n q r y v l h = rest_pops live m n q r y v l ∙ ap (λ a. a ++ rest live m n q r (suc y)) (out (n - length r - 1) (q ++ (r ++ y ∷ [])) v (either h))
    where
      either : (m < v) ⊎ (length r + 1 ≡ n) → (m < v) ⊎ (n - length r - 1 ≡ 0)
      either (inl h) = inl h
      either (inr h) = inr (omega (arith, h))

pub steps_down : StepsDown
steps_down live m n q r v l h e = below live m n q r v l h e

pub steps_on : StepsOn
steps_on live m n q r v l h e = on live m n q r v l h e

pub steps_up : StepsUp
steps_up live m n q r y v l h = up live m n q r y v l h

pub steps_out : StepsOut
steps_out live m n q v h = out live m n q v h
