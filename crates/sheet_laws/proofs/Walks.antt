-- Steps and walks by labels.
use Rattle.std.proofs.Common.{◌≡◌, ℕ, ◌-◌, List, [], ◌∷◌, ◌++◌, length, refl, ap, arith, sym, ◌∙◌, Bool, true, false, cond}
use Rattle.std.specs.Prelude.{◌==◌}
use Rattle.std.specs.List.{list_all}
use Rattle.std.proofs.lemmas.Bool.{eqb-true, eq-eqb}
use Rattle.number_lists.specs.Members.{In, here, there}
use Rattle.number_lists.specs.Words.{upto}
use Rattle.number_lists.proofs.CallerLemmas.{In-all, all-In, In-upto, upto-In, at-In, In-left, In-right}
use Rattle.regular_check.specs.declared.cycles.Step.{Step}
use Rattle.sheet_laws.specs.Permutations.{InRange, is_permutation, at, back}
use Rattle.sheet_laws.specs.Labellings.{label, step, walk, closes}
use Rattle.sheet_laws.proofs.Permutations.{Turn, turn_of, back_turn, turn-once}

pub walk-append : (u : List (List ℕ)) (xs ys : List Step) (x : ℕ) → walk u (xs ++ ys) x ≡ walk u ys (walk u xs x)
walk-append u [] ys x = refl
walk-append u (s ∷ xs) ys x = walk-append u xs ys (step u s x)

-- labels that agree on the edges of steps lead the same way
step-agree : (u w : List (List ℕ)) (s : Step) → label u s.edge ≡ label w s.edge → (x : ℕ) → step u s x ≡ step w s x
step-agree u w s e x = ap (λ (f : List ℕ). cond s.forward (at f x) (back f x)) e

pub walk-agree : (u w : List (List ℕ)) (ss : List Step) → ((t : Step) → In t ss → label u t.edge ≡ label w t.edge) → (x : ℕ) → walk u ss x ≡ walk w ss x
walk-agree u w [] h x = refl
walk-agree u w (s ∷ ss) h x = ap (walk u ss) (step-agree u w s (h s here) x) ∙ walk-agree u w ss (λ t i. h t (there i)) (step w s x)

-- what it is to close
pub closes-at : (m : ℕ) (u : List (List ℕ)) (ss : List Step) → closes m u ss ≡ true → (x : ℕ) → InRange m x → walk u ss x ≡ x
closes-at m u ss e x r = eqb-true (walk u ss x) x (all-In (λ x. walk u ss x == x) e (In-upto m x r.0 r.1))

pub closes-from : (m : ℕ) (u : List (List ℕ)) (ss : List Step) → ((x : ℕ) → InRange m x → walk u ss x ≡ x) → closes m u ss ≡ true
closes-from m u ss h = In-all (λ x. walk u ss x == x) (upto m) (λ x i. eq-eqb (walk u ss x) x (h x (upto-In m x i)))

-- the steps go along edges from 1 to n
abbrev pub AreWithin : (n : ℕ) → List Step → Type 0
AreWithin n ss = (t : Step) → In t ss → InRange n t.edge

-- where each edge from 1 to n has a permutation
module _ (m n : ℕ) (u : List (List ℕ)) (long : length u ≡ n) (permute : list_all (is_permutation m) u ≡ true) where
  pub label-permutes : (e : ℕ) → InRange n e → is_permutation m (label u e) ≡ true
  label-permutes e r = all-In (is_permutation m) permute (at-In u (e - 1) [] (omega (arith, r.0, r.1, long)))

  -- a step permutes the sheets
  pub step-into : (s : Step) → InRange n s.edge → (x : ℕ) → InRange m x → InRange m (step u s x)
  step-into s r x q = by s.forward (turn_of m (label u s.edge) (label-permutes s.edge r)) (back_turn m (label u s.edge) (label-permutes s.edge r))
    where
      by : (b : Bool) → Turn m (at (label u s.edge)) → Turn m (back (label u s.edge)) → InRange m (cond b (at (label u s.edge) x) (back (label u s.edge) x))
      by true t k = t.into x q
      by false t k = k.into x q

  pub step-once : (s : Step) → InRange n s.edge → (x y : ℕ) → InRange m x → InRange m y → step u s x ≡ step u s y → x ≡ y
  step-once s r x y q k e = by s.forward (turn_of m (label u s.edge) (label-permutes s.edge r)) (back_turn m (label u s.edge) (label-permutes s.edge r)) e
    where
      by : (b : Bool) → Turn m (at (label u s.edge)) → Turn m (back (label u s.edge)) → cond b (at (label u s.edge) x) (back (label u s.edge) x) ≡ cond b (at (label u s.edge) y) (back (label u s.edge) y) → x ≡ y
      by true t j e = turn-once m (at (label u s.edge)) t x y q k e
      by false t j e = turn-once m (back (label u s.edge)) j x y q k e

  pub walk-into : (ss : List Step) → AreWithin n ss → (x : ℕ) → InRange m x → InRange m (walk u ss x)
  walk-into [] w x q = q
  walk-into (s ∷ ss) w x q = walk-into ss (λ t i. w t (there i)) (step u s x) (step-into s (w s here) x q)

  pub walk-once : (ss : List Step) → AreWithin n ss → (x y : ℕ) → InRange m x → InRange m y → walk u ss x ≡ walk u ss y → x ≡ y
  walk-once [] w x y q k e = e
  walk-once (s ∷ ss) w x y q k e =
      step-once s (w s here) x y q k (walk-once ss (λ t i. w t (there i)) (step u s x) (step u s y) (step-into s (w s here) x q) (step-into s (w s here) y k) e)

  -- where the walk round closes, so it does from any of its steps on
  pub rotated : (xs ys : List Step) (s : Step) → AreWithin n (xs ++ s ∷ ys) → closes m u (xs ++ s ∷ ys) ≡ true → (y : ℕ) → InRange m y → walk u (ys ++ xs) (step u s y) ≡ y
  rotated xs ys s w e y r =
      walk-append u ys xs (step u s y)
      ∙ walk-once (s ∷ ys) (λ t i. w t (In-right xs i)) (walk u xs (walk u ys (step u s y))) y (walk-into xs (λ t i. w t (In-left (s ∷ ys) i)) (walk u ys (step u s y)) round) r
      (sym (walk-append u xs (s ∷ ys) (walk u ys (step u s y))) ∙ closes-at m u (xs ++ s ∷ ys) e (walk u ys (step u s y)) round)
    where
      round : InRange m (walk u ys (step u s y))
      round = walk-into ys (λ t i. w t (In-right xs (there i))) (step u s y) (step-into s (w s (In-right xs here)) y r)

  -- and back
  pub from-rotated : (xs ys : List Step) (s : Step) → AreWithin n (xs ++ s ∷ ys) → ((y : ℕ) → InRange m y → walk u (ys ++ xs) (step u s y) ≡ y) → closes m u (xs ++ s ∷ ys) ≡ true
  from-rotated xs ys s w h = closes-from m u (xs ++ s ∷ ys) (λ x r. walk-append u xs (s ∷ ys) x ∙ again x r)
    where
      again : (x : ℕ) → InRange m x → walk u ys (step u s (walk u xs x)) ≡ x
      again x r =
          let y : InRange m (walk u xs x) = walk-into xs (λ t i. w t (In-left (s ∷ ys) i)) x r in
          walk-once xs (λ t i. w t (In-left (s ∷ ys) i)) (walk u ys (step u s (walk u xs x))) x
          (walk-into ys (λ t i. w t (In-right xs (there i))) (step u s (walk u xs x)) (step-into s (w s (In-right xs here)) (walk u xs x) y)) r
          (sym (walk-append u ys xs (step u s (walk u xs x))) ∙ h (walk u xs x) y)
