-- Steps cut at an edge.
use Rattle.std.proofs.Common.{◌≡◌, ◌≢◌, ℕ, zero, suc, ◌<◌, List, [], ◌∷◌, ◌++◌, map, length, take, drop, get_or, refl, ap, sym, ◌∙◌, arith, Bool, true, false, cond}
use Rattle.std.specs.Prelude.{◌==◌}
use Rattle.std.proofs.lemmas.Bool.{eqb-true, eq-eqb}
use Rattle.std.proofs.lemmas.List.{append-nil, append_assoc}
use Rattle.number_lists.specs.Words.{holds}
use Rattle.regular_check.specs.declared.cycles.Step.{Step}
use Rattle.sheet_laws.specs.Lifts.{round_from}
use Rattle.edge_words.specs.Reducing.{place_in}

abbrev edges : List Step → List ℕ
edges ss = map (λ (s : Step). s.edge) ss

pub place-within : (e : ℕ) (ss : List Step) → holds (edges ss) e ≡ true → place_in e ss < length ss
place-within e [] h = absurd (grind (arith, h))
place-within e (s ∷ ss) h = by (s.edge == e) refl (λ k. place-within e ss k)
  where
    by : (b : Bool) → (s.edge == e) ≡ b → (holds (edges ss) e ≡ true → place_in e ss < length ss) → cond (s.edge == e) 0 (suc (place_in e ss)) < suc (length ss)
    by true k r = rw k (omega arith)
    by false k r = rw k (let q = r (rw k at h) in omega (arith, q))

pub round-place : (e : ℕ) (before ss : List Step) (d : Step) → holds (edges ss) e ≡ true
    → round_from e before ss ≡ ((get_or ss (place_in e ss) d).forward, drop (suc (place_in e ss)) ss ++ (before ++ take (place_in e ss) ss))
round-place e before [] d h = absurd (grind (arith, h))
round-place e before (s ∷ ss) d h = by (s.edge == e) refl (λ k. round-place e (before ++ s ∷ []) ss d k)
  where
    by : (b : Bool) → (s.edge == e) ≡ b
        → (holds (edges ss) e ≡ true → round_from e (before ++ s ∷ []) ss ≡ ((get_or ss (place_in e ss) d).forward, drop (suc (place_in e ss)) ss ++ ((before ++ s ∷ []) ++ take (place_in e ss) ss)))
        → cond (s.edge == e) (s.forward, ss ++ before) (round_from e (before ++ s ∷ []) ss)
        ≡ ((get_or (s ∷ ss) (cond (s.edge == e) 0 (suc (place_in e ss))) d).forward, drop (suc (cond (s.edge == e) 0 (suc (place_in e ss)))) (s ∷ ss) ++ (before ++ take (cond (s.edge == e) 0 (suc (place_in e ss))) (s ∷ ss)))
    by true k r = rw k (ap (λ (xs : List Step). (s.forward, ss ++ xs)) (sym (append-nil before)))
    by false k r = rw k (r (rw k at h) ∙ ap (λ (xs : List Step). ((get_or ss (place_in e ss) d).forward, drop (suc (place_in e ss)) ss ++ xs)) (append_assoc before (s ∷ []) (take (place_in e ss) ss)))

-- the first step along an edge
pub place-first : (e : ℕ) (ss : List Step) (i : ℕ) (d : Step) → i < length ss → ((k : ℕ) (d : Step) → k < i → (get_or ss k d).edge ≢ e) → (get_or ss i d).edge ≡ e → i ≡ place_in e ss
place-first e [] i d l n h = absurd (omega (arith, l))
place-first e (s ∷ ss) zero d l n h = rw (eq-eqb s.edge e h) refl
place-first e (s ∷ ss) (suc i) d l n h = by (s.edge == e) refl (place-first e ss i d (omega (arith, l)) (λ k d q. n (suc k) d (omega (arith, q))) h)
  where
    by : (b : Bool) → (s.edge == e) ≡ b → i ≡ place_in e ss → suc i ≡ cond (s.edge == e) 0 (suc (place_in e ss))
    by true k r = absurd (n 0 d (omega arith) (eqb-true s.edge e k))
    by false k r = rw k (ap suc r)

pub place-there : (e : ℕ) (ss : List Step) → holds (edges ss) e ≡ true → ((k : ℕ) (d : Step) → k < length ss → (get_or ss k d).edge ≢ e) → ⊥
place-there e [] h n = grind (arith, h)
place-there e (s ∷ ss) h n = by (s.edge == e) refl (λ k. place-there e ss k (λ k d l. n (suc k) d (omega (arith, l))))
  where
    by : (b : Bool) → (s.edge == e) ≡ b → (holds (edges ss) e ≡ true → ⊥) → ⊥
    by true k r = n 0 s (omega arith) (eqb-true s.edge e k)
    by false k r = r (rw k at h)
