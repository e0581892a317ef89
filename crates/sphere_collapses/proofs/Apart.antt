-- Steps along different edges.
use Rattle.std.proofs.Common.{◌≡◌, ◌≢◌, ◌⊎◌, inl, inr, ℕ, suc, List, [], ◌∷◌, ◌++◌, map, sym, subst, arith, AllPairs}
use Rattle.number_lists.specs.Members.{In, here, there}
use Rattle.number_lists.proofs.CallerLemmas.{In-at, In-map, In-right, AreDistinct, none, more}
use Rattle.regular_check.specs.declared.cycles.Step.{Step}

pub distinct-from : (xs : List ℕ) → AllPairs (λ a b. a ≢ b) xs → AreDistinct xs
distinct-from [] h = none
distinct-from (x ∷ xs) h =
    more (λ i. (let k = In-at i in h 0 (suc k.0) 0 (omega arith) (omega (arith, k.1)) (sym k.2)))
    (distinct-from xs (λ i j d l m. h (suc i) (suc j) d (omega (arith, l)) (omega (arith, m))))

-- where each edge is there once, another step goes along another edge
pub apart : (xs ys : List Step) (s t : Step) → AreDistinct (map (λ (u : Step). u.edge) (xs ++ s ∷ ys)) → In t ys ⊎ In t xs → t.edge ≡ s.edge → ⊥
apart [] ys s t (more n d) (inl i) e = n (subst (λ (k : ℕ). In k (map (λ (u : Step). u.edge) ys)) e (In-map (λ (u : Step). u.edge) i))
apart [] ys s t h (inr i) e = elim i [ ]
apart (x ∷ xs) ys s t (more n d) (inl i) e = apart xs ys s t d (inl i) e
apart (x ∷ xs) ys s t (more n d) (inr here) e = n (subst (λ (k : ℕ). In k (map (λ (u : Step). u.edge) (xs ++ s ∷ ys))) (sym e) (In-map (λ (u : Step). u.edge) (In-right xs here)))
apart (x ∷ xs) ys s t (more n d) (inr (there i)) e = apart xs ys s t d (inr i) e
