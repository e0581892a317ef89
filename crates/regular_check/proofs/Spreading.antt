-- A search from one number by steps inside a list: what was found, of which the first were looked at.
use Rattle.std.proofs.Common.{◌≡◌, ◌⊎◌, inl, inr, ℕ, ◌+◌, ◌<◌, ◌≤◌, refl, List, [], ◌∷◌, Bool, true, eqb, length, get_or, ap, sym, ◌∙◌, subst, arith, rules}
use Rattle.std.specs.List.{IsDistinct}
use Rattle.std.specs.Cmp.{both_ways}
use Rattle.std.proofs.lemmas.Bool.Decides.{eqb_tells}
use Rattle.number_lists.specs.Words.{holds}
use Rattle.number_lists.specs.Reach.{reaches, Reaches, at_start, on}
use Rattle.number_lists.specs.Found.{inserted_all}
use Rattle.number_lists.specs.Members.{In, here, there}
use Rattle.number_lists.proofs.CallerLemmas.{holds-In, In-holds, In-at, at-In, reaches_is, AreMore, are_more, length-inside}

module _ (step : ℕ → ℕ → Bool) (all : List ℕ) where
  -- these are the numbers one step from c; c itself may be left out
  pub record AreNexts (c : ℕ) (nexts : List ℕ) : Type 0 where
    pub inside : (y : ℕ) → In y nexts → In y all
    pub steps : (y : ℕ) → In y nexts → step c y ≡ true
    pub others : (z : ℕ) → In z all → step c z ≡ true → (z ≡ c) ⊎ In z nexts

  -- what was found, where all that is one step from the first `head` of it was found
  pub record IsSearch (start head : ℕ) (found : List ℕ) : Type 0 where
    pub start_in : In start found
    pub inside : (y : ℕ) → In y found → In y all
    pub reached : (y : ℕ) → In y found → Reaches step all start y
    pub closed : (k : ℕ) → k < head → k < length found → (z : ℕ) → In z all → step (get_or found k 0) z ≡ true → In z found
    pub distinct : IsDistinct eqb found

  pub search_begun : (start : ℕ) → In start all → IsSearch start 0 (start ∷ [])
  unfolding IsDistinct
  search_begun start m =
      record {
        start_in = here;
        inside = λ y h. subst (λ (z : ℕ). In z all) (sym (single h)) m;
        reached = λ y h. subst (λ (z : ℕ). Reaches step all start z) (sym (single h)) at_start;
        closed = λ k a. absurd (omega (arith, a));
        distinct = search rules;
      }
    where
      single : {x y : ℕ} → In x (y ∷ []) → x ≡ y
      single here = refl
      single (there h) = elim h [ ]

  module _ (start head : ℕ) (found : List ℕ) where
    pub search_idle : length found ≤ head → IsSearch start head found → IsSearch start (head + 1) found
    search_idle l s = record { start_in = s.start_in; inside = s.inside; reached = s.reached; closed = λ k a b. s.closed k (omega (arith, b, l)) b; distinct = s.distinct }

    pub search_more : head < length found → IsSearch start head found → (nexts : List ℕ) → AreNexts (get_or found head 0) nexts → IsSearch start (head + 1) (inserted_all found nexts)
    search_more l s nexts n =
        let c : ℕ = get_or found head 0 in
        let here_is : In c found = at-In found head 0 l in
        let a : AreMore found nexts (inserted_all found nexts) = are_more found nexts in
        record {
          start_in = a.kept start s.start_in;
          inside = λ y i. elim (a.only y i) [ inl p ↦ s.inside y p | inr p ↦ n.inside y p ];
          reached = λ y i. elim (a.only y i) [ inl p ↦ s.reached y p | inr p ↦ on (s.reached c here_is) (n.steps y p) (In-holds (n.inside y p)) ];
          closed = λ k lt long z m e. by_place k (split k lt) z m e a;
          distinct = a.distinct s.distinct;
        }
      where
        split : (k : ℕ) → k < head + 1 → (k < head) ⊎ (k ≡ head)
        split k lt = elim (eqb_tells k head) [ inl p ↦ inr p.1 | inr p ↦ inl (omega (arith, p.1, lt)) ]

        by_place : (k : ℕ) → (k < head) ⊎ (k ≡ head) → (z : ℕ) → In z all → step (get_or (inserted_all found nexts) k 0) z ≡ true → AreMore found nexts (inserted_all found nexts) → In z (inserted_all found nexts)
        by_place k (inl p) z m e a =
            let lt : k < length found = omega (arith, p, l) in
            a.kept z (s.closed k p lt z m (subst (λ (x : ℕ). step x z ≡ true) (a.place k lt) e))
        by_place k (inr p) z m e a =
            let lt : k < length found = omega (arith, p, l) in
            let e2 : step (get_or found head 0) z ≡ true = subst (λ (x : ℕ). step x z ≡ true) (a.place k lt ∙ ap (λ (j : ℕ). get_or found j 0) p) e in
            elim (n.others z m e2) [
              | inl q ↦ a.kept z (subst (λ (x : ℕ). In x found) (sym q) (at-In found head 0 l))
              | inr q ↦ a.added z q
            ]

    pub few_found : IsSearch start head found → length found ≤ length all
    few_found s = length-inside found all s.distinct s.inside

    all_reached : length found ≤ head → IsSearch start head found → {y : ℕ} → Reaches step all start y → In y found
    all_reached l s at_start = s.start_in
    all_reached l s (on {y} {z} q e g) =
        let a = In-at (all_reached l s q) in
        s.closed a.0 (omega (arith, a.1, l)) a.1 z (holds-In all g) (subst (λ (x : ℕ). step x z ≡ true) (sym a.2) e)

    -- at its end the search has found what steps lead to
    pub search_tells : length found ≤ head → IsSearch start head found → (y : ℕ) → holds found y ≡ reaches step all start y
    search_tells l s y =
        let there : holds all start ≡ true = In-holds (s.inside start s.start_in) in
        both_ways (holds found y) (reaches step all start y)
        (λ e. (reaches_is step all start y there).1 (s.reached y (holds-In found e)))
        (λ e. In-holds (all_reached l s ((reaches_is step all start y there).0 e)))
