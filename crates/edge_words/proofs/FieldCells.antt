-- Where the two cells of a pair are, and the steps of a cycle; what a valid field does with a 2-cell, and the induction over all 2-cells.
use Rattle.std.proofs.Common.{◌≡◌, ◌⊎◌, inl, inr, ℕ, ◌+◌, ◌≤◌, List, refl, arith, sym, ◌∙◌, subst, Bool, true, false}
use Rattle.std.specs.Prelude.{◌==◌, not}
use Rattle.std.specs.List.{list_any}
use Rattle.std.proofs.lemmas.Bool.{eqb-true, not_from_false, false_from_ne_true, false≢true}
use Rattle.number_lists.specs.Members.{In}
use Rattle.number_lists.proofs.CallerLemmas.{In-filter, In-inside, any-In, In-upto}
use Rattle.face_poset.specs.declared.cells.Pair.{Pair}
use Rattle.face_poset.specs.Poset.{count, facets_of, IsSpace}
use Rattle.regular_check.specs.Rules.{IsRegular}
use Rattle.regular_check.specs.Cycle.{cycle, CyclesGoRound}
use Rattle.vector_field.specs.Pairs.{has_lower, is_used, is_incident, others, unpaired, IsValid}
use Rattle.vector_field.proofs.CallerLemmas.{lined-from, used-some, has_lower-from, incident-true, facet-range, along-field}
use Rattle.sheet_laws.specs.Permutations.{InRange}
use Rattle.sheet_laws.proofs.CallerLemmas.{HasPair, AreWithin, round-of}

-- the two cells of a pair
module _ (space : List (List (List ℕ))) (p : Pair) (k : ℕ) (d : p.dim ≡ k) (i : is_incident space p ≡ true) where
  pub low-range : InRange (count space k) p.lower
  low-range = let h = incident-true space p i in (h.first, subst (λ (n : ℕ). p.lower ≤ count space n) d h.last)

  pub high-range : InRange (count space (k + 1)) p.upper
  high-range = let h = incident-true space p i in (h.upper_first, subst (λ (n : ℕ). p.upper ≤ count space (n + 1)) d h.upper_last)

  pub low-facet : In p.lower (facets_of space (k + 1) p.upper)
  low-facet = subst (λ (n : ℕ). In p.lower (facets_of space (n + 1) p.upper)) d (incident-true space p i).facet

-- the steps of a cycle go along edges of the space
pub cycle-within : CyclesGoRound → (space : List (List (List ℕ))) → IsSpace space → IsRegular space → (c : ℕ) → InRange (count space 2) c → AreWithin (count space 1) (cycle space c)
cycle-within law space is regular c r t i = facet-range space 1 c t.edge is r.0 r.1 ((round-of law space c is regular r).inside t i)

-- ---- the pairs of a field

module _ (space : List (List (List ℕ))) (pairs : List Pair) (valid : IsValid space pairs) where
  incident : (p : Pair) → In p pairs → is_incident space p ≡ true
  incident p m = (lined-from space pairs valid).incident p m

  pub lower-range : (p : Pair) (k : ℕ) → In p pairs → p.dim ≡ k → InRange (count space k) p.lower
  lower-range p k i d = low-range space p k d (incident p i)

  pub upper-range : (p : Pair) (k : ℕ) → In p pairs → p.dim ≡ k → InRange (count space (k + 1)) p.upper
  upper-range p k i d = high-range space p k d (incident p i)

  pub lower-facet : (p : Pair) (k : ℕ) → In p pairs → p.dim ≡ k → In p.lower (facets_of space (k + 1) p.upper)
  lower-facet p k i d = low-facet space p k d (incident p i)

  -- the other facets of an upper
  pub others-In : (p : Pair) (k g : ℕ) → p.dim ≡ k → In g (others space p) → In g (facets_of space (k + 1) p.upper)
  others-In p k g d i = subst (λ (n : ℕ). In g (facets_of space (n + 1) p.upper)) d (In-inside (λ f. not (f == p.lower)) (facets_of space (p.dim + 1) p.upper) i)

  pub In-others : (p : Pair) (k g : ℕ) → p.dim ≡ k → In g (facets_of space (k + 1) p.upper) → (g ≡ p.lower → ⊥) → In g (others space p)
  In-others p k g d i n =
      In-filter (λ f. not (f == p.lower)) (subst (λ (n : ℕ). In g (facets_of space (n + 1) p.upper)) (sym d) i)
      (not_from_false (g == p.lower) (false_from_ne_true (g == p.lower) (λ e. n (eqb-true g p.lower e))))

  pub others-range : IsSpace space → (p : Pair) (k g : ℕ) → In p pairs → p.dim ≡ k → In g (others space p) → InRange (count space k) g
  others-range is p k g i d m = let h = upper-range p k i d in facet-range space k p.upper g is h.0 h.1 (others-In p k g d m)

  -- a 2-cell is critical, or paired with an edge, or with a 3-cell
  pub disk-kinds : (c : ℕ) → InRange (count space 2) c → In c (unpaired pairs 2 (count space 2)) ⊎ (HasPair pairs 1 (λ p. p.upper ≡ c) ⊎ HasPair pairs 2 (λ p. p.lower ≡ c))
  disk-kinds c r = by (is_used pairs 2 c) refl
    where
      by : (b : Bool) → is_used pairs 2 c ≡ b → In c (unpaired pairs 2 (count space 2)) ⊎ (HasPair pairs 1 (λ p. p.upper ≡ c) ⊎ HasPair pairs 2 (λ p. p.lower ≡ c))
      by false k = inl (In-filter (λ c. not (is_used pairs 2 c)) (In-upto (count space 2) c r.0 r.1) (not_from_false (is_used pairs 2 c) k))
      by true k =
          let s = used-some pairs 2 c k in
          elim s.2 [
            | inl u ↦ inr (inr (record { pair = s.0; among = s.1; of_dim = u.0; has = u.1 }))
            | inr u ↦ inr (inl (record { pair = s.0; among = s.1; of_dim = omega (arith, u.0); has = u.1 }))
          ]

-- what holds of each 2-cell that is critical or paired with an edge, and of the lower of each pair where it holds of the other facets of the
-- upper, holds of each 2-cell
pub over-disks : (space : List (List (List ℕ))) (pairs : List Pair) → IsSpace space → IsValid space pairs → (P : ℕ → Type 0)
    → ((c : ℕ) → InRange (count space 2) c → In c (unpaired pairs 2 (count space 2)) → P c)
    → ((p : Pair) → In p pairs → p.dim ≡ 1 → P p.upper)
    → ((p : Pair) → In p pairs → p.dim ≡ 2 → ((g : ℕ) → In g (others space p) → P g) → P p.lower)
    → (c : ℕ) → InRange (count space 2) c → P c
over-disks space pairs is valid P critical forced pass c r = by (disk-kinds space pairs valid c r)
  where
    free : (p : Pair) (f : ℕ) → In p pairs → p.dim ≡ 2 → In f (others space p) → list_any (has_lower 2 f) pairs ≡ false → P f
    free p f i d m n = by_kind (disk-kinds space pairs valid f range)
      where
        range : InRange (count space 2) f
        range = others-range space pairs valid is p 2 f i d m

        by_kind : In f (unpaired pairs 2 (count space 2)) ⊎ (HasPair pairs 1 (λ p. p.upper ≡ f) ⊎ HasPair pairs 2 (λ p. p.lower ≡ f)) → P f
        by_kind (inl k) = critical f range k
        by_kind (inr (inl h)) = subst P h.has (forced h.pair h.among h.of_dim)
        by_kind (inr (inr h)) = absurd (false≢true (sym n ∙ any-In (has_lower 2 f) h.among (has_lower-from h.pair 2 f h.of_dim h.has)))

    by : In c (unpaired pairs 2 (count space 2)) ⊎ (HasPair pairs 1 (λ p. p.upper ≡ c) ⊎ HasPair pairs 2 (λ p. p.lower ≡ c)) → P c
    by (inl k) = critical c r k
    by (inr (inl h)) = subst P h.has (forced h.pair h.among h.of_dim)
    by (inr (inr h)) = subst P h.has (along-field space pairs valid 2 P free pass h.pair h.among h.of_dim)
