-- One count less for each facet.
use Rattle.std.proofs.Common.{◌≡◌, ◌≢◌, inl, inr, ℕ, ◌+◌, ◌-◌, ◌<◌, ◌≤◌, List, length, take, get_or, set, Bool, true, false, cond, ◌||◌, eqb, refl, ap, sym, ◌∙◌, subst, arith}
use Rattle.std.specs.List.Sorted.{IsStrictlyIncreasing}
use Rattle.std.proofs.lemmas.Bool.{cases_eq, eq-eqb, ne_eqb}
use Rattle.std.proofs.lemmas.List.{get_or-set_same, get_or-set_other}
use Rattle.number_lists.specs.Words.{holds}
use Rattle.number_lists.proofs.CallerLemmas.{holds_more, holds-before}

or_false : (b : Bool) → (b || false) ≡ b
or_false true = refl
or_false false = refl

pub less-more : (old now new facets : List ℕ) (i : ℕ) → IsStrictlyIncreasing facets → i < length facets → 1 ≤ get_or facets i 0 → get_or facets i 0 ≤ length now
    → new ≡ set now (get_or facets i 0 - 1) (get_or now (get_or facets i 0 - 1) 0 - 1)
    → ((f : ℕ) → 1 ≤ f → get_or now (f - 1) 0 ≡ get_or old (f - 1) 0 - cond (holds (take i facets) f) 1 0)
    → (f : ℕ) → 1 ≤ f → get_or new (f - 1) 0 ≡ get_or old (f - 1) 0 - cond (holds (take (i + 1) facets) f) 1 0
less-more old now new facets i rise l low high e h f a = elim (cases_eq f (get_or facets i 0)) [
  | inl same ↦ subst (λ (k : ℕ). get_or new (k - 1) 0 ≡ get_or old (k - 1) 0 - cond (holds (take (i + 1) facets) k) 1 0) (sym same) here
  | inr ne ↦ there ne
]
  where
    here : get_or new (get_or facets i 0 - 1) 0 ≡ get_or old (get_or facets i 0 - 1) 0 - cond (holds (take (i + 1) facets) (get_or facets i 0)) 1 0
    here =
        let before : holds (take i facets) (get_or facets i 0) ≡ false = holds-before facets i rise l in
        let after : holds (take (i + 1) facets) (get_or facets i 0) ≡ true = holds_more facets i (get_or facets i 0) l ∙ (ap (λ (b : Bool). b || eqb (get_or facets i 0) (get_or facets i 0)) before ∙ eq-eqb (get_or facets i 0) (get_or facets i 0) refl) in
        let at : get_or now (get_or facets i 0 - 1) 0 ≡ get_or old (get_or facets i 0 - 1) 0 - 0 = h (get_or facets i 0) low ∙ ap (λ (b : Bool). get_or old (get_or facets i 0 - 1) 0 - cond b 1 0) before in
        ap (λ (xs : List ℕ). get_or xs (get_or facets i 0 - 1) 0) e
        ∙ (get_or-set_same now (get_or facets i 0 - 1) (get_or now (get_or facets i 0 - 1) 0 - 1) 0 (omega (arith, low, high))
        ∙ ((let s : get_or now (get_or facets i 0 - 1) 0 - 1 ≡ get_or old (get_or facets i 0 - 1) 0 - 1 = omega (arith, at) in s)
        ∙ ap (λ (b : Bool). get_or old (get_or facets i 0 - 1) 0 - cond b 1 0) (sym after)))

    there : f ≢ get_or facets i 0 → get_or new (f - 1) 0 ≡ get_or old (f - 1) 0 - cond (holds (take (i + 1) facets) f) 1 0
    there ne =
        let kept : holds (take (i + 1) facets) f ≡ holds (take i facets) f = holds_more facets i f l ∙ (ap (λ (b : Bool). holds (take i facets) f || b) (ne_eqb (get_or facets i 0) f (λ x. ne (sym x))) ∙ or_false (holds (take i facets) f)) in
        ap (λ (xs : List ℕ). get_or xs (f - 1) 0) e
        ∙ (get_or-set_other now (get_or facets i 0 - 1) (f - 1) (get_or now (get_or facets i 0 - 1) 0 - 1) 0 (λ x. ne (omega (arith, x, a, low)))
        ∙ (h f a ∙ ap (λ (b : Bool). get_or old (f - 1) 0 - cond b 1 0) (sym kept)))
