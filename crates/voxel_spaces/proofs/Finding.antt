-- Halving a list that rises.
use Rattle.std.proofs.Common.{◌≡◌, inl, inr, ℕ, ◌<◌, ◌≤◌, List, map, length, get_or, Contains, ap, ◌∙◌, arith}
use Rattle.std.specs.List.Sorted.{IsStrictlyIncreasing}
use Rattle.std.proofs.lemmas.Bool.{cases_lt}
use Rattle.std.proofs.lemmas.List.{get_or-map}
use Rattle.std.proofs.lemmas.List.Kept.{AllPairs-from_increasing}
use Rattle.number_lists.proofs.CallerLemmas.{In-at, Contains-In}

pub first_between : (P : List ℕ) (place : ℕ) → Contains P place → (w : ℕ) × (0 ≤ w) × (w < length P) × (get_or P w 0 ≡ place)
first_between P place h = let r = In-at (Contains-In h) in (r.0, omega arith, r.1, r.2)

pub upper_half : (P : List ℕ) (place low high middle : ℕ) → IsStrictlyIncreasing P → high ≤ length P → middle < high → get_or P middle 0 ≤ place
    → (w : ℕ) × (low ≤ w) × (w < high) × (get_or P w 0 ≡ place) → (w : ℕ) × (middle ≤ w) × (w < high) × (get_or P w 0 ≡ place)
upper_half P place low high middle inc inside m le (w, a, b, e) =
    elim (cases_lt w middle) [
      | inl q ↦ let less : get_or P w 0 < get_or P middle 0 = AllPairs-from_increasing P inc w middle 0 q (omega arith) in absurd (omega arith)
      | inr q ↦ (w, q, b, e)
    ]

pub lower_half : (P : List ℕ) (place low high middle : ℕ) → IsStrictlyIncreasing P → high ≤ length P → middle < high → place < get_or P middle 0
    → (w : ℕ) × (low ≤ w) × (w < high) × (get_or P w 0 ≡ place) → (w : ℕ) × (low ≤ w) × (w < middle) × (get_or P w 0 ≡ place)
lower_half P place low high middle inc inside m gt (w, a, b, e) =
    elim (cases_lt w middle) [
      | inl q ↦ (w, a, q, e)
      | inr q ↦ elim (cases_lt middle w) [
        | inl r ↦ let less : get_or P middle 0 < get_or P w 0 = AllPairs-from_increasing P inc middle w 0 r (omega arith) in absurd (omega arith)
        | inr r ↦ let same : w ≡ middle = omega arith in absurd (omega (arith, ap (λ (n : ℕ). get_or P n 0) same))
      ]
    ]

-- what stands beside a place
pub beside : (f : ℕ → ℕ) (P numbers : List ℕ) (i place : ℕ) → numbers ≡ map f P → i < length P → get_or P i 0 ≡ place → get_or numbers i 0 ≡ f place
beside f P numbers i place e l h = ap (λ (ns : List ℕ). get_or ns i 0) e ∙ (get_or-map f P i 0 0 l ∙ ap f h)
