-- What halving finds in increasing numbers.
use Rattle.std.proofs.Common.{◌≡◌, inl, inr, ◌<◌, ◌≤◌, ◌+◌, ℕ, List, length, get_or, ap, sym, ◌∙◌, subst, arith, Ok, Err, Contains}
use Rattle.std.specs.List.Sorted.{IsStrictlyIncreasing, IsBinarySearchResult}
use Rattle.std.specs.Ordering.{nat_cmp}
use Rattle.std.proofs.lemmas.Bool.{cases_lt}
use Rattle.std.proofs.lemmas.List.Sorted.{searched}
use Rattle.std.proofs.lemmas.List.Kept.{AllPairs-from_increasing}
use Rattle.number_lists.proofs.CallerLemmas.{In-at, Contains-In}
use Rattle.facet_reader.specs.Simplices.{number_in}
use Rattle.facet_reader.proofs.Ranked.{increasing-rises, number-at}

not-falling : (xs : List ℕ) → IsStrictlyIncreasing xs → (i j : ℕ) → i ≤ j → j < length xs → get_or xs i 0 ≤ get_or xs j 0
not-falling xs h i j l m =
    elim (cases_lt i j) [
      | inl q ↦ let less : get_or xs i 0 < get_or xs j 0 = AllPairs-from_increasing xs h i j 0 q m in omega (arith, less)
      | inr q ↦ let e : i ≡ j = omega (arith, l, q) in subst (λ (k : ℕ). get_or xs i 0 ≤ get_or xs k 0) e (omega arith)
    ]

pub found : (xs : List ℕ) (x k : ℕ) → IsStrictlyIncreasing xs → IsBinarySearchResult (λ y. nat_cmp y x) xs (Ok k) → k + 1 ≡ number_in xs x
found xs x k h r =
    let p = searched xs x (Ok k) r (not-falling xs h) in
    sym (ap (number_in xs) (sym p.1) ∙ number-at xs k (increasing-rises xs h) p.0)

pub not_missed : (xs : List ℕ) (x k : ℕ) → IsStrictlyIncreasing xs → Contains xs x → IsBinarySearchResult (λ y. nat_cmp y x) xs (Err k) → ⊥
not_missed xs x k h i r =
    let p = searched xs x (Err k) r (not-falling xs h) in
    let (j, l, e) = In-at (Contains-In i) in
    elim (cases_lt j k) [ inl q ↦ omega (arith, p.1 j q, e) | inr q ↦ omega (arith, p.2 j q l, e) ]
