-- A binary search in an increasing list.
use Rattle.std.proofs.Common.{◌≡◌, ℕ, ◌<◌, ◌≤◌, List, length, get_or, Result, Ok, Err, MatchResult, Contains, subst}
use Rattle.std.specs.List.Sorted.{IsStrictlyIncreasing, IsBinarySearchResult}
use Rattle.std.specs.Ordering.{nat_cmp}
use Rattle.std.proofs.lemmas.List.Sorted.{searched}
use Rattle.sphere_collapses.proofs.Lists.{never_falls, not_missed}

module _ (xs : List ℕ) (x : ℕ) (r : Result ℕ ℕ) (h : IsBinarySearchResult (λ y. nat_cmp y x) xs r) (rises : IsStrictlyIncreasing xs) where
  told : MatchResult r (λ i. (i < length xs) × (get_or xs i 0 ≡ x)) (λ i. (i ≤ length xs) × ((k : ℕ) → k < i → get_or xs k 0 < x) × ((k : ℕ) → i ≤ k → k < length xs → x < get_or xs k 0))
  told = searched xs x r h (never_falls xs rises)

  pub found_at : (i : ℕ) → r ≡ Ok i → (i < length xs) × (get_or xs i 0 ≡ x)
  found_at i e = subst (λ (s : Result ℕ ℕ). MatchResult s (λ i. (i < length xs) × (get_or xs i 0 ≡ x)) (λ i. (i ≤ length xs) × ((k : ℕ) → k < i → get_or xs k 0 < x) × ((k : ℕ) → i ≤ k → k < length xs → x < get_or xs k 0))) e told

  pub not_missing : (i : ℕ) → r ≡ Err i → Contains xs x → ⊥
  not_missing i e c =
      let t : (i ≤ length xs) × ((k : ℕ) → k < i → get_or xs k 0 < x) × ((k : ℕ) → i ≤ k → k < length xs → x < get_or xs k 0) =
      subst (λ (s : Result ℕ ℕ). MatchResult s (λ i. (i < length xs) × (get_or xs i 0 ≡ x)) (λ i. (i ≤ length xs) × ((k : ℕ) → k < i → get_or xs k 0 < x) × ((k : ℕ) → i ≤ k → k < length xs → x < get_or xs k 0))) e told in
      not_missed xs x i c t.1 t.2
