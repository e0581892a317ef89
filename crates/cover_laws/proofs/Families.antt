-- A permutation of the sheets for each vertex or edge, as the list of the values of functions.
use Rattle.std.proofs.Common.{◌≡◌, ℕ, ◌-◌, List, [], map, length, ap, arith, ◌∙◌, true}
use Rattle.std.specs.List.{list_all}
use Rattle.std.proofs.lemmas.List.FromFn.{get_or-map-range_with_len, length-map-range_with_len}
use Rattle.number_lists.specs.Words.{upto}
use Rattle.number_lists.proofs.CallerLemmas.{In-all, map-In, upto-In}
use Rattle.sheet_laws.specs.Permutations.{InRange, is_permutation, at, values}
use Rattle.sheet_laws.specs.Labellings.{label}
use Rattle.sheet_laws.proofs.CallerLemmas.{Turn, list_of, at_values}

module _ (n m : ℕ) (h : ℕ → ℕ → ℕ) where
  pub family : List (List ℕ)
  family = map (λ v. values m (h v)) (upto n)

  pub family-long : length family ≡ n
  unfolding family
  family-long = length-map-range_with_len (λ v. values m (h v)) 1 n

  pub label-family : (v : ℕ) → InRange n v → label family v ≡ values m (h v)
  unfolding family
  label-family v r = get_or-map-range_with_len (λ v. values m (h v)) 1 n (v - 1) v [] (omega (arith, r.0, r.1)) (omega (arith, r.0))

  pub at-family : (v x : ℕ) → InRange n v → InRange m x → at (label family v) x ≡ h v x
  at-family v x r q = ap (λ (f : List ℕ). at f x) (label-family v r) ∙ at_values m (h v) x q

  pub family-permutes : ((v : ℕ) → InRange n v → Turn m (h v)) → list_all (is_permutation m) family ≡ true
  unfolding family
  family-permutes t =
      In-all (is_permutation m) (map (λ v. values m (h v)) (upto n)) (λ f i.
      (let r = map-In (λ v. values m (h v)) (upto n) i in rw r.2 (list_of m (h r.0) (t r.0 (upto-In n r.0 r.1)))))
