-- Pairs one by one.
use Rattle.std.proofs.Common.{◌≡◌, ◌≢◌, ℕ, zero, suc, ◌<◌, List, [], ◌∷◌, length, get_or, arith}
use Rattle.linear_laws.specs.Vectors.{entry}
use Rattle.linear_laws.proofs.CallerLemmas.{all_at}
use Rattle.split_laws.specs.declared.matching.Match.{Match}
use Rattle.split_laws.specs.Pairs.{Triangular}
use Rattle.pair_stages.specs.Units.{no_match, pair_at}

-- the entry of each pair is not zero
pub triangular_at : (rows : List (List ℕ)) (ps : List Match) (i : ℕ) (d : Match) → Triangular rows ps → i < length ps → ((get_or ps i d).lower < length rows) × (entry rows (get_or ps i d).lower (get_or ps i d).upper ≢ 0)
triangular_at rows [] i d h lt = absurd (omega arith)
triangular_at rows (p ∷ ps) zero d h lt = (h.0, h.1)
triangular_at rows (p ∷ ps) (suc i) d h lt = triangular_at rows ps i d h.3 (omega arith)

-- the lower of a later pair is zero at the upper of an earlier one
pub later_zero : (rows : List (List ℕ)) (ps : List Match) (i k : ℕ) → Triangular rows ps → i < k → k < length ps → entry rows (pair_at ps k).lower (pair_at ps i).upper ≡ 0
later_zero rows [] i k t lt lk = absurd (omega arith)
later_zero rows (p ∷ ps) i zero t lt lk = absurd (omega arith)
later_zero rows (p ∷ ps) zero (suc k) t lt lk = all_at (λ q. entry rows q.lower p.upper ≡ 0) ps k no_match (omega arith) t.2
later_zero rows (p ∷ ps) (suc i) (suc k) t lt lk = later_zero rows ps i k t.3 (omega arith) (omega arith)
