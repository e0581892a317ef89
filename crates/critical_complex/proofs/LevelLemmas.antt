-- Levels of stages.
use Rattle.std.proofs.Common.{◌≡◌, ℕ, zero, suc, ◌+◌, ◌≤◌, ◌<◌, List, [], ◌∷◌, length, map, refl, ap, sym, ◌∙◌, subst}
use Rattle.pair_stages.specs.Stages.{Stage}
use Rattle.pair_stages.specs.Splits.{stage_at, stage_before}
use Rattle.critical_complex.specs.Levels.{Level, level_at, level_before}
use Rattle.critical_complex.specs.Stages.{level_of, levels_of}

level_is : (stages : List Stage) (d : ℕ) → level_at (levels_of stages) d ≡ level_of (stage_at stages d)
level_is [] zero = refl
level_is [] (suc d) = refl
level_is (s ∷ ss) zero = refl
level_is (s ∷ ss) (suc d) = level_is ss d

module _ (stages : List Stage) (levels : List Level) (e : levels_of stages ≡ levels) where
  -- a degree, and the degree before
  pub seen : (d : ℕ) → level_of (stage_at stages d) ≡ level_at levels d
  seen d = sym (level_is stages d) ∙ ap (λ (ls : List Level). level_at ls d) e

  pub seen_before : (d : ℕ) → level_of (stage_before stages d) ≡ level_before levels d
  seen_before zero = refl
  seen_before (suc d) = seen d

  -- what holds of two degrees, one after the other
  pub moved : (P : Level → Level → Type 0) (d k : ℕ) → P (level_of (stage_at stages d)) (level_of (stage_at stages k)) → P (level_at levels d) (level_at levels k)
  moved P d k h = subst (λ (l : Level). P l (level_at levels k)) (seen d) (subst (P (level_of (stage_at stages d))) (seen k) h)

  pub moved_from : (P : Level → Level → Type 0) (d k : ℕ) → P (level_at levels d) (level_at levels k) → P (level_of (stage_at stages d)) (level_of (stage_at stages k))
  moved_from P d k h = subst (λ (l : Level). P l (level_of (stage_at stages k))) (sym (seen d)) (subst (P (level_at levels d)) (sym (seen k)) h)

  pub moved_back : (P : Level → Level → Type 0) (d : ℕ) → P (level_of (stage_before stages d)) (level_of (stage_at stages d)) → P (level_before levels d) (level_at levels d)
  moved_back P d h = subst (λ (l : Level). P l (level_at levels d)) (seen_before d) (subst (P (level_of (stage_before stages d))) (seen d) h)
