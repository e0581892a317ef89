-- What the reduction of a coboundary's rows shows.
use Rattle.std.proofs.Common.{◌≡◌, ℕ, ◌+◌, ◌*◌, ◌≤◌, List, length, ap, sym, ◌∙◌, subst, arith}
use Rattle.std.proofs.Math.Nat.{mul-le-mul_left}
use Rattle.std.proofs.lemmas.List.{length-map}
use Rattle.small_field.specs.Field.{Ops}
use Rattle.linear_laws.specs.Echelon.{IsReduced, IsReducedTo}
use Rattle.field_matrix.proofs.CallerLemmas.{few_pivots}
use Rattle.order_complex.specs.Cochains.{coboundary_on, mark}
use Rattle.order_complex.specs.Ranks.{rows_on}
use Rattle.plain_betti.specs.Ranks.{IsRank}

module _ (F : Ops) (n rank : ℕ) (rows after : List (List ℕ)) (h : IsReducedTo F n rank n rows after) where
  pub is_reduced : (cols : ℕ) → cols ≡ n → IsReduced cols after
  is_reduced cols e = subst (λ k. IsReduced k after) (sym e) (record { pivots = h.pivots; reduced = h.reduced })

  pub is_rank : (chains next : List (List ℕ)) (r : ℕ) → n ≡ length next → rows ≡ rows_on F chains next → r ≡ rank → IsRank F chains next r
  is_rank chains next r e f k = (
    after,
    subst (λ (s : ℕ). IsReducedTo F (length next) s (length next) (rows_on F chains next) after) (sym k)
        (subst (λ (ws : List (List ℕ)). IsReducedTo F (length next) rank (length next) ws after) f
        (subst (λ (m : ℕ). IsReducedTo F m rank m rows after) e h)),
  )

  -- rows times rank is at most rows times columns
  pub few_additions : (chains next : List (List ℕ)) (old now : ℕ) → n ≡ length next → rows ≡ rows_on F chains next → now ≤ old + length rows * rank → now ≤ old + length chains * length next
  few_additions chains next old now e f cost =
      let few : length h.pivots ≤ n = few_pivots n after h.pivots h.reduced in
      let is : length h.pivots ≡ rank = h.rank_is in
      let low : rank ≤ length next = omega arith in
      let long : length rows ≡ length chains = ap (λ (ws : List (List ℕ)). length ws) f ∙ length-map chains (λ b. coboundary_on F chains next (mark chains b)) in
      let product : length chains * rank ≤ length chains * length next = mul-le-mul_left (length chains) low in
      let same : length rows * rank ≡ length chains * rank = ap (λ k. k * rank) long in
      omega arith
