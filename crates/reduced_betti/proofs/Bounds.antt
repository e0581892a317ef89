-- Bounds on row additions.
use Rattle.std.proofs.Common.{◌≡◌, ℕ, ◌+◌, ◌*◌, ◌≤◌, List, length, ap, subst, sym, ◌∙◌, arith}
use Rattle.std.proofs.Math.Nat.{mul-le-mul}
use Rattle.small_field.specs.Field.{Ops, IsField}
use Rattle.linear_laws.specs.Echelon.{IsReduced, IsReducedTo}
use Rattle.linear_laws.specs.ZeroRows.{nonzero_rows}
use Rattle.linear_laws.proofs.CallerLemmas.{nonzero_few, same_rank}
use Rattle.field_matrix.proofs.CallerLemmas.{few_pivots}
use Rattle.split_laws.specs.declared.kind.Kind.{Kind}
use Rattle.split_laws.specs.Kinds.{criticals}
use Rattle.critical_complex.specs.Levels.{Level, kinds_at, AreFilledAt}
use Rattle.critical_complex.proofs.CallerLemmas.{criticals_few}
use Rattle.reduced_betti.specs.Ranks.{HasRank}

module _ (F : Ops) (cols rank : ℕ) (rows after : List (List ℕ)) (h : IsReducedTo F cols rank cols rows after) where
  pub is_reduced : (n : ℕ) → n ≡ cols → IsReduced n after
  is_reduced n e = subst (λ k. IsReduced k after) (sym e) (record { pivots = h.pivots; reduced = h.reduced })

  -- rows times rank is at most rows times columns
  pub few_additions : (m n old now : ℕ) → length rows ≤ m → cols ≡ n → now ≤ old + length rows * rank → now ≤ old + m * n
  few_additions m n old now e f cost =
      let few : length h.pivots ≤ cols = few_pivots cols after h.pivots h.reduced in
      let is : length h.pivots ≡ rank = h.rank_is in
      let low : rank ≤ n = omega arith in
      let product : length rows * rank ≤ m * n = mul-le-mul e low in
      omega arith

  -- the rank of a copy of the reduced rows that are not zero
  pub has_rank : IsField F → (levels : List Level) (degree r : ℕ) (source : List (List ℕ)) → cols ≡ criticals (kinds_at levels (degree + 1)) → rows ≡ source → r ≡ rank
      → AreFilledAt F levels degree source → HasRank F levels degree r
  has_rank L levels degree r source e f k by =
      let n : ℕ = criticals (kinds_at levels (degree + 1)) in
      let nonzero : IsReducedTo F n rank n (nonzero_rows by.all) after =
      subst (λ (ws : List (List ℕ)). IsReducedTo F n rank n ws after) (f ∙ by.are) (subst (λ (m : ℕ). IsReducedTo F m rank m rows after) e h) in
      let all = same_rank F L n rank by.all after by.reduced.matrix nonzero in
      record {
        rows = by.all;
        reduced = by.reduced;
        echelon = all.0;
        is = subst (λ (s : ℕ). IsReducedTo F n s n by.all all.0) (sym k) all.1;
      }

-- the rows that are not zero are at most all rows
pub few_filled : (F : Ops) (levels : List Level) (degree : ℕ) (source : List (List ℕ)) → AreFilledAt F levels degree source → length source ≤ criticals (kinds_at levels degree)
few_filled F levels degree source by =
    let few : length (nonzero_rows by.all) ≤ length by.all = nonzero_few by.all in
    omega (arith, few, by.reduced.long, ap (λ (rows : List (List ℕ)). length rows) by.are)

-- the critical cells are at most the cells
pub few_entries : (ts us vs ws : List Kind) → criticals ts * criticals us + criticals us * criticals vs + criticals vs * criticals ws ≤ length ts * length us + length us * length vs + length vs * length ws
few_entries ts us vs ws =
    let a : criticals ts * criticals us ≤ length ts * length us = mul-le-mul (criticals_few ts) (criticals_few us) in
    let b : criticals us * criticals vs ≤ length us * length vs = mul-le-mul (criticals_few us) (criticals_few vs) in
    let c : criticals vs * criticals ws ≤ length vs * length ws = mul-le-mul (criticals_few vs) (criticals_few ws) in
    omega (arith, a, b, c)
