-- Bounds on row additions, and what an echelon form is to `rank`.
use Rattle.std.proofs.Common.{◌≡◌, ℕ, ◌+◌, ◌*◌, ◌≤◌, List, length, ap, subst, sym, arith}
use Rattle.std.proofs.Math.Nat.{mul-le-mul}
use Rattle.small_field.specs.Field.{Ops}
use Rattle.linear_laws.specs.Echelon.{IsReduced}
use Rattle.linear_laws.specs.ZeroRows.{nonzero_rows}
use Rattle.linear_laws.proofs.CallerLemmas.{nonzero_few}
use Rattle.field_matrix.specs.declared.history.Elimination.{Elimination}
use Rattle.split_laws.specs.Kinds.{criticals}
use Rattle.critical_complex.specs.Levels.{Level, kinds_at, AreFilledAt}
use Rattle.cohomology.specs.Echelons.{IsEchelon}

-- the rows that are not zero are at most all rows
pub few_filled : (F : Ops) (levels : List Level) (degree : ℕ) (source : List (List ℕ)) → AreFilledAt F levels degree source → length source ≤ criticals (kinds_at levels degree)
few_filled F levels degree source by =
    let few : length (nonzero_rows by.all) ≤ length by.all = nonzero_few by.all in
    omega (arith, few, by.reduced.long, ap (λ (rows : List (List ℕ)). length rows) by.are)

pub few_additions : (F : Ops) (levels : List Level) (degree : ℕ) (source : List (List ℕ)) (cols old now : ℕ) → AreFilledAt F levels degree source → cols ≡ criticals (kinds_at levels (degree + 1)) → now ≤ old + length source * cols
    → now ≤ old + criticals (kinds_at levels degree) * criticals (kinds_at levels (degree + 1))
few_additions F levels degree source cols old now by e cost =
    let few : length source ≤ criticals (kinds_at levels degree) = few_filled F levels degree source by in
    let narrow : cols ≤ criticals (kinds_at levels (degree + 1)) = omega (arith, e) in
    let product : length source * cols ≤ criticals (kinds_at levels degree) * criticals (kinds_at levels (degree + 1)) = mul-le-mul few narrow in
    omega arith

pub is_reduced : {G : Type 0} (F : Ops) (levels : List Level) (degree : ℕ) (e : Elimination G) → IsEchelon F levels degree e → IsReduced e.reduced.cols e.reduced.rows
is_reduced F levels degree e h = subst (λ n. IsReduced n e.reduced.rows) (sym h.cols) (record { pivots = h.form.pivots; reduced = h.form.reduced })
