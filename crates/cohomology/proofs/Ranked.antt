-- The reduced rows of all degrees with their ranks, and the Betti numbers that these leave.
use Rattle.std.proofs.Common.{◌≡◌, ℕ, zero, suc, ◌+◌, ◌≤◌, List, [], replicate, refl, sym, subst, arith}
use Rattle.face_poset.specs.Poset.{Layers}
use Rattle.small_field.specs.Field.{Ops, IsField}
use Rattle.linear_laws.specs.Echelon.{IsReducedTo}
use Rattle.linear_laws.specs.ZeroRows.{nonzero_rows}
use Rattle.linear_laws.specs.Laws.{BasisByRanks}
use Rattle.linear_laws.proofs.CallerLemmas.{same_rank}
use Rattle.field_matrix.specs.declared.history.Elimination.{Elimination}
use Rattle.order_complex.specs.Homology.{IsBetti}
use Rattle.split_laws.specs.declared.kind.Kind.{Kind}
use Rattle.split_laws.specs.Kinds.{criticals}
use Rattle.split_laws.specs.Complex.{AreReduced}
use Rattle.split_laws.specs.Laws.{ReducedIsClosed, BettiByReducedRanks}
use Rattle.critical_complex.specs.Levels.{Level, kinds_at, cells_at, rows_at, IsReducedAt}
use Rattle.critical_complex.specs.Complex.{IsReducedComplex}
use Rattle.cohomology.specs.declared.echelons.Echelons.{Echelons}
use Rattle.cohomology.specs.Echelons.{AreEchelons, AreRowsOf, IsEchelon, number_at, rank_in}
use Rattle.cohomology.proofs.Complexes.{cells, rows, kinds, no_pivots, nil_rows, last_reduced, none_reduced, basis_on_chains}

-- the reduced rows of a degree have an echelon form with so many pivots
pub record HasRank (F : Ops) (levels : List Level) (degree rank : ℕ) : Type 0 where
  pub rows : List (List ℕ)
  pub reduced : IsReducedAt F levels degree rows
  pub echelon : List (List ℕ)
  pub is : IsReducedTo F (criticals (kinds_at levels (degree + 1))) rank (criticals (kinds_at levels (degree + 1))) rows echelon

module _ {G : Type 0} (F : Ops) (L : IsField F) (levels : List Level) where
  pub has_rank : (degree : ℕ) (e : Elimination G) → IsEchelon F levels degree e → HasRank F levels degree (rank_in e)
  has_rank degree e h =
      let n : ℕ = criticals (kinds_at levels (degree + 1)) in
      let nonzero : IsReducedTo F n (rank_in e) n (nonzero_rows h.filled.all) e.reduced.rows = subst (λ (ws : List (List ℕ)). IsReducedTo F n (rank_in e) n ws e.reduced.rows) h.filled.are h.form in
      let all = same_rank F L n (rank_in e) h.filled.all e.reduced.rows h.filled.reduced.matrix nonzero in
      record { rows = h.filled.all; reduced = h.filled.reduced; echelon = all.0; is = all.1 }

  module _ (R : IsReducedComplex F levels) (a b c : Elimination G) (first : IsEchelon F levels 0 a) (second : IsEchelon F levels 1 b) (third : IsEchelon F levels 2 c) where
    one : HasRank F levels 0 (rank_in a)
    one = has_rank 0 a first

    two : HasRank F levels 1 (rank_in b)
    two = has_rank 1 b second

    three : HasRank F levels 2 (rank_in c)
    three = has_rank 2 c third

    abbrev reduced : ℕ → List (List ℕ)
    reduced zero = []
    reduced (suc zero) = one.rows
    reduced (suc (suc zero)) = two.rows
    reduced (suc (suc (suc zero))) = three.rows
    reduced (suc (suc (suc (suc zero)))) = replicate (criticals (kinds_at levels 3)) []
    reduced (suc (suc (suc (suc (suc k))))) = []

    are_reduced : AreReduced F (cells levels) (rows levels) (kinds levels) reduced
    are_reduced zero = none_reduced F L 0 (cells_at levels 0) [] [] (kinds_at levels 0) refl
    are_reduced (suc zero) = one.reduced
    are_reduced (suc (suc zero)) = two.reduced
    are_reduced (suc (suc (suc zero))) = three.reduced
    are_reduced (suc (suc (suc (suc zero)))) = last_reduced F L (cells_at levels 3) (cells_at levels 4) (rows_at levels 3) (kinds_at levels 3) (kinds_at levels 4) (R.none 4 (omega arith))
    are_reduced (suc (suc (suc (suc (suc k))))) =
        let d : ℕ = suc (suc (suc (suc k))) in
        none_reduced F L (cells_at levels d) (cells_at levels (suc d)) (rows_at levels d) (kinds_at levels d) (kinds_at levels (suc d)) (R.none d (omega arith))

    -- the rank into a degree
    abbrev pub rank_into : ℕ → ℕ
    rank_into zero = 0
    rank_into (suc zero) = rank_in a
    rank_into (suc (suc zero)) = rank_in b
    rank_into (suc (suc (suc zero))) = rank_in c
    rank_into (suc (suc (suc (suc degree)))) = 0

    abbrev IsInto : (degree : ℕ) → Type 0
    IsInto degree = (echelon : List (List ℕ)) × IsReducedTo F (criticals (kinds levels (suc degree))) (rank_into degree) (criticals (kinds levels (suc degree))) (reduced degree) echelon

    into : (degree : ℕ) → degree ≤ 4 → IsInto degree
    into zero l = ([], no_pivots F L (criticals (kinds_at levels 0)) [] tt (λ i j l m. absurd (omega (arith, l))))
    into (suc zero) l = (one.echelon, one.is)
    into (suc (suc zero)) l = (two.echelon, two.is)
    into (suc (suc (suc zero))) l = (three.echelon, three.is)
    into (suc (suc (suc (suc zero)))) l =
        let nils : List (List ℕ) = replicate (criticals (kinds_at levels 3)) [] in
        (nils, subst (λ (us : List Kind). IsReducedTo F (criticals us) 0 (criticals us) nils nils) (sym (R.none 4 (omega arith))) (no_pivots F L 0 nils (nil_rows F L (criticals (kinds_at levels 3))) (λ i j l m. absurd (omega (arith, m)))))
    into (suc (suc (suc (suc (suc degree))))) l = absurd (omega (arith, l))

    -- the ranks into and out of a degree are together at most the number of critical cells
    pub ranks_fit : BasisByRanks F → ReducedIsClosed F → (degree count : ℕ) → degree ≤ 3 → count ≡ criticals (kinds_at levels degree) → rank_into degree + rank_into (suc degree) ≤ count
    ranks_fit law still degree count small e =
        let n : ℕ = criticals (kinds levels (suc degree)) in
        let m : ℕ = criticals (kinds levels (suc (suc degree))) in
        let here = are_reduced degree in
        let next = are_reduced (suc degree) in
        let p = into degree (omega (arith, small)) in
        let q = into (suc degree) (omega (arith, small)) in
        let basis = law n m (rank_into degree) (rank_into (suc degree)) (reduced degree) (reduced (suc degree)) p.0 q.0 here.matrix next.matrix next.long (still (cells levels) (rows levels) (kinds levels) reduced R.complex are_reduced degree) p.1 q.1 in
        omega (arith, basis.count, next.long, e)

    -- the Betti numbers are what they leave
    pub betti_left : BettiByReducedRanks F → (space : Layers) → AreRowsOf F levels space → (degree betti : ℕ) → degree ≤ 3 → betti + rank_into degree + rank_into (suc degree) ≡ criticals (kinds_at levels degree) → IsBetti F space degree betti
    betti_left law space rows_are degree betti small left =
        let p = into degree (omega (arith, small)) in
        let q = into (suc degree) (omega (arith, small)) in
        let found = law (cells levels) (rows levels) (kinds levels) reduced R.complex are_reduced degree betti (rank_into degree) (rank_into (suc degree)) p.0 q.0 p.1 q.1 left in
        (found.0, basis_on_chains F L space levels R rows_are degree small found.0 found.1, found.2)

pub betti_is : {G : Type 0} (F : Ops) (L : IsField F) → BettiByReducedRanks F → (levels : List Level) (space : Layers) (e : Echelons G) → AreEchelons F levels e → AreRowsOf F levels space → (degree : ℕ) → degree ≤ 3 → IsBetti F space degree (number_at e.numbers degree)
betti_is F L law levels space e h rows_are zero small = betti_left F L levels h.complex e.first e.second e.third h.first h.second h.third law space rows_are 0 e.numbers.zero small (omega (arith, h.zero))
betti_is F L law levels space e h rows_are (suc zero) small = betti_left F L levels h.complex e.first e.second e.third h.first h.second h.third law space rows_are 1 e.numbers.one small h.one
betti_is F L law levels space e h rows_are (suc (suc zero)) small = betti_left F L levels h.complex e.first e.second e.third h.first h.second h.third law space rows_are 2 e.numbers.two small h.two
betti_is F L law levels space e h rows_are (suc (suc (suc zero))) small = betti_left F L levels h.complex e.first e.second e.third h.first h.second h.third law space rows_are 3 e.numbers.three small (omega (arith, h.three))
betti_is F L law levels space e h rows_are (suc (suc (suc (suc degree)))) small = absurd (omega (arith, small))
