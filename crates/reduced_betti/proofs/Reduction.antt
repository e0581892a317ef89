-- The ranks of the reduced rows of the chains with a field of pairs.
use Rattle.std.proofs.Common.{◌≡◌, ℕ, zero, suc, ◌+◌, ◌*◌, ◌<◌, ◌≤◌, List, [], ◌∷◌, length, replicate, refl, ap, sym, ◌∙◌, subst, arith}
use Rattle.std.specs.List.{AllByRecursion}
use Rattle.std.proofs.lemmas.List.{length-replicate, get_or-replicate}
use Rattle.face_poset.specs.Poset.{Layers}
use Rattle.small_field.specs.Field.{Ops, IsField}
use Rattle.face_poset.specs.declared.cells.Pair.{Pair}
use Rattle.linear_laws.specs.Vectors.{combination, entry, IsMatrix}
use Rattle.linear_laws.specs.Echelon.{IsReducedTo}
use Rattle.linear_laws.specs.Betti.{IsCohomologyBasis}
use Rattle.linear_laws.specs.Laws.{BasisByRanks}
use Rattle.order_complex.specs.Chains.{chains_of}
use Rattle.order_complex.specs.Complex.{complex_of, negative_in}
use Rattle.order_complex.specs.Homology.{IsBetti}
use Rattle.order_complex.specs.Ranks.{rows_of, rows_into}
use Rattle.order_complex.proofs.CallerLemmas.{chains_of-four, basis_of, count-chains}
use Rattle.split_laws.specs.declared.kind.Kind.{Kind}
use Rattle.split_laws.specs.Kinds.{criticals}
use Rattle.split_laws.specs.Solutions.{IsReducedBy}
use Rattle.split_laws.specs.Complex.{before, AreReduced}
use Rattle.split_laws.specs.Laws.{ReducedIsClosed, BettiByReducedRanks}
use Rattle.critical_complex.specs.Levels.{Level, kinds_at, cells_at, rows_at}
use Rattle.critical_complex.specs.Complex.{IsReducedComplex, IsReductionOf}
use Rattle.order_complex.specs.declared.betti.Betti.{Betti}
use Rattle.order_complex.specs.Numbers.{AreBetti, coboundary_entries}
use Rattle.reduced_betti.specs.Ranks.{AreRanks, critical_entries}
use Rattle.reduced_betti.proofs.Bounds.{few_entries}
use Rattle.reduced_betti.specs.declared.ranks.Ranks.{Ranks}
use Rattle.reduced_betti.proofs.SignedRows.{signed-rows_of}

within : (old now a b c : ℕ) → now ≤ old + a → a ≤ b → b ≡ c → now ≤ old + c
within old now a b c l w e = omega (arith, l, w, e)

module _ (F : Ops) (L : IsField F) where
  -- rows that are zero have rank 0
  no_pivots : (n : ℕ) (rows : List (List ℕ)) → IsMatrix F n rows → ((i j : ℕ) → i < length rows → j < n → entry rows i j ≡ 0) → IsReducedTo F n 0 n rows rows
  no_pivots n rows m z = record {
    matrix = m;
    long = refl;
    span = record { there = λ v h. h; back = λ v h. h };
    pivots = [];
    rank_is = refl;
    reduced = record {
      few = omega arith;
      within = λ i h. absurd (omega arith);
      rising = λ i j h k. absurd (omega arith);
      one = λ i h. absurd (omega arith);
      alone = λ i j h k ne. absurd (omega arith);
      first = λ i j h k. absurd (omega arith);
      zero = λ i j h k l. z i j k l;
    };
  }

  nil_rows : (n : ℕ) → IsMatrix F 0 (replicate n [])
  nil_rows zero = tt
  nil_rows (suc n) = (record { long = refl; elements = tt }, nil_rows n)

  -- reduced rows without columns, and no reduced rows
  last_reduced : (n m : ℕ) (rows : List (List ℕ)) (ts us : List Kind) → us ≡ [] → IsReducedBy F n m rows ts us (replicate (criticals ts) [])
  last_reduced n m rows ts us e =
      subst (λ (vs : List Kind). IsReducedBy F n m rows ts vs (replicate (criticals ts) [])) (sym e)
      (record { matrix = nil_rows (criticals ts); long = length-replicate (criticals ts) []; each = λ i x l h. get_or-replicate (criticals ts) i [] [] l })

  none_reduced : (n m : ℕ) (rows : List (List ℕ)) (ts us : List Kind) → ts ≡ [] → IsReducedBy F n m rows ts us []
  none_reduced n m rows ts us e =
      subst (λ (vs : List Kind). IsReducedBy F n m rows vs us []) (sym e)
      (record { matrix = tt; long = refl; each = λ i x l h. absurd (omega (arith, l)) })

module _ (F : Ops) (L : IsField F) (space : Layers) {pairs : List Pair} {levels : List Level} (h : IsReductionOf F (complex_of space) (negative_in space) pairs levels) where
  cells_are : (degree : ℕ) → degree ≤ 4 → cells_at levels degree ≡ length (chains_of space degree)
  cells_are zero l = (h.each 0 (omega arith)).kinds.long ∙ count-chains space 0 (omega arith)
  cells_are (suc zero) l = (h.each 1 (omega arith)).kinds.long ∙ count-chains space 1 (omega arith)
  cells_are (suc (suc zero)) l = (h.each 2 (omega arith)).kinds.long ∙ count-chains space 2 (omega arith)
  cells_are (suc (suc (suc zero))) l = (h.each 3 (omega arith)).kinds.long ∙ count-chains space 3 (omega arith)
  cells_are (suc (suc (suc (suc zero)))) l = (h.each 4 (omega arith)).kinds.long ∙ ap (λ (cs : List (List ℕ)). length cs) (sym (chains_of-four space))
  cells_are (suc (suc (suc (suc (suc degree))))) l = absurd (omega (arith, l))

  -- the reduced coboundaries have at most the entries of the coboundaries of all chains
  pub steps-within : (old now : ℕ) → now ≤ old + critical_entries levels → now ≤ old + coboundary_entries space
  steps-within old now l =
      let w = few_entries (kinds_at levels 0) (kinds_at levels 1) (kinds_at levels 2) (kinds_at levels 3) in
      let e : cells_at levels 0 * cells_at levels 1 + cells_at levels 1 * cells_at levels 2 + cells_at levels 2 * cells_at levels 3 ≡ coboundary_entries space =
      ap (λ n. n * cells_at levels 1 + cells_at levels 1 * cells_at levels 2 + cells_at levels 2 * cells_at levels 3) (cells_are 0 (omega arith))
      ∙ ap (λ n. length (chains_of space 0) * n + n * cells_at levels 2 + cells_at levels 2 * cells_at levels 3) (cells_are 1 (omega arith))
      ∙ ap (λ n. length (chains_of space 0) * length (chains_of space 1) + length (chains_of space 1) * n + n * cells_at levels 3) (cells_are 2 (omega arith))
      ∙ ap (λ n. length (chains_of space 0) * length (chains_of space 1) + length (chains_of space 1) * length (chains_of space 2) + length (chains_of space 2) * n) (cells_are 3 (omega arith)) in
      within old now (critical_entries levels) (cells_at levels 0 * cells_at levels 1 + cells_at levels 1 * cells_at levels 2 + cells_at levels 2 * cells_at levels 3) (coboundary_entries space) l w e

  rows_are : (degree : ℕ) → degree ≤ 3 → rows_at levels degree ≡ rows_of F space degree
  rows_are degree l = (h.each degree (omega arith)).rows ∙ signed-rows_of F L space degree l

  -- ---- the complex, with a degree without cells before it

  abbrev cells : ℕ → ℕ
  cells = before 0 (cells_at levels)

  abbrev rows : ℕ → List (List ℕ)
  rows = before [] (rows_at levels)

  abbrev kinds : ℕ → List Kind
  kinds = before [] (kinds_at levels)

  module _ (R : IsReducedComplex F levels) where
    -- ---- its reduced rows

    module _ {ranks : Ranks} (r : AreRanks F levels ranks) where
      abbrev reduced : ℕ → List (List ℕ)
      reduced zero = []
      reduced (suc zero) = r.first.rows
      reduced (suc (suc zero)) = r.second.rows
      reduced (suc (suc (suc zero))) = r.third.rows
      reduced (suc (suc (suc (suc zero)))) = replicate (criticals (kinds_at levels 3)) []
      reduced (suc (suc (suc (suc (suc k))))) = []

      are_reduced : AreReduced F cells rows kinds reduced
      are_reduced zero = none_reduced F L 0 (cells_at levels 0) [] [] (kinds_at levels 0) refl
      are_reduced (suc zero) = r.first.reduced
      are_reduced (suc (suc zero)) = r.second.reduced
      are_reduced (suc (suc (suc zero))) = r.third.reduced
      are_reduced (suc (suc (suc (suc zero)))) = last_reduced F L (cells_at levels 3) (cells_at levels 4) (rows_at levels 3) (kinds_at levels 3) (kinds_at levels 4) (R.none 4 (omega arith))
      are_reduced (suc (suc (suc (suc (suc k))))) =
          let d : ℕ = suc (suc (suc (suc k))) in
          none_reduced F L (cells_at levels d) (cells_at levels (suc d)) (rows_at levels d) (kinds_at levels d) (kinds_at levels (suc d)) (R.none d (omega arith))

      -- the rank into a degree
      abbrev pub rank_at : ℕ → ℕ
      rank_at zero = 0
      rank_at (suc zero) = ranks.first
      rank_at (suc (suc zero)) = ranks.second
      rank_at (suc (suc (suc zero))) = ranks.third
      rank_at (suc (suc (suc (suc degree)))) = 0

      abbrev IsInto : (degree : ℕ) → Type 0
      IsInto degree = (echelon : List (List ℕ)) × IsReducedTo F (criticals (kinds (suc degree))) (rank_at degree) (criticals (kinds (suc degree))) (reduced degree) echelon

      into : (degree : ℕ) → degree ≤ 4 → IsInto degree
      into zero l = ([], no_pivots F L (criticals (kinds_at levels 0)) [] tt (λ i j l m. absurd (omega (arith, l))))
      into (suc zero) l = (r.first.echelon, r.first.is)
      into (suc (suc zero)) l = (r.second.echelon, r.second.is)
      into (suc (suc (suc zero))) l = (r.third.echelon, r.third.is)
      into (suc (suc (suc (suc zero)))) l =
          let nils : List (List ℕ) = replicate (criticals (kinds_at levels 3)) [] in
          (nils, subst (λ (us : List Kind). IsReducedTo F (criticals us) 0 (criticals us) nils nils) (sym (R.none 4 (omega arith))) (no_pivots F L 0 nils (nil_rows F L (criticals (kinds_at levels 3))) (λ i j l m. absurd (omega (arith, m)))))
      into (suc (suc (suc (suc (suc degree))))) l = absurd (omega (arith, l))

      -- the ranks into and out of a degree are together at most the number of critical cells
      pub ranks-fit : BasisByRanks F → ReducedIsClosed F → (degree count : ℕ) → degree ≤ 3 → count ≡ criticals (kinds_at levels degree) → rank_at degree + rank_at (suc degree) ≤ count
      ranks-fit law still degree count small e =
          let n : ℕ = criticals (kinds (suc degree)) in
          let m : ℕ = criticals (kinds (suc (suc degree))) in
          let one = are_reduced degree in
          let two = are_reduced (suc degree) in
          let p = into degree (omega (arith, small)) in
          let q = into (suc degree) (omega (arith, small)) in
          let basis = law n m (rank_at degree) (rank_at (suc degree)) (reduced degree) (reduced (suc degree)) p.0 q.0 one.matrix two.matrix two.long (still cells rows kinds reduced R.complex are_reduced degree) p.1 q.1 in
          omega (arith, basis.count, two.long, e)

      into_rows : (degree : ℕ) → degree ≤ 3 → rows degree ≡ rows_into F space degree
      into_rows zero l = refl
      into_rows (suc degree) l = rows_are degree (omega arith)

      -- the Betti numbers are what they leave
      betti-left : BettiByReducedRanks F → (degree betti : ℕ) → degree ≤ 3 → betti + rank_at degree + rank_at (suc degree) ≡ criticals (kinds_at levels degree) → IsBetti F space degree betti
      betti-left law degree betti small left =
          let p = into degree (omega (arith, small)) in
          let q = into (suc degree) (omega (arith, small)) in
          let found = law cells rows kinds reduced R.complex are_reduced degree betti (rank_at degree) (rank_at (suc degree)) p.0 q.0 p.1 q.1 left in
          let is : IsCohomologyBasis F (cells_at levels (suc degree)) (rows degree) (rows_at levels degree) found.0 = found.1 in (
            found.0,
            basis_of F L space degree found.0
                (subst (λ (n : ℕ). IsCohomologyBasis F n (rows_into F space degree) (rows_of F space degree) found.0) (cells_are (suc degree) (omega arith))
                (subst (λ (ns : List (List ℕ)). IsCohomologyBasis F (cells_at levels (suc degree)) (rows_into F space degree) ns found.0) (rows_are degree small)
                (subst (λ (ls : List (List ℕ)). IsCohomologyBasis F (cells_at levels (suc degree)) ls (rows_at levels degree) found.0) (into_rows degree small) is))),
            found.2,
          )

      pub are_betti : BettiByReducedRanks F → (numbers : Betti) → numbers.zero + rank_at 0 + rank_at 1 ≡ criticals (kinds_at levels 0) → numbers.one + rank_at 1 + rank_at 2 ≡ criticals (kinds_at levels 1)
          → numbers.two + rank_at 2 + rank_at 3 ≡ criticals (kinds_at levels 2) → numbers.three + rank_at 3 + rank_at 4 ≡ criticals (kinds_at levels 3) → AreBetti F space numbers
      are_betti law numbers a b c d = record {
        zero = betti-left law 0 numbers.zero (omega arith) a;
        one = betti-left law 1 numbers.one (omega arith) b;
        two = betti-left law 2 numbers.two (omega arith) c;
        three = betti-left law 3 numbers.three (omega arith) d;
      }
