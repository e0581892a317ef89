-- The ranks of two coboundaries that follow one another, and what they leave.
use Rattle.std.proofs.Common.{◌≡◌, ℕ, zero, suc, ◌+◌, ◌≤◌, List, [], length, refl, sym, ◌∙◌, subst, arith}
use Rattle.face_poset.specs.Poset.{Layers}
use Rattle.small_field.specs.Field.{Ops, IsField}
use Rattle.linear_laws.specs.Vectors.{IsMatrix}
use Rattle.linear_laws.specs.Echelon.{IsReducedTo}
use Rattle.linear_laws.specs.Laws.{BasisByRanks}
use Rattle.order_complex.specs.Chains.{chains_of}
use Rattle.order_complex.specs.Homology.{IsBetti}
use Rattle.order_complex.specs.Laws.{BettiByRanks}
use Rattle.order_complex.specs.Ranks.{rows_on, rows_of, rows_into}
use Rattle.order_complex.proofs.CallerLemmas.{chains_of-four, rows_on-matrix, length-rows_of, composition_is_zero}
use Rattle.plain_betti.specs.Ranks.{IsRank}

module _ (F : Ops) (L : IsField F) (space : Layers) where
  -- no rows have rank 0, and rows without columns have too
  no_rows : (n : ℕ) → IsReducedTo F n 0 n [] []
  no_rows n = record {
    matrix = tt;
    long = refl;
    span = record { there = λ v h. h; back = λ v h. h };
    pivots = [];
    rank_is = refl;
    reduced = record {
      few = omega arith;
      within = λ i h. absurd (omega arith);
      rising = λ i j h k. absurd (omega arith);
      one = λ i h. absurd (omega arith);
      alone = λ i j h k ne. absurd (omega arith);
      first = λ i j h k. absurd (omega arith);
      zero = λ i j h k l. absurd (omega arith);
    };
  }

  no_columns : (rows : List (List ℕ)) → IsMatrix F 0 rows → IsReducedTo F 0 0 0 rows rows
  no_columns rows m = record {
    matrix = m;
    long = refl;
    span = record { there = λ v h. h; back = λ v h. h };
    pivots = [];
    rank_is = refl;
    reduced = record {
      few = omega arith;
      within = λ i h. absurd (omega arith);
      rising = λ i j h k. absurd (omega arith);
      one = λ i h. absurd (omega arith);
      alone = λ i j h k ne. absurd (omega arith);
      first = λ i j h k. absurd (omega arith);
      zero = λ i j h k l. absurd (omega arith);
    };
  }

  -- the rank of the coboundary into a degree, and out of it
  abbrev pub IsInto : (degree rank : ℕ) → Type 0
  IsInto degree rank = (reduced : List (List ℕ)) × IsReducedTo F (length (chains_of space degree)) rank (length (chains_of space degree)) (rows_into F space degree) reduced

  abbrev pub IsOutOf : (degree rank : ℕ) → Type 0
  IsOutOf degree rank = IsRank F (chains_of space degree) (chains_of space (suc degree)) rank

  pub into_zero : IsInto 0 0
  into_zero = ([], no_rows (length (chains_of space 0)))

  pub out_of_three : IsOutOf 3 0
  out_of_three =
      subst (λ next. IsRank F (chains_of space 3) next 0) (sym (chains_of-four space))
      (rows_on F (chains_of space 3) [], no_columns (rows_on F (chains_of space 3) []) (rows_on-matrix F L (chains_of space 3) []))

  into-matrix : (degree : ℕ) → IsMatrix F (length (chains_of space degree)) (rows_into F space degree)
  into-matrix zero = tt
  into-matrix (suc degree) = rows_on-matrix F L (chains_of space degree) (chains_of space (suc degree))

  -- both ranks together are at most the number of chains
  pub ranks-fit : BasisByRanks F → (degree r s chains : ℕ) → chains ≡ length (chains_of space degree) → IsInto degree r → IsOutOf degree s → r + s ≤ chains
  ranks-fit law degree r s chains e h k =
      let n : ℕ = length (chains_of space degree) in
      let m : ℕ = length (chains_of space (suc degree)) in
      let b = law n m r s (rows_into F space degree) (rows_of F space degree) h.0 k.0 (into-matrix degree) (rows_on-matrix F L (chains_of space degree) (chains_of space (suc degree))) (length-rows_of F L space degree) (composition_is_zero F L space degree) h.1 k.1 in
      omega (arith, b.count, length-rows_of F L space degree)

  -- the Betti number is what they leave
  pub betti-left : BettiByRanks F → (degree r s chains betti : ℕ) → chains ≡ length (chains_of space degree) → IsInto degree r → IsOutOf degree s → betti + r + s ≡ chains → IsBetti F space degree betti
  betti-left law degree r s chains betti e h k left = law space degree betti r s h.0 k.0 h.1 k.1 (left ∙ e)
