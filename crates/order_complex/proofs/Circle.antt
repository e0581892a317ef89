-- The Betti numbers modulo 2 of the circle of two points and two edges, by their definition: 1, 1, 0 and 0.
use Rattle.std.proofs.Common.{◌≡◌, ◌≢◌, ℕ, zero, suc, ◌<◌, ◌≤◌, List, [], ◌∷◌, refl, arith}
use Rattle.small_field.specs.Field.{Ops, IsField}
use Rattle.small_field.specs.ModField.{mod_field}
use Rattle.small_field.specs.Prime.{mod_ops}
use Rattle.linear_laws.specs.Echelon.{IsReducedBelow, IsReducedTo}
use Rattle.linear_laws.specs.Vectors.{InSpan, IsMatrix, IsVector, entry}
use Rattle.linear_laws.proofs.CallerLemmas.{in_span_trans}
use Rattle.order_complex.specs.Homology.{IsBetti}
use Rattle.order_complex.specs.Ranks.{rows_of}
use Rattle.order_complex.proofs.Bases.{betti_by_ranks}

abbrev circle : List (List (List ℕ))
circle = ([] ∷ [] ∷ []) ∷ ((1 ∷ 2 ∷ []) ∷ (1 ∷ 2 ∷ []) ∷ []) ∷ [] ∷ [] ∷ []

abbrev F : Ops
F = mod_ops 2

field : IsField F
field = mod_field 2 (omega arith) refl

-- four bits
bits : (a b c d : ℕ) → a ≤ 1 → b ≤ 1 → c ≤ 1 → d ≤ 1 → IsVector F 4 (a ∷ b ∷ c ∷ d ∷ [])
bits a b c d ha hb hc hd = record { long = refl; elements = (omega arith, (omega arith, (omega arith, (omega arith, tt)))) }

-- the coboundaries of the marks of the two points and the two edges, on the chains (1,3), (1,4), (2,3), (2,4)
abbrev rows : List (List ℕ)
rows = (1 ∷ 1 ∷ 0 ∷ 0 ∷ []) ∷ (0 ∷ 0 ∷ 1 ∷ 1 ∷ []) ∷ (1 ∷ 0 ∷ 1 ∷ 0 ∷ []) ∷ (0 ∷ 1 ∷ 0 ∷ 1 ∷ []) ∷ []

rows-are : rows_of F circle 0 ≡ rows
rows-are = refl

abbrev reduced : List (List ℕ)
reduced = (1 ∷ 0 ∷ 0 ∷ 1 ∷ []) ∷ (0 ∷ 1 ∷ 0 ∷ 1 ∷ []) ∷ (0 ∷ 0 ∷ 1 ∷ 1 ∷ []) ∷ (0 ∷ 0 ∷ 0 ∷ 0 ∷ []) ∷ []

zero_fits : 0 ≤ 1
zero_fits = omega arith

one_fits : 1 ≤ 1
one_fits = omega arith

rows-matrix : IsMatrix F 4 rows
rows-matrix = (
  bits 1 1 0 0 one_fits one_fits zero_fits zero_fits,
  (bits 0 0 1 1 zero_fits zero_fits one_fits one_fits, (bits 1 0 1 0 one_fits zero_fits one_fits zero_fits, (bits 0 1 0 1 zero_fits one_fits zero_fits one_fits, tt))),
)

reduced-matrix : IsMatrix F 4 reduced
reduced-matrix = (
  bits 1 0 0 1 one_fits zero_fits zero_fits one_fits,
  (bits 0 1 0 1 zero_fits one_fits zero_fits one_fits, (bits 0 0 1 1 zero_fits zero_fits one_fits one_fits, (bits 0 0 0 0 zero_fits zero_fits zero_fits zero_fits, tt))),
)

by_three : (P : ℕ → Type 0) → P 0 → P 1 → P 2 → (i : ℕ) → i < 3 → P i
by_three P a b c zero l = a
by_three P a b c (suc zero) l = b
by_three P a b c (suc (suc zero)) l = c
by_three P a b c (suc (suc (suc i))) l = absurd (omega arith)

by_four : (P : ℕ → Type 0) → P 0 → P 1 → P 2 → P 3 → (i : ℕ) → i < 4 → P i
by_four P a b c d zero l = a
by_four P a b c d (suc zero) l = b
by_four P a b c d (suc (suc zero)) l = c
by_four P a b c d (suc (suc (suc zero))) l = d
by_four P a b c d (suc (suc (suc (suc i)))) l = absurd (omega arith)

abbrev pivots : List ℕ
pivots = 0 ∷ 1 ∷ 2 ∷ []

alone : (i j : ℕ) → i < 3 → j < 4 → j ≢ i → entry reduced j (entry (pivots ∷ []) 0 i) ≡ 0
alone i j l m =
    by_three (λ i. (j : ℕ) → j < 4 → j ≢ i → entry reduced j (entry (pivots ∷ []) 0 i) ≡ 0)
    (by_four (λ j. j ≢ 0 → entry reduced j 0 ≡ 0) (λ ne. absurd (ne refl)) (λ ne. refl) (λ ne. refl) (λ ne. refl))
    (by_four (λ j. j ≢ 1 → entry reduced j 1 ≡ 0) (λ ne. refl) (λ ne. absurd (ne refl)) (λ ne. refl) (λ ne. refl))
    (by_four (λ j. j ≢ 2 → entry reduced j 2 ≡ 0) (λ ne. refl) (λ ne. refl) (λ ne. absurd (ne refl)) (λ ne. refl)) i l j m

first : (i : ℕ) → i < 3 → (j : ℕ) → j < entry (pivots ∷ []) 0 i → entry reduced i j ≡ 0
first =
    by_three (λ i. (j : ℕ) → j < entry (pivots ∷ []) 0 i → entry reduced i j ≡ 0) (λ j l. absurd (let m : j < 0 = l in omega arith))
    (λ j l. before_one j l) (λ j l. before_two j l)
  where
    before_one : (j : ℕ) → j < 1 → entry reduced 1 j ≡ 0
    before_one zero l = refl
    before_one (suc j) l = absurd (omega arith)

    before_two : (j : ℕ) → j < 2 → entry reduced 2 j ≡ 0
    before_two zero l = refl
    before_two (suc zero) l = refl
    before_two (suc (suc j)) l = absurd (omega arith)

last : (i j : ℕ) → 3 ≤ i → i < 4 → j < 4 → entry reduced i j ≡ 0
last zero j l m n = absurd (omega arith)
last (suc zero) j l m n = absurd (omega arith)
last (suc (suc zero)) j l m n = absurd (omega arith)
last (suc (suc (suc zero))) j l m n = by_four (λ j. entry reduced 3 j ≡ 0) refl refl refl refl j n
last (suc (suc (suc (suc i)))) j l m n = absurd (omega arith)

rising : (i j : ℕ) → i < j → j < 3 → entry (pivots ∷ []) 0 i < entry (pivots ∷ []) 0 j
rising i zero l m = absurd (omega arith)
rising zero (suc zero) l m = omega arith
rising (suc i) (suc zero) l m = absurd (omega arith)
rising zero (suc (suc zero)) l m = omega arith
rising (suc zero) (suc (suc zero)) l m = omega arith
rising (suc (suc i)) (suc (suc zero)) l m = absurd (omega arith)
rising i (suc (suc (suc j))) l m = absurd (omega arith)

is-reduced : IsReducedBelow 4 reduced pivots
is-reduced = record {
  few = omega arith;
  within = by_three (λ i. entry (pivots ∷ []) 0 i < 4) (omega arith) (omega arith) (omega arith);
  rising = rising;
  one = by_three (λ i. entry reduced i (entry (pivots ∷ []) 0 i) ≡ 1) refl refl refl;
  alone = alone;
  first = λ i j l. first i l j;
  zero = last;
}

-- the rows by the reduced rows, and the other way round
there : (v : List ℕ) → InSpan F 4 rows v → InSpan F 4 reduced v
there v =
    in_span_trans F field 4 rows reduced v reduced-matrix (
      record { coefficients = 1 ∷ 1 ∷ 0 ∷ 0 ∷ []; vector = bits 1 1 0 0 one_fits one_fits zero_fits zero_fits; is = refl },
      (
        record { coefficients = 0 ∷ 0 ∷ 1 ∷ 0 ∷ []; vector = bits 0 0 1 0 zero_fits zero_fits one_fits zero_fits; is = refl },
        (
          record { coefficients = 1 ∷ 0 ∷ 1 ∷ 0 ∷ []; vector = bits 1 0 1 0 one_fits zero_fits one_fits zero_fits; is = refl },
          (record { coefficients = 0 ∷ 1 ∷ 0 ∷ 0 ∷ []; vector = bits 0 1 0 0 zero_fits one_fits zero_fits zero_fits; is = refl }, tt),
        ),
      ),
    )

back : (v : List ℕ) → InSpan F 4 reduced v → InSpan F 4 rows v
back v =
    in_span_trans F field 4 reduced rows v rows-matrix (
      record { coefficients = 1 ∷ 0 ∷ 0 ∷ 1 ∷ []; vector = bits 1 0 0 1 one_fits zero_fits zero_fits one_fits; is = refl },
      (
        record { coefficients = 0 ∷ 0 ∷ 0 ∷ 1 ∷ []; vector = bits 0 0 0 1 zero_fits zero_fits zero_fits one_fits; is = refl },
        (
          record { coefficients = 0 ∷ 1 ∷ 0 ∷ 0 ∷ []; vector = bits 0 1 0 0 zero_fits one_fits zero_fits zero_fits; is = refl },
          (record { coefficients = 0 ∷ 0 ∷ 0 ∷ 0 ∷ []; vector = bits 0 0 0 0 zero_fits zero_fits zero_fits zero_fits; is = refl }, tt),
        ),
      ),
    )

rank-three : IsReducedTo F 4 3 4 rows reduced
rank-three = record { matrix = reduced-matrix; long = refl; span = record { there = there; back = back }; pivots = pivots; rank_is = refl; reduced = is-reduced }

-- rows without a number
abbrev empty_rows : List (List ℕ)
empty_rows = [] ∷ [] ∷ [] ∷ [] ∷ []

nothing : IsVector F 0 []
nothing = record { long = refl; elements = tt }

rank-zero : IsReducedTo F 0 0 0 empty_rows empty_rows
rank-zero = record {
  matrix = (nothing, (nothing, (nothing, (nothing, tt))));
  long = refl;
  span = record { there = λ v h. h; back = λ v h. h };
  pivots = [];
  rank_is = refl;
  reduced = record {
    few = omega arith;
    within = λ i l. absurd (omega arith);
    rising = λ i j l m. absurd (omega arith);
    one = λ i l. absurd (omega arith);
    alone = λ i j l m n. absurd (omega arith);
    first = λ i j l m. absurd (omega arith);
    zero = λ i j l m n. absurd (omega arith);
  };
}

rank-none : (n : ℕ) → IsReducedTo F n 0 n [] []
rank-none n = record {
  matrix = tt;
  long = refl;
  span = record { there = λ v h. h; back = λ v h. h };
  pivots = [];
  rank_is = refl;
  reduced = record {
    few = omega arith;
    within = λ i l. absurd (omega arith);
    rising = λ i j l m. absurd (omega arith);
    one = λ i l. absurd (omega arith);
    alone = λ i j l m n. absurd (omega arith);
    first = λ i j l m. absurd (omega arith);
    zero = λ i j l m n. absurd (omega arith);
  };
}

betti-zero : IsBetti F circle 0 1
betti-zero = betti_by_ranks F field circle 0 1 0 3 [] reduced (rank-none 4) rank-three refl

betti-one : IsBetti F circle 1 1
betti-one = betti_by_ranks F field circle 1 1 3 0 reduced empty_rows rank-three rank-zero refl

betti-two : IsBetti F circle 2 0
betti-two = betti_by_ranks F field circle 2 0 0 0 empty_rows [] rank-zero (rank-none 0) refl

betti-three : IsBetti F circle 3 0
betti-three = betti_by_ranks F field circle 3 0 0 0 [] [] (rank-none 0) (rank-none 0) refl
