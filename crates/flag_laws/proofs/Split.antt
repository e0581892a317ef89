-- The chains of a space with a field of pairs as a complex with a split, with a degree without cells before it.
use Rattle.std.proofs.Common.{◌≡◌, inl, inr, ℕ, zero, suc, ◌+◌, ◌≤◌, List, [], Bool, true, false, length, map, replicate, refl, ap, sym, ◌∙◌, subst, arith}
use Rattle.std.specs.List.{AllByRecursion}
use Rattle.std.proofs.lemmas.List.FromFn.{length-map-range_with_len, get_or-map-range_with_len}
use Rattle.small_field.specs.Field.{Ops, IsField}
use Rattle.linear_laws.specs.Vectors.{combination}
use Rattle.number_lists.specs.Words.{upto}
use Rattle.number_lists.specs.Members.{In}
use Rattle.face_poset.specs.Poset.{count}
use Rattle.face_poset.specs.declared.cells.Pair.{Pair}
use Rattle.order_complex.specs.Chains.{chains_of}
use Rattle.order_complex.specs.Complex.{complex_of, negative_in}
use Rattle.order_complex.specs.Ranks.{rows_of}
use Rattle.order_complex.proofs.CallerLemmas.{chains_of-four, count-chains, composition_is_zero}
use Rattle.vector_field.specs.Pairs.{pair, Field, is_used, IsFieldOf}
use Rattle.vector_field.proofs.CallerLemmas.{used-some}
use Rattle.split_laws.specs.declared.kind.Kind.{Kind}
use Rattle.split_laws.specs.declared.kind.Kind.TheVariants.{Critical, Lower, Upper}
use Rattle.split_laws.specs.Split.{IsSplit}
use Rattle.split_laws.specs.Complex.{before, IsSplitComplex}
use Rattle.split_laws.proofs.CallerLemmas.{split_of_field}
use Rattle.pair_stages.specs.Signed.{signed_rows, matches_of, AreKinds, IsKind}
use Rattle.pair_stages.proofs.CallerLemmas.{matching, first_kinds, empty_split, first_split, combinations_of_nothing}
use Rattle.flag_laws.proofs.SignedRows.{signed-rows_of}

-- ---- kinds

pub kind-by : (pairs : List Pair) (d n : ℕ) (b : Bool) → is_used pairs d n ≡ b → (k : Kind) × IsKind pairs d n k
kind-by pairs d n false e = (Critical, e)
kind-by pairs d n true e =
    let s = used-some pairs d n e in
    elim s.2 [
      | inl u ↦ (Lower, (s.0.upper, subst (λ (p : Pair). In p pairs) (ap (λ (k : ℕ). pair k s.0.lower s.0.upper) u.0 ∙ ap (λ (k : ℕ). pair d k s.0.upper) u.1) s.1))
      | inr u ↦ (Upper, (s.0.dim, s.0.lower, sym u.0, subst (λ (p : Pair). In p pairs) (ap (λ (k : ℕ). pair s.0.dim s.0.lower k) u.1) s.1))
    ]

pub kind-of : (pairs : List Pair) (d n : ℕ) → (k : Kind) × IsKind pairs d n k
kind-of pairs d n = kind-by pairs d n (is_used pairs d n) refl

abbrev pub kinds_of : (pairs : List Pair) (d n : ℕ) → List Kind
kinds_of pairs d n = map (λ c. (kind-of pairs d c).0) (upto n)

are-kinds : (pairs : List Pair) (d n : ℕ) → AreKinds pairs d n (kinds_of pairs d n)
are-kinds pairs d n = record {
  long = length-map-range_with_len (λ c. (kind-of pairs d c).0) 1 n;
  each = λ i l. (
      let one : 1 + i ≡ i + 1 = omega arith in
      subst (IsKind pairs d (i + 1)) (sym (get_or-map-range_with_len (λ c. (kind-of pairs d c).0) 1 n i (i + 1) Critical l one)) (kind-of pairs d (i + 1)).1);
}

module _ (F : Ops) (L : IsField F) (space : List (List (List ℕ))) (field : Field) (is : IsFieldOf (complex_of space) field) where
  -- ---- by degree: the chains, their rows and their kinds, and none from degree 4 on

  abbrev pub size_at : ℕ → ℕ
  size_at zero = length (chains_of space 0)
  size_at (suc zero) = length (chains_of space 1)
  size_at (suc (suc zero)) = length (chains_of space 2)
  size_at (suc (suc (suc zero))) = length (chains_of space 3)
  size_at (suc (suc (suc (suc d)))) = 0

  abbrev pub rows_at : ℕ → List (List ℕ)
  rows_at zero = rows_of F space 0
  rows_at (suc zero) = rows_of F space 1
  rows_at (suc (suc zero)) = rows_of F space 2
  rows_at (suc (suc (suc zero))) = rows_of F space 3
  rows_at (suc (suc (suc (suc d)))) = []

  abbrev pub kinds_at : ℕ → List Kind
  kinds_at d = kinds_of field.pairs d (size_at d)

  none-above : length (chains_of space 4) ≡ 0
  none-above = ap (λ (cs : List (List ℕ)). length cs) (chains_of-four space)

  pub sizes : (d : ℕ) → d ≤ 4 → size_at d ≡ length (chains_of space d)
  sizes zero small = refl
  sizes (suc zero) small = refl
  sizes (suc (suc zero)) small = refl
  sizes (suc (suc (suc zero))) small = refl
  sizes (suc (suc (suc (suc zero)))) small = sym none-above
  sizes (suc (suc (suc (suc (suc d))))) small = absurd (omega (arith, small))

  pub rows-are : (d : ℕ) → d ≤ 3 → rows_at d ≡ rows_of F space d
  rows-are zero small = refl
  rows-are (suc zero) small = refl
  rows-are (suc (suc zero)) small = refl
  rows-are (suc (suc (suc zero))) small = refl
  rows-are (suc (suc (suc (suc d)))) small = absurd (omega (arith, small))

  pub kinds-are : (d : ℕ) → d ≤ 4 → AreKinds field.pairs d (length (chains_of space d)) (kinds_at d)
  kinds-are d small = subst (λ (n : ℕ). AreKinds field.pairs d n (kinds_at d)) (sizes d small) (are-kinds field.pairs d (size_at d))

  -- ---- each two degrees

  counts : (d : ℕ) → d ≤ 4 → size_at d ≡ count (complex_of space) d
  counts zero small = sym (count-chains space 0 (omega arith))
  counts (suc zero) small = sym (count-chains space 1 (omega arith))
  counts (suc (suc zero)) small = sym (count-chains space 2 (omega arith))
  counts (suc (suc (suc zero))) small = sym (count-chains space 3 (omega arith))
  counts (suc (suc (suc (suc zero)))) small = refl
  counts (suc (suc (suc (suc (suc d))))) small = absurd (omega (arith, small))

  matched : (d : ℕ) → d ≤ 3 → IsSplit F (length (kinds_at d)) (length (kinds_at (suc d))) (rows_of F space d) (kinds_at d) (kinds_at (suc d))
  matched d small =
      let one : suc d ≡ d + 1 = omega arith in
      let now : AreKinds field.pairs d (count (complex_of space) d) (kinds_at d) = subst (λ (n : ℕ). AreKinds field.pairs d n (kinds_at d)) (counts d (omega (arith, small))) (are-kinds field.pairs d (size_at d)) in
      let above : AreKinds field.pairs (d + 1) (count (complex_of space) (d + 1)) (kinds_at (suc d)) =
      subst (λ (e : ℕ). AreKinds field.pairs e (count (complex_of space) e) (kinds_at (suc d))) one
      (subst (λ (n : ℕ). AreKinds field.pairs (suc d) n (kinds_at (suc d))) (counts (suc d) (omega (arith, small))) (are-kinds field.pairs (suc d) (size_at (suc d)))) in
      subst (λ (rs : List (List ℕ)). IsSplit F (length (kinds_at d)) (length (kinds_at (suc d))) rs (kinds_at d) (kinds_at (suc d))) (signed-rows_of F L space d small)
      (split_of_field F L (length (kinds_at d)) (length (kinds_at (suc d))) (signed_rows F (complex_of space) (negative_in space) d) (kinds_at d) (kinds_at (suc d)) (matches_of field.pairs d)
      (matching F L (complex_of space) (negative_in space) d field.pairs is.valid (kinds_at d) (kinds_at (suc d)) now above))

  long-kinds : (d : ℕ) → length (kinds_at d) ≡ size_at d
  long-kinds d = (are-kinds field.pairs d (size_at d)).long

  moved : (d : ℕ) → d ≤ 3 → IsSplit F (size_at d) (size_at (suc d)) (rows_of F space d) (kinds_at d) (kinds_at (suc d))
  moved d small =
      subst (λ (n : ℕ). IsSplit F n (size_at (suc d)) (rows_of F space d) (kinds_at d) (kinds_at (suc d))) (long-kinds d)
      (subst (λ (n : ℕ). IsSplit F (length (kinds_at d)) n (rows_of F space d) (kinds_at d) (kinds_at (suc d))) (long-kinds (suc d)) (matched d small))

  split-at : (d : ℕ) → IsSplit F (size_at d) (size_at (suc d)) (rows_at d) (kinds_at d) (kinds_at (suc d))
  split-at zero = moved 0 (omega arith)
  split-at (suc zero) = moved 1 (omega arith)
  split-at (suc (suc zero)) = moved 2 (omega arith)
  split-at (suc (suc (suc zero))) = moved 3 (omega arith)
  split-at (suc (suc (suc (suc d)))) = empty_split F L

  first : IsSplit F 0 (size_at 0) [] [] (kinds_at 0)
  first =
      subst (λ (n : ℕ). IsSplit F 0 n [] [] (kinds_at 0)) (long-kinds 0)
      (first_split F L (kinds_at 0) (first_kinds field.pairs (size_at 0) (kinds_at 0) (are-kinds field.pairs 0 (size_at 0))))

  -- ---- two steps

  abbrev TwoSteps : ℕ → Type 0
  TwoSteps d = AllByRecursion (λ r. combination F (size_at (suc (suc d))) r (rows_at (suc d)) ≡ replicate (size_at (suc (suc d))) 0) (rows_at d)

  two-steps : (d : ℕ) → TwoSteps d
  two-steps zero = composition_is_zero F L space 1
  two-steps (suc zero) = composition_is_zero F L space 2
  two-steps (suc (suc zero)) =
      subst (λ (n : ℕ). AllByRecursion (λ r. combination F n r (rows_of F space 3) ≡ replicate n 0) (rows_of F space 2)) none-above (composition_is_zero F L space 3)
  two-steps (suc (suc (suc zero))) = combinations_of_nothing F L 0 (rows_of F space 3)
  two-steps (suc (suc (suc (suc d)))) = tt

  pub is-complex : IsSplitComplex F (before 0 size_at) (before [] rows_at) (before [] kinds_at)
  is-complex = record { closed = closed; splits = splits; bottom = tt }
    where
      closed : (k : ℕ) → AllByRecursion (λ r. combination F (before 0 size_at (suc (suc k))) r (before [] rows_at (suc k)) ≡ replicate (before 0 size_at (suc (suc k))) 0) (before [] rows_at k)
      closed zero = tt
      closed (suc k) = two-steps k

      splits : (k : ℕ) → IsSplit F (before 0 size_at k) (before 0 size_at (suc k)) (before [] rows_at k) (before [] kinds_at k) (before [] kinds_at (suc k))
      splits zero = first
      splits (suc k) = split-at k
