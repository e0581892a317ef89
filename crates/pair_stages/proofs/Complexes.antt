-- The degrees of a signed set with a field of pairs as a complex with a split, with a degree without cells before it.
use Rattle.std.proofs.Common.{◌≡◌, ℕ, zero, suc, ◌+◌, ◌<◌, ◌≤◌, List, [], ◌∷◌, Bool, length, map, replicate, refl, ap, sym, ◌∙◌, subst, arith}
use Rattle.std.specs.List.{AllByRecursion}
use Rattle.std.proofs.lemmas.List.{length-replicate, get_or_past, nil_from_length}
use Rattle.small_field.specs.Field.{Ops, IsField}
use Rattle.linear_laws.specs.Vectors.{combination, IsMatrix}
use Rattle.linear_laws.proofs.CallerLemmas.{zeros-elements}
use Rattle.face_poset.specs.declared.cells.Pair.{Pair}
use Rattle.face_poset.specs.Words.{upto}
use Rattle.face_poset.specs.Poset.{Layers, count, IsSpace}
use Rattle.face_poset.specs.Signs.{SignsCancel}
use Rattle.split_laws.specs.declared.kind.Kind.{Kind}
use Rattle.split_laws.specs.declared.kind.Kind.TheVariants.{Critical, Lower, Upper}
use Rattle.split_laws.specs.Kinds.{HasNoUpper, AgreeOnUppers, ZeroOffUppers}
use Rattle.split_laws.specs.Split.{IsSplit}
use Rattle.split_laws.specs.Complex.{before, IsSplitComplex}
use Rattle.split_laws.proofs.CallerLemmas.{split_of_field}
use Rattle.pair_stages.specs.Stages.{Stage, IsPaired, empty_stage}
use Rattle.pair_stages.specs.Signed.{signed_entry, signed_rows}
use Rattle.pair_stages.specs.Splits.{stage_at, kinds_at, cells_at, rows_at, IsReductionOf, IsSplitting, IsStagesComplex}
use Rattle.pair_stages.proofs.Closed.{closed_at}

-- ---- kinds

agree_without : (us : List Kind) (xs ys : List ℕ) → HasNoUpper us → length xs ≡ length us → length ys ≡ length us → AgreeOnUppers us xs ys
agree_without [] xs ys h a b = tt
agree_without (u ∷ us) [] ys h a b = absurd (omega (arith, a))
agree_without (u ∷ us) (x ∷ xs) [] h a b = absurd (omega (arith, b))
agree_without (Critical ∷ us) (x ∷ xs) (y ∷ ys) h a b = agree_without us xs ys h (omega (arith, a)) (omega (arith, b))
agree_without (Lower ∷ us) (x ∷ xs) (y ∷ ys) h a b = agree_without us xs ys h (omega (arith, a)) (omega (arith, b))
agree_without (Upper ∷ us) (x ∷ xs) (y ∷ ys) h a b = absurd h

zero_off : (us : List Kind) → ZeroOffUppers us (replicate (length us) 0)
zero_off [] = refl
zero_off (Critical ∷ us) = (refl, zero_off us)
zero_off (Lower ∷ us) = (refl, zero_off us)
zero_off (Upper ∷ us) = zero_off us

module _ (F : Ops) (L : IsField F) where
  pub combinations_of_nothing : (n : ℕ) (rs : List (List ℕ)) → AllByRecursion (λ r. combination F n r [] ≡ replicate n 0) rs
  combinations_of_nothing n [] = tt
  combinations_of_nothing n ([] ∷ rs) = (refl, combinations_of_nothing n rs)
  combinations_of_nothing n ((c ∷ cs) ∷ rs) = (refl, combinations_of_nothing n rs)

  pub empty_split : IsSplit F 0 0 [] [] []
  empty_split = record {
    matrix = tt;
    long = refl;
    below = refl;
    above = refl;
    settles = λ t v. ([], record { long = refl; elements = tt }, refl, tt);
    carries = λ t v. ([], record { long = refl; elements = tt }, refl, tt);
  }

  pub first_split : (us : List Kind) → HasNoUpper us → IsSplit F 0 (length us) [] [] us
  first_split us h = record {
    matrix = tt;
    long = refl;
    below = refl;
    above = refl;
    settles = λ t v. ([], record { long = refl; elements = tt }, refl, agree_without us (replicate (length us) 0) t h (length-replicate (length us) 0) v.long);
    carries = λ t v. (replicate (length us) 0, record { long = length-replicate (length us) 0; elements = zeros-elements F L (length us) }, zero_off us, tt);
  }

  module _ (space : Layers) (negative : ℕ → ℕ → ℕ → Bool) (V : IsSpace space) (C : SignsCancel space negative) (pairs : List Pair) (stages : List Stage) (h : IsReductionOf F space negative pairs stages) (s : IsSplitting F stages) where
    -- no cells from degree 4 on
    none_four : count space 4 ≡ 0
    none_four = ap (λ (l : List (List ℕ)). length l) (get_or_past space 4 [] (let l : length space ≡ 4 = V.layers in omega (arith, l)))

    no_kinds : (degree : ℕ) → 4 ≤ degree → kinds_at stages degree ≡ []
    no_kinds degree l = by degree l
      where
        by : (k : ℕ) → 4 ≤ k → kinds_at stages k ≡ []
        by (suc (suc (suc (suc zero)))) l = nil_from_length (kinds_at stages 4) ((h.each 4 (omega arith)).kinds.long ∙ none_four)
        by (suc (suc (suc (suc (suc k))))) l = ap (λ (t : Stage). t.kinds) (get_or_past stages (suc (suc (suc (suc (suc k))))) empty_stage (let z : length stages ≡ 5 = h.long in omega (arith, z)))
        by _ l = absurd (omega (arith, l))

    no_rows : (degree : ℕ) → 4 ≤ degree → rows_at stages degree ≡ []
    no_rows degree l = by degree l
      where
        by : (k : ℕ) → 4 ≤ k → rows_at stages k ≡ []
        by (suc (suc (suc (suc zero)))) l = (h.each 4 (omega arith)).rows ∙ ap (λ (n : ℕ). map (λ lower. map (signed_entry F space negative 4 lower) (upto (count space 5))) (upto n)) none_four
        by (suc (suc (suc (suc (suc k))))) l = ap (λ (t : Stage). t.rows) (get_or_past stages (suc (suc (suc (suc (suc k))))) empty_stage (let z : length stages ≡ 5 = h.long in omega (arith, z)))
        by _ l = absurd (omega (arith, l))

    split_low : (k : ℕ) → k < 4 → IsSplit F (cells_at stages k) (cells_at stages (suc k)) (rows_at stages k) (kinds_at stages k) (kinds_at stages (suc k))
    split_low k lt = split_of_field F L (cells_at stages k) (cells_at stages (suc k)) (rows_at stages k) (kinds_at stages k) (kinds_at stages (suc k)) (stage_at stages k).pairs (s.paired k lt).matching

    split_at : (k : ℕ) → IsSplit F (cells_at stages k) (cells_at stages (suc k)) (rows_at stages k) (kinds_at stages k) (kinds_at stages (suc k))
    split_at zero = split_low 0 (omega arith)
    split_at (suc zero) = split_low 1 (omega arith)
    split_at (suc (suc zero)) = split_low 2 (omega arith)
    split_at (suc (suc (suc zero))) = split_low 3 (omega arith)
    split_at (suc (suc (suc (suc k)))) =
        let d : ℕ = suc (suc (suc (suc k))) in
        subst (λ (ts : List Kind). IsSplit F (length ts) (cells_at stages (suc d)) (rows_at stages d) ts (kinds_at stages (suc d))) (sym (no_kinds d (omega arith)))
        (subst (λ (us : List Kind). IsSplit F 0 (length us) (rows_at stages d) [] us) (sym (no_kinds (suc d) (omega arith)))
        (subst (λ (rs : List (List ℕ)). IsSplit F 0 0 rs [] []) (sym (no_rows d (omega arith))) empty_split))

    splits : (k : ℕ) → IsSplit F (before 0 (cells_at stages) k) (before 0 (cells_at stages) (suc k)) (before [] (rows_at stages) k) (before [] (kinds_at stages) k) (before [] (kinds_at stages) (suc k))
    splits zero = first_split (kinds_at stages 0) s.bottom
    splits (suc k) = split_at k

    abbrev IsClosedAt : ℕ → Type 0
    IsClosedAt k = AllByRecursion (λ r. combination F (cells_at stages (suc (suc k))) r (rows_at stages (suc k)) ≡ replicate (cells_at stages (suc (suc k))) 0) (rows_at stages k)

    closed_low : (k : ℕ) → k ≤ 2 → IsClosedAt k
    closed_low k l =
        let one : k + 1 ≡ suc k = omega arith in
        let two : k + 1 + 1 ≡ suc (suc k) = omega arith in
        subst (λ (rs : List (List ℕ)). AllByRecursion (λ r. combination F (cells_at stages (suc (suc k))) r (rows_at stages (suc k)) ≡ replicate (cells_at stages (suc (suc k))) 0) rs) (sym (h.each k (omega arith)).rows)
        (subst (λ (ns : List (List ℕ)). AllByRecursion (λ r. combination F (cells_at stages (suc (suc k))) r ns ≡ replicate (cells_at stages (suc (suc k))) 0) (signed_rows F space negative k)) (ap (signed_rows F space negative) one ∙ sym (h.each (suc k) (omega arith)).rows)
        (subst (λ (n : ℕ). AllByRecursion (λ r. combination F n r (signed_rows F space negative (k + 1)) ≡ replicate n 0) (signed_rows F space negative k)) (ap (count space) two ∙ sym (h.each (suc (suc k)) (omega arith)).kinds.long)
        (closed_at F L space negative V C k)))

    closed_high : (k : ℕ) → 3 ≤ k → IsClosedAt k
    closed_high k l =
        subst (λ (ns : List (List ℕ)). AllByRecursion (λ r. combination F (cells_at stages (suc (suc k))) r ns ≡ replicate (cells_at stages (suc (suc k))) 0) (rows_at stages k)) (sym (no_rows (suc k) (omega arith)))
        (combinations_of_nothing (cells_at stages (suc (suc k))) (rows_at stages k))

    closed : (k : ℕ) → AllByRecursion (λ r. combination F (before 0 (cells_at stages) (suc (suc k))) r (before [] (rows_at stages) (suc k)) ≡ replicate (before 0 (cells_at stages) (suc (suc k))) 0) (before [] (rows_at stages) k)
    closed zero = tt
    closed (suc zero) = closed_low 0 (omega arith)
    closed (suc (suc zero)) = closed_low 1 (omega arith)
    closed (suc (suc (suc zero))) = closed_low 2 (omega arith)
    closed (suc (suc (suc (suc k)))) = closed_high (suc (suc (suc k))) (omega arith)

    pub is_complex : IsStagesComplex F stages
    is_complex = record { complex = record { closed = closed; splits = splits; bottom = tt }; none = no_kinds }
