-- The cells in no pair, one after another.
use Rattle.std.proofs.Common.{◌≡◌, ℕ, zero, suc, map, subst, ◌<◌, ◌+◌, ◌≤◌, List, [], ◌∷◌, ◌++◌, Bool, true, false, cond, not, filter, length, get_or, refl, ap, sym, ◌∙◌, arith}
use Rattle.std.proofs.lemmas.List.{append-nil, get_or_past}
use Rattle.std.specs.List.Sorted.{IsStrictlyIncreasing}
use Rattle.std.proofs.lemmas.List.Elements.{filter-append}
use Rattle.std.proofs.lemmas.List.Kept.{IsStrictlyIncreasing-filter}
use Rattle.face_poset.specs.declared.cells.Pair.{Pair}
use Rattle.number_lists.specs.Words.{upto}
use Rattle.number_lists.proofs.CallerLemmas.{upto_more, increasing-upto}
use Rattle.vector_field.specs.Pairs.{is_used, unpaired, Field, critical_of}

unpaired_more : (pairs : List Pair) (dim i : ℕ) → unpaired pairs dim (i + 1) ≡ unpaired pairs dim i ++ cond (not (is_used pairs dim (i + 1))) ((i + 1) ∷ []) []
unpaired_more pairs dim i =
    ap (filter (λ cell. not (is_used pairs dim cell))) (upto_more i) ∙ filter-append (λ cell. not (is_used pairs dim cell)) (upto i) ((i + 1) ∷ [])

pub unpaired_taken : (pairs : List Pair) (dim i : ℕ) → is_used pairs dim (i + 1) ≡ true → unpaired pairs dim (i + 1) ≡ unpaired pairs dim i
unpaired_taken pairs dim i e = unpaired_more pairs dim i ∙ (ap (λ (b : Bool). unpaired pairs dim i ++ cond (not b) ((i + 1) ∷ []) []) e ∙ append-nil (unpaired pairs dim i))

pub unpaired_free : (pairs : List Pair) (dim i : ℕ) → is_used pairs dim (i + 1) ≡ false → unpaired pairs dim (i + 1) ≡ unpaired pairs dim i ++ (i + 1) ∷ []
unpaired_free pairs dim i e = unpaired_more pairs dim i ∙ ap (λ (b : Bool). unpaired pairs dim i ++ cond (not b) ((i + 1) ∷ []) []) e

pub critical_past : (field : Field) (dim : ℕ) → length field.counts ≤ dim → [] ≡ critical_of field dim
critical_past field dim l = ap (unpaired field.pairs dim) (sym (get_or_past field.counts dim 0 l))

pub critical-rise : (field : Field) (dim : ℕ) → IsStrictlyIncreasing (critical_of field dim)
critical-rise field dim = IsStrictlyIncreasing-filter (λ cell. not (is_used field.pairs dim cell)) (upto (get_or field.counts dim 0)) (increasing-upto (get_or field.counts dim 0))

-- the lists of all dimensions
listed : (field : Field) (dim : ℕ) → dim < 4 → get_or (map (critical_of field) (0 ∷ 1 ∷ 2 ∷ 3 ∷ [])) dim [] ≡ critical_of field dim
listed field zero l = refl
listed field (suc zero) l = refl
listed field (suc (suc zero)) l = refl
listed field (suc (suc (suc zero))) l = refl
listed field (suc (suc (suc (suc dim)))) l = absurd (omega arith)

pub listed-rise : (field : Field) (lists : List (List ℕ)) (dim : ℕ) (cells : List ℕ) → lists ≡ map (critical_of field) (0 ∷ 1 ∷ 2 ∷ 3 ∷ []) → dim < length lists → cells ≡ get_or lists dim [] → IsStrictlyIncreasing cells
listed-rise field lists dim cells e l f =
    let four : dim < 4 = omega (arith, ap (λ (ls : List (List ℕ)). length ls) e) in
    subst IsStrictlyIncreasing (sym (f ∙ (ap (λ (ls : List (List ℕ)). get_or ls dim []) e ∙ listed field dim four))) (critical-rise field dim)
