use Rattle.std.proofs.Common.{◌≡◌, ◌≢◌, ℕ, ◌+◌, ◌<◌, ◌^◌, List, [], ◌∷◌, ◌++◌, length, length-append, map, get_or, All, sym, arith, subst}
use Rattle.std.specs.List.Sorted.{IsStrictlyIncreasing}
use Rattle.std.proofs.lemmas.List.{get_or_append_left, map-append, get_or-map, length-map}
use Rattle.std.proofs.lemmas.List.Elements.{All-push}
use Rattle.std.proofs.Math.Seq.{get_or-append_seam}
use native.Mathlib.Decide.{dec_lt}
use Prim.{yes, no}
use Rattle.small_field.specs.Sparse.{IsSparse}

-- a greater number at the end
increasing_pushed : (xs : List ℕ) (y : ℕ) → IsStrictlyIncreasing xs → ((k : ℕ) → k < length xs → get_or xs k 0 < y) → IsStrictlyIncreasing (xs ++ y ∷ [])
increasing_pushed xs y rises below k lt =
    let long : length (xs ++ y ∷ []) ≡ length xs + 1 = length-append xs (y ∷ []) in
    let before : get_or (xs ++ y ∷ []) k 0 ≡ get_or xs k 0 = get_or_append_left xs (y ∷ []) 0 k (omega arith) in
    elim (dec_lt (k + 1) (length xs)) [
      | yes l ↦
          let after : get_or (xs ++ y ∷ []) (k + 1) 0 ≡ get_or xs (k + 1) 0 = get_or_append_left xs (y ∷ []) 0 (k + 1) l in
          let rise : get_or xs k 0 < get_or xs (k + 1) 0 = rises k l in
          omega arith
      | no m ↦
          let e : length xs ≡ k + 1 = omega arith in
          let last : get_or (xs ++ y ∷ []) (k + 1) 0 ≡ y = subst (λ (i : ℕ). get_or (xs ++ y ∷ []) i 0 ≡ y) e (get_or-append_seam xs y [] 0) in
          let rise : get_or xs k 0 < y = below k (omega arith) in
          omega arith
    ]

pub sparse_pushed : (es : List (ℕ × ℕ)) (p v : ℕ) → IsSparse es → All (λ e. e.0 < p) es → v ≢ 0 → length es + 1 < 2 ^ 32 → IsSparse (es ++ (p, v) ∷ [])
sparse_pushed es p v s above ne room = record {
  increasing =
      subst IsStrictlyIncreasing (sym (map-append (λ (e : ℕ × ℕ). e.0) es ((p, v) ∷ [])))
      (increasing_pushed (map (λ (e : ℕ × ℕ). e.0) es) p s.increasing
      (λ k lt.
      let l : k < length es = omega (arith, length-map {A = ℕ × ℕ} {B = ℕ}) in
      subst (λ (n : ℕ). n < p) (sym (get_or-map (λ (e : ℕ × ℕ). e.0) es k (0, 0) 0 l)) (above k (0, 0) l)));
  nonzero = All-push (λ e. e.1 ≢ 0) es (p, v) s.nonzero ne;
  few = subst (λ (n : ℕ). n < 2 ^ 32) (sym (length-append es ((p, v) ∷ []))) room;
}
