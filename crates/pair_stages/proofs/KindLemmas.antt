-- Kinds, and kinds from pairs.
use Rattle.std.proofs.Common.{◌≡◌, ◌⊎◌, inl, inr, ℕ, ◌+◌, List, [], ◌∷◌, ◌++◌, length, get_or, refl, ap, sym, ◌∙◌, arith, subst}
use Rattle.std.proofs.lemmas.Bool.{cases_eq}
use Rattle.std.proofs.lemmas.List.{length-append, get_or_append_left}
use Rattle.std.proofs.Math.Seq.{get_or-append_seam}
use Rattle.face_poset.specs.declared.cells.Pair.{Pair}
use Rattle.split_laws.specs.declared.kind.Kind.{Kind}
use Rattle.split_laws.specs.declared.kind.Kind.TheVariants.{Critical, Lower, Upper}
use Rattle.pair_stages.specs.Signed.{IsKind, AreKinds}

-- ---- they differ

pub critical_no_lower : Critical ≡ Lower → ⊥
critical_no_lower e = cc

pub critical_no_upper : Critical ≡ Upper → ⊥
critical_no_upper e = cc

pub lower_no_critical : Lower ≡ Critical → ⊥
lower_no_critical e = cc

pub lower_no_upper : Lower ≡ Upper → ⊥
lower_no_upper e = cc

pub upper_no_critical : Upper ≡ Critical → ⊥
upper_no_critical e = cc

pub upper_no_lower : Upper ≡ Lower → ⊥
upper_no_lower e = cc

pub is_critical : (t : Kind) → (t ≡ Critical) ⊎ (t ≡ Critical → ⊥)
is_critical Critical = inl refl
is_critical Lower = inr lower_no_critical
is_critical Upper = inr upper_no_critical

-- ---- one kind more

pub kinds_more : (pairs : List Pair) (dim i : ℕ) (ks now : List Kind) (k : Kind) → AreKinds pairs dim i ks → IsKind pairs dim (i + 1) k → now ≡ ks ++ k ∷ [] → AreKinds pairs dim (i + 1) now
kinds_more pairs dim i ks now k h here e = record {
  long = ap (λ (xs : List Kind). length xs) e ∙ (length-append ks (k ∷ []) ∙ ap (λ (n : ℕ). n + 1) h.long);
  each = λ j lj.
      subst (λ (xs : List Kind). IsKind pairs dim (j + 1) (get_or xs j Critical)) (sym e)
      (elim (cases_eq j i) [
        | inl b ↦
            subst (λ (n : ℕ). IsKind pairs dim (n + 1) (get_or (ks ++ k ∷ []) n Critical)) (sym b)
            (subst (IsKind pairs dim (i + 1)) (sym (ap (λ (n : ℕ). get_or (ks ++ k ∷ []) n Critical) (sym h.long) ∙ get_or-append_seam ks k [] Critical)) here)
        | inr b ↦ subst (IsKind pairs dim (j + 1)) (sym (get_or_append_left ks (k ∷ []) Critical j (let l : length ks ≡ i = h.long in omega arith))) (h.each j (omega arith))
      ]);
}
