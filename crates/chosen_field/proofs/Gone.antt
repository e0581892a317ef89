-- The first flag that is set.
use Rattle.std.proofs.Common.{◌≡◌, ℕ, ◌+◌, ◌-◌, ◌<◌, ◌≤◌, List, length, get_or, Bool, true, false, ap, sym, ◌∙◌, subst, arith, Some, None}
use Rattle.std.specs.List.{find}
use Rattle.std.proofs.lemmas.List.{get_or_default}
use Rattle.number_lists.specs.Words.{upto}
use Rattle.vector_field.specs.Stages.{is_left}
use Rattle.chosen_field.specs.Rests.{IsGoneBelow}
use Rattle.chosen_field.proofs.Lists.{find-upto, find-upto_none, find-at, find-none_at}

pub first_left_at : (old cells : List Bool) (i : ℕ) (x : Bool) → cells ≡ old → i < length old → x ≡ get_or cells i x → x ≡ true → IsGoneBelow cells i → Some (i + 1) ≡ find (is_left old) (upto (length old))
first_left_at old cells i x e l at t gone =
    let set_at : get_or old i false ≡ true = get_or_default old i false x l ∙ (ap (λ (bs : List Bool). get_or bs i x) (sym e) ∙ (sym at ∙ t)) in
    sym (find-upto (is_left old) (length old) (i + 1) (omega arith) (omega (arith, l)) (subst (λ (k : ℕ). get_or old k false ≡ true) (let s : i ≡ i + 1 - 1 = omega arith in s) set_at)
    (λ k a m. subst (λ (bs : List Bool). is_left bs k ≡ false) e (gone k a (omega (arith, m)))))

pub none_left_at : (old cells : List Bool) (i : ℕ) → cells ≡ old → length old ≤ i → IsGoneBelow cells i → None ≡ find (is_left old) (upto (length old))
none_left_at old cells i e l gone = sym (find-upto_none (is_left old) (length old) (λ k a m. subst (λ (bs : List Bool). is_left bs k ≡ false) e (gone k a (omega (arith, l, m)))))

-- the first of some cells that is left
pub first_of_at : (cells : List Bool) (among : List ℕ) (i : ℕ) (x : Bool) → i < length among → 1 ≤ get_or among i 0 → get_or among i 0 ≤ length cells → x ≡ get_or cells (get_or among i 0 - 1) x → x ≡ true
    → ((k : ℕ) → k < i → is_left cells (get_or among k 0) ≡ false) → Some (get_or among i 0) ≡ find (is_left cells) among
first_of_at cells among i x l low high at t h = sym (find-at (is_left cells) among i 0 l (get_or_default cells (get_or among i 0 - 1) false x (omega (arith, low, high)) ∙ (sym at ∙ t)) h)

pub none_of_at : (cells : List Bool) (among : List ℕ) (i : ℕ) → length among ≤ i → ((k : ℕ) → k < i → is_left cells (get_or among k 0) ≡ false) → None ≡ find (is_left cells) among
none_of_at cells among i l h = sym (find-none_at (is_left cells) among 0 (λ k m. h k (omega (arith, l, m))))
