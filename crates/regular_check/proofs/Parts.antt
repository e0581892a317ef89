-- Cycles that stand one after another.
use Rattle.std.proofs.Common.{◌≡◌, inl, inr, ℕ, zero, suc, ◌+◌, ◌-◌, ◌≤◌, List, [], ◌∷◌, ◌++◌, length, take, drop, get_or, refl, ap, sym, ◌∙◌, subst, arith}
use Rattle.std.proofs.lemmas.Bool.Decides.{eqb_tells}
use Rattle.std.proofs.lemmas.List.{length_push, length-append, get_or_append_left, get_or_at}
use Rattle.regular_check.specs.declared.cycles.Step.{Step}
use Rattle.regular_check.specs.Cycle.{AreCycles, cycle}

-- a part that is there stays where more comes last
part_left : (start size : ℕ) (xs ys : List Step) → start + size ≤ length xs → take size (drop start (xs ++ ys)) ≡ take size (drop start xs)
part_left zero zero xs ys l = refl
part_left zero (suc n) [] ys l = absurd (omega arith)
part_left zero (suc n) (x ∷ xs) ys l = ap (λ (zs : List Step). x ∷ zs) (part_left zero n xs ys (omega arith))
part_left (suc m) n [] ys l = absurd (omega arith)
part_left (suc m) n (x ∷ xs) ys l = part_left m n xs ys (omega arith)

part_last : (xs ys : List Step) (size : ℕ) → size ≡ length ys → take size (drop (length xs) (xs ++ ys)) ≡ ys
part_last [] [] size e = ap (λ n. take n []) e
part_last [] (y ∷ ys) size e = ap (λ n. take n (y ∷ ys)) e ∙ ap (λ (zs : List Step). y ∷ zs) (part_last [] ys (length ys) refl)
part_last (x ∷ xs) ys size e = part_last xs ys size e

pub cycles_none : (space : List (List (List ℕ))) → AreCycles space 0 (0 ∷ []) []
cycles_none space =
    record {
      long = refl;
      last = refl;
      rise = λ c a b. absurd (omega arith);
      within = λ c a. (let z : c ≡ 0 = omega arith in subst (λ (n : ℕ). get_or (0 ∷ []) n 0 ≤ 0) (sym z) (omega arith));
      parts = λ c a b. absurd (omega arith);
    }

pub cycles_more : (space : List (List (List ℕ))) (n : ℕ) (ends : List ℕ) (steps new : List Step) (end : ℕ) → AreCycles space n ends steps → new ≡ steps ++ cycle space (n + 1) → end ≡ length new → AreCycles space (n + 1) (ends ++ end ∷ []) new
cycles_more space n ends steps new end h e f =
    let long : length new ≡ length steps + length (cycle space (n + 1)) = ap length e ∙ length-append steps (cycle space (n + 1)) in
    let old : (c : ℕ) → c ≤ n → get_or (ends ++ end ∷ []) c 0 ≡ get_or ends c 0 = λ c l. get_or_append_left ends (end ∷ []) 0 c (omega (arith, h.long, l)) in
    let last : get_or (ends ++ end ∷ []) (n + 1) 0 ≡ end = get_or_at ends end [] 0 (n + 1) (h.long) in
    record {
      long = length_push ends end ∙ omega (arith, h.long);
      last = last ∙ f;
      rise = λ c a b. elim (eqb_tells c (n + 1)) [
        | inl p ↦
            subst (λ (k : ℕ). get_or (ends ++ end ∷ []) (k - 1) 0 ≤ get_or (ends ++ end ∷ []) k 0) (sym p.1)
            (let q : n + 1 - 1 ≡ n = omega arith in subst (λ (k : ℕ). get_or (ends ++ end ∷ []) k 0 ≤ get_or (ends ++ end ∷ []) (n + 1) 0) (sym q) (omega (arith, old n (omega arith), last, h.last, f, long)))
        | inr p ↦ omega (arith, old (c - 1) (omega (arith, b)), old c (omega (arith, p.1, b)), h.rise c a (omega (arith, p.1, b)))
      ];
      within = λ c b. elim (eqb_tells c (n + 1)) [
        | inl p ↦ subst (λ (k : ℕ). get_or (ends ++ end ∷ []) k 0 ≤ length new) (sym p.1) (omega (arith, last, f))
        | inr p ↦ omega (arith, old c (omega (arith, p.1, b)), h.within c (omega (arith, p.1, b)), long)
      ];
      parts = λ c a b. elim (eqb_tells c (n + 1)) [
        | inl p ↦
            subst (λ (k : ℕ). take (get_or (ends ++ end ∷ []) k 0 - get_or (ends ++ end ∷ []) (k - 1) 0) (drop (get_or (ends ++ end ∷ []) (k - 1) 0) new) ≡ cycle space k) (sym p.1)
            (let q : n + 1 - 1 ≡ n = omega arith in
            let s : get_or (ends ++ end ∷ []) (n + 1 - 1) 0 ≡ length steps = ap (λ (k : ℕ). get_or (ends ++ end ∷ []) k 0) q ∙ (old n (omega arith) ∙ h.last) in
            ap (λ (k : ℕ). take (get_or (ends ++ end ∷ []) (n + 1) 0 - k) (drop k new)) s
            ∙ (ap (λ (zs : List Step). take (get_or (ends ++ end ∷ []) (n + 1) 0 - length steps) (drop (length steps) zs)) e
            ∙ part_last steps (cycle space (n + 1)) (get_or (ends ++ end ∷ []) (n + 1) 0 - length steps) (omega (arith, last, f, long))))
        | inr p ↦
            let le : c ≤ n = omega (arith, p.1, b) in
            ap (λ (k : ℕ). take (k - get_or (ends ++ end ∷ []) (c - 1) 0) (drop (get_or (ends ++ end ∷ []) (c - 1) 0) new)) (old c le)
            ∙ (ap (λ (k : ℕ). take (get_or ends c 0 - k) (drop k new)) (old (c - 1) (omega (arith, le)))
            ∙ (ap (λ (zs : List Step). take (get_or ends c 0 - get_or ends (c - 1) 0) (drop (get_or ends (c - 1) 0) zs)) e
            ∙ (part_left (get_or ends (c - 1) 0) (get_or ends c 0 - get_or ends (c - 1) 0) steps (cycle space (n + 1)) (omega (arith, h.rise c a le, h.within c le)) ∙ h.parts c a le)))
      ];
    }
