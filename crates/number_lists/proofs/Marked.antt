-- Marks of the numbers that were found.
use Rattle.std.proofs.Common.{◌≡◌, inl, inr, ℕ, ◌+◌, ◌-◌, ◌<◌, ◌≤◌, List, [], ◌∷◌, ◌++◌, Bool, true, false, cond, ◌||◌, eqb, length, take, get_or, set, replicate, refl, ap, sym, ◌∙◌, subst, arith}
use Rattle.std.specs.List.{list_any, IsDistinct}
use Rattle.std.specs.Cmp.{both_ways}
use Rattle.std.proofs.Math.Bool.{or-false}
use Rattle.std.proofs.lemmas.Bool.{eqb-true, eq-eqb, ne_eqb, false≢true, cases_eq, or_cases, or_left, or_right}
use Rattle.std.proofs.lemmas.Cmp.{nat_eq_equiv}
use Rattle.std.proofs.lemmas.Map.Keys.{IsDistinct-push}
use Rattle.std.proofs.lemmas.Map.Made.{length-le_from_is_member}
use Rattle.std.proofs.lemmas.List.{get_or-replicate, length-set, get_or-set_same, get_or-set_other, length-replicate, get_or_default}
use Rattle.number_lists.specs.Words.{holds, upto}
use Rattle.number_lists.specs.Members.{In}
use Rattle.number_lists.specs.Found.{IsMarked}
use Rattle.number_lists.proofs.Members.{In-holds, holds-In, at-In, In-left, In-last, push-In}
use Rattle.number_lists.proofs.Increasing.{holds-upto, length-upto}
use Rattle.number_lists.proofs.Touch.{IsTouched, touch-all}

pub any-holds : (xs : List ℕ) (x : ℕ) → list_any (eqb x) xs ≡ holds xs x
any-holds [] x = refl
any-holds (y ∷ ys) x = ap (λ b. b || list_any (eqb x) ys) (nat_eq_equiv.symm x y) ∙ ap (λ b. eqb y x || b) (any-holds ys x)

-- of lists of different numbers the one that is inside the other is no longer
pub length-inside : (xs ys : List ℕ) → IsDistinct eqb xs → ((y : ℕ) → In y xs → In y ys) → length xs ≤ length ys
length-inside xs ys d h = length-le_from_is_member nat_eq_equiv xs ys d (λ q e. any-holds ys q ∙ In-holds (h q (holds-In xs (sym (any-holds xs q) ∙ e))))

-- whether a number more is there
pub holds-push : (xs : List ℕ) (x n : ℕ) → holds (xs ++ x ∷ []) n ≡ (holds xs n || eqb x n)
holds-push xs x n = both_ways (holds (xs ++ x ∷ []) n) (holds xs n || eqb x n)
    (λ e. elim (push-In xs x (holds-In (xs ++ x ∷ []) e)) [ inl k ↦ or_left (holds xs n) (eqb x n) (In-holds k) | inr k ↦ or_right (holds xs n) (eqb x n) (eq-eqb x n (sym k)) ])
    (λ e. elim (or_cases (holds xs n) (eqb x n) e) [ inl k ↦ In-holds (In-left (x ∷ []) (holds-In xs k)) | inr k ↦ subst (λ (z : ℕ). holds (xs ++ x ∷ []) z ≡ true) (eqb-true x n k) (In-holds (In-last xs x)) ])

pub marked-none : (most : ℕ) → IsMarked (replicate {A = Bool} most false) []
unfolding IsDistinct
marked-none most = record {
  marked = λ n low high. let lt : n - 1 < most = omega (arith, length-replicate {A = Bool} most false) in get_or-replicate most (n - 1) false false lt;
  within = λ n h. absurd (false≢true h);
  distinct = tt;
}

pub marked-insert : (marks : List Bool) (found : List ℕ) (x : ℕ) → 1 ≤ x → x ≤ length marks → get_or marks (x - 1) false ≡ false → IsMarked marks found → IsMarked (set marks (x - 1) true) (found ++ x ∷ [])
marked-insert marks found x low high fresh h =
    let none : holds found x ≡ false = sym (h.marked x low high) ∙ fresh in
    record {
      marked = λ n a b.
          let long : n ≤ length marks = omega (arith, length-set marks (x - 1) true) in
          elim (cases_eq x n) [
            | inl p ↦
                subst (λ (m : ℕ). get_or (set marks (x - 1) true) (m - 1) false ≡ holds (found ++ x ∷ []) m) p
                (get_or-set_same marks (x - 1) true false (omega arith) ∙ sym (In-holds (In-last found x)))
            | inr p ↦
                get_or-set_other marks (x - 1) (n - 1) true false (λ e. p (omega arith))
                ∙ (h.marked n a long ∙ sym (holds-push found x n ∙ (ap (λ (c : Bool). holds found n || c) (ne_eqb x n p) ∙ or-false (holds found n))))
          ];
      within = λ n e. elim (push-In found x (holds-In (found ++ x ∷ []) e)) [
        | inl k ↦ let w = h.within n (In-holds k) in (w.0, omega (arith, w.1, length-set marks (x - 1) true))
        | inr k ↦ (omega (arith, k), omega (arith, k, length-set marks (x - 1) true))
      ];
      distinct = IsDistinct-push nat_eq_equiv found x h.distinct (any-holds found x ∙ none);
    }

-- the mark that was read
pub fresh_mark : (marks : List Bool) (k : ℕ) (b : Bool) → k < length marks → b ≡ get_or marks k b → b ≡ false → get_or marks k false ≡ false
fresh_mark marks k b l e f = get_or_default marks k false b l ∙ (sym e ∙ f)

-- where all marks were taken back, there is none
pub marked-cleared : (marks : List Bool) (found : List ℕ) (i : ℕ) (now : List Bool) → IsMarked marks found → length found ≤ i → length now ≡ length marks → IsTouched false (λ _. false) (take i found) marks now → IsMarked now []
unfolding IsDistinct
marked-cleared marks found i now h l long t =
    record {
      marked = λ n low high.
          let e : n - 1 + 1 ≡ n = omega arith in
          touch-all false (λ _. false) found i marks now l t (n - 1) (omega arith)
          ∙ (ap (λ (m : ℕ). cond (holds found m) false (get_or marks (n - 1) false)) e
          ∙ (ap (λ (b : Bool). cond (holds found n) false b) (h.marked n low (omega arith)) ∙ both (holds found n)));
      within = λ n g. absurd (false≢true g);
      distinct = tt;
    }
  where
    both : (b : Bool) → cond b false b ≡ false
    both true = refl
    both false = refl

-- the number at a place is one of those that can be marked
pub marked-at : (marks : List Bool) (found : List ℕ) (k d : ℕ) → IsMarked marks found → k < length found → (1 ≤ get_or found k d) × (get_or found k d ≤ length marks)
marked-at marks found k d h l = h.within (get_or found k d) (In-holds (at-In found k d l))

-- there are no more than the most
pub few-found : (marks : List Bool) (found : List ℕ) → IsMarked marks found → length found ≤ length marks
few-found marks found h =
    let short : length found ≤ length (upto (length marks)) =
    length-le_from_is_member nat_eq_equiv found (upto (length marks)) h.distinct
    (λ q e. let w = h.within q (sym (any-holds found q) ∙ e) in any-holds (upto (length marks)) q ∙ holds-upto (length marks) q w.0 w.1) in
    omega (arith, short, length-upto (length marks))
