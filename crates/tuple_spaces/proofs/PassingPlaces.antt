-- The numbers below a bound that pass a test, and how many come before one of them.
use Rattle.std.proofs.Common.{◌≡◌, inl, inr, ℕ, zero, suc, ◌+◌, ◌*◌, ◌<◌, ◌≤◌, List, [], ◌∷◌, ◌++◌, Bool, true, false, cond, filter, length, get_or, set, eqb, refl, ap, sym, ◌∙◌, subst, arith}
use Rattle.std.specs.List.{range_with_len}
use Rattle.std.proofs.Math.Nat.{mul-le-mul}
use Rattle.std.proofs.lemmas.Bool.{cases_lt}
use Rattle.std.proofs.lemmas.Bool.Decides.{eqb_tells}
use Rattle.std.proofs.lemmas.List.{get_or-set_same, get_or-set_other, length-append, get_or_append_left, get_or_at}
use Rattle.std.proofs.lemmas.List.FromFn.{length-range_with_len}
use Rattle.std.proofs.lemmas.List.Elements.{filter-append}
use Rattle.number_lists.proofs.CallerLemmas.{length-filter-le}
use Rattle.tuple_spaces.specs.TorusPlaces.{volume, dim_at, before}
use Rattle.tuple_spaces.proofs.ListLemmas.{range-more}

-- the numbers below n that pass
abbrev pub passing : (ℕ → Bool) → ℕ → List ℕ
passing p n = filter p (range_with_len 0 n)

pub passing-more : (p : ℕ → Bool) (n : ℕ) → passing p (n + 1) ≡ passing p n ++ cond (p n) (n ∷ []) []
passing-more p n = ap (filter p) (range-more n) ∙ filter-append p (range_with_len 0 n) (n ∷ [])

pub length-passing-more : (p : ℕ → Bool) (n : ℕ) → length (passing p (n + 1)) ≡ length (passing p n) + cond (p n) 1 0
length-passing-more p n = ap length (passing-more p n) ∙ (length-append (passing p n) (cond (p n) (n ∷ []) []) ∙ ap (λ (k : ℕ). length (passing p n) + k) (by_test (p n)))
  where
    by_test : (b : Bool) → length (cond b (n ∷ []) []) ≡ cond b 1 0
    by_test true = refl
    by_test false = refl

pub passing-le : (p : ℕ → Bool) (n : ℕ) → length (passing p n) ≤ n
passing-le p n = omega (arith, length-filter-le p (range_with_len 0 n), length-range_with_len 0 n)

-- one that passes stands at the place that those before it leave
pub passing-at : (p : ℕ → Bool) (n k d : ℕ) → k < n → p k ≡ true → (length (passing p k) < length (passing p n)) × (get_or (passing p n) (length (passing p k)) d ≡ k)
passing-at p zero k d l e = absurd (omega arith)
passing-at p (suc n) k d l e =
    let s : suc n ≡ n + 1 = omega arith in
    subst (λ (m : ℕ). (length (passing p k) < length (passing p m)) × (get_or (passing p m) (length (passing p k)) d ≡ k)) (sym s)
    (elim (cases_lt k n) [
      | inl q ↦ let r = passing-at p n k d q e in earlier r.0 r.1
      | inr q ↦ let t : k ≡ n = omega (arith, l, q) in last t
    ])
  where
    earlier : length (passing p k) < length (passing p n) → get_or (passing p n) (length (passing p k)) d ≡ k → (length (passing p k) < length (passing p (n + 1))) × (get_or (passing p (n + 1)) (length (passing p k)) d ≡ k)
    earlier a b = (
      omega (arith, a, length-passing-more p n),
      ap (λ (xs : List ℕ). get_or xs (length (passing p k)) d) (passing-more p n) ∙ (get_or_append_left (passing p n) (cond (p n) (n ∷ []) []) d (length (passing p k)) a ∙ b),
    )

    last : k ≡ n → (length (passing p k) < length (passing p (n + 1))) × (get_or (passing p (n + 1)) (length (passing p k)) d ≡ k)
    last t =
        let yes : p n ≡ true = ap p (sym t) ∙ e in
        let whole : passing p (n + 1) ≡ passing p n ++ n ∷ [] = passing-more p n ∙ ap (λ (b : Bool). passing p n ++ cond b (n ∷ []) []) yes in
        subst (λ (j : ℕ). (length (passing p j) < length (passing p (n + 1))) × (get_or (passing p (n + 1)) (length (passing p j)) d ≡ j)) (sym t)
        (omega (arith, length-passing-more p n ∙ ap (λ (b : Bool). length (passing p n) + cond b 1 0) yes), ap (λ (xs : List ℕ). get_or xs (length (passing p n)) d) whole ∙ get_or_at (passing p n) n [] d (length (passing p n)) refl)

pub volume-le : (side : ℕ) → side ≤ 38 → volume side ≤ 54872
volume-le side h =
    let a : side * side ≤ 38 * 38 = mul-le-mul h h in
    mul-le-mul a h

-- one triple more is counted at its dimension
pub before-more : (side dim place : ℕ) → before side dim (place + 1) ≡ before side dim place + cond (eqb (dim_at side place) dim) 1 0
before-more side dim place = length-passing-more (λ p. eqb (dim_at side p) dim) place

pub counts-more : (side place : ℕ) (counts : List ℕ) (dim : ℕ) → length counts ≡ 4 → dim ≡ dim_at side place → dim ≤ 3 → ((d : ℕ) → d ≤ 3 → get_or counts d 0 ≡ before side d place)
    → (d : ℕ) → d ≤ 3 → get_or (set counts dim (get_or counts dim 0 + 1)) d 0 ≡ before side d (place + 1)
counts-more side place counts dim long is most h d l =
    elim (eqb_tells (dim_at side place) d) [
      | inl q ↦
          let same : dim ≡ d = is ∙ q.1 in
          ap (λ (j : ℕ). get_or (set counts dim (get_or counts dim 0 + 1)) j 0) (sym same)
          ∙ (get_or-set_same counts dim (get_or counts dim 0 + 1) 0 (omega (arith, long, most))
          ∙ (ap (λ (j : ℕ). get_or counts j 0 + 1) same ∙ (ap (λ (n : ℕ). n + 1) (h d l) ∙ sym (before-more side d place ∙ ap (λ (b : Bool). before side d place + cond b 1 0) q.0))))
      | inr q ↦
          get_or-set_other counts dim d (get_or counts dim 0 + 1) 0 (λ e. q.1 (sym is ∙ sym e))
          ∙ (h d l ∙ sym (before-more side d place ∙ (ap (λ (b : Bool). before side d place + cond b 1 0) q.0 ∙ omega arith)))
    ]
