-- The numbers from 1 to n that pass a test, and how many there are up to one of them.
use Rattle.std.proofs.Common.{◌≡◌, inl, inr, ℕ, zero, suc, ◌+◌, ◌-◌, ◌<◌, ◌≤◌, List, [], ◌∷◌, ◌++◌, Bool, true, false, cond, filter, length, get_or, refl, ap, sym, ◌∙◌, subst, arith}
use Rattle.std.proofs.lemmas.Bool.{cases_lt}
use Rattle.std.proofs.lemmas.List.{length-append, get_or_append_left, get_or_at}
use Rattle.std.proofs.lemmas.List.Elements.{filter-append}
use Rattle.std.proofs.lemmas.List.Kept.{IsStrictlyIncreasing-filter}
use Rattle.number_lists.specs.Words.{upto}
use Rattle.number_lists.specs.Members.{In}
use Rattle.number_lists.proofs.CallerLemmas.{upto_more, increasing-upto, increasing-once, length-filter-le, length-upto, at-In, In-inside, filter-In, upto-In}

abbrev pub passing : (ℕ → Bool) → ℕ → List ℕ
passing p n = filter p (upto n)

pub passing-more : (p : ℕ → Bool) (n : ℕ) → passing p (n + 1) ≡ passing p n ++ cond (p (n + 1)) ((n + 1) ∷ []) []
passing-more p n = ap (filter p) (upto_more n) ∙ filter-append p (upto n) ((n + 1) ∷ [])

pub count-more : (p : ℕ → Bool) (n : ℕ) → length (passing p (n + 1)) ≡ length (passing p n) + cond (p (n + 1)) 1 0
count-more p n = ap length (passing-more p n) ∙ (length-append (passing p n) (cond (p (n + 1)) ((n + 1) ∷ []) []) ∙ ap (λ (k : ℕ). length (passing p n) + k) (by_test (p (n + 1))))
  where
    by_test : (b : Bool) → length (cond b ((n + 1) ∷ []) []) ≡ cond b 1 0
    by_test true = refl
    by_test false = refl

pub count-le : (p : ℕ → Bool) (n : ℕ) → length (passing p n) ≤ n
count-le p n = omega (arith, length-filter-le p (upto n), length-upto n)

pub count-up : (p : ℕ → Bool) (a d : ℕ) → length (passing p a) ≤ length (passing p (a + d))
count-up p a zero = let e : a + zero ≡ a = omega arith in subst (λ (n : ℕ). length (passing p a) ≤ length (passing p n)) (sym e) (omega arith)
count-up p a (suc d) =
    let e : a + suc d ≡ a + d + 1 = omega arith in
    subst (λ (n : ℕ). length (passing p a) ≤ length (passing p n)) (sym e) (omega (arith, count-up p a d, count-more p (a + d)))

-- one that passes is counted beyond those below it
pub count-lt : (p : ℕ → Bool) (a b : ℕ) → a < b → p b ≡ true → length (passing p a) < length (passing p b)
count-lt p a b l e =
    let n : b ≡ b - 1 + 1 = omega arith in
    let below : length (passing p a) ≤ length (passing p (b - 1)) = let q : a + (b - 1 - a) ≡ b - 1 = omega arith in subst (λ (m : ℕ). length (passing p a) ≤ length (passing p m)) q (count-up p a (b - 1 - a)) in
    let more : length (passing p (b - 1 + 1)) ≡ length (passing p (b - 1)) + 1 = count-more p (b - 1) ∙ ap (λ (c : Bool). length (passing p (b - 1)) + cond c 1 0) (ap p (sym n) ∙ e) in
    subst (λ (m : ℕ). length (passing p a) < length (passing p m)) (sym n) (omega (arith, below, more))

-- one that passes stands at the place that its count gives
pub record StandsAt (p : ℕ → Bool) (n c : ℕ) : Type 0 where
  pub first : 1 ≤ length (passing p c)
  pub last : length (passing p c) ≤ length (passing p n)
  pub here : (d : ℕ) → get_or (passing p n) (length (passing p c) - 1) d ≡ c

pub stands_at : (p : ℕ → Bool) (n c : ℕ) → 1 ≤ c → c ≤ n → p c ≡ true → StandsAt p n c
stands_at p zero c low high e = absurd (omega arith)
stands_at p (suc n) c low high e =
    let s : suc n ≡ n + 1 = omega arith in
    subst (λ (m : ℕ). StandsAt p m c) (sym s)
    (elim (cases_lt n c) [
      | inl q ↦ let t : c ≡ n + 1 = omega (arith, q, high) in at_end t
      | inr q ↦ earlier (stands_at p n c low q e)
    ])
  where
    earlier : StandsAt p n c → StandsAt p (n + 1) c
    earlier h =
        record {
          first = h.first;
          last = omega (arith, h.last, count-more p n);
          here = λ d.
              ap (λ (xs : List ℕ). get_or xs (length (passing p c) - 1) d) (passing-more p n)
              ∙ (get_or_append_left (passing p n) (cond (p (n + 1)) ((n + 1) ∷ []) []) d (length (passing p c) - 1) (omega (arith, h.first, h.last)) ∙ h.here d);
        }

    at_end : c ≡ n + 1 → StandsAt p (n + 1) c
    at_end t =
        let yes : p (n + 1) ≡ true = ap p (sym t) ∙ e in
        let whole : passing p (n + 1) ≡ passing p n ++ (n + 1) ∷ [] = passing-more p n ∙ ap (λ (b : Bool). passing p n ++ cond b ((n + 1) ∷ []) []) yes in
        let more : length (passing p (n + 1)) ≡ length (passing p n) + 1 = count-more p n ∙ ap (λ (b : Bool). length (passing p n) + cond b 1 0) yes in
        subst (StandsAt p (n + 1)) (sym t)
        (record {
          first = omega (arith, more);
          last = omega arith;
          here = λ d. ap (λ (xs : List ℕ). get_or xs (length (passing p (n + 1)) - 1) d) whole ∙ get_or_at (passing p n) (n + 1) [] d (length (passing p (n + 1)) - 1) (omega (arith, more));
        })

-- and the one at a place has the count that the place gives
pub record IsAt (p : ℕ → Bool) (n k c : ℕ) : Type 0 where
  pub low : 1 ≤ c
  pub high : c ≤ n
  pub passes : p c ≡ true
  pub count : length (passing p c) ≡ k + 1

pub is_at : (p : ℕ → Bool) (n k : ℕ) → k < length (passing p n) → IsAt p n k (get_or (passing p n) k 0)
is_at p n k l =
    let c : ℕ = get_or (passing p n) k 0 in
    let i : In c (passing p n) = at-In (passing p n) k 0 l in
    let w = upto-In n c (In-inside p (upto n) i) in
    let yes : p c ≡ true = filter-In p (upto n) i in
    let h : StandsAt p n c = stands_at p n c w.0 w.1 yes in
    let same : length (passing p c) - 1 ≡ k =
    increasing-once (passing p n) (length (passing p c) - 1) k (IsStrictlyIncreasing-filter p (upto n) (increasing-upto n)) (omega (arith, h.first, h.last)) l (h.here 0) in
    record { low = w.0; high = w.1; passes = yes; count = omega (arith, same, h.first) }
