-- Entries put one after the other into zeros are the cochain of these entries.
use Rattle.std.proofs.Common.{◌≡◌, ◌≢◌, ℕ, ◌+◌, ◌-◌, ◌<◌, ◌≤◌, inl, inr, List, [], ◌∷◌, cond, length, set, get_or, get_or-set_same, get_or-set_other, All, ap, sym, ◌∙◌, arith}
use Rattle.std.proofs.lemmas.Bool.{eq-eqb, ne_eqb}
use Rattle.std.proofs.lemmas.Grind.{same_number_lists}
use Rattle.std.proofs.lemmas.List.{length-set}
use Rattle.std.proofs.lemmas.List.Elements.{All-tail}
use Rattle.std.proofs.lemmas.List.FromFn.{length-map-range_with_len, get_or-map-range_with_len}
use Rattle.std.proofs.lemmas.Simd.{length-replicate, get_or-replicate}
use Rattle.linear_laws.proofs.CallerLemmas.{same_or_not}
use Rattle.pair_stages.specs.Units.{filled}
use Rattle.chain_laws.specs.Lines.{cochain_of, element_at}

abbrev InRange : ℕ → ℕ × ℕ → Type 0
InRange n e = (1 ≤ e.0) × (e.0 ≤ n)

pub filled_long : (n : ℕ) (es : List (ℕ × ℕ)) → length (filled n es) ≡ n
filled_long n [] = length-replicate n 0
filled_long n (e ∷ es) = length-set (filled n es) (e.0 - 1) e.1 ∙ filled_long n es

filled_at : (n : ℕ) (es : List (ℕ × ℕ)) (j : ℕ) → All (InRange n) es → j < n → get_or (filled n es) j 0 ≡ element_at es (j + 1)
filled_at n [] j a l = get_or-replicate n j 0 0 l
filled_at n (e ∷ es) j a l =
    let low : 1 ≤ e.0 = (a 0 e (omega arith)).0 in
    elim (same_or_not e.0 (j + 1)) [
      | inl same ↦
          let at : e.0 - 1 ≡ j = omega (arith, same) in
          ap (λ k. get_or (set (filled n es) k e.1) j 0) at
          ∙ get_or-set_same (filled n es) j e.1 0 (omega (arith, l, filled_long n es))
          ∙ sym (ap (λ b. cond b e.1 (element_at es (j + 1))) (eq-eqb e.0 (j + 1) same))
      | inr apart ↦
          let other : j ≢ e.0 - 1 = λ z. apart (omega (arith, z, low)) in
          get_or-set_other (filled n es) (e.0 - 1) j e.1 0 other
          ∙ filled_at n es j (All-tail (InRange n) e es a) l
          ∙ sym (ap (λ b. cond b e.1 (element_at es (j + 1))) (ne_eqb e.0 (j + 1) apart))
    ]

pub filled_fits : (n : ℕ) (es : List (ℕ × ℕ)) → All (InRange n) es → filled n es ≡ cochain_of n es
filled_fits n es a =
    same_number_lists (filled n es) (cochain_of n es) (filled_long n es ∙ sym (length-map-range_with_len (element_at es) 1 n))
    (λ j l.
    let lj : j < n = omega (arith, l, filled_long n es) in
    filled_at n es j a lj ∙ sym (get_or-map-range_with_len (element_at es) 1 n j (j + 1) 0 lj (omega arith)))
