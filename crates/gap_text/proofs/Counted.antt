-- The numbers of a range.
use Rattle.std.proofs.Common.{◌≡◌, ℕ, zero, suc, ◌+◌, List, [], ◌∷◌, ◌++◌, ap, arith}
use Rattle.gap_text.specs.Value.{Value, number}
use Rattle.gap_text.specs.Reading.{counted}

pub counted-last : (place a n : ℕ) → counted place a (n + 1) ≡ counted place a n ++ number place (a + n) ∷ []
counted-last place a zero = let e : a ≡ a + 0 = omega arith in ap (λ (k : ℕ). number place k ∷ []) e
counted-last place a (suc n) =
    let e : suc n + 1 ≡ suc (n + 1) = omega arith in
    let f : suc a + n ≡ a + suc n = omega arith in
    rw (e, ← f) (ap (λ (vs : List Value). number place a ∷ vs) (counted-last place (suc a) n))
