-- Whether one of the rows passes.
use Rattle.std.proofs.Common.{◌≡◌, ℕ, zero, suc, ◌+◌, ◌<◌, ◌≤◌, List, [], ◌∷◌, ◌++◌, Bool, true, false, ◌||◌, length, take, get_or, refl, ap, sym, ◌∙◌, arith}
use Rattle.std.proofs.lemmas.List.{take_more, take_all, length-take-le}
use Rattle.std.proofs.lemmas.Bool.{or_left, or_right}
use Rattle.voxel_spaces.specs.ArcComplements.{any_row}

none-first : (a b : Bool) → (a || b) ≡ false → a ≡ false
none-first true b h = cc
none-first false b h = refl

none-second : (a b : Bool) → (a || b) ≡ false → b ≡ false
none-second true b h = cc
none-second false b h = h

none-both : (a b : Bool) → a ≡ false → b ≡ false → (a || b) ≡ false
none-both a b p q = ap (λ (c : Bool). c || b) p ∙ q

none-push : (test : ℕ → ℕ × ℕ → Bool) (n : ℕ) (rows : List (ℕ × ℕ)) (p : ℕ × ℕ) → any_row test n rows ≡ false → test (n + length rows) p ≡ false → any_row test n (rows ++ p ∷ []) ≡ false
none-push test n [] p h e = none-both (test n p) false (ap (λ (m : ℕ). test m p) (let q : n ≡ n + 0 = omega arith in q) ∙ e) refl
none-push test n (r ∷ rows) p h e =
    none-both (test n r) (any_row test (suc n) (rows ++ p ∷ [])) (none-first (test n r) (any_row test (suc n) rows) h)
    (none-push test (suc n) rows p (none-second (test n r) (any_row test (suc n) rows) h) (ap (λ (m : ℕ). test m p) (let q : suc n + length rows ≡ n + suc (length rows) = omega arith in q) ∙ e))

pub any-at : (test : ℕ → ℕ × ℕ → Bool) (n : ℕ) (rows : List (ℕ × ℕ)) (i : ℕ) (d : ℕ × ℕ) → i < length rows → test (i + n) (get_or rows i d) ≡ true → any_row test n rows ≡ true
any-at test n [] i d l e = absurd (omega arith)
any-at test n (r ∷ rows) zero d l e = or_left (test n r) (any_row test (suc n) rows) (ap (λ (m : ℕ). test m r) (let q : n ≡ zero + n = omega arith in q) ∙ e)
any-at test n (r ∷ rows) (suc i) d l e =
    or_right (test n r) (any_row test (suc n) rows) (any-at test (suc n) rows i d (omega arith) (ap (λ (m : ℕ). test m (get_or rows i d)) (let q : i + suc n ≡ suc i + n = omega arith in q) ∙ e))

pub none-more : (test : ℕ → ℕ × ℕ → Bool) (n : ℕ) (rows : List (ℕ × ℕ)) (i : ℕ) (d : ℕ × ℕ) → i < length rows → any_row test n (take i rows) ≡ false → test (i + n) (get_or rows i d) ≡ false → any_row test n (take (i + 1) rows) ≡ false
none-more test n rows i d l h e =
    let short : length (take i rows) ≡ i = length-take-le i rows (omega arith) in
    ap (any_row test n) (take_more rows i d l)
    ∙ none-push test n (take i rows) (get_or rows i d) h (ap (λ (m : ℕ). test m (get_or rows i d)) (let q : n + length (take i rows) ≡ i + n = omega arith in q) ∙ e)

pub none-all : (test : ℕ → ℕ × ℕ → Bool) (n : ℕ) (rows : List (ℕ × ℕ)) (i : ℕ) → length rows ≤ i → any_row test n (take i rows) ≡ false → any_row test n rows ≡ false
none-all test n rows i l h = ap (any_row test n) (sym (take_all i rows l)) ∙ h
