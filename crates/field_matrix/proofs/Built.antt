use Rattle.std.proofs.Common.{◌≡◌, ◌≢◌, ℕ, zero, suc, ◌+◌, ◌*◌, ◌<◌, ◌≤◌, ◌==◌, if◌then◌else◌, List, [], ◌∷◌, ◌++◌, length, length-append, length-drop, take, drop, replicate, get_or, get_or-set_same, get_or-set_other, append_assoc, ap, sym, ◌∙◌, arith, inl, inr}
use Rattle.std.proofs.lemmas.List.{take-append-le, drop-append-le, take_all, take_more, get_or-drop, get_or-map}
use Rattle.std.proofs.lemmas.Simd.{length-replicate, get_or-replicate}
use Rattle.std.proofs.lemmas.Bool.Decides.{nat_tests}
use Rattle.linear_laws.specs.Marks.{mark, identity, beside, rights}
use Rattle.linear_laws.specs.Vectors.{row_at}
use Rattle.linear_laws.proofs.CallerLemmas.{length-mark, length-identity, identity_row, length-beside, beside_row, same_or_not}
use Rattle.field_matrix.specs.Rows.{cut}

same_is : (a b : ℕ) → a ≡ b → ◌≡◌ {A = ℕ} (if a == b then 1 else 0) 1
same_is a b h = grind (arith, nat_tests)

other_is : (a b : ℕ) → a ≢ b → ◌≡◌ {A = ℕ} (if a == b then 1 else 0) 0
other_is a b h = grind (arith, nat_tests)

pub mark_at : (n p at : ℕ) → at < n → get_or (mark n p) at 0 ≡ (if at == p then 1 else 0)
mark_at n p at lt =
    elim (same_or_not at p) [
      | inl e ↦
          let l : p < length (replicate {A = ℕ} n 0) = omega (arith, length-replicate {A = ℕ} n 0) in
          ap (λ (j : ℕ). get_or (mark n p) j 0) e ∙ (get_or-set_same (replicate n 0) p 1 0 l ∙ sym (same_is at p e))
      | inr ne ↦ get_or-set_other (replicate n 0) p at 1 0 ne ∙ (get_or-replicate n at 0 0 lt ∙ sym (other_is at p ne))
    ]

-- one more number of the mark
pub mark_more : (old row : List ℕ) (n p at v : ℕ) → at < n → v ≡ (if at == p then 1 else 0) → (old ++ (row ++ take at (mark n p))) ++ v ∷ [] ≡ old ++ (row ++ take (at + 1) (mark n p))
mark_more old row n p at v lt is =
    let l : at < length (mark n p) = omega (arith, length-mark n p) in
    let more : take (at + 1) (mark n p) ≡ take at (mark n p) ++ v ∷ [] = take_more (mark n p) at 0 l ∙ ap (λ (x : ℕ). take at (mark n p) ++ x ∷ []) (mark_at n p at lt ∙ sym is) in
    append_assoc old (row ++ take at (mark n p)) (v ∷ []) ∙ (ap (λ (w : List ℕ). old ++ w) (append_assoc row (take at (mark n p)) (v ∷ [])) ∙ ap (λ (w : List ℕ). old ++ (row ++ w)) (sym more))

-- one more row at the end
pub cut-pushed : (t c : ℕ) (xs row : List ℕ) → length xs ≡ t * c → length row ≡ c → cut (suc t) c (xs ++ row) ≡ cut t c xs ++ row ∷ []
cut-pushed zero c [] row lx lr = ap (λ (r : List ℕ). r ∷ []) (take_all c row (omega arith))
cut-pushed zero c (x ∷ xs) row lx lr = absurd (omega arith)
cut-pushed (suc t) c xs row lx lr =
    let le : c ≤ length xs = omega arith in
    let ld : length (drop c xs) ≡ t * c = length-drop c xs ∙ omega arith in
    let rest : cut (suc t) c (drop c (xs ++ row)) ≡ cut t c (drop c xs) ++ row ∷ [] = ap (cut (suc t) c) (drop-append-le c xs row le) ∙ cut-pushed t c (drop c xs) row ld lr in
    ap (λ (r : List ℕ). r ∷ cut (suc t) c (drop c (xs ++ row))) (take-append-le c xs row le) ∙ ap (λ (rs : List (List ℕ)). take c xs ∷ rs) rest

-- one more row of a list
pub rows_more : (t c : ℕ) (xs row : List ℕ) (rows : List (List ℕ)) → length xs ≡ t * c → length row ≡ c → t < length rows → row ≡ row_at rows t → cut t c xs ≡ take t rows → (length (xs ++ row) ≡ (t + 1) * c) × (cut (t + 1) c (xs ++ row) ≡ take (t + 1) rows)
rows_more t c xs row rows lx lr lt is old = (
  length-append xs row ∙ omega arith,
  ap (λ (n : ℕ). cut n c (xs ++ row)) (let e : t + 1 ≡ suc t = omega arith in e) ∙ (cut-pushed t c xs row lx lr ∙ (ap (λ (rs : List (List ℕ)). rs ++ row ∷ []) old ∙ (ap (λ (r : List ℕ). take t rows ++ r ∷ []) is ∙ sym (take_more rows t [] lt)))),
)

pub joined_row : (n c i : ℕ) (rows : List (List ℕ)) → length rows ≡ n → i < n → row_at (beside rows (identity n)) i ≡ row_at rows i ++ mark n i
joined_row n c i rows long lt = beside_row rows (identity n) i (long ∙ sym (length-identity n)) (omega arith) ∙ ap (λ (w : List ℕ). row_at rows i ++ w) (identity_row n i lt)

pub length-joined : (n : ℕ) (rows : List (List ℕ)) → length rows ≡ n → length (beside rows (identity n)) ≡ n
length-joined n rows long = length-beside rows (identity n) (long ∙ sym (length-identity n)) ∙ long

-- a row of the right halves, from a row on
pub half_row : (width from t i : ℕ) (rows : List (List ℕ)) → i ≡ from + t → i < length rows → row_at (drop from (rights width rows)) t ≡ drop width (row_at rows i)
half_row width from t i rows e lt =
    get_or-drop from (rights width rows) t [] ∙ (ap (row_at (rights width rows)) (sym e) ∙ get_or-map (drop width) rows i [] [] lt)
