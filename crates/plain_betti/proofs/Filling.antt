-- A list that is filled from its front.
use Rattle.std.proofs.Common.{◌≡◌, ℕ, zero, suc, ◌+◌, ◌<◌, ◌≤◌, List, [], ◌∷◌, ◌++◌, map, take, drop, length, set, get_or, refl, ap, ◌∙◌, arith}
use Rattle.std.proofs.lemmas.List.{append-nil, take_all, drop_all, get_or-set_same, set-set}

-- the values of f on the first j of the xs, and after them what stood there
abbrev pub filled : {A B : Type 0} → (f : A → B) → (j : ℕ) → List A → List B → List B
filled f j xs ys = map f (take j xs) ++ drop j ys

-- one more value
pub filled_more : {A B : Type 0} (f : A → B) (j : ℕ) (xs : List A) (ys : List B) (d : A) → length ys ≡ length xs → j < length xs → set (filled f j xs ys) j (f (get_or xs j d)) ≡ filled f (j + 1) xs ys
filled_more {A} {B} f j xs ys d e l = step j xs ys e l ∙ ap (λ (k : ℕ). filled f k xs ys) (let up : suc j ≡ j + 1 = omega arith in up)
  where
    step : (i : ℕ) (us : List A) (vs : List B) → length vs ≡ length us → i < length us → set (filled f i us vs) i (f (get_or us i d)) ≡ filled f (suc i) us vs
    step i [] vs h k = absurd (omega arith)
    step i (u ∷ us) [] h k = absurd (omega arith)
    step zero (u ∷ us) (v ∷ vs) h k = refl
    step (suc i) (u ∷ us) (v ∷ vs) h k = ap (λ r. f u ∷ r) (step i us vs (omega arith) (omega arith))

-- all values
pub filled_all : {A B : Type 0} (f : A → B) (j : ℕ) (xs : List A) (ys : List B) → length xs ≤ j → length ys ≤ j → filled f j xs ys ≡ map f xs
filled_all f j xs ys h k = ap (λ us. map f us ++ drop j ys) (take_all j xs h) ∙ ap (λ vs. map f xs ++ vs) (drop_all j ys k) ∙ append-nil (map f xs)

-- one more entry of a row
pub row_filled_more : {A : Type 0} (f : A → ℕ) (j : ℕ) (xs : List A) (d : A) (rows : List (List ℕ)) (row : ℕ) → row < length rows → length (get_or rows row []) ≡ length xs → j < length xs
    → (now after : List (List ℕ)) (v : ℕ) → now ≡ set rows row (filled f j xs (get_or rows row [])) → v ≡ f (get_or xs j d) → after ≡ set now row (set (get_or now row []) j v)
    → after ≡ set rows row (filled f (j + 1) xs (get_or rows row []))
row_filled_more f j xs d rows row within long more now after v old value new =
    let old_row : List ℕ = get_or rows row [] in
    let part : List ℕ = filled f j xs old_row in
    let here : get_or now row [] ≡ part = ap (λ (rs : List (List ℕ)). get_or rs row []) old ∙ get_or-set_same rows row part [] within in
    new ∙ ap (λ (r : List ℕ). set now row (set r j v)) here
    ∙ ap (λ (rs : List (List ℕ)). set rs row (set part j v)) old
    ∙ set-set rows row part (set part j v)
    ∙ ap (set rows row) (ap (set part j) value ∙ filled_more f j xs old_row d long more)
