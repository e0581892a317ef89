-- Lists that lie one after another in one list.
use Rattle.std.proofs.Common.{◌≡◌, ℕ, zero, suc, ◌-◌, ◌<◌, ◌≤◌, List, [], ◌∷◌, ◌++◌, length, length-append, take, drop, get_or, refl, ap, ◌∙◌, arith}
use Rattle.std.proofs.lemmas.Grind.{common_steps}
use Rattle.number_lists.specs.Cuts.{cut, IsCut, begin_of}

pub length-cut : (start : ℕ) (ends xs : List ℕ) → length (cut start ends xs) ≡ length ends
length-cut start [] xs = refl
length-cut start (end ∷ ends) xs = ap suc (length-cut end ends xs)

pub begin_first : (start : ℕ) (ends : List ℕ) → begin_of start ends 0 ≡ start
begin_first start [] = refl
begin_first start (end ∷ ends) = refl

pub begin_next : (start : ℕ) (ends : List ℕ) (i : ℕ) → i < length ends → begin_of start ends (suc i) ≡ get_or ends i 0
begin_next start [] i lt = absurd (omega arith)
begin_next start (end ∷ ends) zero lt = begin_first end ends
begin_next start (end ∷ ends) (suc i) lt = begin_next end ends i (omega arith)

pub start_below : (start : ℕ) (ends : List ℕ) (total : ℕ) → IsCut start ends total → start ≤ total
start_below start [] total h = omega arith
start_below start (end ∷ ends) total h = let r : end ≤ total = start_below end ends total h.1 in let s : start ≤ end = h.0 in omega arith

pub part_within : (start : ℕ) (ends : List ℕ) (total i : ℕ) → IsCut start ends total → i < length ends → (begin_of start ends i ≤ get_or ends i 0) × (get_or ends i 0 ≤ total)
part_within start [] total i h lt = absurd (omega arith)
part_within start (end ∷ ends) total zero h lt = (h.0, start_below end ends total h.1)
part_within start (end ∷ ends) total (suc i) h lt = part_within end ends total i h.1 (omega arith)

pub get_or-cut : (start : ℕ) (ends xs : List ℕ) (i : ℕ) → i < length ends → get_or (cut start ends xs) i [] ≡ take (get_or ends i 0 - begin_of start ends i) (drop (begin_of start ends i) xs)
get_or-cut start [] xs i lt = absurd (omega arith)
get_or-cut start (end ∷ ends) xs zero lt = refl
get_or-cut start (end ∷ ends) xs (suc i) lt = get_or-cut end ends xs i (omega arith)

-- one more part
pub cut-push : (start : ℕ) (ends xs ys : List ℕ) → IsCut start ends (length xs) → cut start (ends ++ length (xs ++ ys) ∷ []) (xs ++ ys) ≡ cut start ends xs ++ ys ∷ []
cut-push start [] xs ys h =
    let e : take (length (xs ++ ys) - start) (drop start (xs ++ ys)) ≡ ys = grind (arith, common_steps, length-append xs ys) in
    ap (λ (r : List ℕ). r ∷ []) e
cut-push start (end ∷ ends) xs ys h =
    let low : start ≤ end = h.0 in
    let high : end ≤ length xs = start_below end ends (length xs) h.1 in
    let e : take (end - start) (drop start (xs ++ ys)) ≡ take (end - start) (drop start xs) = grind (arith, common_steps) in
    ap (λ (r : List ℕ). r ∷ cut end (ends ++ length (xs ++ ys) ∷ []) (xs ++ ys)) e
    ∙ ap (λ (r : List (List ℕ)). take (end - start) (drop start xs) ∷ r) (cut-push end ends xs ys h.1)

pub IsCut-push : (start : ℕ) (ends : List ℕ) (total more : ℕ) → total ≤ more → IsCut start ends total → IsCut start (ends ++ more ∷ []) more
IsCut-push start [] total more l h = (omega arith, refl)
IsCut-push start (end ∷ ends) total more l h = (h.0, IsCut-push end ends total more l h.1)
