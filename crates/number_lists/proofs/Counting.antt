-- Lemmas on the cells with a facet.
use Rattle.std.proofs.Common.{◌≡◌, ℕ, zero, suc, ◌+◌, ◌-◌, ◌<◌, ◌≤◌, List, [], ◌∷◌, ◌++◌, length, take, drop, get_or, Bool, true, false, cond, eqb, refl, ap, sym, ◌∙◌, arith, filter, All, count_by}
use Rattle.std.specs.List.{concat}
use Rattle.std.specs.List.Sorted.{IsStrictlyIncreasing}
use Rattle.std.proofs.lemmas.List.{append-nil, length-append, get_or_append_left, get_or_at, take_more, take_all, length_push, take-append-drop, drop_more}
use Rattle.std.proofs.lemmas.List.Folds.{concat-append}
use Rattle.std.proofs.lemmas.List.Sums.{sum_by-append}
use Rattle.std.proofs.lemmas.List.Elements.{filter-append}
use Rattle.number_lists.specs.Words.{upto, holds}
use Rattle.number_lists.specs.Cofaces.{cells_with}
use Rattle.number_lists.proofs.Increasing.{upto_more, All-upto, filter_same, count-increasing}

-- one cell more
pub cells_with-push : (cells : List (List ℕ)) (c : List ℕ) (f : ℕ) → cells_with (cells ++ c ∷ []) f ≡ cells_with cells f ++ cond (holds c f) ((length cells + 1) ∷ []) []
cells_with-push cells c f =
    let n : ℕ = length cells in
    let p : ℕ → Bool = λ m. holds (get_or (cells ++ c ∷ []) (m - 1) []) f in
    let q : ℕ → Bool = λ m. holds (get_or cells (m - 1) []) f in
    let numbers : upto (length (cells ++ c ∷ [])) ≡ upto n ++ (n + 1) ∷ [] = ap upto (length_push cells c) ∙ upto_more n in
    let before : filter p (upto n) ≡ filter q (upto n) =
    filter_same p q (upto n) (λ k d l.
    let w : (1 ≤ get_or (upto n) k d) × (get_or (upto n) k d ≤ n) = All-upto n k d l in
    ap (λ (xs : List ℕ). holds xs f) (get_or_append_left cells (c ∷ []) [] (get_or (upto n) k d - 1) (omega arith))) in
    let last : get_or (cells ++ c ∷ []) (n + 1 - 1) [] ≡ c = get_or_at cells c [] [] (n + 1 - 1) (omega arith) in
    let end : filter p ((n + 1) ∷ []) ≡ cond (holds c f) ((n + 1) ∷ []) [] = ap (λ (xs : List ℕ). cond (holds xs f) ((n + 1) ∷ []) []) last in
    ap (filter p) numbers ∙ (filter-append p (upto n) ((n + 1) ∷ []) ∙ (ap (λ (xs : List ℕ). xs ++ filter p ((n + 1) ∷ [])) before ∙ ap (λ (xs : List ℕ). filter q (upto n) ++ xs) end))

-- how often a number occurs in the lists joined
abbrev pub times : ℕ → List ℕ → ℕ
times f xs = count_by (λ x. eqb x f) xs

pub times-append : (f : ℕ) (xs ys : List ℕ) → times f (xs ++ ys) ≡ times f xs + times f ys
times-append f xs ys = sum_by-append (λ x. cond (eqb x f) 1 0) xs ys

length-cond : (b : Bool) (n : ℕ) → length (cond b (n ∷ []) []) ≡ cond b 1 0
length-cond true n = refl
length-cond false n = refl

-- where no cell has a facet twice, a facet occurs as often as there are cells with it
times-take : (cells : List (List ℕ)) (f : ℕ) → All IsStrictlyIncreasing cells → (i : ℕ) → i ≤ length cells → times f (concat (take i cells)) ≡ length (cells_with (take i cells) f)
times-take cells f h zero l = refl
times-take cells f h (suc i) l =
    let lt : i < length cells = omega arith in
    let c : List ℕ = get_or cells i [] in
    let e : suc i ≡ i + 1 = omega arith in
    let more : take (suc i) cells ≡ take i cells ++ c ∷ [] = ap (λ (n : ℕ). take n cells) e ∙ take_more cells i [] lt in
    let joined : concat (take (suc i) cells) ≡ concat (take i cells) ++ c = ap concat more ∙ (concat-append (take i cells) (c ∷ []) ∙ ap (λ (xs : List ℕ). concat (take i cells) ++ xs) (append-nil c)) in
    let left : times f (concat (take (suc i) cells)) ≡ length (cells_with (take i cells) f) + cond (holds c f) 1 0 =
    ap (times f) joined ∙ (times-append f (concat (take i cells)) c ∙ (ap (λ (n : ℕ). n + times f c) (times-take cells f h i (omega arith)) ∙ ap (λ (n : ℕ). length (cells_with (take i cells) f) + n) (count-increasing c f (h i [] lt)))) in
    let number : ℕ = length (take i cells) + 1 in
    let right : length (cells_with (take (suc i) cells) f) ≡ length (cells_with (take i cells) f) + cond (holds c f) 1 0 =
    ap (λ (cs : List (List ℕ)). length (cells_with cs f)) more
    ∙ (ap (λ (xs : List ℕ). length xs) (cells_with-push (take i cells) c f)
    ∙ (length-append (cells_with (take i cells) f) (cond (holds c f) (number ∷ []) [])
    ∙ ap (λ (n : ℕ). length (cells_with (take i cells) f) + n) (length-cond (holds c f) number))) in
    left ∙ sym right

pub times-concat : (cells : List (List ℕ)) (f : ℕ) → All IsStrictlyIncreasing cells → times f (concat cells) ≡ length (cells_with cells f)
times-concat cells f h =
    let all : take (length cells) cells ≡ cells = take_all (length cells) cells (omega arith) in
    ap (λ (cs : List (List ℕ)). times f (concat cs)) (sym all) ∙ (times-take cells f h (length cells) (omega arith) ∙ ap (λ (cs : List (List ℕ)). length (cells_with cs f)) all)

-- before a cell with the facet, fewer cells have it than in all
pub room_left : (cells : List (List ℕ)) (f i : ℕ) → All IsStrictlyIncreasing cells → i < length cells → holds (get_or cells i []) f ≡ true → length (cells_with (take i cells) f) < times f (concat cells)
room_left cells f i h lt has =
    let c : List ℕ = get_or cells i [] in
    let split : cells ≡ take i cells ++ c ∷ drop (i + 1) cells = sym (take-append-drop i cells) ∙ ap (λ (cs : List (List ℕ)). take i cells ++ cs) (drop_more cells i [] lt) in
    let joined : concat cells ≡ concat (take i cells) ++ (c ++ concat (drop (i + 1) cells)) = ap concat split ∙ concat-append (take i cells) (c ∷ drop (i + 1) cells) in
    let one : times f c ≡ 1 = count-increasing c f (h i [] lt) ∙ ap (λ (b : Bool). cond b 1 0) has in
    let sum : times f (concat cells) ≡ times f (concat (take i cells)) + (times f c + times f (concat (drop (i + 1) cells))) =
    ap (times f) joined ∙ (times-append f (concat (take i cells)) (c ++ concat (drop (i + 1) cells)) ∙ ap (λ (n : ℕ). times f (concat (take i cells)) + n) (times-append f c (concat (drop (i + 1) cells)))) in
    let front : times f (concat (take i cells)) ≡ length (cells_with (take i cells) f) = times-take cells f h i (omega arith) in
    omega arith
