-- The text of a spot as it is put.
use Rattle.std.proofs.Common.{◌≡◌, ℕ, suc, ◌+◌, ◌==◌, Bool, true, false, List, [], ◌∷◌, ◌++◌, codes, take, drop, get_or, length, ◌<◌, refl, sym, ap, ◌∙◌, append_assoc, subst, inl, inr, arith, ◌≤◌, ◌-◌}
use Rattle.std.specs.Prelude.{decimal, if◌then◌else◌}
use Rattle.std.specs.List.{All, flat_map}
use Rattle.std.proofs.lemmas.List.{append-nil, take-append-drop, take_more, drop_more, take_all}
use Rattle.std.proofs.lemmas.List.Elements.{All-nil}
use Rattle.std.proofs.lemmas.List.Concat.{flat_map-append}
use Rattle.sheet_tables.specs.Positions.{cells_text, position_text, IsPosition}
use Rattle.sheet_tables.specs.Spots.{Mark}
use Rattle.hap_ends.specs.Refusals.{spent_front, spent_line, later_cells}

-- cells with commas between them: the first, and each later one behind a comma
pub cells_put : (c : ℕ) (cs : List ℕ) → cells_text (c ∷ cs) ≡ (48 + c) ∷ later_cells cs
cells_put c [] = refl
cells_put c (d ∷ ds) = ap (λ (l : List ℕ). (48 + c) ∷ 44 ∷ l) (cells_put d ds)

-- the parts of the line
pub spent_parts : (spot : Mark) → spent_front spot.component ++ (position_text spot.sheets spot.cells ++ codes "\n") ≡ spent_line spot
spent_parts spot = at (spot.component == 1)
  where
    place : List ℕ
    place = position_text spot.sheets spot.cells

    number : List ℕ
    number = decimal spot.component

    at : (b : Bool) → (codes "hap: spent " ++ (if b then [] else number ++ 47 ∷ [])) ++ (place ++ codes "\n") ≡ codes "hap: spent " ++ ((if b then place else number ++ 47 ∷ place) ++ codes "\n")
    at true = refl
    at false = ap (λ (l : List ℕ). codes "hap: spent " ++ l) (append_assoc number (47 ∷ []) (place ++ codes "\n") ∙ sym (append_assoc number (47 ∷ place) (codes "\n")))

-- the same of a line that was put in three parts
pub line_parts : (spot : Mark) (component : ℕ) (place : List ℕ) → component ≡ spot.component → place ≡ position_text spot.sheets spot.cells
    → (spent_front component ++ place) ++ codes "\n" ≡ spent_line spot
line_parts spot n place e f =
    append_assoc (spent_front n) place (codes "\n")
    ∙ (ap (λ m. spent_front m ++ (place ++ codes "\n")) e ∙ (ap (λ (l : List ℕ). spent_front spot.component ++ (l ++ codes "\n")) f ∙ spent_parts spot))

-- the first of some cells and those behind it
pub cells_at : (cells : List ℕ) → 1 ≤ length cells → (48 + get_or cells 0 0) ∷ later_cells (take (length cells - 1) (drop 1 cells)) ≡ cells_text cells
cells_at [] some = absurd (omega (arith, some))
cells_at (c ∷ cs) some = ap (λ (l : List ℕ). (48 + c) ∷ later_cells l) (take_all (length (c ∷ cs) - 1) cs (omega arith)) ∙ sym (cells_put c cs)

-- those behind the first are digits where all are
pub few_at : (cells : List ℕ) → All (λ c. c ≤ 8) cells → All (λ c. c ≤ 8) (take (length cells - 1) (drop 1 cells))
few_at [] h = h
few_at (c ∷ cs) h = subst (All (λ c. c ≤ 8)) (sym (take_all (length (c ∷ cs) - 1) cs (omega arith))) (λ k d l. h (suc k) d (omega (arith, l)))

-- the later cells up to an index, and one more
pub later-more : (cells : List ℕ) (i d : ℕ) → i < length cells → later_cells (take i cells) ++ (44 ∷ (48 + get_or cells i d) ∷ []) ≡ later_cells (take (i + 1) cells)
later-more cells i d l =
    let F : ℕ → List ℕ = λ c. 44 ∷ (48 + c) ∷ [] in
    sym (ap (flat_map F) (take_more cells i d l) ∙ (flat_map-append F (take i cells) (get_or cells i d ∷ []) ∙ ap (λ (xs : List ℕ). flat_map F (take i cells) ++ xs) (append-nil (F (get_or cells i d)))))

-- and those behind them
pub later-split : (cells : List ℕ) (i : ℕ) → i < length cells → later_cells (take i cells) ++ (44 ∷ (48 + get_or cells i 0) ∷ []) ++ later_cells (drop (i + 1) cells) ≡ later_cells cells
later-split cells i l =
    let F : ℕ → List ℕ = λ c. 44 ∷ (48 + c) ∷ [] in
    append_assoc (flat_map F (take i cells)) (F (get_or cells i 0)) (flat_map F (drop (i + 1) cells))
    ∙ (sym (flat_map-append F (take i cells) (get_or cells i 0 ∷ drop (i + 1) cells))
    ∙ ap (flat_map F) (ap (λ (xs : List ℕ). take i cells ++ xs) (sym (drop_more cells i 0 l)) ∙ take-append-drop i cells))

-- digits of a position
pub sheets_few : (sheets : ℕ) (cells : List ℕ) → IsPosition sheets cells → sheets ≤ 8
sheets_few sheets cells (inl start) = omega (arith, start.0)
sheets_few sheets cells (inr proper) = proper.most_sheets

all_few : (cells : List ℕ) → All (λ c. (1 ≤ c) × (c ≤ 8)) cells → All (λ c. c ≤ 8) cells
all_few cells h = λ k d l. (h k d l).1

pub cells_few : (sheets : ℕ) (cells : List ℕ) → IsPosition sheets cells → All (λ c. c ≤ 8) cells
cells_few sheets cells (inl start) = subst (All (λ c. c ≤ 8)) (sym start.1) (All-nil (λ c. c ≤ 8))
cells_few sheets cells (inr proper) = all_few cells proper.within
