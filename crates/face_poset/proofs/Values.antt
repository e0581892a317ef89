-- Lemmas on nested values.
use Rattle.std.proofs.Common.{◌≡◌, ◌<◌, ◌∷◌, [], ℕ, List, length, refl, ap, arith, Ok}
use Rattle.gap_text.specs.Value.{Value, list, items, values}
use Rattle.face_poset.specs.Reader.{each_from, as_number, as_list, as_cell}

pub items-values : (vs : List Value) → items (values vs) ≡ vs
items-values [] = refl
items-values (v ∷ vs) = ap (λ (ws : List Value). v ∷ ws) (items-values vs)

-- a list with a number has these numbers
pub as_cell-is : (place : ℕ) (vs : List Value) → 0 < length vs → as_cell (list place (values vs)) ≡ each_from 0 (λ _ w. as_number w) vs
as_cell-is place [] l = absurd (omega arith)
as_cell-is place (v ∷ vs) l = ap (λ (ws : List Value). each_from 0 (λ _ w. as_number w) (v ∷ ws)) (items-values vs)

pub as_list-is : (place : ℕ) (vs : List Value) → as_list (list place (values vs)) ≡ Ok vs
as_list-is place vs = ap (λ (ws : List Value). Ok ws) (items-values vs)
