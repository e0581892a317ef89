-- A list and its items, seen as values.
use Rattle.std.proofs.Common.{◌≡◌, ℕ, ◌<◌, zero, suc, List, [], ◌∷◌, length, map, slice_get, Some, get_or, refl, sym, ap, arith}
use Rattle.gap_text.specs.declared.nest.Nest.{Nest}
use Rattle.gap_text.specs.Value.{Value, Values, none, more, items, values}
use Rattle.gap_text.specs.Nest.{view}

pub slice_get-view : (nests : List Nest) (index : ℕ) (nest : Nest) → index < length nests → nest ≡ get_or nests index nest → slice_get (map view nests) index ≡ Some (view nest)
slice_get-view [] index nest h e = absurd (omega arith)
slice_get-view (n ∷ nests) zero nest h e = ap (λ (m : Nest). Some (view m)) (sym e)
slice_get-view (n ∷ nests) (suc index) nest h e = slice_get-view nests index nest (omega arith) e

pub values-items : (vs : Values) → values (items vs) ≡ vs
values-items none = refl
values-items (more v vs) = ap (more v) (values-items vs)

pub items-values : (vs : List Value) → items (values vs) ≡ vs
items-values [] = refl
items-values (v ∷ vs) = ap (λ (ws : List Value). v ∷ ws) (items-values vs)
