-- The open lists of the code, the innermost last, as the definition has them, the innermost first.
use Rattle.std.proofs.Common.{◌≡◌, ◌+◌, List, [], ◌∷◌, ◌++◌, length, map, refl, ap, arith}
use Rattle.gap_text.specs.declared.state.Level.{Level as CodeLevel}
use Rattle.gap_text.specs.declared.nest.Nest.{Nest}
use Rattle.gap_text.specs.Reading.{Level, level}
use Rattle.gap_text.specs.Nest.{view}
use Rattle.gap_text.specs.States.{level_of, levels_onto, levels_of}

-- the last of them is the innermost
pub levels_onto-last : (xs : List CodeLevel) (x : CodeLevel) (ls : List Level) → levels_onto ls (xs ++ x ∷ []) ≡ level_of x ∷ levels_onto ls xs
levels_onto-last [] x ls = refl
levels_onto-last (y ∷ xs) x ls = levels_onto-last xs x (level_of y ∷ ls)

pub length-levels_onto : (xs : List CodeLevel) (ls : List Level) → length (levels_onto ls xs) ≡ length ls + length xs
length-levels_onto [] ls = omega arith
length-levels_onto (x ∷ xs) ls = omega (arith, length-levels_onto xs (level_of x ∷ ls))

-- one more value at the end
pub map-view-last : (xs : List Nest) (x : Nest) → map view (xs ++ x ∷ []) ≡ map view xs ++ view x ∷ []
map-view-last [] x = refl
map-view-last (y ∷ xs) x = ap (λ vs. view y ∷ vs) (map-view-last xs x)

pub levels_of-last : (xs front : List CodeLevel) (x : CodeLevel) → xs ≡ front ++ x ∷ [] → levels_of xs ≡ level_of x ∷ levels_of front
levels_of-last xs front x e = rw e (levels_onto-last front x [])

pub length-levels_of : (xs : List CodeLevel) → length (levels_of xs) ≡ length xs
length-levels_of xs = omega (arith, length-levels_onto xs [])

-- where that one has no values
pub levels_of-new : (xs front : List CodeLevel) (x : CodeLevel) → xs ≡ front ++ x ∷ [] → x.so_far.items ≡ [] → levels_of xs ≡ level x.place [] ∷ levels_of front
levels_of-new xs front x e none = rw (levels_of-last xs front x e, none) refl
