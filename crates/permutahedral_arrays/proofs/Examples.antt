-- The definitions on worked examples. The places are those of the bytes of the text beside each.
use Rattle.std.proofs.Common.{◌≡◌, ℕ, List, [], ◌∷◌, Result, Ok, Err, map, length, refl}
use Rattle.gap_text.specs.Value.{number, list, none, more}
use Rattle.array_values.specs.declared.fault.ArrayFault.{ArrayFault}
use Rattle.permutahedral_arrays.specs.Permutahedra.{permutahedral_of}

-- how many cells a space has in each dimension
abbrev counted : Result (List (List (List ℕ))) ArrayFault → List ℕ
counted (Ok space) = map length space
counted (Err fault) = []

-- [[0,1],[1,0]]
pub two_points : counted (permutahedral_of (list 0 (more (list 1 (more (number 2 0) (more (number 4 1) none))) (more (list 7 (more (number 8 1) (more (number 10 0) none))) none))))
    ≡ 12 ∷ 12 ∷ 2 ∷ 0 ∷ []
two_points = refl

-- [[[1]]]
pub one_point : counted (permutahedral_of (list 0 (more (list 1 (more (list 2 (more (number 3 1) none)) none)) none))) ≡ 24 ∷ 36 ∷ 14 ∷ 1 ∷ []
one_point = refl
