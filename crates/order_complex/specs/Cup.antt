-- The cup product of Alexander and Whitney on the order complex. `F` is the arithmetic of a field.
--   cup_at F i chains_i x chains_j y chain    x on the first i + 1 cells of a chain times y on its cells from the i-th on
--   cup F space i x j y                       the product of cochains of degrees i and j
--   IsProduct F space i x j y zs cs           cs are the coefficients of the product in a basis zs, modulo coboundaries
use Rattle.std.specs.Prelude.{ℕ, suc, ◌+◌, List, map, take, drop}
use Rattle.small_field.specs.Field.{Ops}
use Rattle.face_poset.specs.Poset.{Layers}
use Rattle.order_complex.specs.Chains.{chains_of}
use Rattle.order_complex.specs.Cochains.{value}
use Rattle.order_complex.specs.Homology.{IsClass}

-- x on the first i + 1 cells of a chain times y on its cells from the i-th on, counted from 0; the cell i is in both
abbrev pub cup_at : Ops → (i : ℕ) → (chains_i : List (List ℕ)) → List ℕ → (chains_j : List (List ℕ)) → List ℕ → (chain : List ℕ) → ℕ
cup_at F i chains_i x chains_j y chain = F.mul (value chains_i x (take (suc i) chain)) (value chains_j y (drop i chain))

-- the product of cochains of degrees i and j
abbrev pub cup : Ops → Layers → (i : ℕ) → List ℕ → (j : ℕ) → List ℕ → List ℕ
cup F space i x j y = map (cup_at F i (chains_of space i) x (chains_of space j) y) (chains_of space (i + j))

-- an entry of the cup table: the coefficients of the product, in a basis zs of degree i + j, modulo coboundaries
abbrev pub IsProduct : Ops → Layers → (i : ℕ) → List ℕ → (j : ℕ) → List ℕ → List (List ℕ) → (coefficients : List ℕ) → Type 0
IsProduct F space i x j y zs coefficients = IsClass F space (i + j) zs coefficients (cup F space i x j y)
