-- The coboundaries as rows. `F` is the arithmetic of a field.
--   rows_on F chains next       what the coboundary of the mark of each chain takes on the chains of one degree more
--   rows_of F space degree      the rows of the coboundary of a degree
--   rows_into F space degree    the rows of the coboundary into a degree; none into degree 0
use Rattle.std.specs.Prelude.{ℕ, zero, suc, List, [], map}
use Rattle.small_field.specs.Field.{Ops}
use Rattle.face_poset.specs.Poset.{Layers}
use Rattle.order_complex.specs.Chains.{chains_of}
use Rattle.order_complex.specs.Cochains.{mark, coboundary_on}

-- what the coboundary of the mark of each chain takes on the chains of one degree more
abbrev pub rows_on : Ops → (chains next : List (List ℕ)) → List (List ℕ)
rows_on F chains next = map (λ b. coboundary_on F chains next (mark chains b)) chains

-- the rows of the coboundary of a degree, and of the one into a degree: none into degree 0
abbrev pub rows_of : Ops → Layers → (degree : ℕ) → List (List ℕ)
rows_of F space degree = rows_on F (chains_of space degree) (chains_of space (suc degree))

abbrev pub rows_into : Ops → Layers → (degree : ℕ) → List (List ℕ)
rows_into F space zero = []
rows_into F space (suc degree) = rows_of F space degree
