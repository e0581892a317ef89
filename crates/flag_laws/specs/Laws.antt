-- What is left of the order complex of a regular space when the chains inside each cell are paired. space is the lists
-- of a regular space, negative dim cell facet tells whether the sign of a facet of a cell is -1; field is that of the
-- pairs inside all cells, F the arithmetic of a field.
--   flag_rows F space negative degree          the rows of the cells with their signs, numbered by their flags
--   FlagsReduceToCells F                       these are the reduced rows of the chains
--   cell_rows_into F space negative degree     the rows of the cells with their signs into a degree; none into degree 0
--   CellsHaveTheBettiNumbers F                 a basis of the cocycles of the cells modulo coboundaries has as many members
--                                              as one of the whole order complex
use Rattle.std.specs.Prelude.{ℕ, zero, suc, ◌+◌, ◌≤◌, List, [], Bool, length}
use Rattle.face_poset.specs.Poset.{Layers, IsSpace, count}
use Rattle.small_field.specs.Field.{Ops}
use Rattle.vector_field.specs.Pairs.{Field}
use Rattle.order_complex.specs.Chains.{chains_of}
use Rattle.order_complex.specs.Homology.{IsBetti}
use Rattle.order_complex.specs.Ranks.{rows_of}
use Rattle.linear_laws.specs.Betti.{IsCohomologyBasis}
use Rattle.cell_signs.specs.Oriented.{IsOriented}
use Rattle.regular_check.specs.Rules.{IsRegular}
use Rattle.split_laws.specs.declared.kind.Kind.{Kind}
use Rattle.split_laws.specs.Solutions.{IsReducedBy}
use Rattle.pair_stages.specs.Signed.{signed_rows, AreKinds}
use Rattle.local_field.specs.Numbered.{IsLocalField}
use Rattle.local_field.specs.Flags.{flags_of, negative_in}

abbrev pub flag_rows : Ops → Layers → (negative : ℕ → ℕ → ℕ → Bool) → (degree : ℕ) → List (List ℕ)
flag_rows F space negative degree =
    signed_rows F (flags_of space negative).space (negative_in (flags_of space negative).minus) degree

abbrev pub FlagsReduceToCells : Ops → Type 0
FlagsReduceToCells F =
    (space : Layers) (negative : ℕ → ℕ → ℕ → Bool) (field : Field) (degree : ℕ) (kinds next : List Kind)
    → IsSpace space
    → IsRegular space
    → IsOriented space negative
    → IsLocalField space field
    → degree ≤ 3
    → AreKinds field.pairs degree (length (chains_of space degree)) kinds
    → AreKinds field.pairs (suc degree) (length (chains_of space (suc degree))) next
    → IsReducedBy F (length (chains_of space degree)) (length (chains_of space (suc degree)))
    (rows_of F space degree) kinds next (flag_rows F space negative degree)

abbrev pub cell_rows_into : Ops → Layers → (negative : ℕ → ℕ → ℕ → Bool) → (degree : ℕ) → List (List ℕ)
cell_rows_into F space negative zero = []
cell_rows_into F space negative (suc degree) = signed_rows F space negative degree

abbrev pub CellsHaveTheBettiNumbers : Ops → Type 0
CellsHaveTheBettiNumbers F =
    (space : Layers) (negative : ℕ → ℕ → ℕ → Bool) (degree : ℕ) (zs : List (List ℕ))
    → IsSpace space
    → IsRegular space
    → IsOriented space negative
    → degree ≤ 3
    → IsCohomologyBasis F (count space (degree + 1))
    (cell_rows_into F space negative degree) (signed_rows F space negative degree) zs
    → IsBetti F space degree (length zs)
