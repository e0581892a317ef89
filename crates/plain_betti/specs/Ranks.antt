-- The rank of a coboundary. F is the arithmetic of a field.
--   IsRank F chains next rank   the rows of the coboundary from chains to next have a reduced row echelon form with so many pivots
use Rattle.std.specs.Prelude.{ℕ, List, length}
use Rattle.small_field.specs.Field.{Ops}
use Rattle.linear_laws.specs.Echelon.{IsReducedTo}
use Rattle.order_complex.specs.Ranks.{rows_on}

abbrev pub IsRank : Ops → (chains next : List (List ℕ)) → (rank : ℕ) → Type 0
IsRank F chains next rank = (reduced : List (List ℕ)) × IsReducedTo F (length next) rank (length next) (rows_on F chains next) reduced
