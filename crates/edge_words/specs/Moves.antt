-- The inverses of the columns of a table; as in Labels.
--   inverse_column c m cells g  for each sheet its row in a column
--   inverse_columns c m cells   those of all columns
use Rattle.std.specs.Prelude.{ℕ, List, map}
use Rattle.number_lists.specs.Words.{upto}
use Rattle.sheet_laws.specs.Permutations.{back, values}
use Rattle.sheet_laws.specs.Tables.{column}

abbrev pub inverse_column : (c m : ℕ) → List ℕ → (g : ℕ) → List ℕ
inverse_column c m cells g = values m (back (column c m cells g))

abbrev pub inverse_columns : (c m : ℕ) → List ℕ → List (List ℕ)
inverse_columns c m cells = map (inverse_column c m cells) (upto c)
