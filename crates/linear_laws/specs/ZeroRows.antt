-- Rows that are not zero, among rows of zeros. Rows have n numbers, places count from 0.
--   nonzero_rows rows                 the rows that are not zero, in their order
--   nonzero_places rows               their places, increasing
--   places_from p rows                these places, where the first row stands at the place p
--   put_rows places rows old          the rows `old`, with these rows at these places
--   among_zeros n count places rows   so many rows of n numbers: these rows at these places, and zeros elsewhere
--   ZeroRowsLaws k                    the rows that are not zero, at their places among zeros, are all rows; and rows of zeros change
--                                     no rank: a reduced form of the rows that are not zero gives one of all, with as many pivots
use Rattle.std.specs.Prelude.{◌≡◌, ℕ, ◌+◌, List, [], ◌∷◌, ◌++◌, cond, filter, length, replicate, set}
use Rattle.small_field.specs.Field.{Ops}
use Rattle.linear_laws.specs.Vectors.{IsMatrix}
use Rattle.linear_laws.specs.Echelon.{is_nonzero, IsReducedTo}

abbrev pub nonzero_rows : List (List ℕ) → List (List ℕ)
nonzero_rows rows = filter is_nonzero rows

abbrev pub places_from : (p : ℕ) → List (List ℕ) → List ℕ
places_from p [] = []
places_from p (r ∷ rows) = cond (is_nonzero r) (p ∷ []) [] ++ places_from (p + 1) rows

abbrev pub nonzero_places : List (List ℕ) → List ℕ
nonzero_places rows = places_from 0 rows

abbrev pub put_rows : (places : List ℕ) → (rows old : List (List ℕ)) → List (List ℕ)
put_rows [] rows old = old
put_rows (p ∷ places) [] old = old
put_rows (p ∷ places) (r ∷ rows) old = put_rows places rows (set old p r)

abbrev pub among_zeros : (n count : ℕ) → (places : List ℕ) → (rows : List (List ℕ)) → List (List ℕ)
among_zeros n count places rows = put_rows places rows (replicate count (replicate n 0))

pub record ZeroRowsLaws (k : Ops) : Type 0 where
  pub again : (n : ℕ) (rows : List (List ℕ)) → IsMatrix k n rows → among_zeros n (length rows) (nonzero_places rows) (nonzero_rows rows) ≡ rows
  pub rank : (n rank : ℕ) (rows after : List (List ℕ)) → IsMatrix k n rows → IsReducedTo k n rank n (nonzero_rows rows) after
      → (form : List (List ℕ)) × IsReducedTo k n rank n rows form
