-- Splits. The coboundary of a degree with n cells into the next with m cells is given by its n rows of m numbers: the coboundary of
-- a cochain is the combination of the rows, the boundary of a chain its products with the rows. The kinds of the cells are ts and us.
--   IsSplit F n m rows ts us   the lowers and the uppers above them answer each other: some cochain on the lowers has a coboundary
--                              with any given values on the uppers, and some chain on the uppers has a boundary with any given values
--                              on the lowers
use Rattle.std.specs.Prelude.{◌≡◌, ℕ, List, length}
use Rattle.small_field.specs.Field.{Ops}
use Rattle.linear_laws.specs.Vectors.{boundary, combination, IsVector, IsMatrix}
use Rattle.split_laws.specs.Kinds.{Kind, ZeroOffLowers, ZeroOffUppers, AgreeOnLowers, AgreeOnUppers}

pub record IsSplit (F : Ops) (n m : ℕ) (rows : List (List ℕ)) (ts us : List Kind) : Type 0 where
  pub matrix : IsMatrix F m rows
  pub long : length rows ≡ n
  pub below : length ts ≡ n
  pub above : length us ≡ m
  pub settles : (t : List ℕ) → IsVector F m t → (y : List ℕ) × IsVector F n y × ZeroOffLowers ts y × AgreeOnUppers us (combination F m y rows) t
  pub carries : (t : List ℕ) → IsVector F n t → (z : List ℕ) × IsVector F m z × ZeroOffUppers us z × AgreeOnLowers ts (boundary F rows z) t
