-- What other crates may cite of the proofs here. A lemma that speaks of the arithmetic k of a field takes it, that it has the
-- laws of a field, and then the rows, the kinds and the pairs that it is about.

-- ---- values by kinds

-- the values on critical cells: how many, that they are a vector, and those of zeros
pub use Rattle.split_laws.proofs.Parts.{part-long, part-vector, part-zeros}
-- zeros are zero on uppers
pub use Rattle.split_laws.proofs.Parts.{none-zeros}
-- values spread over the critical cells: their number, elements, zero on uppers and on lowers, and the values themselves
pub use Rattle.split_laws.proofs.Parts.{spread_long, spread_elements, spread_none, spread_none_low, spread_own}
-- a and s times 0 is a
pub use Rattle.split_laws.proofs.Parts.{plus_none}
-- an entry of a boundary is a product with a row
pub use Rattle.split_laws.proofs.Fields.{boundary_at}
-- ---- substitution along pairs

-- it keeps the length, takes the values that are wanted at the uppers, and leaves what is no lower
pub use Rattle.split_laws.proofs.Settle.{settle_long, settle_meets, settle_outside}
-- what it gives is a vector
pub use Rattle.split_laws.proofs.Fields.{settled-vector}
-- the pairs of a field give a split; substitution gives the extension, the flow and the clearing
pub use Rattle.split_laws.proofs.Fields.{split_of_field, extended, flowed, cleared}
-- there is one extension
pub use Rattle.split_laws.proofs.Solved.{extension_is_one}
