-- What other crates may cite of the proofs here. Most lemmas take the lists of a space, and then that it is one.

-- ---- cells by dimension, number and id

-- the dimension and the number of an id
pub use Rattle.local_field.proofs.FlagLaw.{dim-id, number-id}
-- facets are a cell's, are there, and the first is one of them
pub use Rattle.local_field.proofs.FlagLaw.{facets-cell, facet-range, first-In}
-- a facet is below its cell
pub use Rattle.local_field.proofs.FlagLaw.{facet-below}
-- ids of cells that are there, and that cells with one id are one
unfoldable pub use Rattle.local_field.proofs.Cells.{InRange}
pub use Rattle.local_field.proofs.Cells.{id-range, id-same}
-- ---- towers as chains

-- a tower whose top is there is a chain, with this number
pub use Rattle.local_field.proofs.ChainTowers.{IsRoom, IsNumber, tower-chain, numbered-chain, tower-number}
-- ---- flags

-- they are towers that are there, and chains, whose last cell is the cell
pub use Rattle.local_field.proofs.Orders.{room, number, top-number}
-- there are as many numbers of flags as cells
pub use Rattle.local_field.proofs.Orders.{many}
-- the lower of a pair inside a cell is shorter than a full tower
pub use Rattle.local_field.proofs.AllCells.{lower-short}
-- ---- collapses

-- a regular space has some for all its 3-cells
pub use Rattle.local_field.proofs.Choices.{some-collapse}
