-- What other crates may cite of the proofs here.
-- a closed cell has exactly the cells that are below
pub use Rattle.face_poset.proofs.BelowLaw.{closed_cell-least}
-- cells have no more facets together than there are cells below
pub use Rattle.face_poset.proofs.BelowLemmas.{facets_few}
-- the cofaces of a cell, read from the lists of all cofaces
pub use Rattle.face_poset.proofs.SpaceLemmas.{cofaces_at}
