-- What contracts mean: Kinds (which line it is), Listed (its numbers and lists), Tables (its spot and its table), Readers
-- (lines one after another), Taken (a line that is taken). How the code reads: Pieces, Shapes, Widths.
-- Words of lower crates that these speak of stand at the end.
pub mod Pieces
pub mod Shapes
pub mod Kinds
pub mod Listed
pub mod Tables
pub mod Readers
pub mod Taken
pub mod Widths
pub use Rattle.certificates.specs.Cert
pub use Rattle.certificates.specs.Forms
pub use Rattle.certificates.specs.WellFormed
