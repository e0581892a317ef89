-- All of it is meaning for contracts: Asked (a command as a value), Table (what words ask for), Ranges, Line (the command
-- line of `clap`), Texts (numbers), Reads (what a reader answers) and Laws (words for each command, laws of the reading).
pub mod Line
pub mod Texts
pub mod Asked
pub mod Table
pub mod Reads
pub mod Ranges
pub mod Laws
pub use Rattle.sheet_tables.specs.Positions
pub use Rattle.sheet_tables.specs.Spots
pub use Rattle.small_field.specs.Modulus
