-- What contracts mean: Forms (what a line says, with Plain and Placed), Cert (a certificate as plain data), Texts (its text),
-- WellFormed. Steps of these: Numbers, Tokens, Parts, Degrees. How the code writes: Written.
-- Words of lower crates that these speak of stand at the end.
pub mod Numbers
pub mod Tokens
pub mod Parts
pub mod Plain
pub mod Placed
pub mod Forms
pub mod Degrees
pub mod Cert
pub mod Texts
pub mod WellFormed
pub mod Written
pub use Rattle.hap_outside.specs.Causes
pub use Rattle.hap_outside.specs.Writes
