-- What contracts mean: Reading (the certificate of a text, or its first fault), Laws. Steps of it: Picks. How the
-- code reads: Taking, Steps.
-- Words of lower crates that these speak of stand at the end.
pub mod Picks
pub mod Taking
pub mod Reading
pub mod Steps
pub mod Laws
pub use Rattle.certificates.specs.Forms
pub use Rattle.certificates.specs.Cert
pub use Rattle.certificates.specs.Texts
pub use Rattle.certificates.specs.WellFormed
pub use Rattle.cert_lines.specs.Readers
pub use Rattle.cert_lines.specs.Taken
