-- What the contracts mean: Answers, Arcs, and Bits but for IsAppended, which the code keeps for itself.
-- Words of lower crates that these speak of stand at the end.
pub mod Answers
pub mod Bits
pub mod Arcs
pub use Rattle.gap_text.specs.Value
pub use Rattle.gap_text.specs.Nest
