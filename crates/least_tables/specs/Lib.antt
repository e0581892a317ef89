-- The contracts of public calls speak of words of sheet_laws and live_laws alone. What the code keeps for itself: Numberings, Smaller.
pub mod Numberings
pub mod Smaller
pub use Rattle.live_laws.specs.Live
pub use Rattle.sheet_laws.specs.Tables
