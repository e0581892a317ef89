-- What contracts mean: Poset, Below, Reader, Text, Signs, Laws.
-- What the code keeps for itself: Tops, and lead and facet_texts of Text.
-- Words of lower crates that these speak of stand at the end.
pub mod Poset
pub mod Below
pub mod Reader
pub mod Tops
pub mod Text
pub mod Signs
pub mod Laws
pub use Rattle.number_lists.specs.Words
pub use Rattle.number_lists.specs.Cofaces
pub use Rattle.gap_text.specs.Value
pub use Rattle.gap_text.specs.Reading
pub use Rattle.gap_text.specs.Nest
pub use Rattle.hap_outside.specs.Causes
pub use Rattle.hap_outside.specs.Writes
