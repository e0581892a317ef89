-- All of this is meaning for contracts; no code stands here. Words of lower crates that it speaks of stand at the end.
pub mod Laws
pub use Rattle.local_field.specs.Numbered
pub use Rattle.local_field.specs.Flags
pub use Rattle.pair_stages.specs.Signed
pub use Rattle.split_laws.specs.Kinds
pub use Rattle.split_laws.specs.Solutions
pub use Rattle.cell_signs.specs.Oriented
pub use Rattle.order_complex.specs.Chains
pub use Rattle.order_complex.specs.Ranks
