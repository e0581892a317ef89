-- What the contracts mean: Fields and Laws.
pub mod Fields
pub mod Laws
