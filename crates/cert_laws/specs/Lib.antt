-- What the contracts mean: Tests, Accepted, Migrated and Laws.
pub mod Tests
pub mod Accepted
pub mod Migrated
pub mod Laws
