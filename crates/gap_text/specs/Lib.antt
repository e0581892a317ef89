-- What contracts mean: Value, Nest, Tokens, Reading, Grammar, Places.
-- What the code keeps for itself: Code, Falls, States, Readers.
pub mod Value
pub mod Code
pub mod Nest
pub mod Falls
pub mod Tokens
pub mod Places
pub mod Reading
pub mod Grammar
pub mod States
pub mod Readers
