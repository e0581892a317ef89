mod Appending
pub mod CallerLemmas
mod Gathering
mod OpenEntry
mod PieceTexts
mod Writing
