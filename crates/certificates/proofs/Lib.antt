mod Examples
mod FormLemmas
mod LineLemmas
mod ListLemmas
mod NumberLemmas
mod PartLemmas
mod PlaceLemmas
mod PlacedLemmas
mod PlainLemmas
mod Sequences
mod Somes
mod TextLemmas
mod Words
pub mod CallerLemmas
