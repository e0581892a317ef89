mod CellLemmas
mod CutLemmas
mod Digits
mod KindLemmas
mod LineLemmas
mod PlacedSaid
mod PlacedWords
mod ShapeLemmas
mod SpotLemmas
mod SpotTexts
mod TableLemmas
mod TableRows
mod TakenLemmas
mod WordLemmas
pub mod CallerLemmas
