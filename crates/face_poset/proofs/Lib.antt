mod BelowLaw
mod BelowLemmas
pub mod CallerLemmas
mod CofaceLaw
mod Each
mod Facets
mod LayerLemmas
mod ReadBack
mod SpaceLemmas
mod Spelling
mod TextLemmas
mod Values
