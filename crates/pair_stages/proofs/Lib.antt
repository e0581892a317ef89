pub mod CallerLemmas
mod Closed
mod ColumnLemmas
mod Complexes
mod Cuts
mod Filling
mod Flows
mod Indexed
mod KindLemmas
mod Matching
mod Pairwise
mod Placed
mod Rows
mod Searched
mod SignedLemmas
mod Sparse
mod UnitLemmas
mod Viewed
