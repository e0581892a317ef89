mod AllLineLemmas
mod Examples
mod LineLemmas
mod RowLemmas
