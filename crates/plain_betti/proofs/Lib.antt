mod ByRanks
mod Coboundaries
mod Filling
mod Markings
mod Reductions
