mod Bounds
mod Reduction
mod SignedRows
