mod CoverEnds
mod Ends
mod Examples
mod Stages
mod Texts
