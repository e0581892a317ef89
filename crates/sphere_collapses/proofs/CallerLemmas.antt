-- What other crates may cite of the proofs here.

-- ---- collapses

-- a free pair: both cells are there, no other cell has the lower as a facet, and none the upper
pub use Rattle.sphere_collapses.proofs.Frees.{IsFree, is-free}
-- what is left without a pair is what was there but for its two cells
pub use Rattle.sphere_collapses.proofs.Frees.{without-inside, without-not, In-without}
-- the test tells whether two cells are the same
pub use Rattle.sphere_collapses.proofs.Frees.{same-cell, cell-same}
-- ---- regular spaces

-- each edge of a regular space has two ends
pub use Rattle.sphere_collapses.proofs.Kept.{two_ends_kept}
-- ---- lists

-- a list of numbers each two of which differ
pub use Rattle.sphere_collapses.proofs.Apart.{distinct-from}
-- ---- places and trees

-- a member of an increasing list has a place in it, and no two places hold one number
pub use Rattle.sphere_collapses.proofs.Linked.{place_in, place_once}
-- edges by the places of their ends in a list of vertices: links, and their two ends
pub use Rattle.sphere_collapses.proofs.Linked.{ends_link, from_vertex, to_vertex}
-- what a tree has taken is of so many nodes, along so many links
pub use Rattle.sphere_collapses.proofs.Trees.{tree_placed, holds-reverse}
