-- What other crates may cite of the proofs here. The words stand in specs/; constructors of Joins, Chain and Grown too.

-- ---- words in letters

-- a letter put before a reduced word and then the letter that undoes it leave the word
pub use Rattle.pair_laws.proofs.Reduction.{undo}
-- what `reduced` gives is reduced, and a reduced word stays
pub use Rattle.pair_laws.proofs.Reduction.{reduced_is, stays_reduced}
-- a word may be reduced in parts; the inverse reduces to the inverse; a letter put after a reduced word
pub use Rattle.pair_laws.proofs.Reduction.{reduced_append, reduced_inverted, after_is}
-- the reduced word between two others with which it reduces to nothing
pub use Rattle.pair_laws.proofs.Reduction.{forced_unique}
-- a walk by letters that undo each other ends alike for a word and for its reduced word
pub use Rattle.pair_laws.proofs.Reduction.{follow_reduced}
-- the inverse of a letter is a letter, and its inverse is the letter; letters of two words joined, of the inverse, of the reduced word
pub use Rattle.pair_laws.proofs.Reduction.{letter_inverse, inverse_twice, letters, letters_inverted, are_letters-reduced}
-- ---- pairs of one dimension

-- of ranked pairs one comes before all
pub use Rattle.pair_laws.proofs.Ranks.{never_stuck}
-- pairs in order are ranked by their places
pub use Rattle.pair_laws.proofs.Ranks.{ordered_ranked}
-- ranked pairs, no two with one lower, are all arranged, in order, and in any case no lower twice; what is arranged is there
pub use Rattle.pair_laws.proofs.Ranks.{arranged_is, arranged_once, arranged-inside}
-- the first of pairs in order comes before the others, and these are in order
pub use Rattle.pair_laws.proofs.Ranks.{ordered_head, ordered_tail}
-- who comes before some pairs comes before fewer; the lower of a pair of the list is a lower; another facet is not the lower
pub use Rattle.pair_laws.proofs.Ranks.{before-inside, member_lower, other-is}
-- what passes from the other facets of each upper to its lower, and holds of all others that are no lowers, holds of each lower: the
-- induction along pairs in order, for any predicate `flat : ℕ → Type 0`
pub use Rattle.pair_laws.proofs.Sections.{all-flat}
-- without one of the cells its facets have one cell less
pub use Rattle.pair_laws.proofs.Counts.{count_falls}
-- ---- paths, chains, walks

-- paths joined, turned round, and with each edge replaced by a path
pub use Rattle.pair_laws.proofs.Joins.{joins-trans, joins-sym, joins-through}
-- chains joined, cut, and the first step of one
pub use Rattle.pair_laws.proofs.Joins.{chain-append, chain-split, chain-head}
-- a closed chain less one step
pub use Rattle.pair_laws.proofs.Joins.{opened}
-- walks joined; a step and a walk take sheets to sheets, and no two to one
pub use Rattle.pair_laws.proofs.Joins.{walk-append, step-is, step-same, walk-same}
-- a step along a flat edge, a walk along flat edges, the one edge of a cycle that is left is flat
pub use Rattle.pair_laws.proofs.Joins.{flat-step, flat_walk, flat_forced}
-- sheets along a tree, along pairs in order, along a simple set of edges
pub use Rattle.pair_laws.proofs.Sections.{grown_flat, ordered_flat, simple_walks, simple_closes}
-- ---- trees

-- what a grown tree has taken: the root, and both ends of each link; no node and no link twice; one node more than links
pub use Rattle.pair_laws.proofs.Tree.{root_taken, ends_taken, grown_distinct, nodes_distinct, grown_length}
-- distinct numbers of a list are no more than it has, and where they are as many, all of it
pub use Rattle.pair_laws.proofs.Tree.{no_more, all_of}
-- where links join all nodes to the root there is a tree
pub use Rattle.pair_laws.proofs.Tree.{tree_exists}
-- the edges along a path are a tree
pub use Rattle.pair_laws.proofs.Round.{cycle_tree}
-- the tree of 2-cells is in order; a sphere has both trees
pub use Rattle.pair_laws.proofs.Sphere.{dual_ordered, sphere_has_trees}
-- ---- distances

-- a step leads from a nearer number; what so many rounds reach is what steps lead to
pub use Rattle.pair_laws.proofs.Distance.{nearer_is, reached, within-reach}
-- ---- lists

-- the first element that passes: it is there and passes; where there is none, no element passes
pub use Rattle.pair_laws.proofs.Lists.{find-some, find-none}
-- a filter that leaves an element out is shorter
pub use Rattle.pair_laws.proofs.Lists.{filter-less}
