-- What other crates may cite of the proofs here. Where a lemma takes `CyclesGoRound`, hand it the clause of regular_check's law.

-- ---- permutations

-- a function that permutes the numbers from 1 to m: the identity, one after another, the inverse
pub use Rattle.sheet_laws.proofs.Permutations.{Turn, turn_id, turn_then, turn_back, turn-once}
-- what a permutation is as a list, and as a function, and its inverse
pub use Rattle.sheet_laws.proofs.Permutations.{Parts, parts-of, from-parts, turn_of, back_turn, back-of-at, at-of-back}
-- each number from 1 to m is a value; where a number stands in a list
pub use Rattle.sheet_laws.proofs.Permutations.{all_there, back-range, at-back, back-at, at-range}
-- the values of a function: at a place, of one that takes none twice, of a permuting one, and where a value stands
pub use Rattle.sheet_laws.proofs.Permutations.{at_values, values_permute, list_of, back_values}
-- lists of m numbers with the same values are the same; the identity
pub use Rattle.sheet_laws.proofs.Permutations.{same_turns, identity_permutes, at_identity, back_identity}
-- lists without repetition
pub use Rattle.sheet_laws.proofs.Permutations.{distinct-head, distinct-tail, distinct-cons, distinct-range, distinct-filter}
-- ---- tables

-- each list of numbers from 1 to m is among all of them, each permutation among the renumberings; the test for least tables
pub use Rattle.sheet_laws.proofs.Leasts.{In-lists, In-renumberings, least_is_exact}
-- ---- walks

-- walks joined, walks by labels that agree, what it is to close
pub use Rattle.sheet_laws.proofs.Walks.{AreWithin, walk-append, walk-agree, closes-at, closes-from}
-- steps and walks take sheets to sheets, and no two to one; a walk round from any of its steps
pub use Rattle.sheet_laws.proofs.Walks.{label-permutes, step-into, step-once, walk-into, walk-once, rotated, from-rotated}
-- the steps of a cycle, cut at an edge
pub use Rattle.sheet_laws.proofs.Rounds.{IsCutAt, cut_at, IsRound, round-of}
pub use Rattle.sheet_laws.proofs.Lifts.{cut, within, cut-others}
-- ---- what a field does with cells

-- the two ends of an edge
pub use Rattle.sheet_laws.proofs.Cells.{Ends, ends-two, ends-of}
-- an edge is critical, or paired with a vertex, or with a 2-cell, and only one of these
pub use Rattle.sheet_laws.proofs.Cells.{HasPair, edge-kinds, tree-no_lower, critical-no_lower, critical-no_tree, critical-range}
-- induction along a field over all edges, and over all vertices
pub use Rattle.sheet_laws.proofs.Cells.{over-edges, over-vertices}
-- ---- lifts

-- two lifts of a table are the same; the computed one is one
pub use Rattle.sheet_laws.proofs.Lifts.{one_lift, is_lift, lift_is_one}
-- ---- connected labels

-- what is joined: one after another, turned round, along an edge
pub use Rattle.sheet_laws.proofs.Joined.{joined-then, joined-turned, joined-forth, joined-back, connected_is_exact}
-- the numbers of sheets over vertices
pub use Rattle.sheet_laws.proofs.Joined.{number-range, number-split, IsNumber, same_vertex, same_sheet}
-- a lift is connected exactly where its table is transitive
pub use Rattle.sheet_laws.proofs.Transitive.{lifts_are_connected}
