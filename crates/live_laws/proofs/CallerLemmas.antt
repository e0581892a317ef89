-- What other crates may cite of the proofs here.

-- ---- lists in order

-- the numbers from a on are std's; the lists of full length in the tree are all lists of that length, in the same order
pub use Rattle.live_laws.proofs.Trees.{from-range, length-from}
pub use Rattle.live_laws.proofs.Orders.{full_are_lists}
-- `precedes` is a strict order; where two lists first differ decides; of two lists of one length one precedes, or they are the same
pub use Rattle.live_laws.proofs.Orders.{precedes-self, precedes-back, precedes-trans, first_smaller, first_greater, one_comes_first}
-- what a walk has left: the tree below, cut by a test, and the four moves
pub use Rattle.live_laws.proofs.Trees.{after}
pub use Rattle.live_laws.proofs.Steps.{steps_down, steps_on, steps_up, steps_out}
-- ---- live partial tables

-- walks stay, beginnings are sound, one cell more
pub use Rattle.live_laws.proofs.Sound.{trace_stays, sound_closed, sound_more, follows-append}
pub use Rattle.live_laws.proofs.Bound.{unmentioned, one_cell_more}
-- the live ones are the sound ones of the tree, found by going down where cells are sound; what is left after some cells
pub use Rattle.live_laws.proofs.Left.{descend, live-sound, live_is_left}
-- their order, those after one of them, two runs, how many there are
pub use Rattle.live_laws.proofs.Resume.{live_in_order, live_resumes, runs_join}
pub use Rattle.live_laws.proofs.Bound.{live_at_most}
-- the greatest sheet that has appeared, and what stands in a column already
pub use Rattle.live_laws.proofs.Appearing.{appeared-seen, appeared-above, appeared-below, appeared-append, IsTaken, taken-some}
-- ---- whole tables

-- what a table is: its length, its columns, its cells, and where they stand
pub use Rattle.live_laws.proofs.Whole.{table-long, table-column, at-column, cell-range, place-below, entry-is}
-- the row and the column of a place; tables with the same cells are the same
pub use Rattle.live_laws.proofs.Classes.{IsPlaced, placed, same-cells}
-- each walk is traced, and leads where `follow` does
pub use Rattle.live_laws.proofs.Whole.{led-is, move-range, trace-is, full_walks_follow}
-- ---- renumbered tables

-- their length, their cells, and that they are tables
pub use Rattle.live_laws.proofs.Classes.{length-renumbered, renumbered-cell, renumbered-table}
-- renumbered twice; any two renumberings of a table are renumberings of each other
pub use Rattle.live_laws.proofs.Classes.{after_both, after-permutes, renumbered-twice, between}
-- one of them is least
pub use Rattle.live_laws.proofs.Classes.{class_has_one_least}
-- least and transitive, and first appearance
pub use Rattle.live_laws.proofs.Appearing.{least_appears}
pub use Rattle.live_laws.proofs.Connected.{appearing_is_transitive}
-- the exchange of two sheets
pub use Rattle.live_laws.proofs.Turned.{exchange, exchange-first, exchange-second, exchange-other, turn_exchange}
