-- What other crates may cite of these proofs.

-- a map of numbers that changes no member of a list changes nothing
pub use Rattle.space_parts.proofs.Whole.{map_kept}
-- four lists made one after another: another part, one cell more, the next list; what stands above and below
pub use Rattle.space_parts.proofs.Stages.{parts_differ, made-more, made-end, made-above, made-below}
-- what holds of the dimensions 0 to 3
pub use Rattle.space_parts.proofs.Places.{by_dim}
-- ---- cells and their components

-- the facets of a cell are cells of its component; the component of a cell is one of the components
pub use Rattle.space_parts.proofs.Within.{facet_in, lies_within, component_in}
-- the cells of a component; a cell of the part comes from one of them, and each has a number in the part, its own
pub use Rattle.space_parts.proofs.Places.{IsMember, ComesFrom, comes_from, GoesTo, goes_to, place_once, part_low}
-- the facets of such a cell are such cells, and the part has their copies
pub use Rattle.space_parts.proofs.PartSpaces.{member_facet, part_space}
pub use Rattle.space_parts.proofs.PartCopies.{copies, part_regular}
-- the part has one component
pub use Rattle.space_parts.proofs.OneComponent.{part_whole}
-- the cell of the space from which one of the part comes; with one component all numbers stay
pub use Rattle.space_parts.proofs.Whole.{whole_is, all_first, place_kept, numbers_kept, part_is_space}
