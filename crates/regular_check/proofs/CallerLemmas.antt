-- What other crates may cite of the proofs here.

-- ---- regular spaces

-- a space is regular where each cell keeps the rules
pub use Rattle.regular_check.proofs.RegularParts.{regular_from}
-- ---- copies

-- some cells of one space, with all their faces, stand in another as well
pub use Rattle.regular_check.proofs.Transfer.{IsCopy}
-- an edge, a 2-cell and a 3-cell keep the rules where their copies keep them
pub use Rattle.regular_check.proofs.Transfer.{edge_copied, disk_copied, solid_copied}
