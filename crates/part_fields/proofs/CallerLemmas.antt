-- What other crates may cite of the proofs here.

-- a pair of a component: its cells are cells of it
pub use Rattle.part_fields.proofs.Members.{MemberPair, member_pair}
