-- What other crates may cite of the proofs here.

-- ---- odd coordinates, and the dimension of a tuple

-- what an odd coordinate and an even one leave by division by two
pub use Rattle.tuple_spaces.proofs.OddCoordinates.{odd-is, even-is}
-- the dimension of a tuple by its first coordinate: whatever it is, where it is odd, where it is even
pub use Rattle.tuple_spaces.proofs.OddCoordinates.{dim-cons, odd_dim, even_dim}
-- tuples that pass the test of being the same are the same, and each passes with itself
pub use Rattle.tuple_spaces.proofs.OddCoordinates.{same-eq, eq-same}
-- ---- a space in the making

-- a fact at each dimension from 0 to 3
pub use Rattle.tuple_spaces.proofs.MakingLemmas.{by_dim}
-- with one cell more, with another part that is the same, how many cells stand below, and the space at the end
pub use Rattle.tuple_spaces.proofs.MakingLemmas.{made-more, made-same, made-below, made-all}
-- ---- lists

-- maps by functions that agree at the members
pub use Rattle.tuple_spaces.proofs.ListLemmas.{map_same}
-- a list without members; a member of two that stand there or not
pub use Rattle.tuple_spaces.proofs.ListLemmas.{none_in, two_of}
-- the items where bits are 1: of a mapped list, and where they come from
pub use Rattle.tuple_spaces.proofs.ListLemmas.{where-map, where-In}
-- ---- ranges of numbers

-- one number more, from any number on, from 0 on, and those that pass
pub use Rattle.tuple_spaces.proofs.ListLemmas.{range-next, range-more, filter-next}
-- the numbers below n are the members of the range from 0 on
pub use Rattle.tuple_spaces.proofs.ListLemmas.{In-below, below-In}
-- rows of the same length, one after another
pub use Rattle.tuple_spaces.proofs.ListLemmas.{rows_joined}
