use Rattle.std.proofs.Common.{◌≡◌, take}
use Rattle.cover_space.specs.Making.{numbers_in}
use Rattle.cover_space.proofs.closed.list_numbers.Given as goal

abbrev pub invariant-loop-index : goal.invariant-loop-index
invariant-loop-index l = l.numbers.items ≡ numbers_in (take l.index l.cells) l.dim
