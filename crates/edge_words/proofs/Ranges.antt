-- The test whether a number is one of those from 1 to n.
use Rattle.std.proofs.Common.{◌≡◌, ℕ, Bool, true, ◌&&◌}
use Rattle.std.specs.Prelude.{nat_le}
use Rattle.std.proofs.lemmas.Bool.{and_parts, and_from, leb-true, le-leb}
use Rattle.sheet_laws.specs.Permutations.{InRange}

abbrev pub in_range : (n x : ℕ) → Bool
in_range n x = nat_le 1 x && nat_le x n

pub range-true : (n x : ℕ) → in_range n x ≡ true → InRange n x
range-true n x e = let b = and_parts (nat_le 1 x) (nat_le x n) e in (leb-true 1 x b.0, leb-true x n b.1)

pub range-from : (n x : ℕ) → InRange n x → in_range n x ≡ true
range-from n x r = and_from (nat_le 1 x) (nat_le x n) (le-leb 1 x r.0) (le-leb x n r.1)
