use Rattle.std.proofs.Common.{◌≡◌, ◌≤◌, All, take}
use Rattle.small_field.specs.Values.{entries_from}
use Rattle.small_field.proofs.cochain.Cochain.sparse.Given as goal

abbrev pub invariant-loop-index : goal.invariant-loop-index
invariant-loop-index g l = (l.entries ≡ entries_from 1 (take l.index l.self)) × All (λ e. e.0 ≤ l.index) l.entries
