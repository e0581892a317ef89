use Rattle.std.proofs.Common.{◌≡◌, drop}
use Rattle.pair_stages.specs.Columns.{coefficient}
use Rattle.pair_stages.proofs.columns.coefficient_in.Given as goal

abbrev pub invariant-loop-index : goal.invariant-loop-index
invariant-loop-index l = coefficient (drop l.index l.cells) (drop l.index l.values) l.cell ≡ coefficient l.cells l.values l.cell
