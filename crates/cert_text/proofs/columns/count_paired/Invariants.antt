use Rattle.std.proofs.Common.{◌≡◌, ◌≤◌, take}
use Rattle.certificates.specs.WellFormed.{paired}
use Rattle.cert_text.proofs.columns.count_paired.Given as goal

abbrev pub invariant-loop-index : goal.invariant-loop-index
invariant-loop-index l = record { found : l.found ≡ paired l.dim (take l.index l.pairs); within : l.found ≤ l.index }
