use Rattle.std.proofs.Common.{arith}
use Rattle.face_poset.specs.Poset.{count, facets_of}
use Rattle.regular_check.proofs.Cells.{facets-cell}
use Rattle.regular_check.proofs.Distinct.{cell-In}
use Rattle.regular_check.proofs.RegularParts.{edges_kept, disks_kept, regular_parts}
use Rattle.regular_check.proofs.Rounds.{cycle_goes}
use Rattle.regular_check.proofs.laws.cycles_go_round.Goals as goal

pub returns : goal.returns
returns c space cell valid regular low high =
    let parts = regular_parts space regular in
    let kept = disks_kept space parts.1 cell low high in
    let is = facets-cell space 2 cell (count space 1) valid (omega arith) low high (omega arith) in
    cycle_goes space (facets_of space 2 cell)
    (record { valid = valid; cell = is; ends = λ e m. let w = cell-In (count space 1) (facets_of space 2 cell) is e m in edges_kept space parts.0 e w.0 w.1; twice = kept.0; one = kept.1 })
