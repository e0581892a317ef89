use Rattle.std.proofs.Common.{ℕ, List, subst, sym}
use Rattle.face_poset.specs.Poset.{IsSpace}
use Rattle.cell_signs.specs.Minus.{IsKept, signed_by_lists}
use Rattle.cell_signs.specs.Oriented.{negative_in}
use Rattle.cell_signs.specs.Along.{HasLowSigns, HaveHighSigns}
use Rattle.cell_signs.proofs.Listed.{kept, low_signs, high_signs}
use Rattle.cell_signs.proofs.oriented.Oriented.new.Goals as goal

pub invariant_of-result : goal.invariant_of-result
invariant_of-result c =
    subst (λ (space : List (List (List ℕ))). IsKept (signed_by_lists space c.in_ok-edges.edges c.in_ok-disks.disks c.in_ok-solids.solids)) (sym c.space-space.ensures.same)
    (kept c.args.regular.now c.in_ok-edges.edges c.in_ok-disks.disks c.in_ok-solids.solids c.cycles_go_round.ensures (subst IsSpace c.space-space.ensures.same c.cells-solids.ensures.valid) c.space-space.ensures.regular
    c.in_ok-edges.ensures c.in_ok-disks.ensures c.in_ok-solids.ensures)

pub returns-clause-oriented : goal.returns-clause-oriented
returns-clause-oriented c = (invariant_of-result c).oriented

pub returns-clause-low : goal.returns-clause-low
returns-clause-low c =
    subst (λ (space : List (List (List ℕ))). HasLowSigns space (negative_in (signed_by_lists space c.in_ok-edges.edges c.in_ok-disks.disks c.in_ok-solids.solids))) (sym c.space-space.ensures.same)
    (low_signs c.args.regular.now c.in_ok-edges.edges c.in_ok-disks.disks c.in_ok-solids.solids c.cycles_go_round.ensures (subst IsSpace c.space-space.ensures.same c.cells-solids.ensures.valid) c.space-space.ensures.regular
    c.in_ok-edges.ensures c.in_ok-disks.ensures c.in_ok-solids.ensures)

pub returns-clause-high : goal.returns-clause-high
returns-clause-high c =
    subst (λ (space : List (List (List ℕ))). HaveHighSigns space (negative_in (signed_by_lists space c.in_ok-edges.edges c.in_ok-disks.disks c.in_ok-solids.solids))) (sym c.space-space.ensures.same)
    (high_signs c.args.regular.now c.in_ok-edges.edges c.in_ok-disks.disks c.in_ok-solids.solids c.cycles_go_round.ensures (subst IsSpace c.space-space.ensures.same c.cells-solids.ensures.valid) c.space-space.ensures.regular
    c.in_ok-edges.ensures c.in_ok-disks.ensures c.in_ok-solids.ensures)
