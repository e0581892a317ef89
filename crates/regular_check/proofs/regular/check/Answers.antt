use Rattle.std.proofs.Common.{rules, ◌≡◌, ◌++◌, ℕ, List, ◌∙◌, None}
use Rattle.std.specs.List.{flat_map}
use Rattle.std.proofs.lemmas.Result.{err_from_is_err_and}
use Rattle.number_lists.specs.Words.{upto}
use Rattle.face_poset.specs.Poset.{count}
use Rattle.regular_check.specs.declared.fault.RegularFault.{RegularFault}
use Rattle.regular_check.specs.Rules.{Rule, edge_rules, disk_rules, solid_rules, fault_in, first_fault, IsRegular, IsFault}
use Rattle.regular_check.proofs.Faults.{none_before, some_before, fault_moves}
use Rattle.regular_check.proofs.RegularParts.{edges_kept, disks_kept}
use Rattle.regular_check.proofs.regular.check.Goals as goal

abbrev edges : List (List (List ℕ)) → List Rule
edges space = flat_map (edge_rules space) (upto (count space 1))

abbrev disks : List (List (List ℕ)) → List Rule
disks space = flat_map (disk_rules space) (upto (count space 2))

abbrev solids : List (List (List ℕ)) → List Rule
solids space = flat_map (solid_rules space) (upto (count space 3))

-- the fault of the edges is the first
at_edges : (space : List (List (List ℕ))) (f : RegularFault) → IsFault (fault_in (edges space)) f → IsFault (first_fault space) f
at_edges space f h = fault_moves (fault_in (edges space)) (first_fault space) (λ g e. some_before (edges space) (disks space ++ solids space) g e) f h

at_disks : (space : List (List (List ℕ))) (f : RegularFault) → fault_in (edges space) ≡ None → IsFault (fault_in (disks space)) f → IsFault (first_fault space) f
at_disks space f a h =
    fault_moves (fault_in (disks space)) (first_fault space) (λ g e. none_before (edges space) (disks space ++ solids space) a ∙ some_before (disks space) (solids space) g e) f h

at_solids : (space : List (List (List ℕ))) (f : RegularFault) → fault_in (edges space) ≡ None → fault_in (disks space) ≡ None → IsFault (fault_in (solids space)) f → IsFault (first_fault space) f
at_solids space f a b h =
    fault_moves (fault_in (solids space)) (first_fault space) (λ g e. none_before (edges space) (disks space ++ solids space) a ∙ (none_before (disks space) (solids space) b ∙ e)) f h

none_at_all : (space : List (List (List ℕ))) → fault_in (edges space) ≡ None → fault_in (disks space) ≡ None → fault_in (solids space) ≡ None → IsRegular space
none_at_all space a b d = none_before (edges space) (disks space ++ solids space) a ∙ (none_before (disks space) (solids space) b ∙ d)

pub returns-in_err-check_edges-clause-fault : goal.returns-in_err-check_edges-clause-fault
returns-in_err-check_edges-clause-fault c =
    let p = err_from_is_err_and c.from_residual.result c.from_residual.ensures.1 in
    rw (p.1, p.2) (at_edges c.args.space.now c.in_err-check_edges.field-0.0 c.in_err-check_edges.ensures)

pub returns-in_err-check_disks-clause-fault : goal.returns-in_err-check_disks-clause-fault
returns-in_err-check_disks-clause-fault c =
    let p = err_from_is_err_and c.from_residual-in_err-check_disks.result c.from_residual-in_err-check_disks.ensures.1 in
    rw (p.1, p.2) (at_disks c.args.space.now c.in_err-check_disks.field-0.0 c.in_ok-check_edges.ensures c.in_err-check_disks.ensures.fault)

pub returns-in_err-check_solids-clause-fault : goal.returns-in_err-check_solids-clause-fault
returns-in_err-check_solids-clause-fault c =
    let p = err_from_is_err_and c.from_residual-in_err-check_solids.result c.from_residual-in_err-check_solids.ensures.1 in
    let none : fault_in (disks c.args.space.now) ≡ None = search rules in
    rw (p.1, p.2) (at_solids c.args.space.now c.in_err-check_solids.field-0.0 c.in_ok-check_edges.ensures none c.in_err-check_solids.ensures.fault)

pub invariant_of-result : goal.invariant_of-result
invariant_of-result c = (none_at_all c.args.space.now c.in_ok-check_edges.ensures c.in_ok-check_disks.ensures.fault c.in_ok-check_solids.ensures.fault, c.in_ok-cycles.ensures)

pub returns-clause-fault : goal.returns-clause-fault
returns-clause-fault c = none_at_all c.args.space.now c.in_ok-check_edges.ensures c.in_ok-check_disks.ensures.fault c.in_ok-check_solids.ensures.fault

pub all_cycles-requires-clause-ends : goal.all_cycles-requires-clause-ends
all_cycles-requires-clause-ends c = edges_kept c.args.space.now c.in_ok-check_edges.ensures

pub all_cycles-requires-clause-twice : goal.all_cycles-requires-clause-twice
all_cycles-requires-clause-twice c n low high = (disks_kept c.args.space.now c.in_ok-check_disks.ensures.fault n low high).0
