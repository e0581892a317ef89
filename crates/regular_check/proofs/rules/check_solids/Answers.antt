use Rattle.std.proofs.Common.{◌+◌, ◌∙◌, arith}
use Rattle.std.specs.List.{flat_map}
use Rattle.std.proofs.lemmas.Result.{err_from_is_err_and}
use Rattle.number_lists.specs.Words.{upto}
use Rattle.face_poset.specs.Poset.{count}
use Rattle.regular_check.specs.Rules.{solid_rules, fault_in}
use Rattle.regular_check.proofs.Faults.{layer_first, layer_none, kept_more, fault_moves}
use Rattle.regular_check.proofs.rules.check_solids.Goals as goal

pub returns-in_err-check_solid-clause-fault : goal.returns-in_err-check_solid-clause-fault
returns-in_err-check_solid-clause-fault c =
    let p = err_from_is_err_and c.from_residual.result c.from_residual.ensures.1 in
    rw (p.1, p.2)
    (fault_moves (fault_in (solid_rules c.args.space.now (c.loop-index.index + 1))) (fault_in (flat_map (solid_rules c.args.space.now) (upto (count c.args.space.now 3))))
    (λ f e. layer_first (solid_rules c.args.space.now) (count c.args.space.now 3) c.loop-index.index f (omega (arith, c.loop-index-test.true, c.cells-index-end.ensures.cells)) c.loop-index.invariant.2 e)
    c.in_err-check_solid.field-0.0 c.in_err-check_solid.ensures.fault)

pub loop-index-preserved : goal.loop-index-preserved
loop-index-preserved c =
    (c.check_solid.ensures.most ∙ c.loop-index.invariant.0, c.in_ok-check_solid.ensures.blank, kept_more (solid_rules c.args.space.now) c.loop-index.index c.loop-index.invariant.2 c.in_ok-check_solid.ensures.fault)

pub returns-clause-fault : goal.returns-clause-fault
returns-clause-fault c =
    layer_none (solid_rules c.args.space.now) (count c.args.space.now 3) c.loop-index.index (omega (arith, c.loop-index-test.false, c.cells-index-end.ensures.cells)) c.loop-index.invariant.2
