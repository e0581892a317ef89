use Rattle.std.proofs.Common.{◌≡◌, ◌+◌, [], Bool, true, false, ◌&&◌, refl, ap, sym, ◌∙◌, arith}
use Rattle.std.proofs.lemmas.Bool.{false≢true}
use Rattle.face_poset.specs.Poset.{count, facets_of}
use Rattle.regular_check.specs.declared.fault.RegularFault.TheVariants.{NotCycle}
use Rattle.regular_check.specs.Rules.{disk_rules, rule, one_cycle, each_twice, connected}
use Rattle.regular_check.proofs.Faults.{layer_first, layer_none, head_broken}
use Rattle.regular_check.proofs.rules.check_disks.Goals as goal
use Rattle.regular_check.proofs.rules.check_disks.Goals.{then-shape, else-shape}

and_first : (a b : Bool) → a ≡ false → (a && b) ≡ false
and_first true b e = absurd (false≢true (sym e))
and_first false b e = refl

and_second : (a b : Bool) → b ≡ false → (a && b) ≡ false
and_second true b e = e
and_second false b e = refl

pub returns-then-not-shape-clause-fault : goal.returns-then-not-shape-clause-fault
returns-then-not-shape-clause-fault c =
    layer_first (disk_rules c.args.space.now) (count c.args.space.now 2) c.loop-index.index (NotCycle (c.loop-index.index + 1))
    (omega (arith, c.loop-index-test.true, c.cells-index-end.ensures.cells)) c.loop-index.invariant.2
    (head_broken (rule (one_cycle c.args.space.now (c.loop-index.index + 1)) (NotCycle (c.loop-index.index + 1))) []
    (elim c.if-shape.branch [
      | then-shape w ↦
          let closed : each_twice c.args.space.now 1 c.facets.result.now ≡ true = sym c.in_ok-shape.ensures.closed ∙ w.if-shape.true in
          and_second (each_twice c.args.space.now 1 (facets_of c.args.space.now 2 (c.loop-index.index + 1))) (connected c.args.space.now 1 (facets_of c.args.space.now 2 (c.loop-index.index + 1)))
          (ap (connected c.args.space.now 1) (sym c.facets.ensures.facets) ∙ (sym (c.in_ok-shape.ensures.connected closed) ∙ (sym w.value-is ∙ c.if-not-shape.true)))
      | else-shape w ↦
          and_first (each_twice c.args.space.now 1 (facets_of c.args.space.now 2 (c.loop-index.index + 1))) (connected c.args.space.now 1 (facets_of c.args.space.now 2 (c.loop-index.index + 1)))
          (ap (each_twice c.args.space.now 1) (sym c.facets.ensures.facets) ∙ (sym c.in_ok-shape.ensures.closed ∙ w.if-shape.false))
    ]))

pub returns-clause-fault : goal.returns-clause-fault
returns-clause-fault c =
    layer_none (disk_rules c.args.space.now) (count c.args.space.now 2) c.loop-index.index (omega (arith, c.loop-index-test.false, c.cells-index-end.ensures.cells)) c.loop-index.invariant.2
