use Rattle.std.proofs.Common.{◌≡◌, ◌≤◌, ℕ, length, sym, ◌∙◌, subst, arith}
use Rattle.split_laws.specs.Kinds.{criticals}
use Rattle.pair_stages.specs.Reaches.{AreIndexes}
use Rattle.pair_stages.specs.Blanks.{IsFilledTo}
use Rattle.pair_stages.proofs.Rows.{row_is_vector, filled_few, filled_more}
use Rattle.pair_stages.proofs.coboundary.fill.Goals as goal

pub push-requires : goal.push-requires
push-requires g c =
    let few : length c.loop-row.filled.rows ≤ c.loop-row.row = filled_few g.F.Field.ops g.met.F.Field.laws c.args.stage.now c.args.next.now c.loop-row.row c.loop-row.filled c.loop-row.invariant.filled in
    record {
      values = (row_is_vector g.F.Field.ops g.met.F.Field.laws c.args.stage.now c.args.next.now c.requires.paired c.loop-row.row c.put_extension-some.new.values c.put_extension-some.ensures.row).long ∙ sym c.loop-row.invariant.filled.cols;
      few = omega (arith, few, c.loop-row-test.true, c.criticals-row-end.type_inv);
    }

pub clear_values-requires : goal.clear_values-requires
clear_values-requires g c =
    let indexes : AreIndexes c.args.stage.now.pairs c.args.next.now.kinds c.find.new.self.indexes.items = subst (AreIndexes c.args.stage.now.pairs c.args.next.now.kinds) (sym c.in_ok-find.ensures.indexes) c.loop-row.invariant.indexes in
    record {
      columns = indexes.critical;
      long = indexes.long;
      most = c.in_ok-find.ensures.most;
      values = (row_is_vector g.F.Field.ops g.met.F.Field.laws c.args.stage.now c.args.next.now c.requires.paired c.loop-row.row c.put_extension-some.new.values c.put_extension-some.ensures.row).long;
      off = c.put_extension-some.ensures.off;
    }

pub loop-row-preserved : goal.loop-row-preserved
loop-row-preserved g c = record {
  indexes = subst (AreIndexes c.args.stage.now.pairs c.args.next.now.kinds) (sym c.in_ok-find.ensures.indexes) c.loop-row.invariant.indexes;
  most = c.in_ok-find.ensures.most;
  blank = c.put_extension-some.ensures.blank;
  none = c.clear_values.ensures;
  filled = filled_more g.F.Field.ops g.met.F.Field.laws c.args.stage.now c.args.next.now c.loop-row.row c.loop-row.filled c.push.new.self c.put_extension-some.new.values c.put_extension-some.result c.loop-row.invariant.filled c.put_extension-some.ensures.row
      c.put_extension-some.ensures.some c.in_ok-push.ensures.cols c.in_ok-push.ensures.rows c.in_ok-push.ensures.places c.in_ok-push.ensures.none;
}

pub returns : goal.returns
returns g c =
    let e : c.loop-row.row ≡ criticals c.args.stage.now.kinds = omega (arith, c.loop-row-test.false, c.loop-row.auto.row-end, c.criticals-row-end.ensures) in
    subst (λ (n : ℕ). IsFilledTo g.F.Field.ops c.args.stage.now c.args.next.now n c.loop-row.filled) e c.loop-row.invariant.filled
