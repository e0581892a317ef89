use Rattle.std.proofs.Common.{◌<◌, ℕ, refl, subst, ◌∙◌}
use Rattle.split_laws.specs.Kinds.{criticals}
use Rattle.pair_stages.proofs.Indexed.{columns_more, others_more}
use Rattle.pair_stages.proofs.indexes.put_columns.Goals as goal

pub loop-col-preserved : goal.loop-col-preserved
loop-col-preserved g c =
    let lt : c.loop-col.col < criticals c.args.next.now.kinds = subst (λ (n : ℕ). c.loop-col.col < n) c.criticals-col-end.ensures c.loop-col-test.true in
    record {
      columns = columns_more c.args.next.now.kinds c.loop-col.indexes _ c.loop-col.col c.critical_place.result lt (c.loop-col.auto.indexes ∙ c.requires) c.critical_place.ensures.place refl c.loop-col.invariant.columns;
      others = others_more c.args.next.now.kinds c.args.indexes.now c.loop-col.indexes _ c.loop-col.col c.critical_place.result lt c.critical_place.ensures.place refl c.loop-col.invariant.others;
    }
