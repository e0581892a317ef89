use Rattle.split_laws.specs.declared.kind.Kind.TheVariants.{Critical}
use Rattle.pair_stages.proofs.SignedLemmas.{critical_more}
use Rattle.pair_stages.proofs.listing.list_critical.Goals as goal

pub loop-index-preserved : goal.loop-index-preserved
loop-index-preserved c =
    critical_more c.args.kinds.now c.loop-index.index Critical c.loop-index.critical.items c.put_critical.new.critical.items c.loop-index-test.true c.loop-index.invariant c.in_ok-put_critical.ensures
