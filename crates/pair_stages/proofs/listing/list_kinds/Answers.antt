use Rattle.pair_stages.proofs.KindLemmas.{kinds_more}
use Rattle.pair_stages.proofs.listing.list_kinds.Goals as goal

pub loop-index-preserved : goal.loop-index-preserved
loop-index-preserved c =
    kinds_more c.args.field.now.pairs c.args.dim c.loop-index.index c.loop-index.kinds.items c.push.new.self.items c.kind_of.result c.loop-index.invariant c.kind_of.ensures c.in_ok-push.ensures.items
