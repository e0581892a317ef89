use Rattle.std.proofs.Common.{List, ℕ, sym, subst}
use Rattle.vector_field.specs.Pairs.{pair}
use Rattle.vector_field.specs.Pairings.{HasCells}
use Rattle.vector_field.specs.LastPlaces.{pair_at}
use Rattle.number_lists.proofs.CallerLemmas.{at-In}
use Rattle.vector_field.proofs.pairing.Pairing.extend.Goals as goal

pub push-requires : goal.push-requires
push-requires c =
    subst (λ (counts : List ℕ). HasCells counts (pair_at c.args.pairs.now c.loop-pair.pair-index)) (sym c.loop-pair.invariant.0)
    (c.requires (pair_at c.args.pairs.now c.loop-pair.pair-index) (at-In c.args.pairs.now c.loop-pair.pair-index (pair 0 0 0) c.loop-pair-test.true))
