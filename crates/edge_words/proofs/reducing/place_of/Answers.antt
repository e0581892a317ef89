use Rattle.std.proofs.Common.{arith}
use Rattle.edge_words.proofs.Steps.{place-first, place-there}
use Rattle.edge_words.proofs.reducing.place_of.Goals as goal

pub returns-then-steps-index-clause-place : goal.returns-then-steps-index-clause-place
returns-then-steps-index-clause-place c = place-first c.args.edge c.args.steps.now c.loop-index.index _ c.loop-index-test.true c.loop-index.invariant c.if-steps-index.true

pub unreachable-requires : goal.unreachable-requires
unreachable-requires c = place-there c.args.edge c.args.steps.now c.requires (λ k d l. c.loop-index.invariant k d (omega (arith, l, c.loop-index-test.false)))
