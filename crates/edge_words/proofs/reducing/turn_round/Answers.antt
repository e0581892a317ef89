use Rattle.std.proofs.Common.{◌≡◌, ap, reverse, length, arith, List, Bool, true, false, cond}
use Rattle.std.specs.Prelude.{ℤ}
use Rattle.std.proofs.lemmas.List.{length-reverse}
use Rattle.pair_laws.specs.Letters.{inverted}
use Rattle.edge_words.proofs.Turned.{half-more, half-all}
use Rattle.edge_words.proofs.reducing.turn_round.Goals as goal

pub loop-index-preserved : goal.loop-index-preserved
loop-index-preserved c =
    half-more (reverse c.args.word.now.items) c.loop-index.word.items c.loop-index.index c.index.result.now c.loop-index.invariant.0 c.loop-index.invariant.1
    (omega (arith, c.loop-index-test.true, c.len-index-end.ensures, c.reverse.new.self.ok.0, ap (λ (w : List ℤ). length w) c.reverse.ensures.items)) c.index.ensures

chosen : (b : Bool) (w v : List ℤ) → b ≡ true → v ≡ inverted w → v ≡ cond b (inverted w) w
chosen true w v e h = h
chosen false w v e h = absurd (grind (arith, e))

pub returns : goal.returns
returns c =
    chosen c.args.turned c.args.word.now.items c.loop-index.word.items c.if-not-turned.false
    (half-all c.args.word.now.items c.loop-index.word.items c.loop-index.index c.loop-index.invariant.0
    (omega (arith, c.loop-index-test.false, c.len-index-end.ensures, c.reverse.new.self.ok.0, ap (λ (w : List ℤ). length w) c.reverse.ensures.items, length-reverse c.args.word.now.items)))
