use Rattle.std.proofs.Common.{◌∙◌, ◌++◌, List, take, ap, sym}
use Rattle.std.specs.Prelude.{ℤ}
use Rattle.pair_laws.specs.Letters.{reduced}
use Rattle.edge_words.specs.Words.{word_of}
use Rattle.edge_words.proofs.Letters.{reduced-none, reduced-then, word-then}
use Rattle.edge_words.proofs.Along.{letters-word_of, word_of-more}
use Rattle.edge_words.proofs.reducing.push_steps.Goals as goal

pub loop-step-init : goal.loop-step-init
loop-step-init c = reduced-none c.args.word.now.items c.requires.word.is

pub push_step-requires-clause-word : goal.push_step-requires-clause-word
push_step-requires-clause-word c =
    word-then c.args.word.now.items (word_of c.args.words.now (take c.loop-step.step-index c.args.steps.now)) c.loop-step.word.items c.requires.word.letters (letters-word_of 60000 c.args.words.now (take c.loop-step.step-index c.args.steps.now) c.requires.words) c.loop-step.invariant

pub loop-step-preserved : goal.loop-step-preserved
loop-step-preserved c =
    reduced-then c.args.word.now.items (word_of c.args.words.now (take c.loop-step.step-index c.args.steps.now)) _ c.loop-step.word.items c.push_step.new.word.items c.requires.word.letters (letters-word_of 60000 c.args.words.now (take c.loop-step.step-index c.args.steps.now) c.requires.words) c.loop-step.invariant
    c.in_ok-push_step.ensures
    ∙ ap (λ (ys : List ℤ). reduced (c.args.word.now.items ++ ys)) (sym (word_of-more c.args.words.now c.args.steps.now c.loop-step.step-index _ c.loop-step-test.true))
