use Rattle.std.proofs.Common.{◌-◌, ◌∙◌, ◌++◌, ◌∷◌, [], List, length, take, get_or, ap, sym, arith}
use Rattle.std.specs.Prelude.{ℤ, pos}
use Rattle.std.proofs.lemmas.List.{take_all}
use Rattle.pair_laws.specs.Letters.{inverse, inverted, reduced}
use Rattle.edge_words.proofs.Bits.{negated-fits, handed, inverse-range}
use Rattle.edge_words.proofs.Letters.{reduced-none, reduced-then, word-then, letters-take, letter-at, inverted-more, length-inverted}
use Rattle.edge_words.proofs.LetterWalks.{letters-inverted}
use Rattle.edge_words.proofs.reducing.push_backward.Goals as goal

pub loop-index-init : goal.loop-index-init
loop-index-init c = reduced-none c.args.word.now.items c.requires.word.is

pub overflow_sub-letters-in-loop-index-2 : goal.overflow_sub-letters-in-loop-index-2
overflow_sub-letters-in-loop-index-2 c =
    let g : ℤ = get_or c.args.letters.now (length c.args.letters.now - 1 - c.loop-index.index) (pos 0) in
    negated-fits g (letter-at 60000 (length c.args.letters.now - 1 - c.loop-index.index) c.args.letters.now (pos 0) c.requires.letters (omega (arith, c.loop-index-test.true)))

pub push_letter-requires-clause-letter : goal.push_letter-requires-clause-letter
push_letter-requires-clause-letter c =
    let g : ℤ = get_or c.args.letters.now (length c.args.letters.now - 1 - c.loop-index.index) (pos 0) in
    let r = letter-at 60000 (length c.args.letters.now - 1 - c.loop-index.index) c.args.letters.now (pos 0) c.requires.letters (omega (arith, c.loop-index-test.true)) in
    rw (handed g r) (inverse-range g r)

pub push_letter-requires-clause-word : goal.push_letter-requires-clause-word
push_letter-requires-clause-word c =
    (word-then c.args.word.now.items (take c.loop-index.index (inverted c.args.letters.now)) c.loop-index.word.items c.requires.word.letters (letters-take 60000 c.loop-index.index (inverted c.args.letters.now) (letters-inverted 60000 c.args.letters.now c.requires.letters)) c.loop-index.invariant).is

pub loop-index-preserved : goal.loop-index-preserved
loop-index-preserved c =
    let first : List ℤ = c.args.word.now.items in
    let all : List ℤ = inverted c.args.letters.now in
    let g : ℤ = get_or c.args.letters.now (length c.args.letters.now - 1 - c.loop-index.index) (pos 0) in
    let r = letter-at 60000 (length c.args.letters.now - 1 - c.loop-index.index) c.args.letters.now (pos 0) c.requires.letters (omega (arith, c.loop-index-test.true)) in
    reduced-then first (take c.loop-index.index all) (inverse g ∷ []) c.loop-index.word.items c.push_letter.new.word.items c.requires.word.letters (letters-take 60000 c.loop-index.index all (letters-inverted 60000 c.args.letters.now c.requires.letters)) c.loop-index.invariant
    (c.in_ok-push_letter.ensures ∙ ap (λ (x : ℤ). reduced (c.loop-index.word.items ++ x ∷ [])) (handed g r))
    ∙ ap (λ (ys : List ℤ). reduced (first ++ ys)) (sym (inverted-more c.args.letters.now c.loop-index.index (pos 0) c.loop-index-test.true))

pub returns : goal.returns
returns c =
    c.loop-index.invariant
    ∙ ap (λ (ys : List ℤ). reduced (c.args.word.now.items ++ ys)) (take_all c.loop-index.index (inverted c.args.letters.now) (omega (arith, c.loop-index-test.false, length-inverted c.args.letters.now)))
