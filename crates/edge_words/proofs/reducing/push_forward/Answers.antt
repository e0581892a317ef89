use Rattle.std.proofs.Common.{◌∙◌, ◌++◌, ◌∷◌, [], List, take, get_or, ap, sym}
use Rattle.std.specs.Prelude.{ℤ, pos}
use Rattle.std.proofs.lemmas.List.{take_more}
use Rattle.pair_laws.specs.Letters.{reduced}
use Rattle.edge_words.proofs.Bits.{same-letter}
use Rattle.edge_words.proofs.Letters.{reduced-none, reduced-then, word-then, letters-take, letter-at}
use Rattle.edge_words.proofs.reducing.push_forward.Goals as goal

pub loop-letter-init : goal.loop-letter-init
loop-letter-init c = reduced-none c.args.word.now.items c.requires.word.is

pub push_letter-requires-clause-word : goal.push_letter-requires-clause-word
push_letter-requires-clause-word c =
    (word-then c.args.word.now.items (take c.loop-letter.letter-index c.args.letters.now) c.loop-letter.word.items c.requires.word.letters (letters-take 60000 c.loop-letter.letter-index c.args.letters.now c.requires.letters) c.loop-letter.invariant).is

pub loop-letter-preserved : goal.loop-letter-preserved
loop-letter-preserved c =
    let first : List ℤ = c.args.word.now.items in
    let xs : List ℤ = take c.loop-letter.letter-index c.args.letters.now in
    let g : ℤ = get_or c.args.letters.now c.loop-letter.letter-index (pos 0) in
    reduced-then first xs (g ∷ []) c.loop-letter.word.items c.push_letter.new.word.items c.requires.word.letters (letters-take 60000 c.loop-letter.letter-index c.args.letters.now c.requires.letters) c.loop-letter.invariant
    (c.in_ok-push_letter.ensures ∙ ap (λ (x : ℤ). reduced (c.loop-letter.word.items ++ x ∷ [])) (same-letter g (letter-at 60000 c.loop-letter.letter-index c.args.letters.now (pos 0) c.requires.letters c.loop-letter-test.true)))
    ∙ ap (λ (ys : List ℤ). reduced (first ++ ys)) (sym (take_more c.args.letters.now c.loop-letter.letter-index (pos 0) c.loop-letter-test.true))
