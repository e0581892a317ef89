use Rattle.std.proofs.Common.{◌≡◌, ◌∙◌, ◌+◌, ◌-◌, ◌++◌, [], ℕ, List, take, drop, length, ap, false}
use Rattle.std.specs.Prelude.{ℤ}
use Rattle.std.proofs.lemmas.List.{take_rest}
use Rattle.regular_check.specs.declared.cycles.Step.{Step}
use Rattle.pair_laws.specs.Letters.{reduced}
use Rattle.edge_words.specs.Words.{word_of}
use Rattle.edge_words.proofs.Forced.{forced-is, first-word, second-word}
use Rattle.edge_words.proofs.reducing.force_word.Goals as goal

abbrev any : Step
any = record { edge = 0; forward = false }

-- the steps after the place, as they are handed on, after nothing
after-none : (ws : List (List ℤ)) (ss : List Step) (n : ℕ) (none w : List ℤ) → none ≡ [] → w ≡ reduced (none ++ word_of ws (take (length ss - n) (drop n ss))) → w ≡ reduced (word_of ws (drop n ss))
after-none ws ss n none w e h = h ∙ (ap (λ (v : List ℤ). reduced (v ++ word_of ws (take (length ss - n) (drop n ss)))) e ∙ ap (λ (ys : List Step). reduced (word_of ws ys)) (take_rest ss n))

pub push_steps-requires-2-clause-word : goal.push_steps-requires-2-clause-word
push_steps-requires-2-clause-word c =
    first-word c.args.words.now c.args.steps.now c.args.edge any c.requires.words c.requires.edge c.place_of-place.result c.push_steps.new.word.items
    (after-none c.args.words.now c.args.steps.now (c.place_of-place.result + 1) c.clear.new.self.items c.push_steps.new.word.items c.clear.ensures.items c.in_ok-push_steps.ensures)

pub turn_round-requires : goal.turn_round-requires
turn_round-requires c =
    second-word c.args.words.now c.args.steps.now c.args.edge any c.requires.words c.requires.edge c.place_of-place.result c.push_steps.new.word.items c.push_steps-2.new.word.items
    (after-none c.args.words.now c.args.steps.now (c.place_of-place.result + 1) c.clear.new.self.items c.push_steps.new.word.items c.clear.ensures.items c.in_ok-push_steps.ensures) c.in_ok-push_steps-2.ensures

pub returns : goal.returns
returns c =
    forced-is c.args.words.now c.args.steps.now c.args.edge any c.requires.words c.requires.edge c.place_of-place.result c.push_steps.new.word.items c.push_steps-2.new.word.items c.turn_round.new.word.items c.place_of-place.ensures.place
    (after-none c.args.words.now c.args.steps.now (c.place_of-place.result + 1) c.clear.new.self.items c.push_steps.new.word.items c.clear.ensures.items c.in_ok-push_steps.ensures) c.in_ok-push_steps-2.ensures c.turn_round.ensures
