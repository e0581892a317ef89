use Rattle.std.proofs.Common.{◌≡◌, ◌-◌, ◌++◌, ◌∷◌, [], ℕ, List, take, refl, ap, ◌∙◌, sym}
use Rattle.std.specs.Prelude.{ℤ, FitsSigned}
use Rattle.std.proofs.lemmas.Int.{to_z-of_z}
use mir.Syntax.{w32}
use mir.Val.{of_z, to_z}
use Rattle.pair_laws.specs.Letters.{last_undone}
use Rattle.edge_words.proofs.Letters.{letter-undone, letter-put}
use Rattle.edge_words.proofs.LetterWalks.{letter-is}
use Rattle.edge_words.proofs.reducing.push_letter.Goals as goal

undone-read : (w v : List ℤ) (g : ℤ) → FitsSigned w32 g → v ≡ w → last_undone w g ≡ last_undone v (to_z w32 (of_z w32 g))
undone-read w v g f e = rw (e, to_z-of_z w32 g f) refl

pub returns-then-ends_undone : goal.returns-then-ends_undone
returns-then-ends_undone c =
    c.pop.ensures.rest
    ∙ (ap (λ (n : ℕ). take (n - 1) c.args.word.now.items) c.args.word.now.ok.0
    ∙ letter-undone c.args.word.now.items c.args.letter c.requires.word (letter-is 60000 c.args.letter c.requires.letter)
    (undone-read c.args.word.now.items c.deref.result.now c.args.letter c.ranges.letter c.deref.ensures.value ∙ (sym c.ends_undone.ensures ∙ c.if-ends_undone.true)))

pub returns : goal.returns
returns c =
    c.in_ok-push.ensures.items
    ∙ (ap (λ (g : ℤ). c.args.word.now.items ++ g ∷ []) (to_z-of_z w32 c.args.letter c.ranges.letter)
    ∙ letter-put c.args.word.now.items c.args.letter c.requires.word (letter-is 60000 c.args.letter c.requires.letter)
    (undone-read c.args.word.now.items c.deref.result.now c.args.letter c.ranges.letter c.deref.ensures.value ∙ (sym c.ends_undone.ensures ∙ c.if-ends_undone.false)))
