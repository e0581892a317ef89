use Rattle.std.proofs.Common.{◌∷◌, ◌++◌, [], List, length, refl, ap, ◌∙◌}
use Rattle.std.specs.Prelude.{ℤ}
use Rattle.edge_words.proofs.WordPlaces.{words-pushed}
use Rattle.edge_words.proofs.word_list.WordList.push.Goals as goal

pub returns : goal.returns
returns c =
    words-pushed c.self.inside.letters.items c.args.word.now c.extend_from_slice.new.self.items c.self.inside.places.items (record { start = c.len-start.result; length = length c.args.word.now }) c.in_ok-extend_from_slice.ensures.items
    c.self.invariant (c.len-start.ensures ∙ c.self.inside.letters.ok.0) refl c.push.new.self.items c.in_ok-push.ensures.items
    ∙ ap (λ (ws : List (List ℤ)). ws ++ c.args.word.now ∷ []) c.self.view_is
