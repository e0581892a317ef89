use Rattle.std.proofs.Common.{List, length, set, refl, ap, ◌∙◌}
use Rattle.std.specs.Prelude.{ℤ}
use Rattle.edge_words.proofs.WordPlaces.{words-replaced}
use Rattle.edge_words.proofs.word_list.WordList.replace.Goals as goal

pub returns : goal.returns
returns c =
    words-replaced c.self.inside.letters.items c.args.word.now c.extend_from_slice.new.self.items c.self.inside.places.items (record { start = c.len-start.result; length = length c.args.word.now }) c.in_ok-extend_from_slice.ensures.items
    c.self.invariant (c.len-start.ensures ∙ c.self.inside.letters.ok.0) refl c.args.index
    ∙ ap (λ (ws : List (List ℤ)). set ws c.args.index c.args.word.now) c.self.view_is
