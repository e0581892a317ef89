use Rattle.std.proofs.Common.{◌∙◌, ap}
use Rattle.live_laws.specs.Live.{sound}
use Rattle.edge_words.specs.Words.{relations_of}
use Rattle.cover_search.proofs.Passages.{sound-empty}
use Rattle.cover_search.proofs.course.Course.raise.Goals as goal

pub invariant_of-self : goal.invariant_of-self
invariant_of-self c = record {
  columns = ap (λ w. w.columns) c.raise.ensures.raised ∙ c.self.invariant.columns;
  partial = c.raise.ensures.valid;
  letters = c.self.invariant.letters;
  indexed = c.self.invariant.indexed;
  sound = ap (λ w. sound (relations_of c.self.inside.presentation.now) w.sheets w.cells) c.raise.ensures.raised ∙ sound-empty (relations_of c.self.inside.presentation.now) c.args.sheets;
}
