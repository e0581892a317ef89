use Rattle.std.proofs.Common.{◌∙◌, length, ap}
use Rattle.live_laws.specs.Live.{sound}
use Rattle.edge_words.specs.Words.{relations_of}
use Rattle.cover_search.proofs.Passages.{sound-empty}
use Rattle.cover_search.proofs.course.Course.new.Goals as goal

pub invariant_of-result : goal.invariant_of-result
invariant_of-result c = record {
  columns = ap (λ w. w.columns) c.in_ok-new.ensures.begun ∙ ap (λ xs. length xs) c.generators-columns.ensures.generators;
  partial = c.in_ok-new.ensures.valid;
  letters = c.index_of.ensures.letters;
  indexed = c.in_ok-index_of.ensures.index;
  sound = ap (λ w. sound (relations_of c.args.presentation.now) w.sheets w.cells) c.in_ok-new.ensures.begun ∙ sound-empty (relations_of c.args.presentation.now) 1;
}
