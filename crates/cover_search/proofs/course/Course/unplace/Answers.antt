use Rattle.std.proofs.Common.{◌≤◌, ◌<◌, ◌-◌, ◌∙◌, length, ap, sym, subst}
use Rattle.live_laws.specs.Live.{sound}
use Rattle.edge_words.specs.Words.{relations_of}
use Rattle.cover_search.proofs.Passages.{sound-take, sound-ranged, last-ranged}
use Rattle.cover_search.proofs.course.Course.unplace.Goals as goal

pub invariant_of-self : goal.invariant_of-self
invariant_of-self c = record {
  columns = ap (λ w. w.columns) c.unplace.ensures.cells ∙ c.self.invariant.columns;
  partial = c.unplace.ensures.valid;
  letters = c.self.invariant.letters;
  indexed = c.self.invariant.indexed;
  sound =
      ap (λ w. sound (relations_of c.self.inside.presentation.now) w.sheets w.cells) c.unplace.ensures.cells
      ∙ sound-take (relations_of c.self.inside.presentation.now) c.self.inside.walker.sheets (length c.self.inside.walker.cells - 1) c.self.inside.walker.cells c.self.invariant.sound;
}

pub returns-clause-within : goal.returns-clause-within
returns-clause-within c =
    let some : 0 < length c.self.inside.walker.cells = subst (λ v. 0 < length v.cells) (sym c.self.view_is) c.requires in
    let r = last-ranged c.self.inside.walker.sheets c.self.inside.walker.cells (sound-ranged (relations_of c.self.inside.presentation.now) c.self.inside.walker.sheets c.self.inside.walker.cells c.self.invariant.sound) some in
    subst (λ v. c.unplace.result ≤ v.sheets) c.self.view_is (subst (λ n. n ≤ c.self.inside.walker.sheets) (sym c.unplace.ensures.last) r.1)
