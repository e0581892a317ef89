use Rattle.std.proofs.Common.{subst}
use Rattle.cover_search.specs.Courses.{IsPassage}
use Rattle.cover_search.proofs.Passages.{passage_of}
use Rattle.edge_words.specs.Words.{relations_of}
use Rattle.cover_search.proofs.course.Course.has_room_for.Goals as goal

pub returns-then-sheet-sheets-clause-valid : goal.returns-then-sheet-sheets-clause-valid
returns-then-sheet-sheets-clause-valid c = subst IsPassage c.self.view_is (passage_of (relations_of c.self.inside.presentation.now) c.self.inside.index c.self.inside.walker c.self.invariant)

pub returns-else-sheet-sheets-clause-valid : goal.returns-else-sheet-sheets-clause-valid
returns-else-sheet-sheets-clause-valid c = subst IsPassage c.self.view_is (passage_of (relations_of c.self.inside.presentation.now) c.self.inside.index c.self.inside.walker c.self.invariant)
