use Rattle.std.proofs.Common.{◌≡◌, ◌≤◌, ◌+◌, ◌-◌, ◌*◌, length}
use Rattle.cover_search.specs.Courses.{left_of, Pending}
use Rattle.cover_search.proofs.course.Course.advance.Given as goal

abbrev pub invariant-moves : goal.invariant-moves
invariant-moves l = record {
  relations : l.self.relations ≡ l.fn.self.relations;
  most_same : l.self.most ≡ l.fn.self.most;
  written : l.self.written ≡ l.fn.self.written;
  low : 1 ≤ l.sheet;
  high : l.sheet ≤ l.self.sheets + 1;
  pending : Pending l.self l.sheet ≡ left_of l.fn.self;
}

abbrev pub decreases-moves : goal.decreases-moves
decreases-moves l = (l.self.most - l.self.sheets + length l.self.cells) * 256 + (255 - l.sheet)
