use Rattle.std.proofs.Common.{◌≡◌, ◌<◌, ◌≤◌, ◌-◌, length, take, drop, [], filter}
use Rattle.live_laws.specs.Live.{is_listed}
use Rattle.cover_search.specs.Courses.{ahead}
use Rattle.cover_search.proofs.course.Course.place.Given as goal

abbrev pub invariant-units : goal.invariant-units
invariant-units l = record {
  relations : l.self.relations ≡ l.fn.self.relations;
  most_same : l.self.most ≡ l.fn.self.most;
  some : 0 < length l.self.cells;
  units : 1 ≤ l.budget;
  within : l.budget ≤ l.fn.budget;
  left : drop (l.fn.budget - l.budget) (ahead l.fn.self) ≡ ahead l.self;
  none : filter (is_listed l.fn.self.relations) (take (l.fn.budget - l.budget) (ahead l.fn.self)) ≡ [];
}

abbrev pub decreases-units : goal.decreases-units
decreases-units l = l.budget
