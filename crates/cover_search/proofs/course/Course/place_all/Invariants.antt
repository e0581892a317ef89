use Rattle.std.proofs.Common.{◌≡◌, take, true}
use Rattle.live_laws.specs.Live.{sound}
use Rattle.cover_search.proofs.course.Course.place_all.Given as goal

abbrev pub invariant-loop-cell : goal.invariant-loop-cell
invariant-loop-cell l = record {
  relations : l.self.relations ≡ l.fn.self.relations;
  most_same : l.self.most ≡ l.fn.self.most;
  sheets : l.self.sheets ≡ l.sheets;
  cells : l.self.cells ≡ take l.cell-index l.cells;
  sound : sound l.fn.self.relations l.sheets (take l.cell-index l.cells) ≡ true;
}
