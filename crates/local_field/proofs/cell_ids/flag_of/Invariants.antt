use Rattle.std.proofs.Common.{◌≡◌, ◌≤◌, ◌-◌, ◌++◌}
use Rattle.face_poset.specs.Poset.{count}
use Rattle.local_field.specs.Buildings.{flag_of}
use Rattle.local_field.proofs.cell_ids.flag_of.Given as goal

abbrev pub invariant-loop-step : goal.invariant-loop-step
invariant-loop-step g l = record {
  first : 1 ≤ l.cell;
  last : l.cell ≤ count (g.G.Graded.space l.space) (l.dim - l.step);
  is : l.flag.items ++ flag_of (g.G.Graded.space l.space) (l.dim - l.step) l.cell ≡ flag_of (g.G.Graded.space l.space) l.dim l.number;
}
