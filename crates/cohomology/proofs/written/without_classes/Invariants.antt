use Rattle.std.proofs.Common.{◌≡◌, drop, length, map}
use Rattle.chain_laws.specs.Lines.{cochain_of}
use Rattle.chain_laws.specs.AllLines.{left_sides}
use Rattle.cohomology.proofs.Writing.{taken}
use Rattle.cohomology.proofs.written.without_classes.Given as goal

abbrev pub invariant-loop-index : goal.invariant-loop-index
invariant-loop-index g l = record {
  long : length l.rest ≡ length l.fn.x;
  is :
      taken g.F.Field.ops g.met.F.Field.laws (drop l.index l.fn.values) (map (cochain_of (length l.fn.x)) (left_sides (drop l.index l.fn.lines))) l.rest
      ≡ taken g.F.Field.ops g.met.F.Field.laws l.fn.values (map (cochain_of (length l.fn.x)) (left_sides l.fn.lines)) l.fn.x;
}
