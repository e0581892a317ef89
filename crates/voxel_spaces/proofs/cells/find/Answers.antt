use Rattle.std.proofs.Common.{◌<◌, ◌+◌, ◌-◌, ◌/◌, ℕ, arith}
use Rattle.voxel_spaces.proofs.Finding.{upper_half, lower_half}
use Rattle.voxel_spaces.proofs.cells.find.Goals as goal

pub loop-high-preserved-then-places-middle : goal.loop-high-preserved-then-places-middle
loop-high-preserved-then-places-middle c =
    let low : ℕ = c.loop-high.low in
    let high : ℕ = c.loop-high.high in
    let m : low + (high - low) / 2 < high = omega (arith, c.loop-high-test.true) in
    record {
      inside = c.loop-high.invariant.inside;
      between = upper_half c.args.places.now c.args.place low high (low + (high - low) / 2) c.requires.rises c.loop-high.invariant.inside m c.if-places-middle.true c.loop-high.invariant.between;
    }

pub loop-high-preserved : goal.loop-high-preserved
loop-high-preserved c =
    let low : ℕ = c.loop-high.low in
    let high : ℕ = c.loop-high.high in
    let m : low + (high - low) / 2 < high = omega (arith, c.loop-high-test.true) in
    record {
      inside = omega (arith, m, c.loop-high.invariant.inside);
      between = lower_half c.args.places.now c.args.place low high (low + (high - low) / 2) c.requires.rises c.loop-high.invariant.inside m c.if-places-middle.false c.loop-high.invariant.between;
    }
