use Rattle.std.proofs.Common.{◌*◌, ◌≤◌, ◌<◌, ◌+◌, get_or, arith, add-one}
use Rattle.std.proofs.Math.Nat.{mul-le-mul}
use Rattle.std.proofs.lemmas.List.Elements.{All-get_or}
use Rattle.lane_rows.proofs.Loops.{products_from}
use Rattle.lane_rows.proofs.Products.{chunk_of_products, whole_next}
use Rattle.lane_rows.proofs.product.dot.Goals as goal

pub loop-chunk-preserved : goal.loop-chunk-preserved
loop-chunk-preserved c = record {
  whole =
      let step = chunk_of_products c.args.left.now c.args.right.now (c.loop-chunk.chunk * 16) (omega arith) c.requires.lengths in
      whole_next c.args.left.now c.args.right.now c.loop-chunk.total c.dot_from.result (c.loop-chunk.chunk * 16) ((c.loop-chunk.chunk + 1) * 16) (omega arith) c.loop-chunk.invariant.whole step c.dot_from.ensures.products;
  small = let inv = c.loop-chunk.invariant.small in let s = c.dot_from.ensures.small in omega arith;
}

pub loop-i-preserved : goal.loop-i-preserved
loop-i-preserved c = record {
  whole =
      let step = products_from c.args.left.now c.args.right.now c.loop-i.i c.loop-i-test.true c.requires.lengths in
      rw add-one (omega (arith, step, c.loop-i.invariant.whole));
  small =
      let x : get_or c.args.left.now c.loop-i.i 0 < c.args.p = All-get_or (λ n. n < c.args.p) c.args.left.now c.loop-i.i 0 c.loop-i-test.true c.requires.left in
      let y : get_or c.args.right.now c.loop-i.i 0 < c.args.p = All-get_or (λ n. n < c.args.p) c.args.right.now c.loop-i.i 0 (omega arith) c.requires.right in
      let product : get_or c.args.left.now c.loop-i.i 0 * get_or c.args.right.now c.loop-i.i 0 ≤ 13 * 13 = (let x' : get_or c.args.left.now c.loop-i.i 0 ≤ 13 = omega arith in let y' : get_or c.args.right.now c.loop-i.i 0 ≤ 13 = omega arith in mul-le-mul x' y') in
      omega arith;
}
