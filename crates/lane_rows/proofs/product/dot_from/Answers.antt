use Rattle.std.proofs.Common.{◌<◌, get_or, ℕ, w8, w32, subst, sym, arith}
use Rattle.std.proofs.lemmas.Simd.{length-chunk, get_or-chunk, chunk-fits, sum_fits}
use Rattle.std.specs.Simd.Lanes.{dots}
use Rattle.lane_rows.specs.Lanes.{chunk}
use Rattle.lane_rows.proofs.Products.{all_small, dot_fits, dots_small, dots_are, fold_small}
use Rattle.lane_rows.proofs.product.dot_from.Goals as goal

pub dot4 : goal.dot4
dot4 c =
    let xs = chunk c.args.at 16 c.args.left.now in
    let ys = chunk c.args.at 16 c.args.right.now in
    let lx = length-chunk c.args.at 16 c.args.left.now c.requires.room in
    let ly = length-chunk c.args.at 16 c.args.right.now (omega arith) in
    let sx : (k : ℕ) → k < 16 → get_or xs k 0 < 13 = λ k l. subst (λ v. v < 13) (sym (get_or-chunk c.args.at 16 c.args.left.now k 0 l)) (c.requires.left k l) in
    let sy : (k : ℕ) → k < 16 → get_or ys k 0 < 13 = λ k l. subst (λ v. v < 13) (sym (get_or-chunk c.args.at 16 c.args.right.now k 0 l)) (c.requires.right k l) in
    (dot_fits xs ys lx ly sx sy (chunk-fits w8 c.args.at 16 c.args.left.now c.type_inv.left), all_small xs ys lx ly sx sy 128 (omega arith))

pub overflow_add-result : goal.overflow_add-result
overflow_add-result c =
    let xs = chunk c.args.at 16 c.args.left.now in
    let ys = chunk c.args.at 16 c.args.right.now in
    let lx = length-chunk c.args.at 16 c.args.left.now c.requires.room in
    let ly = length-chunk c.args.at 16 c.args.right.now (omega arith) in
    let sx : (k : ℕ) → k < 16 → get_or xs k 0 < 13 = λ k l. subst (λ v. v < 13) (sym (get_or-chunk c.args.at 16 c.args.left.now k 0 l)) (c.requires.left k l) in
    let sy : (k : ℕ) → k < 16 → get_or ys k 0 < 13 = λ k l. subst (λ v. v < 13) (sym (get_or-chunk c.args.at 16 c.args.right.now k 0 l)) (c.requires.right k l) in
    let small = dots_small xs ys lx ly sx sy in sum_fits w32 0 (dots xs ys) (omega arith)

pub returns-clause-products : goal.returns-clause-products
returns-clause-products c =
    let xs = chunk c.args.at 16 c.args.left.now in
    let ys = chunk c.args.at 16 c.args.right.now in
    let lx = length-chunk c.args.at 16 c.args.left.now c.requires.room in
    let ly = length-chunk c.args.at 16 c.args.right.now (omega arith) in
    let sx : (k : ℕ) → k < 16 → get_or xs k 0 < 13 = λ k l. subst (λ v. v < 13) (sym (get_or-chunk c.args.at 16 c.args.left.now k 0 l)) (c.requires.left k l) in
    let sy : (k : ℕ) → k < 16 → get_or ys k 0 < 13 = λ k l. subst (λ v. v < 13) (sym (get_or-chunk c.args.at 16 c.args.right.now k 0 l)) (c.requires.right k l) in
    dots_are xs ys lx ly sx sy

pub returns-clause-small : goal.returns-clause-small
returns-clause-small c =
    let xs = chunk c.args.at 16 c.args.left.now in
    let ys = chunk c.args.at 16 c.args.right.now in
    let lx = length-chunk c.args.at 16 c.args.left.now c.requires.room in
    let ly = length-chunk c.args.at 16 c.args.right.now (omega arith) in
    let sx : (k : ℕ) → k < 16 → get_or xs k 0 < 13 = λ k l. subst (λ v. v < 13) (sym (get_or-chunk c.args.at 16 c.args.left.now k 0 l)) (c.requires.left k l) in
    let sy : (k : ℕ) → k < 16 → get_or ys k 0 < 13 = λ k l. subst (λ v. v < 13) (sym (get_or-chunk c.args.at 16 c.args.right.now k 0 l)) (c.requires.right k l) in
    fold_small xs ys lx ly sx sy
