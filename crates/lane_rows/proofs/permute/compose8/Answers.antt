use Rattle.std.proofs.Common.{◌<◌, refl, arith, w8}
use Rattle.std.proofs.lemmas.Simd.{SwzOk-from_below, Each1-from_get_or}
use Rattle.lane_rows.proofs.VectorLemmas.{composed-swizzle}
use Rattle.lane_rows.proofs.permute.compose8.Goals as goal

pub swizzle : goal.swizzle
swizzle c = SwzOk-from_below w8 8 1 8 0 c.args.first.now refl (omega arith) (Each1-from_get_or (λ j. j < 8) c.args.first.now 0 (λ i lt. c.requires.first i 0 lt))

pub returns : goal.returns
returns c = composed-swizzle c.args.second.now c.args.first.now (omega arith) (λ k lt. c.requires.first k 0 (omega arith))
