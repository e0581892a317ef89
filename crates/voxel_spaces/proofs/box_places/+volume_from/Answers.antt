use Rattle.std.proofs.Common.{◌≡◌, ◌*◌, ◌<◌, ℕ, drop, length, get_or, ap, sym, ◌∙◌, arith}
use Rattle.array_values.specs.Bits.{volume}
use Rattle.voxel_spaces.proofs.BoxLevels.{volume-at, volume-drop}
use Rattle.voxel_spaces.proofs.box_places.+volume_from.Goals as goal

pub overflow_mul-result : goal.overflow_mul-result
overflow_mul-result t c =
    let lt : c.args.level < length c.args.limits.now = omega (arith, c.requires.level, c.if-level-limits.false) in
    let e : volume (drop c.args.level c.args.limits.now) ≡ get_or c.args.limits.now c.args.level 0 * c.volume_from.result =
    volume-at c.args.limits.now c.args.level lt ∙ ap (λ (n : ℕ). get_or c.args.limits.now c.args.level 0 * n) (sym c.volume_from.ensures) in
    omega (arith, e, volume-drop c.args.limits.now c.args.level c.requires.some, c.requires.few)
