use Rattle.std.proofs.Common.{ℕ, false, refl}
use Rattle.local_field.proofs.FlagSigns.{numbers-more}
use Rattle.local_field.proofs.flag_signs.point_signs.Goals as goal

pub loop-index-preserved : goal.loop-index-preserved
loop-index-preserved g c = numbers-more (λ (n : ℕ). false) c.loop-index._index c.loop-index.signs.items c.push.new.self.items false c.in_ok-push.ensures.items c.loop-index.invariant refl
