use Rattle.std.proofs.Common.{◌≡◌, ℕ, List, get_or, ap, sym, ◌∙◌}
use Rattle.linear_laws.specs.Vectors.{plus_scaled}
use Rattle.field_matrix.proofs.Sweep.{zero_times, neg_zero}
use Rattle.field_matrix.proofs.solve.clear_at.Goals as goal

pub returns-else-number-ne0-clause-left : goal.returns-else-number-ne0-clause-left
returns-else-number-ne0-clause-left g c =
    let k = g.F.Field.ops in
    let f = g.met.F.Field.laws in
    let none : k.neg (get_or c.args.left.now c.args.place 0) ≡ 0 = ap k.neg c.if-number-ne0.false ∙ neg_zero k f in
    sym (ap (λ (s : ℕ). plus_scaled k s c.args.left.now c.args.source.now) none ∙ zero_times k f c.args.left.now c.args.source.now c.requires.long c.requires.left)

pub returns-else-number-ne0-clause-told : goal.returns-else-number-ne0-clause-told
returns-else-number-ne0-clause-told g c =
    let k = g.F.Field.ops in
    let f = g.met.F.Field.laws in
    let none : k.neg (get_or c.args.left.now c.args.place 0) ≡ 0 = ap k.neg c.if-number-ne0.false ∙ neg_zero k f in
    sym (ap (λ (s : ℕ). plus_scaled k s c.args.told.now c.args.from.now) none ∙ zero_times k f c.args.told.now c.args.from.now c.requires.long_from c.requires.told)
