use Rattle.std.proofs.Common.{◌<◌, ℕ, List, subst, sym, ap, ◌∙◌}
use Rattle.linear_laws.specs.Vectors.{entry}
use Rattle.field_matrix.specs.Rows.{cut}
use Rattle.field_matrix.proofs.Views.{row_within, entry_small}
use Rattle.field_matrix.proofs.matrix.Matrix.get.Goals as goal

pub entry_of-requires-clause-row : goal.entry_of-requires-clause-row
entry_of-requires-clause-row g c = row_within c.self.inside.rows c.self.inside.cols c.self.inside.entries.items c.args.self.now c.self.view_is c.args.row c.requires.row

pub from_number-requires : goal.from_number-requires
from_number-requires g c =
    let n : ℕ = c.self.inside.rows in
    let cols : ℕ = c.self.inside.cols in
    subst (λ x. x < g.F.Field.SIZE) (sym (c.entry_of.ensures ∙ ap (λ (w : List ℕ). entry (cut n cols w) c.args.row c.args.col) c.deref.ensures.value))
    (entry_small g.F.Field.ops g.met.F.Field.laws g.F.Field.SIZE n cols c.args.row c.args.col c.self.inside.entries.items g.met.F.Field.size_is c.self.invariant)
