use Rattle.std.proofs.Common.{◌≡◌, ◌*◌, ◌≤◌, ℕ, List, true, sym, subst, arith}
use Rattle.face_poset.specs.Poset.{cell_count}
use Rattle.regular_check.specs.Rules.{IsRegular}
use Rattle.sheet_laws.specs.Labellings.{is_labelling}
use Rattle.cover_space.proofs.making.total.Goals as goal

pub make_total-requires-clause-labelled : goal.make_total-requires-clause-labelled
make_total-requires-clause-labelled c =
    record {
      valid = c.cells_over.ensures.valid;
      limited = c.cells_over.ensures.limited;
      regular = subst IsRegular (sym c.space-space.ensures.same) c.space-space.ensures.regular;
      labelling = subst (λ (X : List (List (List ℕ))). is_labelling X c.args.labels.now.sheets c.args.labels.now.labels ≡ true) (sym c.space-space.ensures.same) c.requires;
    }

pub returns-clause-regular : goal.returns-clause-regular
returns-clause-regular c =
    subst IsRegular (sym c.in_ok-make_total.ensures)
    (c.total_is_regular.ensures c.space-space.result.now c.args.labels.now.sheets c.args.labels.now.labels c.cells_over.ensures.valid (subst IsRegular (sym c.space-space.ensures.same) c.space-space.ensures.regular)
    (subst (λ (X : List (List (List ℕ))). is_labelling X c.args.labels.now.sheets c.args.labels.now.labels ≡ true) (sym c.space-space.ensures.same) c.requires)
    (subst (λ (n : ℕ). n * cell_count c.space-space.result.now ≤ 60000) c.sheets.ensures.sheets (omega (arith, c.cells_over.ensures.count, c.if-cells_over-gt-MOST_CELLS.false))))
