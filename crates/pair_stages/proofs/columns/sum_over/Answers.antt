use Rattle.std.proofs.Common.{◌≡◌, ◌<◌, ℕ, length, get_or, ap, sym, ◌∙◌, subst, arith}
use Rattle.small_field.specs.Field.{Ops}
use Rattle.small_field.proofs.CallerLemmas.{zero_below}
use Rattle.pair_stages.specs.Columns.{sum_on}
use Rattle.pair_stages.proofs.ColumnLemmas.{column_long, column_entry_is, sum_below, sum_more, sum_end}
use Rattle.pair_stages.proofs.columns.sum_over.Goals as goal

pub loop-index-init : goal.loop-index-init
loop-index-init g c =
    let F : Ops = g.F.Field.ops in
    let s : ℕ = sum_on F c.args.cells.now c.args.values.now c.args.y.now in
    record {
      below = subst (λ (x : ℕ). x < F.size) (sym c.zero-total.ensures) (zero_below F g.met.F.Field.laws);
      sum = ap (λ (x : ℕ). F.add x s) c.zero-total.ensures ∙ g.met.F.Field.laws.zero_add s (sum_below F g.met.F.Field.laws c.args.cells.now c.args.values.now c.args.y.now);
    }

pub bounds-values-index : goal.bounds-values-index
bounds-values-index g c =
    let l : length c.args.values.now ≡ length c.args.cells.now = column_long g.F.Field.ops (length c.args.y.now) c.args.cells.now c.args.values.now c.requires in
    omega arith

pub from_number-value-requires : goal.from_number-value-requires
from_number-value-requires g c =
    subst (λ (n : ℕ). get_or c.args.values.now c.loop-index.index 0 < n) g.met.F.Field.size_is
    (column_entry_is g.F.Field.ops (length c.args.y.now) c.args.cells.now c.args.values.now c.loop-index.index c.requires c.loop-index-test.true).2

pub get-requires-clause-first : goal.get-requires-clause-first
get-requires-clause-first g c = (column_entry_is g.F.Field.ops (length c.args.y.now) c.args.cells.now c.args.values.now c.loop-index.index c.requires c.loop-index-test.true).0

pub get-requires-clause-last : goal.get-requires-clause-last
get-requires-clause-last g c = (column_entry_is g.F.Field.ops (length c.args.y.now) c.args.cells.now c.args.values.now c.loop-index.index c.requires c.loop-index-test.true).1

pub loop-index-preserved : goal.loop-index-preserved
loop-index-preserved g c =
    let F : Ops = g.F.Field.ops in
    let step = c.add-total.ensures
    ∙ ap (F.add (g.F.Field.number_of c.loop-index.total))
    (c.mul.ensures ∙ (ap (λ (x : ℕ). F.mul x (g.F.Field.number_of c.get.result)) c.from_number-value.ensures ∙ ap (F.mul (get_or c.args.values.now c.loop-index.index 0)) c.get.ensures)) in
    record {
      below = subst (λ (x : ℕ). x < F.size) (sym c.add-total.ensures) (g.met.F.Field.laws.add_below (g.F.Field.number_of c.loop-index.total) (g.F.Field.number_of c.mul.result));
      sum = sum_more F g.met.F.Field.laws c.args.cells.now c.args.values.now c.args.y.now c.loop-index.index (g.F.Field.number_of c.loop-index.total) (g.F.Field.number_of c.add-total.result) c.loop-index-test.true
          (column_long F (length c.args.y.now) c.args.cells.now c.args.values.now c.requires) c.loop-index.invariant.sum step;
    }

pub returns : goal.returns
returns g c =
    let F : Ops = g.F.Field.ops in
    sum_end F g.met.F.Field.laws c.args.cells.now c.args.values.now c.args.y.now c.loop-index.index (g.F.Field.number_of c.loop-index.total) (omega arith) c.loop-index.invariant.below c.loop-index.invariant.sum
