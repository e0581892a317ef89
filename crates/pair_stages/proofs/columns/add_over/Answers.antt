use Rattle.std.proofs.Common.{◌≡◌, ◌-◌, ◌≤◌, ◌<◌, ℕ, List, length, length-set, get_or, ap, sym, ◌∙◌, subst, arith}
use Rattle.small_field.specs.Field.{Ops}
use Rattle.pair_stages.proofs.ColumnLemmas.{column_long, column_entry_is}
use Rattle.pair_stages.proofs.Flows.{share_is, add_step}
use Rattle.pair_stages.proofs.columns.add_over.Goals as goal

pub bounds-values-index : goal.bounds-values-index
bounds-values-index g c =
    let l : length c.args.values.now ≡ length c.args.cells.now = column_long g.F.Field.ops (length c.args.chain.now) c.args.cells.now c.args.values.now c.requires in
    omega arith

pub from_number-requires : goal.from_number-requires
from_number-requires g c =
    subst (λ (n : ℕ). get_or c.args.values.now c.loop-index.index 0 < n) g.met.F.Field.size_is
    (column_entry_is g.F.Field.ops (length c.args.chain.now) c.args.cells.now c.args.values.now c.loop-index.index c.requires c.loop-index-test.true).2

pub get-requires-clause-first : goal.get-requires-clause-first
get-requires-clause-first g c = (column_entry_is g.F.Field.ops (length c.args.chain.now) c.args.cells.now c.args.values.now c.loop-index.index c.requires c.loop-index-test.true).0

pub get-requires-clause-last : goal.get-requires-clause-last
get-requires-clause-last g c =
    subst (λ (n : ℕ). get_or c.args.cells.now c.loop-index.index 0 ≤ n) (sym c.loop-index.invariant.long)
    (column_entry_is g.F.Field.ops (length c.args.chain.now) c.args.cells.now c.args.values.now c.loop-index.index c.requires c.loop-index-test.true).1

pub set-requires-clause-first : goal.set-requires-clause-first
set-requires-clause-first g c = (column_entry_is g.F.Field.ops (length c.args.chain.now) c.args.cells.now c.args.values.now c.loop-index.index c.requires c.loop-index-test.true).0

pub set-requires-clause-last : goal.set-requires-clause-last
set-requires-clause-last g c =
    subst (λ (n : ℕ). get_or c.args.cells.now c.loop-index.index 0 ≤ n) (sym c.loop-index.invariant.long)
    (column_entry_is g.F.Field.ops (length c.args.chain.now) c.args.cells.now c.args.values.now c.loop-index.index c.requires c.loop-index-test.true).1

pub loop-index-preserved : goal.loop-index-preserved
loop-index-preserved g c =
    let F : Ops = g.F.Field.ops in
    let place : ℕ = get_or c.args.cells.now c.loop-index.index 0 - 1 in
    record {
      long = ap (λ (xs : List ℕ). length xs) c.set.ensures ∙ (length-set c.loop-index.chain place (g.F.Field.number_of c.add-value.result) ∙ c.loop-index.invariant.long);
      rest = add_step F c.args.cells.now c.args.values.now c.loop-index.index (g.F.Field.number_of c.args.factor) c.loop-index.chain c.set.new.self c.loop-index-test.true (column_long F (length c.args.chain.now) c.args.cells.now c.args.values.now c.requires)
          (share_is F c.loop-index.chain c.set.new.self place (g.F.Field.number_of c.args.factor) (get_or c.args.values.now c.loop-index.index 0) (g.F.Field.number_of c.from_number.result) (g.F.Field.number_of c.mul-share.result) (g.F.Field.number_of c.get.result) (g.F.Field.number_of c.add-value.result)
          c.from_number.ensures c.mul-share.ensures c.get.ensures c.add-value.ensures c.set.ensures)
          ∙ c.loop-index.invariant.rest;
    }
