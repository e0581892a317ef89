use Rattle.std.proofs.Common.{◌≡◌, ℕ, List, length, ap, sym, ◌∙◌, arith}
use Rattle.pair_stages.specs.Stages.{critical_from}
use Rattle.pair_stages.proofs.Matching.{rows_long}
use Rattle.pair_stages.proofs.stage.Stage.of_signed.Goals as goal

pub invariant_of-result : goal.invariant_of-result
invariant_of-result g c = (
  c.in_ok-critical.ensures ∙ ap (critical_from 1) c.deref.ensures.value,
  record {
    cells = let l : length c.in_ok-kinds.kinds.items ≡ c.cells.result = c.in_ok-kinds.ensures.long in omega (arith, c.cells.type_inv);
    above = c.in_ok-columns.ensures.few;
    few = c.in_ok-pairs.ensures.few;
    rows = ap (λ (rows : List (List ℕ)). length rows) c.in_ok-columns.ensures.rows
        ∙ (rows_long g.F.Field.ops g.met.F.Field.laws (g.G.Graded.space c.args.graded.now) (g.G.Signed.negative c.args.graded.now) c.args.dim ∙ (sym c.cells.ensures.cells ∙ sym c.in_ok-kinds.ensures.long));
  },
)
