use Rattle.std.proofs.Common.{◌≡◌, ◌-◌, ◌+◌, ◌<◌, ℕ, List, [], length, get_or, ap, ◌∙◌, arith}
use Rattle.linear_laws.specs.Vectors.{IsVector}
use Rattle.linear_laws.proofs.CallerLemmas.{all_at}
use Rattle.order_complex.specs.Chains.{chains_of}
use Rattle.order_complex.specs.Cochains.{coboundary_at}
use Rattle.plain_betti.proofs.Filling.{row_filled_more}
use Rattle.plain_betti.proofs.ranks.put_coboundary.Goals as goal

pub loop-col-preserved : goal.loop-col-preserved
loop-col-preserved g c =
    let F = g.F.Field.ops in
    let rows : List (List ℕ) = c.args.matrix.now.rows in
    let next : List (List ℕ) = chains_of c.args.chains.now (c.args.degree + 1) in
    let long : length (get_or rows c.args.row []) ≡ c.args.matrix.now.cols = (all_at (IsVector F c.args.matrix.now.cols) rows c.args.row [] c.requires.row c.cols-col-end.ensures.matrix).long in
    let place : (c.loop-col.col + 1) - 1 ≡ c.loop-col.col = omega arith in
    let more : c.loop-col.col < length next = omega arith in
    record {
      cols = c.set.ensures.cols ∙ c.loop-col.invariant.cols;
      rows = row_filled_more (coboundary_at F (chains_of c.args.chains.now c.args.degree) c.args.x.now) c.loop-col.col next [] rows c.args.row c.requires.row (long ∙ c.requires.cols) more
          c.loop-col.matrix.rows c.set.new.self.rows (g.F.Field.number_of c.coboundary_at-value.result) c.loop-col.invariant.rows
          (c.coboundary_at-value.ensures ∙ ap (λ (k : ℕ). coboundary_at F (chains_of c.args.chains.now c.args.degree) c.args.x.now (get_or next k [])) place)
          c.set.ensures.rows;
    }
