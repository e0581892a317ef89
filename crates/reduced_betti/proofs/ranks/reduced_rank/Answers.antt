use Rattle.std.proofs.Common.{◌≤◌, length, ap, sym, subst, ◌∙◌, ◌+◌}
use Rattle.linear_laws.specs.Echelon.{rank_of}
use Rattle.field_matrix.specs.Rows.{Rows}
use Rattle.split_laws.specs.Kinds.{criticals}
use Rattle.critical_complex.specs.Levels.{kinds_at}
use Rattle.reduced_betti.proofs.Bounds.{is_reduced, few_additions, few_filled, has_rank}
use Rattle.reduced_betti.proofs.ranks.reduced_rank.Goals as goal

pub rank-requires : goal.rank-requires
rank-requires g c =
    is_reduced g.F.Field.ops c.in_ok-matrix.matrix.cols (rank_of c.reduce.new.self.rows) c.in_ok-matrix.matrix.rows c.reduce.new.self.rows c.reduce.ensures.reduced c.reduce.new.self.cols c.reduce.ensures.cols

pub returns-clause-rank : goal.returns-clause-rank
returns-clause-rank g c =
    has_rank g.F.Field.ops c.in_ok-matrix.matrix.cols (rank_of c.reduce.new.self.rows) c.in_ok-matrix.matrix.rows c.reduce.new.self.rows c.reduce.ensures.reduced g.met.F.Field.laws
    c.args.reduced.now c.args.dim c.rank.result c.filled_rows.result.now.rows (ap (λ (m : Rows). m.cols) c.in_ok-matrix.ensures ∙ c.filled_rows.ensures.cols) (ap (λ (m : Rows). m.rows) c.in_ok-matrix.ensures) c.rank.ensures.rank c.filled_rows.ensures.rows

pub returns-clause-steps : goal.returns-clause-steps
returns-clause-steps g c =
    few_additions g.F.Field.ops c.in_ok-matrix.matrix.cols (rank_of c.reduce.new.self.rows) c.in_ok-matrix.matrix.rows c.reduce.new.self.rows c.reduce.ensures.reduced
    (criticals (kinds_at c.args.reduced.now c.args.dim)) (criticals (kinds_at c.args.reduced.now (c.args.dim + 1))) c.args.steps.now c.reduce.new.steps
    (subst (λ n. n ≤ criticals (kinds_at c.args.reduced.now c.args.dim)) (sym (ap (λ (m : Rows). length m.rows) c.in_ok-matrix.ensures)) (few_filled g.F.Field.ops c.args.reduced.now c.args.dim c.filled_rows.result.now.rows c.filled_rows.ensures.rows))
    (ap (λ (m : Rows). m.cols) c.in_ok-matrix.ensures ∙ c.filled_rows.ensures.cols) c.reduce.ensures.steps
