use Rattle.std.proofs.Common.{◌+◌}
use Rattle.linear_laws.specs.Echelon.{rank_of}
use Rattle.order_complex.specs.Chains.{chains_of}
use Rattle.plain_betti.proofs.Reductions.{is_reduced, is_rank, few_additions}
use Rattle.plain_betti.proofs.ranks.coboundary_rank.Goals as goal

pub rank-requires : goal.rank-requires
rank-requires g c =
    is_reduced g.F.Field.ops c.in_ok-matrix.matrix.cols (rank_of c.reduce.new.self.rows) c.in_ok-matrix.matrix.rows c.reduce.new.self.rows c.reduce.ensures.reduced c.reduce.new.self.cols c.reduce.ensures.cols

pub returns-clause-rank : goal.returns-clause-rank
returns-clause-rank g c =
    is_rank g.F.Field.ops c.in_ok-matrix.matrix.cols (rank_of c.reduce.new.self.rows) c.in_ok-matrix.matrix.rows c.reduce.new.self.rows c.reduce.ensures.reduced
    (chains_of c.args.chains.now c.args.degree) (chains_of c.args.chains.now (c.args.degree + 1)) c.rank.result c.in_ok-matrix.ensures.cols c.in_ok-matrix.ensures.rows c.rank.ensures.rank

pub returns-clause-steps : goal.returns-clause-steps
returns-clause-steps g c =
    few_additions g.F.Field.ops c.in_ok-matrix.matrix.cols (rank_of c.reduce.new.self.rows) c.in_ok-matrix.matrix.rows c.reduce.new.self.rows c.reduce.ensures.reduced
    (chains_of c.args.chains.now c.args.degree) (chains_of c.args.chains.now (c.args.degree + 1)) c.args.steps.now c.reduce.new.steps c.in_ok-matrix.ensures.cols c.in_ok-matrix.ensures.rows c.reduce.ensures.steps
