use Rattle.std.proofs.Common.{ℕ, ◌≤◌, List, length, arith}
use Rattle.small_field.specs.Field.{Ops, IsField}
use Rattle.linear_laws.specs.Vectors.{IsBasis, InSpan}
use Rattle.linear_laws.specs.Laws.{BasesAreAsLong, RowsHaveABasis, RankIsDimension, CombinationLaws}
use Rattle.linear_laws.proofs.Span.{combination-vector, combination-zeros, combination-plus, span_rows, same_span}
use Rattle.linear_laws.proofs.Decide.{entry_combination}
use Rattle.linear_laws.proofs.Dimension.{combination_twice, no_more}
use Rattle.linear_laws.proofs.Betti.{in_span_trans, combination-append, rank_is_dimension}
use Rattle.linear_laws.proofs.Halves.{Chosen, choose}
use Rattle.linear_laws.proofs.Linear.{functional_of_combination}
use Rattle.linear_laws.proofs.Adjoint.{adjoint}
use Rattle.linear_laws.proofs.Bump.{dot_bumped}
use Rattle.linear_laws.proofs.Alls.{all_weaker}

module _ (k : Ops) (f : IsField k) where
  -- a basis is no longer than another
  no_longer : (n : ℕ) (rows us vs : List (List ℕ)) → IsBasis k n rows us → IsBasis k n rows vs → length us ≤ length vs
  no_longer n rows us vs u v =
      no_more k f n us vs v.matrix u.independent
      (all_weaker (InSpan k n us) (InSpan k n vs) (λ w p. v.span.there w (u.span.back w p)) us (span_rows k f n us u.matrix))

  pub bases_are_as_long : BasesAreAsLong k
  bases_are_as_long n rows us vs u v =
      let one : length us ≤ length vs = no_longer n rows us vs u v in
      let other : length vs ≤ length us = no_longer n rows vs us v u in
      omega arith

  pub rank_of_basis : RankIsDimension k
  rank_of_basis n rank rows reduced basis a r b =
      rank_is_dimension k f n rank rows reduced r basis b.matrix b.independent
      (all_weaker (InSpan k n rows) (InSpan k n basis) b.span.there rows (span_rows k f n rows a))
      (all_weaker (InSpan k n basis) (InSpan k n rows) b.span.back basis (span_rows k f n basis b.matrix))

  pub combination_laws : CombinationLaws k
  combination_laws = record {
    vector = combination-vector k f;
    coordinate = entry_combination k f;
    zeros = combination-zeros k f;
    plus = combination-plus k f;
    twice = combination_twice k f;
    append = combination-append k f;
    functional = functional_of_combination k f;
    adjoint = adjoint k f;
    bumped = dot_bumped k f;
    span_is_transitive = in_span_trans k f;
  }

  pub rows_have_a_basis : RowsHaveABasis k
  rows_have_a_basis n rows a =
      let c : Chosen k f n rows = choose k f n rows a in (
        c.some,
        record { matrix = c.matrix; independent = c.independent; span = same_span k f n rows c.some a c.matrix c.spans c.inside },
      )
