-- What other crates may cite of the proofs here. A lemma that speaks of the arithmetic k of a field takes it, and that it has
-- the laws of a field, before its own arguments; the lemmas on lists take neither. Places count from 0.

-- ---- lists

-- what holds of each element (std's AllByRecursion): of two lists joined, of the first n and of the others
pub use Rattle.linear_laws.proofs.Alls.{all_append, all_take, all_drop}
-- at a place, with another element at a place, and where it is weaker
pub use Rattle.linear_laws.proofs.Alls.{all_at, all_set, all_weaker}
-- two numbers are the same or not; 1 is not 0
pub use Rattle.linear_laws.proofs.Scaled.{same_or_not, one_is_not_zero}
-- ---- rows

-- zeros are elements, an entry of a row of elements is one, and so is an entry of a matrix
pub use Rattle.linear_laws.proofs.Span.{zeros-elements, list_below, row_entry_below}
-- a row and s times another: its length, and that it is a vector
pub use Rattle.linear_laws.proofs.Span.{plus_scaled-long, plus_scaled-vector}
-- zeros and zeros, zeros and one row, and what was added taken away
pub use Rattle.linear_laws.proofs.Span.{zeros_plus, one_times, taken_back}
pub use Rattle.linear_laws.proofs.Betti.{plus_zeros}
-- c times the zs, added to the sum of the gs and the xs
pub use Rattle.linear_laws.proofs.Betti.{regroup}
-- a row times a factor is a vector, and its entries
pub use Rattle.linear_laws.proofs.Scaled.{scaled-vector, scaled_at}
-- the first m entries, and the others, of a row and s times another
pub use Rattle.linear_laws.proofs.Halves.{take-plus_scaled, drop-plus_scaled}
-- columns of a matrix: their length, their elements, their entries
pub use Rattle.linear_laws.proofs.Solve.{length-column, column_below}
pub use Rattle.linear_laws.proofs.Bump.{column_entry}
-- ---- products

-- a product is an element, does not depend on the order, and is 0 with zeros on the right and on the left
pub use Rattle.linear_laws.proofs.Dot.{dot_below, dot_comm, dot_zeros}
pub use Rattle.linear_laws.proofs.Adjoint.{zeros_dot}
-- of a row and s times another; of two rows joined; where something is added at one place
pub use Rattle.linear_laws.proofs.Dot.{dot_added}
pub use Rattle.linear_laws.proofs.Marks.{dot-append}
pub use Rattle.linear_laws.proofs.Bump.{dot_bumped}
-- with a row that is 1 at one place and 0 elsewhere
pub use Rattle.linear_laws.proofs.Betti.{dot_unit}
-- a product with 0 in front, on the left and on the right
pub use Rattle.linear_laws.proofs.Adjoint.{skip_left, skip_right}
-- what has the product 0 with each vector is zero
pub use Rattle.linear_laws.proofs.Adjoint.{killed}
-- ---- combinations

-- they are vectors, zero with the coefficients 0, linear in the coefficients, and joined where lists are joined
pub use Rattle.linear_laws.proofs.Span.{combination-vector, combination-zeros, combination-plus}
pub use Rattle.linear_laws.proofs.Betti.{combination-append}
-- a coordinate is the product with the column; a combination is zero where all these are
pub use Rattle.linear_laws.proofs.Decide.{entry_combination, zeros_of_dots}
-- a combination of combinations; a linear function of a combination
pub use Rattle.linear_laws.proofs.Dimension.{combination_twice}
pub use Rattle.linear_laws.proofs.Linear.{functional_of_combination}
-- its product with c is that of the coefficients with the boundary of c; it is 0 where that with each row is
pub use Rattle.linear_laws.proofs.Adjoint.{adjoint}
pub use Rattle.linear_laws.proofs.Triangles.{dot_of_none}
-- ---- spans

-- zero, each row, and a vector and s times another are in the span; so is a vector times a factor
pub use Rattle.linear_laws.proofs.Span.{span_zero, span_rows, span_plus}
pub use Rattle.linear_laws.proofs.Scaled.{span_scaled}
-- spans are transitive; when two lists have the same
pub use Rattle.linear_laws.proofs.Betti.{in_span_trans}
pub use Rattle.linear_laws.proofs.Span.{same_span, same_span_trans}
-- the span stays where a row is added to another, and where one is multiplied by what is not 0
pub use Rattle.linear_laws.proofs.Span.{addition_keeps_span}
pub use Rattle.linear_laws.proofs.Scaled.{scaling_keeps_span}
-- ---- dimension

-- more than n vectors of n coordinates are dependent; zero coefficients are not nonzero
pub use Rattle.linear_laws.proofs.Solve.{more_are_dependent}
pub use Rattle.linear_laws.proofs.Dimension.{no_nonzero}
-- the rows with pivots of a reduced form: how many, that they are independent, and that they span
pub use Rattle.linear_laws.proofs.Betti.{long_pivots, pivots_independent, pivots_span}
-- what is in the span and zero at the pivots is zero
pub use Rattle.linear_laws.proofs.Betti.{zero_at_pivots}
-- each basis is as long as the rank; by two ranks, the length of a basis of cocycles modulo coboundaries
pub use Rattle.linear_laws.proofs.Betti.{rank_is_dimension, basis_by_ranks}
pub use Rattle.linear_laws.proofs.Laws.{rank_of_basis}
-- ---- marks and rows side by side

-- a mark is a vector, its length, its product with a vector, and the combination by it
pub use Rattle.linear_laws.proofs.Marks.{mark_vector, length-mark, dot_mark, combination-mark}
-- the identity is a matrix, its length, its rows, and combinations of these
pub use Rattle.linear_laws.proofs.Marks.{identity_matrix, length-identity, identity_row, combination-identity}
-- rows side by side are a matrix, their number, and each of them
pub use Rattle.linear_laws.proofs.Marks.{beside_matrix, length-beside, beside_row}
-- the halves of vectors and of matrices
pub use Rattle.linear_laws.proofs.Halves.{left_vector, right_matrix}
-- ---- rows beside the identity, reduced

-- the left halves are a reduced form, with the pivots of the whole; there are as many rows as pivots or more
pub use Rattle.linear_laws.proofs.History.{left_reduced, left_pivots, few_rows}
-- the right halves say how the left ones are made of the rows, and those from the rank on are a basis of the kernel
pub use Rattle.linear_laws.proofs.History.{history_of, told_by_right, kernel_matrix, kernel_basis}
-- ---- rows of zeros

-- a row with an entry that is not zero, a row without, and zeros
pub use Rattle.linear_laws.proofs.ZeroRows.{nonzero_at, zero_row, none_is_zeros, zeros_are_none}
-- one row more at the end, which is not zero, or is zero
pub use Rattle.linear_laws.proofs.ZeroRows.{nonzero_last, zeros_last}
-- how many rows are not zero, and where
pub use Rattle.linear_laws.proofs.ZeroRows.{nonzero_few, nonzero_many, nonzero_within, all_nonzero}
-- one row more that is put; the rows that are not zero among zeros are all; rows of zeros change no rank
pub use Rattle.linear_laws.proofs.ZeroRows.{put_more, again, same_rank}
