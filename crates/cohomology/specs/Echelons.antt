-- The reduced coboundaries in echelon form, and the Betti numbers that they leave. `levels` are the degrees of a reduced complex, F is
-- the arithmetic of a field. (Cohomology of a complex by ranks; textbook.)
--   AreRowsOf F levels space          the rows of the degrees from 0 to 3 are those of the coboundaries on the chains of a space
--   ReductionsHaveRows F              a reduction of the chains of a space by a field of pairs has these rows
--   IsEchelon F levels degree e       e is an echelon form of the reduced rows of a degree that are not zero, with its history
--   rank_in e                         its number of pivots
--   AreEchelons F levels e            so for the degrees 0, 1 and 2, of a reduced complex; each of the numbers is that of the critical cells
--                                     of a degree less the ranks of the two coboundaries into it and out of it
--   number_at numbers degree          the number of a degree from 0 to 3
--   critical_entries levels           rows times columns of the three reduced coboundaries, summed
use Rattle.std.specs.Prelude.{◌≡◌, ℕ, zero, suc, ◌+◌, ◌*◌, ◌≤◌, List, length}
use Rattle.face_poset.specs.declared.cells.Pair.{Pair}
use Rattle.face_poset.specs.Poset.{Layers}
use Rattle.small_field.specs.Field.{Ops}
use Rattle.linear_laws.specs.Echelon.{IsReducedTo, rank_of}
use Rattle.linear_laws.specs.Vectors.{IsHistory}
use Rattle.field_matrix.specs.declared.history.Elimination.{Elimination}
use Rattle.split_laws.specs.Kinds.{criticals}
use Rattle.critical_complex.specs.Levels.{Level, kinds_at, rows_at, AreFilledAt}
use Rattle.critical_complex.specs.Complex.{IsReducedComplex, IsReductionOf}
use Rattle.order_complex.specs.Complex.{complex_of, negative_in}
use Rattle.order_complex.specs.Ranks.{rows_of}
use Rattle.order_complex.specs.declared.betti.Betti.{Betti}
use Rattle.cohomology.specs.declared.echelons.Echelons.{Echelons}

abbrev pub AreRowsOf : Ops → List Level → Layers → Type 0
AreRowsOf F levels space = (degree : ℕ) → degree ≤ 3 → rows_at levels degree ≡ rows_of F space degree

abbrev pub ReductionsHaveRows : Ops → Type 0
ReductionsHaveRows F = (space : Layers) (pairs : List Pair) (levels : List Level) → IsReductionOf F (complex_of space) (negative_in space) pairs levels → AreRowsOf F levels space

pub record IsEchelon {G : Type 0} (F : Ops) (levels : List Level) (degree : ℕ) (e : Elimination G) : Type 0 where
  pub rows : List (List ℕ)
  pub filled : AreFilledAt F levels degree rows
  pub cols : e.reduced.cols ≡ criticals (kinds_at levels (degree + 1))
  pub form : IsReducedTo F (criticals (kinds_at levels (degree + 1))) (rank_of e.reduced.rows) (criticals (kinds_at levels (degree + 1))) rows e.reduced.rows
  pub history_cols : e.history.cols ≡ length rows
  pub history : IsHistory F (criticals (kinds_at levels (degree + 1))) rows e.reduced.rows e.history.rows

abbrev pub rank_in : {G : Type 0} → Elimination G → ℕ
rank_in e = rank_of e.reduced.rows

pub record AreEchelons {G : Type 0} (F : Ops) (levels : List Level) (e : Echelons G) : Type 0 where
  pub complex : IsReducedComplex F levels
  pub first : IsEchelon F levels 0 e.first
  pub second : IsEchelon F levels 1 e.second
  pub third : IsEchelon F levels 2 e.third
  pub zero : e.numbers.zero + rank_in e.first ≡ criticals (kinds_at levels 0)
  pub one : e.numbers.one + rank_in e.first + rank_in e.second ≡ criticals (kinds_at levels 1)
  pub two : e.numbers.two + rank_in e.second + rank_in e.third ≡ criticals (kinds_at levels 2)
  pub three : e.numbers.three + rank_in e.third ≡ criticals (kinds_at levels 3)

abbrev pub number_at : Betti → (degree : ℕ) → ℕ
number_at numbers zero = numbers.zero
number_at numbers (suc zero) = numbers.one
number_at numbers (suc (suc zero)) = numbers.two
number_at numbers (suc (suc (suc degree))) = numbers.three

abbrev pub critical_entries : List Level → ℕ
critical_entries levels =
    criticals (kinds_at levels 0) * criticals (kinds_at levels 1) + criticals (kinds_at levels 1) * criticals (kinds_at levels 2) + criticals (kinds_at levels 2) * criticals (kinds_at levels 3)
