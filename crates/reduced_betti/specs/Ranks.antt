-- The ranks of reduced coboundaries. F is the arithmetic of a field, levels are the degrees of a reduction.
--   HasRank F levels degree rank   the reduced rows of a degree have a reduced row echelon form with so many pivots
--   AreRanks F levels ranks        the same for the degrees 0, 1 and 2
--   critical_entries levels        rows times columns of the three reduced coboundaries, summed
use Rattle.std.specs.Prelude.{ℕ, ◌+◌, ◌*◌, List}
use Rattle.small_field.specs.Field.{Ops}
use Rattle.linear_laws.specs.Echelon.{IsReducedTo}
use Rattle.split_laws.specs.Kinds.{criticals}
use Rattle.critical_complex.specs.Levels.{Level, kinds_at, IsReducedAt}
use Rattle.reduced_betti.specs.declared.ranks.Ranks.{Ranks}

pub record HasRank (F : Ops) (levels : List Level) (degree rank : ℕ) : Type 0 where
  pub rows : List (List ℕ)
  pub reduced : IsReducedAt F levels degree rows
  pub echelon : List (List ℕ)
  pub is : IsReducedTo F (criticals (kinds_at levels (degree + 1))) rank (criticals (kinds_at levels (degree + 1))) rows echelon

pub record AreRanks (F : Ops) (levels : List Level) (ranks : Ranks) : Type 0 where
  pub first : HasRank F levels 0 ranks.first
  pub second : HasRank F levels 1 ranks.second
  pub third : HasRank F levels 2 ranks.third

abbrev pub critical_entries : List Level → ℕ
critical_entries levels =
    criticals (kinds_at levels 0) * criticals (kinds_at levels 1) + criticals (kinds_at levels 1) * criticals (kinds_at levels 2) + criticals (kinds_at levels 2) * criticals (kinds_at levels 3)
