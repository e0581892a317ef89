-- What contracts see of a source in memory that never fails.
--   SteadyState   bytes: what it has under each name; begun: whether begin was called; rest: what is then left to read
use Rattle.std.specs.Prelude.{ℕ, Bool, List}

pub record SteadyState : Type 0 where
  pub bytes : List ℕ
  pub begun : Bool
  pub rest : List ℕ
