-- Linear functions. k is the arithmetic of a field.
--   IsLinear k n g   g is a linear function of the vectors of n coordinates
use Rattle.std.specs.Prelude.{◌≡◌, ℕ, List, replicate}
use Rattle.small_field.specs.Field.{Ops}
use Rattle.linear_laws.specs.Vectors.{IsVector, plus_scaled}

pub record IsLinear (k : Ops) (n : ℕ) (g : List ℕ → ℕ) : Type 0 where
  pub zero : g (replicate n 0) ≡ 0
  pub plus : (s : ℕ) (u v : List ℕ) → IsVector k n u → IsVector k n v → g (plus_scaled k s u v) ≡ k.add (g u) (k.mul s (g v))
