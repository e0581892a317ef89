-- What is kept of one degree.
--   critical_from n kinds    the numbers of the critical cells, where the first cell has the number n
--   place_of kinds i         the place of a critical cell, by its index; both count from 0
--   Stage                    the rows of the coboundary of a degree, of so many numbers, the kinds of its cells, and the pairs of its
--                            lowers with uppers of the next degree, by places, in the order of the field
--   empty_stage              a degree without cells
--   IsSmall s                the cells fit 32 bits
--   IsPaired F s next        two degrees, one after the other, with the pairs of a field between them
use Rattle.std.specs.Prelude.{◌≡◌, ℕ, zero, suc, ◌+◌, ◌≤◌, List, [], ◌∷◌, length}
use Rattle.small_field.specs.Field.{Ops}
use Rattle.split_laws.specs.declared.kind.Kind.{Kind}
use Rattle.split_laws.specs.declared.kind.Kind.TheVariants.{Critical, Lower, Upper}
use Rattle.split_laws.specs.declared.matching.Match.{Match}
use Rattle.split_laws.specs.Pairs.{IsMatching}

-- the numbers of the critical cells, where the first cell has the number n
abbrev pub critical_from : (n : ℕ) → List Kind → List ℕ
critical_from n [] = []
critical_from n (Critical ∷ ts) = n ∷ critical_from (n + 1) ts
critical_from n (Lower ∷ ts) = critical_from (n + 1) ts
critical_from n (Upper ∷ ts) = critical_from (n + 1) ts

-- the place of a critical cell, by its index
abbrev pub place_of : List Kind → ℕ → ℕ
place_of [] i = 0
place_of (Critical ∷ ts) zero = 0
place_of (Critical ∷ ts) (suc i) = suc (place_of ts i)
place_of (Lower ∷ ts) i = suc (place_of ts i)
place_of (Upper ∷ ts) i = suc (place_of ts i)

pub record Stage : Type 0 where
  pub rows : List (List ℕ)
  pub cols : ℕ
  pub kinds : List Kind
  pub pairs : List Match

-- a degree without cells
abbrev pub empty_stage : Stage
empty_stage = record { rows = []; cols = 0; kinds = []; pairs = [] }

-- the cells fit 32 bits
pub record IsSmall (s : Stage) : Type 0 where
  pub cells : length s.kinds ≤ 4294967295
  pub above : s.cols ≤ 4294967295
  pub rows : length s.rows ≡ length s.kinds
  pub few : length s.pairs ≤ 4294967295

-- two degrees, one after the other, with the pairs of a field between them
pub record IsPaired (F : Ops) (s next : Stage) : Type 0 where
  pub matching : IsMatching F (length s.kinds) (length next.kinds) s.rows s.kinds next.kinds s.pairs
  pub cols : s.cols ≡ length next.kinds
