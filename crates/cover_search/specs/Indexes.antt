-- Which relators name a generator; the code's own. Relators and generators are counted from 1, places of lists from 0.
--   IsNaming c w ns         ns are the generators that the word names, each once, in rising order
--   IsIndex P index         for each generator the numbers of the relators that name it
use Rattle.std.specs.Prelude.{◌≡◌, ℕ, suc, ◌-◌, ◌<◌, ℤ, List, [], length, true, slice_index_or}
use Rattle.number_lists.specs.Cofaces.{IsRising}
use Rattle.number_lists.specs.Members.{In}
use Rattle.number_lists.specs.Words.{holds}
use Rattle.sheet_laws.specs.Permutations.{InRange}
use Rattle.live_laws.specs.Walks.{mentions}
use Rattle.live_laws.specs.Live.{Relations}

pub record IsNaming (c : ℕ) (w : List ℤ) (ns : List ℕ) : Type 0 where
  pub rising : IsRising c ns
  pub named : (g : ℕ) → holds ns g ≡ mentions g w

pub record IsIndex (P : Relations) (index : List (List ℕ)) : Type 0 where
  pub long : length index ≡ P.generators
  pub only :
      (g n : ℕ)
      → g < P.generators
      → In n (slice_index_or index g [])
      → InRange (length P.relators) n × (mentions (suc g) (slice_index_or P.relators (n - 1) []) ≡ true)
  pub each :
      (g n : ℕ)
      → g < P.generators
      → n < length P.relators
      → mentions (suc g) (slice_index_or P.relators n []) ≡ true
      → In (suc n) (slice_index_or index g [])
