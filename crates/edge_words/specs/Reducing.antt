-- What the loops over letters stand on. ws are words, w is a word, ss are steps.
--   IsWord w        its letters are generators up to 60,000 or their inverses, and it is reduced
--   AreWords ws     so are the letters of these words
--   AreSteps ws ss  there is a word for the edge of each step
--   place_in e ss   the first of the steps along an edge, counted from 0
use Rattle.std.specs.Prelude.{◌≡◌, ℕ, suc, ℤ, List, [], ◌∷◌, length, All, true, ◌==◌, if◌then◌else◌}
use Rattle.regular_check.specs.declared.cycles.Step.{Step}
use Rattle.pair_laws.specs.Letters.{is_reduced}
use Rattle.sheet_laws.specs.Permutations.{InRange}
use Rattle.live_laws.specs.Walks.{AreLetters}

pub record IsWord (w : List ℤ) : Type 0 where
  pub letters : AreLetters 60000 w
  pub is : is_reduced w ≡ true

abbrev pub AreWords : List (List ℤ) → Type 0
AreWords ws = All (AreLetters 60000) ws

abbrev pub AreSteps : List (List ℤ) → List Step → Type 0
AreSteps ws ss = All (λ (s : Step). InRange (length ws) s.edge) ss

abbrev pub place_in : (e : ℕ) → List Step → ℕ
place_in e [] = 0
place_in e (s ∷ ss) = if s.edge == e then 0 else suc (place_in e ss)
