-- Lists that lie one after another, each in a room of its own. start is where the first room begins, ends
-- are where rooms end, nexts where the next entries go, xs are the entries.
--   Filling                            how many entries each list has room for, and what it holds so far
--   HasRoom filling index              the list at an index has room for one more entry
--   widths start ends                  the sizes of the rooms
--   filled start ends nexts xs         what the rooms hold
--   IsFilled start ends nexts total    each next place is within its room, and the last room ends where the entries end
--   AllGain numbers value old new      the new lists with these numbers, counted from 1, have the value more at their ends
use Rattle.std.specs.Prelude.{◌≡◌, ℕ, ◌+◌, ◌-◌, ◌<◌, ◌≤◌, List, [], ◌∷◌, ◌++◌, length, cond, slice_index, slice_index_or, take, drop}
use Rattle.number_lists.specs.Words.{holds}

pub record Filling : Type 0 where
  pub rooms : List ℕ
  pub parts : List (List ℕ)

abbrev pub HasRoom : Filling → ℕ → Type 0
HasRoom filling index = length (slice_index_or filling.parts index []) < slice_index filling.rooms index

abbrev pub widths : ℕ → List ℕ → List ℕ
widths start [] = []
widths start (end ∷ ends) = (end - start) ∷ widths end ends

abbrev pub filled : ℕ → List ℕ → List ℕ → List ℕ → List (List ℕ)
filled start [] nexts xs = []
filled start (end ∷ ends) [] xs = []
filled start (end ∷ ends) (next ∷ nexts) xs = take (next - start) (drop start xs) ∷ filled end ends nexts xs

abbrev pub IsFilled : ℕ → List ℕ → List ℕ → ℕ → Type 0
IsFilled start [] [] total = start ≡ total
IsFilled start [] (next ∷ nexts) total = ⊥
IsFilled start (end ∷ ends) [] total = ⊥
IsFilled start (end ∷ ends) (next ∷ nexts) total = (start ≤ next) × (next ≤ end) × IsFilled end ends nexts total

abbrev pub AllGain : List ℕ → ℕ → List (List ℕ) → List (List ℕ) → Type 0
AllGain numbers value old new =
    (k : ℕ) → k < length old → slice_index_or new k [] ≡ slice_index_or old k [] ++ cond (holds numbers (k + 1)) (value ∷ []) []
