-- Lists that lie one after another in one list, by their ends. start is where the first one begins, ends
-- are where they end, xs are the entries.
--   cut start ends xs          the parts
--   IsCut start ends total     the ends rise, and the last one is the length
--   begin_of start ends i      where part i begins
use Rattle.std.specs.Prelude.{◌≡◌, ℕ, zero, suc, ◌-◌, ◌≤◌, List, [], ◌∷◌, take, drop}

abbrev pub cut : ℕ → List ℕ → List ℕ → List (List ℕ)
cut start [] xs = []
cut start (end ∷ ends) xs = take (end - start) (drop start xs) ∷ cut end ends xs

abbrev pub IsCut : ℕ → List ℕ → ℕ → Type 0
IsCut start [] total = start ≡ total
IsCut start (end ∷ ends) total = (start ≤ end) × IsCut end ends total

abbrev pub begin_of : ℕ → List ℕ → ℕ → ℕ
begin_of start [] i = start
begin_of start (end ∷ ends) zero = start
begin_of start (end ∷ ends) (suc i) = begin_of end ends i
