-- The order of live partial tables, and what comes after one of them. P are relations, n is the most sheets, t and q are positions.
--   in_order qs            each position comes before all that stand after it
-- Laws:
--   LiveIsLeft             the live partial tables after sound cells are what a walk there has left, and then those of more sheets
--   LiveInOrder            all live partial tables stand in order
--   LiveResumes            those after one of them are those that stand behind it
--   RunsJoin               the listed ones of two runs, of which the second goes on with so many where the first ended, are those of one run
use Rattle.std.specs.Prelude.{◌≡◌, ℕ, suc, ◌+◌, ◌-◌, ◌*◌, ◌≤◌, List, [], ◌∷◌, ◌++◌, map, length, filter, take, Bool, true, ◌&&◌}
use Rattle.std.specs.List.{flat_map, list_all, AllByRecursion}
use Rattle.sheet_laws.specs.Permutations.{InRange}
use Rattle.live_laws.specs.Trees.{from, rest}
use Rattle.live_laws.specs.Live.{Relations, Position, sound, live, live_of, comes_after, is_listed}

abbrev pub in_order : List Position → Bool
in_order [] = true
in_order (x ∷ xs) = list_all (comes_after x) xs && in_order xs

abbrev pub LiveIsLeft : Type 0
LiveIsLeft =
    (P : Relations) (n m : ℕ) (p : List ℕ)
    → InRange n m
    → length p ≤ m * P.generators
    → AllByRecursion (InRange m) p
    → sound P m p ≡ true
    → live P n (m, p)
    ≡ map (λ q. (m, q)) (rest (sound P m) m (m * P.generators) [] p 1) ++ flat_map (live_of P) (from (suc m) (n - m))

abbrev pub LiveInOrder : Type 0
LiveInOrder = (P : Relations) (n : ℕ) → in_order (flat_map (live_of P) (from 1 n)) ≡ true

abbrev pub LiveResumes : Type 0
LiveResumes =
    (P : Relations) (n : ℕ) (t q : Position) (xs ys : List Position)
    → live P n t ≡ xs ++ q ∷ ys
    → live P n q ≡ ys

abbrev pub RunsJoin : Type 0
RunsJoin =
    (P : Relations) (n : ℕ) (t q : Position) (xs ys : List Position) (b : ℕ)
    → live P n t ≡ xs ++ q ∷ ys
    → filter (is_listed P) (xs ++ q ∷ []) ++ filter (is_listed P) (take b (live P n q))
    ≡ filter (is_listed P) (take (length xs + 1 + b) (live P n t))
