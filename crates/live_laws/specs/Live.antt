-- Live partial tables: the first cells of a table, row by row, that may still grow to one for some relations; and the listed tables, which
-- are whole and least. m is the number of sheets, c that of generators and of columns, p and q are cells; sheets and columns are counted
-- from 1. (Low-index subgroups, by coset tables; textbook, after Sims.)
--   Relations               the number of generators and the relators, words in their letters
--   appeared seen p         the greatest of a sheet and the cells
--   taken c j x i p         whether x stands among cells, of which the first is at the place i, in the column of the place j
--   may_follow c m p x      whether the cell x may come after p: a cell is left, x is a sheet, at most one more than have appeared, the row
--                           has appeared, and x is not yet in its column
--   follows c m p xs        whether the cells xs may come after p, one after another
--   sound P m p             p may be built so from nothing, and no relator fails
--   is_live P m p           and it is not empty
--   Position                a number of sheets with cells; the start is 0 with none, the table without columns is 1 with none
--   comes_after t q         whether q has more sheets, or as many and cells that the cells of t precede
--   live_of P m             all live partial tables of m sheets, in order
--   live P n t              those of 1 to n sheets that come after t
--   is_listed P q           whether it is a whole table, and least
--   listed P n t            the whole ones among the live ones after t that are least; without generators the one table of one sheet
--   live_bound c n          the most that there can be of 1 to n sheets
-- Laws:
--   PrefixesAreSound        the beginnings of sound cells are sound
--   OneCellMore             sound cells stay so with one cell more where that may follow, and no relator fails that names the generator of
--                           its column
--   LiveTablesAreFew        there are at most `live_bound` live partial tables
use Rattle.std.specs.Prelude.{◌≡◌, ℕ, zero, suc, ◌+◌, ◌*◌, ◌/◌, ◌%◌, ◌^◌, ◌≤◌, ℤ, List, [], ◌∷◌, ◌++◌, map, length, filter, Bool, true, false, not, ◌&&◌, ◌||◌, ◌==◌, nat_lt, nat_le, max}
use Rattle.std.specs.List.{list_all, flat_map, AllByRecursion}
use Rattle.sheet_laws.specs.Tables.{precedes, is_least}
use Rattle.live_laws.specs.Trees.{from, beyond}
use Rattle.live_laws.specs.Walks.{never_fails, mentions, AreLetters}

pub record Relations : Type 0 where
  pub generators : ℕ
  pub relators : List (List ℤ)

abbrev pub appeared : (seen : ℕ) → List ℕ → ℕ
appeared seen [] = seen
appeared seen (x ∷ xs) = appeared (max seen x) xs

abbrev pub taken : (c j x i : ℕ) → List ℕ → Bool
taken c j x i [] = false
taken c j x i (y ∷ ys) = ((i % c == j % c) && (x == y)) || taken c j x (suc i) ys

abbrev pub may_follow : (c m : ℕ) → List ℕ → (x : ℕ) → Bool
may_follow c m p x =
    nat_lt (length p) (m * c)
    && ((nat_le 1 x && nat_le x m)
    && (nat_le x (suc (appeared 1 p))
    && (nat_le (suc (length p / c)) (appeared 1 p)
    && not (taken c (length p) x 0 p))))

abbrev pub follows : (c m : ℕ) → (p xs : List ℕ) → Bool
follows c m p [] = true
follows c m p (x ∷ xs) = may_follow c m p x && follows c m (p ++ x ∷ []) xs

abbrev pub sound : Relations → (m : ℕ) → List ℕ → Bool
sound P m p = follows P.generators m [] p && list_all (never_fails P.generators m p) P.relators

abbrev pub is_live : Relations → (m : ℕ) → List ℕ → Bool
is_live P m p = nat_lt 0 (length p) && sound P m p

abbrev pub Position : Type 0
Position = ℕ × List ℕ

abbrev pub comes_after : Position → Position → Bool
comes_after t q = nat_lt t.0 q.0 || ((t.0 == q.0) && precedes t.1 q.1)

abbrev pub live_of : Relations → (m : ℕ) → List Position
live_of P m = map (λ p. (m, p)) (filter (is_live P m) (beyond m (m * P.generators) []))

abbrev pub live : Relations → (n : ℕ) → Position → List Position
live P n t = filter (comes_after t) (flat_map (live_of P) (from 1 n))

abbrev pub is_listed : Relations → Position → Bool
is_listed P q = (length q.1 == q.0 * P.generators) && is_least P.generators q.0 q.1

abbrev pub listed : Relations → (n : ℕ) → Position → List Position
listed P n t = elim (P.generators == 0) [ true ↦ (1, []) ∷ [] | false ↦ filter (is_listed P) (live P n t) ]

abbrev pub live_bound : (c n : ℕ) → ℕ
live_bound c zero = 0
live_bound c (suc zero) = c
live_bound c (suc (suc n)) = live_bound c (suc n) + 2 * (suc (suc n)) ^ (suc (suc n) * c)

abbrev pub PrefixesAreSound : Type 0
PrefixesAreSound = (P : Relations) (m : ℕ) (p z : List ℕ) → sound P m (p ++ z) ≡ true → sound P m p ≡ true

abbrev pub OneCellMore : Type 0
OneCellMore =
    (P : Relations) (m : ℕ) (p : List ℕ) (x : ℕ)
    → AllByRecursion (AreLetters P.generators) P.relators
    → sound P m p ≡ true
    → sound P m (p ++ x ∷ [])
    ≡ (may_follow P.generators m p x
    && list_all
    (never_fails P.generators m (p ++ x ∷ []))
    (filter (mentions (suc (length p % P.generators))) P.relators))

abbrev pub LiveTablesAreFew : Type 0
LiveTablesAreFew = (P : Relations) (n : ℕ) (t : Position) → length (live P n t) ≤ live_bound P.generators n
