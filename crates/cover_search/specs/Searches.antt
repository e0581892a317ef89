-- Searches through live partial tables. P are relations, n is the most sheets, t a position; old and new are a search before and after a
-- call that took k units and left a budget.
--   at p                     where a position of sheet_tables stands
--   shown t                  the sheets and cells of a table of sheet_tables
--   Searching                what contracts see of a search: the relations, the most sheets, where it stands, whether the table without
--                            columns was given, and the table that was found last
--   CanStart P n t           a search may begin there: it is the start, or live with at most n sheets
--   begun P n t              the search that begins there; its table is that of one sheet
--   left s                   the live partial tables after where it stands
--   last_of t qs             the last of some positions; t, if there is none
--   placed old k             the next k of the live partial tables
--   found old k              the listed ones of these
--   Goes old new k           they were placed: the search stands at the last of them and has left those behind it; the rest stays
--   HasFound old new k       the only listed one is where it stands
--   HasDone old k            none is listed, and no live partial table is left
--   HasSpent old k budget    none is listed, the budget is 0, and some are left
--   TurnsBy old new k budget turn   how a call ends where there is a generator; a table that is found is where the search stands
--   TurnsOnce old new k turn        and where there is none: the table of one sheet is found once, for no unit
--   Resumes P n t k b        what is left where a search from t stopped after k units, and what is found from there with b units
--   SearchesResume           the law: one search goes on where the other stopped
use Rattle.std.specs.Prelude.{◌≡◌, ◌≢◌, ◌↔◌, ◌⊎◌, ℕ, ◌+◌, ◌≤◌, List, [], ◌∷◌, ◌++◌, length, filter, take, drop, replicate, Bool, true, false}
use Rattle.sheet_laws.specs.Permutations.{InRange}
use Rattle.sheet_tables.specs.Positions.{Place}
use Rattle.sheet_tables.specs.Tables.{Rows}
use Rattle.live_laws.specs.Live.{Relations, Position, is_live, live, is_listed}
use Rattle.cover_search.specs.declared.search.Turn.{Turn}
use Rattle.cover_search.specs.declared.search.Turn.TheVariants.{Found, Done, Spent}

abbrev pub at : Place → Position
at p = (p.sheets, p.cells)

abbrev pub shown : Rows → Position
shown t = (t.sheets, t.cells)

pub record Searching : Type 0 where
  pub relations : Relations
  pub most : ℕ
  pub position : Position
  pub given : Bool
  pub table : Position

abbrev pub CanStart : Relations → (n : ℕ) → Position → Type 0
CanStart P n t = (t ≡ (0, [])) ⊎ (InRange n t.0 × (is_live P t.0 t.1 ≡ true))

abbrev pub begun : Relations → (n : ℕ) → Position → Searching
begun P n t = record { relations = P; most = n; position = t; given = false; table = (1, replicate P.generators 1) }

abbrev pub left : Searching → List Position
left s = live s.relations s.most s.position

abbrev pub last_of : Position → List Position → Position
last_of t [] = t
last_of t (q ∷ qs) = last_of q qs

abbrev pub placed : Searching → (k : ℕ) → List Position
placed old k = take k (left old)

abbrev pub found : Searching → (k : ℕ) → List Position
found old k = filter (is_listed old.relations) (placed old k)

pub record Goes (old new : Searching) (k : ℕ) : Type 0 where
  pub within : k ≤ length (left old)
  pub position : new.position ≡ last_of old.position (placed old k)
  pub left : left new ≡ drop k (left old)
  pub relations : new.relations ≡ old.relations
  pub most : new.most ≡ old.most

abbrev pub HasFound : (old new : Searching) → (k : ℕ) → Type 0
HasFound old new k = found old k ≡ new.position ∷ []

abbrev pub HasDone : (old : Searching) → (k : ℕ) → Type 0
HasDone old k = (found old k ≡ []) × (drop k (left old) ≡ [])

abbrev pub HasSpent : (old : Searching) → (k budget : ℕ) → Type 0
HasSpent old k budget = (found old k ≡ []) × (budget ≡ 0) × (drop k (left old) ≢ [])

pub record TurnsBy (old new : Searching) (k budget : ℕ) (turn : Turn) : Type 0 where
  pub found : (turn ≡ Found) ↔ HasFound old new k
  pub done : (turn ≡ Done) ↔ HasDone old k
  pub spent : (turn ≡ Spent) ↔ HasSpent old k budget
  pub table : turn ≡ Found → new.table ≡ new.position
  pub table_stays : turn ≢ Found → new.table ≡ old.table
  pub given : new.given ≡ old.given

pub record TurnsOnce (old new : Searching) (k : ℕ) (turn : Turn) : Type 0 where
  pub units : k ≡ 0
  pub first : old.given ≡ false → turn ≡ Found
  pub then : old.given ≡ true → turn ≡ Done
  pub table : new.table ≡ (1, [])
  pub given : new.given ≡ true

pub record Resumes (P : Relations) (n : ℕ) (t : Position) (k b : ℕ) : Type 0 where
  pub starts : CanStart P n t → CanStart P n (last_of t (take k (live P n t)))
  pub left : live P n (last_of t (take k (live P n t))) ≡ drop k (live P n t)
  pub found :
      filter (is_listed P) (take k (live P n t))
      ++ filter (is_listed P) (take b (live P n (last_of t (take k (live P n t)))))
      ≡ filter (is_listed P) (take (k + b) (live P n t))

abbrev pub SearchesResume : Type 0
SearchesResume =
    (P : Relations) (n : ℕ) (t : Position) (k b : ℕ)
    → k ≤ length (live P n t)
    → Resumes P n t k b
