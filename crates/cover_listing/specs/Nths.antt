-- One table of a search by its number, counted from 1. P are relations, n is the most sheets, t a position, B a budget.
--   found P n t B          the listed tables that a search from t finds with B units; the one table where there is no generator
--   nth_of P n t B index   whether the table with the number is found; else how many there are, or that the budget is spent
--   IsNth old new B index nth   that, of a search before and after: its table is the one with the number, or where it was spent it stands at
--                          the last live partial table that it came to
use Rattle.std.specs.Prelude.{◌≡◌, ℕ, ◌-◌, ◌==◌, List, [], ◌∷◌, length, filter, take, true, false, nat_lt, nat_le, if◌then◌else◌, slice_index_or}
use Rattle.live_laws.specs.Live.{Relations, Position, live, is_listed}
use Rattle.cover_search.specs.Searches.{Searching, left, last_of}
use Rattle.cover_listing.specs.declared.nth.Nth.{Nth}
use Rattle.cover_listing.specs.declared.nth.Nth.TheVariants.{Found, Only, Spent}

abbrev pub found : Relations → (n : ℕ) → Position → (B : ℕ) → List Position
found P n t B = elim (P.generators == 0) [ true ↦ (1, []) ∷ [] | false ↦ filter (is_listed P) (take B (live P n t)) ]

abbrev pub nth_of : Relations → (n : ℕ) → Position → (B index : ℕ) → Nth
nth_of P n t B index =
    if nat_le index (length (found P n t B)) then Found
    else if nat_lt B (length (live P n t)) then Spent else Only (length (found P n t B))

pub record IsNth (old new : Searching) (B index : ℕ) (nth : Nth) : Type 0 where
  pub is : nth ≡ nth_of old.relations old.most old.position B index
  pub table :
      nth ≡ Found
      → new.table ≡ slice_index_or (found old.relations old.most old.position B) (index - 1) (0, [])
  pub position : nth ≡ Spent → new.position ≡ last_of old.position (take B (left old))
