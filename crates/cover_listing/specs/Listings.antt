-- The listing of covers over the components of a space, with one budget for all. Ps are the relations of components, of which the first has
-- the number i; n is the most sheets, T a spot, B a budget.
--   Member                 a component with one of its live partial tables, or with one of its tables; also a spot: a component with a position
--   comes_later s q        q is in a higher component than s, or in the same and comes after it there
--   each_in ts i Ps        what each component has, one component after another
--   members n i Ps         all live partial tables of 1 to n sheets
--   tables n i Ps          all listed tables of 1 to n sheets; a component without generators has the one table without columns
--   after T qs             those that come later than T
--   spent_in T B qs        the B-th of them, where there are more than B
--   not_later spent qs     those that come no later than the spot, all where there is none
--   Listed                 what a listing has: its tables, and the spot where its budget is spent, if it is
--   listing Ps n T B       the listing that begins at T: where at most B live partial tables come after T, all tables after T; else it is spent
--                          at the B-th of these, with the tables after T that come no later
--   CanBegin Ps n t        a listing may begin at the position t of the first component: it is the start, or the component is there, and the
--                          position is live in it with at most n sheets
--   Planned                what contracts see of a listing that has not begun
--   spot_in ending         the spot where it was spent, if it was
use Rattle.std.specs.Prelude.{◌≡◌, ℕ, suc, ◌-◌, ◌==◌, List, [], ◌∷◌, ◌++◌, map, filter, length, Bool, not, ◌&&◌, ◌||◌, nat_lt, if◌then◌else◌, Option, Some, None, slice_index_or}
use Rattle.sheet_tables.specs.Spots.{Mark}
use Rattle.live_laws.specs.Live.{Relations, Position, live, listed, comes_after}
use Rattle.cover_search.specs.Searches.{CanStart}
use Rattle.cover_listing.specs.declared.listing.Ending.{Ending}
use Rattle.cover_listing.specs.declared.listing.Ending.TheVariants.{Done, Spent}

abbrev pub Member : Type 0
Member = ℕ × Position

abbrev pub comes_later : Member → Member → Bool
comes_later s q = nat_lt s.0 q.0 || ((s.0 == q.0) && comes_after s.1 q.1)

abbrev pub each_in : (Relations → List Position) → (i : ℕ) → List Relations → List Member
each_in ts i [] = []
each_in ts i (P ∷ Ps) = map (λ t. (i, t)) (ts P) ++ each_in ts (suc i) Ps

abbrev pub members : (n i : ℕ) → List Relations → List Member
members n i Ps = each_in (λ P. live P n (0, [])) i Ps

abbrev pub tables : (n i : ℕ) → List Relations → List Member
tables n i Ps = each_in (λ P. listed P n (0, [])) i Ps

abbrev pub after : Member → List Member → List Member
after T qs = filter (comes_later T) qs

abbrev pub spent_in : Member → (B : ℕ) → List Member → Option Member
spent_in T B qs = if nat_lt B (length qs) then Some (slice_index_or qs (B - 1) T) else None

abbrev pub not_later : Option Member → List Member → List Member
not_later None qs = qs
not_later (Some spot) qs = filter (λ q. not (comes_later spot q)) qs

pub record Listed : Type 0 where
  pub tables : List Member
  pub spent : Option Member

abbrev pub spent_of : List Relations → (n : ℕ) → Member → (B : ℕ) → Option Member
spent_of Ps n T B = spent_in T B (after T (members n T.0 Ps))

abbrev pub listing : List Relations → (n : ℕ) → Member → (B : ℕ) → Listed
listing Ps n T B = record { tables = not_later (spent_of Ps n T B) (after T (tables n T.0 Ps)); spent = spent_of Ps n T B }

abbrev pub CanBegin : List Relations → (n : ℕ) → Position → Type 0
CanBegin [] n t = t ≡ (0, [])
CanBegin (P ∷ Ps) n t = CanStart P n t

pub record Planned : Type 0 where
  pub parts : List Relations
  pub most : ℕ
  pub from : Member

abbrev pub spot_at : Mark → Member
spot_at m = (m.component, (m.sheets, m.cells))

abbrev pub spot_in : Ending → Option Member
spot_in Done = None
spot_in (Spent spot) = Some (spot_at spot)
