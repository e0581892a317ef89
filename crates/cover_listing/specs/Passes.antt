-- A listing as the code goes through it, component by component; the code's own. Ps are the relations of the components from i on, t is the
-- position where the search of the first begins, B the budget that is left.
--   begun_each n t Ps        the searches: the first begins at t, the others at the start
--   moves Ps                 some component has a generator
--   stops P more n t B       the budget is spent in the component P: it has more live partial tables, or just so many and a later one has more
--   stop_at P more n t B     the position that is then told
--   pass_spent n B t i Ps    the spot where the budget is spent, if it is
--   pass n B t i Ps          what is handed on
--   IsPass n B t i Ps        a pass is the listing that begins there
--   HasRun old new B b       a search ran with B units, of which b are left
--   relations_in_all ss      the relations of searches
--   first_position ss        the position of the first of them
--   IsPlan i n ss            the searches are those of a listing of at most n sheets that has not begun
use Rattle.std.specs.Prelude.{◌≡◌, ℕ, suc, ◌+◌, ◌-◌, ◌≤◌, List, [], ◌∷◌, ◌++◌, map, length, take, Bool, ◌&&◌, ◌||◌, nat_lt, nat_le, if◌then◌else◌, Option, Some, None}
use Rattle.std.specs.List.{list_any}
use Rattle.live_laws.specs.Live.{Relations, Position, live}
use Rattle.cover_search.specs.Searches.{Searching, begun, left, last_of}
use Rattle.cover_listing.specs.Listings.{Member, CanBegin, listing}
use Rattle.cover_listing.specs.Events.{Event, section, events}
use Rattle.cover_listing.specs.Nths.{found}

abbrev pub begun_each : (n : ℕ) → Position → List Relations → List Searching
begun_each n t [] = []
begun_each n t (P ∷ Ps) = begun P n t ∷ begun_each n (0, []) Ps

abbrev pub moves : List Relations → Bool
moves Ps = list_any (λ P. nat_lt 0 P.generators) Ps

abbrev pub stops : Relations → (more : Bool) → (n : ℕ) → Position → (B : ℕ) → Bool
stops P more n t B = nat_lt B (length (live P n t)) || (nat_le B (length (live P n t)) && more)

abbrev pub stop_at : Relations → (more : Bool) → (n : ℕ) → Position → (B : ℕ) → Option Position
stop_at P more n t B = if stops P more n t B then Some (last_of t (take B (live P n t))) else None

abbrev pub pass_spent : (n B : ℕ) → Position → (i : ℕ) → List Relations → Option Member
pass_spent n B t i [] = None
pass_spent n B t i (P ∷ Ps) =
    if stops P (moves Ps) n t B then Some (i, last_of t (take B (live P n t)))
    else pass_spent n (B - length (live P n t)) (0, []) (suc i) Ps

abbrev pub pass : (n B : ℕ) → Position → (i : ℕ) → List Relations → List Event
pass n B t i [] = []
pass n B t i (P ∷ Ps) =
    section n i P.generators (found P n t B)
    ++ (if stops P (moves Ps) n t B then [] else pass n (B - length (live P n t)) (0, []) (suc i) Ps)

pub record HasRun (old new : Searching) (B b : ℕ) : Type 0 where
  pub position : new.position ≡ last_of old.position (take B (left old))
  pub budget : b ≡ B - length (left old)

abbrev pub relations_in_all : List Searching → List Relations
relations_in_all ss = map (λ s. s.relations) ss

abbrev pub first_position : List Searching → Position
first_position [] = (0, [])
first_position (s ∷ ss) = s.position

pub record IsPlan (i n : ℕ) (ss : List Searching) : Type 0 where
  pub first : 1 ≤ i
  pub least : 1 ≤ n
  pub most : n ≤ 8
  pub components : i + length ss ≤ 60001
  pub fresh : ss ≡ begun_each n (first_position ss) (relations_in_all ss)
  pub begins : CanBegin (relations_in_all ss) n (first_position ss)

-- a pass is the listing
pub record IsPass (n B : ℕ) (t : Position) (i : ℕ) (Ps : List Relations) : Type 0 where
  pub spent : (listing Ps n (i, t) B).spent ≡ pass_spent n B t i Ps
  pub events : events Ps n (i, t) B ≡ pass n B t i Ps
