-- What a listing hands on, in order.
--   Event                what is handed on: a component begins, whose tables have so many columns; a table of these columns; a component ends,
--                        with the numbers of its tables of 1, 2 and more sheets
--   how_many m ts        how many of the tables have m sheets
--   counts_of n ts       so for 1 to n
--   section n i c ts     the component i with c columns and these tables; rest_of_section: behind its begin
--   of_component i qs    the tables of a component among those of all
--   is_reached spent i   the listing comes to the component i: it is not spent, or not before it
--   sections n i l Ps    the components from i on that the listing l comes to, with its tables
--   events Ps n T B      those of the listing that begins at T with B units
use Rattle.std.specs.Prelude.{ℕ, suc, ◌==◌, List, [], ◌∷◌, ◌++◌, map, filter, length, Bool, true, nat_le, if◌then◌else◌, Option, Some, None}
use Rattle.number_lists.specs.Words.{upto}
use Rattle.live_laws.specs.Live.{Relations, Position}
use Rattle.cover_listing.specs.Listings.{Member, Listed, listing}

pub data Event : Type 0 where
  Begins : (component columns : ℕ) → Event
  Finds : (columns : ℕ) → Position → Event
  Ends : List ℕ → Event

abbrev pub how_many : (m : ℕ) → List Position → ℕ
how_many m ts = length (filter (λ t. t.0 == m) ts)

abbrev pub counts_of : (n : ℕ) → List Position → List ℕ
counts_of n ts = map (λ m. how_many m ts) (upto n)

abbrev pub rest_of_section : (n c : ℕ) → List Position → List Event
rest_of_section n c ts = map (Finds c) ts ++ Ends (counts_of n ts) ∷ []

abbrev pub section : (n i c : ℕ) → List Position → List Event
section n i c ts = Begins i c ∷ rest_of_section n c ts

abbrev pub of_component : (i : ℕ) → List Member → List Position
of_component i qs = map (λ q. q.1) (filter (λ q. q.0 == i) qs)

abbrev pub is_reached : Option Member → (i : ℕ) → Bool
is_reached None i = true
is_reached (Some spot) i = nat_le i spot.0

abbrev pub sections : (n i : ℕ) → Listed → List Relations → List Event
sections n i l [] = []
sections n i l (P ∷ Ps) =
    (if is_reached l.spent i then section n i P.generators (of_component i l.tables) else []) ++ sections n (suc i) l Ps

abbrev pub events : List Relations → (n : ℕ) → Member → (B : ℕ) → List Event
events Ps n T B = sections n T.0 (listing Ps n T B) Ps
