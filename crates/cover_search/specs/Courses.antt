-- A walk through live partial tables, in order; the code's own. old and new are such a walk before and after a call that took k units.
--   Passage                 what contracts see of it: the relations, the most sheets, the sheets and cells where it stands, and all that is
--                           written in the place of the cells
--   here p                  where it stands, as a position
--   left_of p               the live partial tables behind it
--   ahead p                 where it stands, and those behind it
--   IsCourse P index w      what it keeps: its walker, the index of the relators, and that the cells are sound
--   IsPassage p             what of that is seen
--   begun_passage P n       no cell of a table of one sheet
--   IsAlong old new         the relations and the most sheets stay
--   IsNext old new          it stands at the next live partial table
--   IsEnd old new           there is none, and what is written stays
--   Pending p v             what is left where the number v is tried next
--   IsPlaced old k t        the last of the next k is t
--   IsLast p m i            there is room for a table of m sheets with i cells, which are written
--   Stops old new k b t s   how it stopped: at a listed table, with no unit left, or with no live partial table behind the last one
use Rattle.std.specs.Prelude.{◌≡◌, ℕ, suc, ◌-◌, ◌*◌, ◌^◌, ◌<◌, ◌≤◌, List, [], ◌∷◌, ◌++◌, map, length, filter, take, drop, replicate, All, true}
use Rattle.std.specs.List.{flat_map, AllByRecursion}
use Rattle.sheet_laws.specs.Permutations.{InRange}
use Rattle.live_laws.specs.Trees.{from, rest}
use Rattle.live_laws.specs.Walks.{AreLetters}
use Rattle.live_laws.specs.Live.{Relations, Position, sound, live, live_of, is_listed}
use Rattle.cover_search.specs.Columns.{Partial, IsPartial}
use Rattle.cover_search.specs.Indexes.{IsIndex}
use Rattle.cover_search.specs.Searches.{last_of}
use Rattle.cover_search.specs.declared.course.Stop.{Stop}
use Rattle.cover_search.specs.declared.course.Stop.TheVariants.{Listed, Short, Over}

pub record Passage : Type 0 where
  pub relations : Relations
  pub most : ℕ
  pub sheets : ℕ
  pub cells : List ℕ
  pub written : List ℕ

abbrev pub here : Passage → Position
here p = (p.sheets, p.cells)

abbrev pub left_of : Passage → List Position
left_of p = live p.relations p.most (here p)

abbrev pub ahead : Passage → List Position
ahead p = here p ∷ left_of p

pub record IsCourse (P : Relations) (index : List (List ℕ)) (w : Partial) : Type 0 where
  pub columns : w.columns ≡ P.generators
  pub partial : IsPartial w
  pub letters : All (AreLetters P.generators) P.relators
  pub indexed : IsIndex P index
  pub sound : sound P w.sheets w.cells ≡ true

pub record IsPassage (p : Passage) : Type 0 where
  pub sheets : InRange p.most p.sheets
  pub most : p.most ≤ 8
  pub few : p.relations.generators < 2 ^ 32
  pub within : length p.cells ≤ p.sheets * p.relations.generators
  pub ranged : AllByRecursion (InRange p.sheets) p.cells
  pub sound : sound p.relations p.sheets p.cells ≡ true
  pub room : length p.cells ≤ length p.written
  pub cells : p.cells ≡ take (length p.cells) p.written

abbrev pub begun_passage : Relations → (n : ℕ) → Passage
begun_passage P n =
    record
    { relations = P; most = n; sheets = 1; cells = []; written = replicate (n * P.generators) 1 }

pub record IsAlong (old new : Passage) : Type 0 where
  pub relations : new.relations ≡ old.relations
  pub most : new.most ≡ old.most

pub record IsNext (old new : Passage) : Type 0 where
  pub some : 0 < length new.cells
  pub is : left_of old ≡ ahead new

pub record IsEnd (old new : Passage) : Type 0 where
  pub none : left_of old ≡ []
  pub written : new.written ≡ old.written

abbrev pub Pending : Passage → (v : ℕ) → List Position
Pending p v =
    map (λ q. (p.sheets, q))
    (rest (sound p.relations p.sheets) p.sheets (p.sheets * p.relations.generators) [] p.cells v)
    ++ flat_map (live_of p.relations) (from (suc p.sheets) (p.most - p.sheets))

pub record IsPlaced (old : Passage) (k : ℕ) (t : Position) : Type 0 where
  pub some : 1 ≤ k
  pub within : k ≤ length (ahead old)
  pub last : (s : Position) → last_of s (take k (ahead old)) ≡ t

pub record IsLast (p : Passage) (sheets count : ℕ) : Type 0 where
  pub range : InRange p.most sheets
  pub within : count ≤ sheets * p.relations.generators
  pub written : count ≤ length p.written
  pub ranged : All (InRange sheets) (take count p.written)

pub record StopsListed (old new : Passage) (k : ℕ) (t : Position) : Type 0 where
  pub found : filter (is_listed old.relations) (take k (ahead old)) ≡ t ∷ []
  pub at : here new ≡ t
  pub left : left_of new ≡ drop k (ahead old)

pub record StopsShort (old new : Passage) (k budget : ℕ) (t : Position) : Type 0 where
  pub found : filter (is_listed old.relations) (take k (ahead old)) ≡ []
  pub at : here new ≡ t
  pub left : left_of new ≡ drop k (ahead old)
  pub none : budget ≡ 0

pub record StopsOver (old : Passage) (k : ℕ) (t : Position) : Type 0 where
  pub found : filter (is_listed old.relations) (take k (ahead old)) ≡ []
  pub none : drop k (ahead old) ≡ []
  pub left : live old.relations old.most t ≡ []

abbrev pub Stops : (old new : Passage) → (k budget : ℕ) → Position → Stop → Type 0
Stops old new k budget t Listed = StopsListed old new k t
Stops old new k budget t Short = StopsShort old new k budget t
Stops old new k budget t Over = StopsOver old k t
