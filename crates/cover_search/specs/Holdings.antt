-- What a search holds together; the code's own. p is its walk, here and table what it keeps as its position and its table.
--   IsHeld p stands here table    the walk stands at the first live partial table behind the position, or there is none; there is room
--   IsBegun p here                no cell is placed and none is written down, and there is room for all
--   BeginsAt p here t             the position is t, and the walk has left what comes after t
use Rattle.std.specs.Prelude.{◌≡◌, ◌*◌, ◌<◌, ◌≤◌, [], length, Bool, true, false}
use Rattle.live_laws.specs.Live.{Position, live}
use Rattle.sheet_tables.specs.Positions.{Place}
use Rattle.sheet_tables.specs.Tables.{Rows}
use Rattle.cover_search.specs.Searches.{at}
use Rattle.cover_search.specs.Courses.{Passage, left_of, ahead}

pub record IsHeld (p : Passage) (stands : Bool) (here : Place) (table : Rows) : Type 0 where
  pub some : stands ≡ true → (0 < length p.cells) × (live p.relations p.most (at here) ≡ ahead p)
  pub none : stands ≡ false → live p.relations p.most (at here) ≡ []
  pub room : p.most * p.relations.generators ≤ here.room
  pub table_room : p.most ≤ table.room
  pub columns : table.columns ≡ p.relations.generators
  pub single : p.relations.generators ≡ 0 → (table.sheets ≡ 1) × (table.cells ≡ [])

pub record IsBegun (p : Passage) (here : Place) : Type 0 where
  pub least : 1 ≤ p.most
  pub sheets : p.sheets ≡ 1
  pub cells : p.cells ≡ []
  pub start : here.sheets ≡ 0
  pub none : here.cells ≡ []
  pub room : p.most * p.relations.generators ≤ here.room

pub record BeginsAt (p : Passage) (here : Place) (t : Position) : Type 0 where
  pub position : at here ≡ t
  pub left : live p.relations p.most t ≡ left_of p
