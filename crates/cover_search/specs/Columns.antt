-- What the walker holds: the first cells of a table, its columns and their inverses, eight bytes each. In bytes sheets are counted from 0,
-- and 255 is the mark of an entry that is missing; c is the number of columns, m that of sheets, p are cells.
--   Partial                 what contracts see of a walker: its columns, its sheets, the most sheets that it has room for, its cells, and all
--                           that stands in their place, the cells first
--   IsPartial t             it has 1 to 8 sheets and meets the rules of first appearance
--   byte_of o               the byte of a sheet, if there is one
--   step c m p letter s     the byte of a letter at the sheet s; past the last sheet each letter stays
--   ahead g, behind g       the letters of the column g, counted from 0, read forward and backward
--   bytes c m p letter      the eight bytes of a letter
--   blank m                 those of each letter where no cell stands
--   Holds c m p letter columns   each column has the bytes of its letter
--   IsWalker ..             what the fields of a walker keep
--   IsLetter c letter       it is the letter of one of the generators 1 to c
--   ended c m p w s         where a word leads from the sheet s, counted from 0, where past the last sheet each word stays
--   no_other o s            the walk that ended there, if it did, ended at the sheet s
use Rattle.std.specs.Prelude.{◌≡◌, ℕ, suc, ◌-◌, ◌*◌, ◌^◌, ◌≤◌, ◌<◌, ℤ, pos, negsuc, List, [], take, map, length, Bool, true, ◌==◌, if◌then◌else◌, nat_lt, Option, Some, None, slice_index, slice_index_or}
use Rattle.sheet_laws.specs.Permutations.{InRange}
use Rattle.live_laws.specs.Trees.{from}
use Rattle.live_laws.specs.Walks.{led, trace, generator}
use Rattle.live_laws.specs.Live.{appeared, follows}

pub record Partial : Type 0 where
  pub columns : ℕ
  pub sheets : ℕ
  pub room : ℕ
  pub cells : List ℕ
  pub written : List ℕ

pub record IsPartial (t : Partial) : Type 0 where
  pub least : 1 ≤ t.sheets
  pub most : t.sheets ≤ 8
  pub kept : t.sheets ≤ t.room
  pub top : t.room ≤ 8
  pub few : t.columns < 2 ^ 32
  pub within : length t.cells ≤ t.sheets * t.columns
  pub room : t.sheets * t.columns ≤ length t.written
  pub rules : follows t.columns t.sheets [] t.cells ≡ true
  pub cells : t.cells ≡ take (length t.cells) t.written

abbrev pub byte_of : Option ℕ → ℕ
byte_of None = 255
byte_of (Some t) = t - 1

abbrev pub step : (c m : ℕ) → List ℕ → (letter : ℤ) → (s : ℕ) → ℕ
step c m cells letter s = if nat_lt s m then byte_of (led c m cells letter (suc s)) else s

abbrev pub ahead : (g : ℕ) → ℤ
ahead g = pos (suc g)

abbrev pub behind : (g : ℕ) → ℤ
behind g = negsuc g

unfoldable pub bytes : (c m : ℕ) → List ℕ → (letter : ℤ) → List ℕ
bytes c m cells letter = map (step c m cells letter) (from 0 8)

unfoldable pub blank : (m : ℕ) → List ℕ
blank m = map (λ s. if nat_lt s m then 255 else s) (from 0 8)

abbrev pub Holds : (c m : ℕ) → List ℕ → (letter : ℕ → ℤ) → List (List ℕ) → Type 0
Holds c m cells letter columns = (g : ℕ) → g < c → slice_index_or columns g [] ≡ bytes c m cells (letter g)

pub record IsWalker (c m n at : ℕ) (cells seen : List ℕ) (forward backward : List (List ℕ)) : Type 0 where
  pub least : 1 ≤ m
  pub most : m ≤ 8
  pub kept : m ≤ n
  pub top : n ≤ 8
  pub few : c < 2 ^ 32
  pub all_room : n * c ≤ length cells
  pub all_seen : n * c < length seen
  pub room : m * c ≤ length cells
  pub within : at ≤ m * c
  pub rules : follows c m [] (take at cells) ≡ true
  pub seen_room : m * c < length seen
  pub seen_holds : (k : ℕ) → k ≤ at → slice_index seen k ≡ appeared 1 (take k cells)
  pub forwards : length forward ≡ c
  pub backwards : length backward ≡ c
  pub forward_holds : Holds c m (take at cells) ahead forward
  pub backward_holds : Holds c m (take at cells) behind backward

abbrev pub IsLetter : (c : ℕ) → (letter : ℤ) → Type 0
IsLetter c letter = InRange c (generator letter)

abbrev pub ended : (c m : ℕ) → List ℕ → List ℤ → (s : ℕ) → Option ℕ
ended c m cells w s = if nat_lt s m then trace c m cells w (suc s) else Some (suc s)

abbrev pub no_other : Option ℕ → (s : ℕ) → Bool
no_other o s = elim o [ None ↦ true | Some t ↦ t == s ]
