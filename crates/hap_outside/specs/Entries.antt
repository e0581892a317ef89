-- The entries of a source in memory, as it keeps them. Places count from 0.
--   named_bytes entry                the name and the bytes of an entry
--   bytes_at entries place           the bytes of the entry at the place, or none past the end
--   left_at open_at taken entries    what is left of the entry that is open, of which so many bytes were taken
--   IsWithin entries open_at taken   an entry that is open is one of the entries, and no more of it was taken than it has
use Rattle.std.specs.Prelude.{◌≡◌, ◌≤◌, ◌<◌, length, ℕ, zero, suc, List, [], ◌∷◌, drop, option_map, string_bytes}
use Rattle.std.specs.declared.option.Option.{Option}
use Rattle.std.specs.declared.option.Option.TheVariants.{Some, None}
use Rattle.hap_outside.specs.declared.entries.Entry.{Entry}
use Rattle.hap_outside.specs.BytesState.{NamedBytes}

abbrev pub named_bytes : Entry → NamedBytes
named_bytes entry = (option_map string_bytes entry.name, entry.bytes.items)

abbrev pub bytes_at : List Entry → ℕ → List ℕ
bytes_at [] place = []
bytes_at (entry ∷ entries) zero = entry.bytes.items
bytes_at (entry ∷ entries) (suc place) = bytes_at entries place

abbrev pub left_at : Option ℕ → ℕ → List Entry → List ℕ
left_at None taken entries = []
left_at (Some place) taken entries = drop taken (bytes_at entries place)

abbrev pub IsWithin : List Entry → Option ℕ → ℕ → Type 0
IsWithin entries open_at taken =
    (place : ℕ) → open_at ≡ Some place
    → (place < length entries) × (taken ≤ length (bytes_at entries place))
