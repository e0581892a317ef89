-- Words for each command, and laws of the reading of words.
--   joined name value     an option with its value in one word: two hyphens, the name, `=`, the value
--   kind_word kind        the word of a kind of input
--   words_of asked        words that ask for the command with these values
--   EachIsAsked           each command in range is what its words ask for
--   opened name           the word of an option whose value is the next word: two hyphens and the name
--   stands_alone value    it may be a word behind that: it is empty, or a hyphen alone, or has no hyphen in front
--   FormIsFree            an option in two such words is read as in one
--   OrderIsFree           two options of different names that stand side by side may change places: in front of them and
--                         behind them may stand any words
--   number_word, joined_if, source_words, from_text: steps
use Rattle.std.specs.Prelude.{◌≡◌, ℕ, List, [], ◌∷◌, ◌++◌, Bool, true, false, not, ◌||◌, ◌==◌}
use Rattle.std.specs.Prelude.{codes, decimal, option_map, if◌then◌else◌}
use Rattle.std.specs.declared.option.Option.{Option}
use Rattle.std.specs.declared.option.Option.TheVariants.{Some, None}
use Rattle.clap.specs.Words.{Text}
use Rattle.sheet_tables.specs.Spots.{spot_text}
use Rattle.hap_words.specs.declared.command.Kind.{Kind}
use Rattle.hap_words.specs.declared.command.Kind.TheVariants.{Boundary, Cubical, Permutahedral, Arcs, Simplices, Poset}
use Rattle.hap_words.specs.declared.table.Name.{Name}
use Rattle.hap_words.specs.declared.table.Name.TheVariants as name
use Rattle.hap_words.specs.Asked.{Source, SearchSpot}
use Rattle.hap_words.specs.Asked.{Asked, cells, check, betti, cup, verify, migrate, group, covers, cover, report, make}
use Rattle.hap_words.specs.Ranges.{is_empty, is_in_range}
use Rattle.hap_words.specs.Table.{word_of, number_of_name, asked}

-- ---- the words of a command

abbrev pub joined : Name → Text → Text
joined n value = 45 ∷ 45 ∷ (word_of n ++ 61 ∷ value)

abbrev pub number_word : Name → ℕ → Text
number_word n number = joined n (decimal number)

abbrev pub kind_word : Kind → Text
kind_word Boundary = codes "boundary"
kind_word Cubical = codes "cubical"
kind_word Permutahedral = codes "permutahedral"
kind_word Arcs = codes "arcs"
kind_word Simplices = codes "simplices"
kind_word Poset = codes "poset"

-- an option that may be left out
abbrev pub joined_if : Name → Option Text → List Text
joined_if n None = []
joined_if n (Some value) = joined n value ∷ []

abbrev pub source_words : Source → List Text
source_words source = joined name.Kind (kind_word source.kind) ∷ joined_if name.In source.name

-- the start is left out
abbrev pub from_text : SearchSpot → Option Text
from_text spot = if spot.1 == 0 then None else Some (spot_text spot.0 spot.1 spot.2)

abbrev pub words_of : Asked → List Text
words_of (cells a) = codes "cells" ∷ source_words a.source
words_of (check a) = codes "check" ∷ source_words a.source
words_of (betti a) = codes "betti" ∷ number_word name.Mod a.modulus ∷ source_words a.source
words_of (cup a) = codes "cup" ∷ number_word name.Mod a.modulus ∷ source_words a.source
words_of (verify a) = codes "verify" ∷ joined_if name.In a.name
words_of (migrate a) = codes "migrate" ∷ joined_if name.In a.name
words_of (group a) = codes "group" ∷ source_words a.source
words_of (covers a) =
    codes "covers" ∷ number_word name.Sheets a.sheets ∷ number_word name.Budget a.budget
    ∷ (joined_if name.From (from_text a.from) ++ source_words a.source)
words_of (cover a) =
    codes "cover" ∷ number_word name.Sheets a.sheets ∷ number_word name.Index a.index
    ∷ number_word name.Component a.component ∷ number_word name.Budget a.budget
    ∷ (joined_if name.Mod (option_map decimal a.modulus) ++ source_words a.source)
words_of (report a) =
    codes "report" ∷ number_word name.Mod a.modulus ∷ number_word name.Sheets a.sheets
    ∷ number_word name.Budget a.budget ∷ (joined_if name.From (from_text a.from) ++ source_words a.source)
words_of (make a) = codes "make" ∷ number_word name.Size a.size ∷ joined_if name.Mod (option_map decimal a.modulus)

-- ---- an option in two words

abbrev pub opened : Name → Text
opened n = 45 ∷ 45 ∷ word_of n

abbrev pub stands_alone : Text → Bool
stands_alone [] = true
stands_alone (b ∷ bs) = not (b == 45) || is_empty bs

-- ---- laws

abbrev pub EachIsAsked : Type 0
EachIsAsked = (a : Asked) → is_in_range a ≡ true → asked (words_of a) ≡ Some a

abbrev pub FormIsFree : Type 0
FormIsFree = (before after : List Text) (n : Name) (v : Text) → stands_alone v ≡ true →
    asked (before ++ opened n ∷ v ∷ after) ≡ asked (before ++ joined n v ∷ after)

abbrev pub OrderIsFree : Type 0
OrderIsFree = (before after : List Text) (m n : Name) (u v : Text) → (number_of_name m == number_of_name n) ≡ false →
    asked (before ++ joined m u ∷ joined n v ∷ after) ≡ asked (before ++ joined n v ∷ joined m u ∷ after)
