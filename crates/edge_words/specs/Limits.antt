-- How long words may be. space is the lists of a space, pairs those of a field; a measured word is a cell with its
-- reduced word.
--   most_letters               what one word may have at most
--   most_letters_in_all        what the words may have together
--   edge_word ws p             the lower of a pair, with its word
--   disk_word space ws c       a 2-cell, with the reduced word of its cycle
--   edge_words ws pairs        the edges that are paired with a 2-cell, in the order of the field, with their words
--   disk_words space ws pairs  the critical 2-cells, by number, with the words of their cycles
--   measured space pairs       the former, and then the latter
--   first_long sum measured    the first cell whose word is too long or makes the sum too great, where the words before
--                              have so many
--   too_long space pairs       the first one, where the sum begins with one letter for each critical edge
--   IsFault first fault        the fault is want of memory, or names that cell
use Rattle.std.specs.Prelude.{◌≡◌, ⊤, ℕ, ◌+◌, ℤ, List, [], ◌∷◌, ◌++◌, map, length, filter, ◌||◌, ◌==◌, nat_lt, if◌then◌else◌, Option, Some, None}
use Rattle.face_poset.specs.declared.cells.Cell.{Cell}
use Rattle.face_poset.specs.declared.cells.Pair.{Pair}
use Rattle.face_poset.specs.Poset.{Layers}
use Rattle.face_poset.specs.Below.{cell_at}
use Rattle.sheet_laws.specs.Lifts.{columns_of}
use Rattle.edge_words.specs.Words.{word_at, words, cycle_word, critical_disks}
use Rattle.edge_words.specs.declared.fault.WordFault.{WordFault}
use Rattle.edge_words.specs.declared.fault.WordFault.TheVariants.{TooLong, Memory}

abbrev pub most_letters : ℕ
most_letters = 1000000

abbrev pub most_letters_in_all : ℕ
most_letters_in_all = 50000000

abbrev pub edge_word : List (List ℤ) → Pair → Cell × List ℤ
edge_word ws p = (cell_at 1 p.lower, word_at ws p.lower)

abbrev pub disk_word : Layers → List (List ℤ) → (c : ℕ) → Cell × List ℤ
disk_word space ws c = (cell_at 2 c, cycle_word space ws c)

abbrev pub edge_words : List (List ℤ) → List Pair → List (Cell × List ℤ)
edge_words ws pairs = map (edge_word ws) (filter (λ (p : Pair). p.dim == 1) pairs)

abbrev pub disk_words : Layers → List (List ℤ) → List Pair → List (Cell × List ℤ)
disk_words space ws pairs = map (disk_word space ws) (critical_disks space pairs)

abbrev pub measured : Layers → List Pair → List (Cell × List ℤ)
measured space pairs = edge_words (words space pairs) pairs ++ disk_words space (words space pairs) pairs

abbrev pub first_long : (sum : ℕ) → List (Cell × List ℤ) → Option Cell
first_long sum [] = None
first_long sum ((cell, word) ∷ more) =
    if nat_lt most_letters (length word) || nat_lt most_letters_in_all (sum + length word)
    then Some cell
    else first_long (sum + length word) more

abbrev pub too_long : Layers → List Pair → Option Cell
too_long space pairs = first_long (columns_of space pairs) (measured space pairs)

abbrev pub IsFault : Option Cell → WordFault → Type 0
IsFault first Memory = ⊤
IsFault first (TooLong cell) = first ≡ Some cell
