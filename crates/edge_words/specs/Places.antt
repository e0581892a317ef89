-- Words that stand among letters. letters are those of all words, total is how many there are.
--   word_in letters place  the word at a place
--   IsPlace total place    the place ends within the letters
use Rattle.std.specs.Prelude.{ℕ, ◌+◌, ◌≤◌, ℤ, List, take, drop}
use Rattle.edge_words.specs.declared.word_list.Place.{Place}

abbrev pub word_in : (letters : List ℤ) → Place → List ℤ
word_in letters place = take place.length (drop place.start letters)

abbrev pub IsPlace : (total : ℕ) → Place → Type 0
IsPlace total place = place.start + place.length ≤ total
