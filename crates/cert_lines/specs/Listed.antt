-- The numbers and the two sparse lists of a line, by its words.
--   numbers_in line       the numbers that stand first behind the first word
--   numbers_behind line place  the same, so many words behind the first
--   if_rising most ns     the numbers, if they rise from 1 to the most
--   list_in line place    the entries that stand first, so many words behind the first
--   list_behind line      the entries that stand first behind the bar
--   if_entries m most es  the entries, if their positions rise from 1 to the most and their values are from 1 to m - 1
-- and as steps of these: rise_from, numbers_of, put, words_behind, is_bar, behind_bar, put_entry, entries_of
use Rattle.std.specs.Prelude.{ℕ, List, [], ◌∷◌, drop, Bool, true, false, ◌&&◌, nat_lt, nat_le, Option, Some, None, if◌then◌else◌}
use Rattle.certificates.specs.declared.token.Token.{Token}
use Rattle.certificates.specs.declared.token.Token.TheVariants.{Entry, Bar}
use Rattle.certificates.specs.Numbers.{number_of}
use Rattle.certificates.specs.Tokens.{token_of, words_of}
use Rattle.certificates.specs.Parts.{Sparse}
use Rattle.certificates.specs.WellFormed.{are_entries}

abbrev pub put : Option ℕ → List ℕ → List ℕ
put None ns = []
put (Some n) ns = n ∷ ns

-- the numbers that the first words are
abbrev pub numbers_of : List (List ℕ) → List ℕ
numbers_of [] = []
numbers_of (w ∷ ws) = put (number_of w) (numbers_of ws)

abbrev pub behind_first : List (List ℕ) → List (List ℕ)
behind_first [] = []
behind_first (w ∷ ws) = ws

abbrev pub words_behind : List ℕ → List (List ℕ)
words_behind line = behind_first (words_of line)

abbrev pub numbers_in : (line : List ℕ) → List ℕ
numbers_in line = numbers_of (words_behind line)

abbrev pub numbers_behind : (line : List ℕ) → (place : ℕ) → List ℕ
numbers_behind line place = numbers_of (drop place (words_behind line))

-- numbers that rise, after the last one and up to the most
abbrev pub rise_from : (last most : ℕ) → List ℕ → Bool
rise_from last most [] = true
rise_from last most (n ∷ ns) = (nat_lt last n && nat_le n most) && rise_from n most ns

abbrev pub if_rising : (most : ℕ) → List ℕ → Option (List ℕ)
if_rising most ns = if rise_from 0 most ns then Some ns else None

abbrev pub is_bar_token : Option Token → Bool
is_bar_token (Some Bar) = true
is_bar_token t = false

abbrev pub is_bar : List ℕ → Bool
is_bar word = is_bar_token (token_of word)

abbrev pub behind_bar : List (List ℕ) → List (List ℕ)
behind_bar [] = []
behind_bar (w ∷ ws) = if is_bar w then ws else behind_bar ws

abbrev pub put_entry : Option Token → Sparse → Sparse
put_entry (Some (Entry p v)) es = (p, v) ∷ es
put_entry t es = []

-- the entries that stand first
abbrev pub entries_of : List (List ℕ) → Sparse
entries_of [] = []
entries_of (w ∷ ws) = put_entry (token_of w) (entries_of ws)

abbrev pub list_in : (line : List ℕ) → (place : ℕ) → Sparse
list_in line place = entries_of (drop place (words_behind line))

abbrev pub list_behind : (line : List ℕ) → Sparse
list_behind line = entries_of (behind_bar (words_behind line))

abbrev pub if_entries : (m most : ℕ) → Sparse → Option Sparse
if_entries m most es = if are_entries m most es then Some es else None
