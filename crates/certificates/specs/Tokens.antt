-- The words behind the first of a line: a number, an entry of a sparse list, `-` for an empty list, `|` between two lists.
--   token_text token    its text; an entry is POSITION:VALUE
--   IsProper token      its numbers have at most ten digits
--   token_of word       what the word says
--   tokens_of words     what all of them say, if each says something
--   words_of text       the words of a text: it is cut at each space
-- and as steps of these
--   sign_of word            `-` and `|`
--   number_or_sign word n   a number, if there is one, or else a sign
--   token_from parts        what a word says that is cut at its colons
use Rattle.std.specs.Prelude.{ℕ, ◌==◌, List, [], ◌∷◌, ◌++◌, if◌then◌else◌, Option, Some, None, option_and_then, decimal, bytes_eq}
use Rattle.std.specs.List.{slice_split}
use Rattle.certificates.specs.declared.token.Token.{Token}
use Rattle.certificates.specs.declared.token.Token.TheVariants.{Number, Entry, Dash, Bar}
use Rattle.certificates.specs.Numbers.{number_of, HasTenDigits}

abbrev pub token_text : Token → List ℕ
token_text (Number n) = decimal n
token_text (Entry p v) = decimal p ++ 58 ∷ decimal v
token_text Dash = 45 ∷ []
token_text Bar = 124 ∷ []

abbrev pub IsProper : Token → Type 0
IsProper (Number n) = HasTenDigits n
IsProper (Entry p v) = HasTenDigits p × HasTenDigits v
IsProper Dash = Unit {0}
IsProper Bar = Unit {0}

-- ---- reading a word

abbrev pub sign_of : List ℕ → Option Token
sign_of word = if bytes_eq word (45 ∷ []) then Some Dash else if bytes_eq word (124 ∷ []) then Some Bar else None

abbrev pub number_or_sign : List ℕ → Option ℕ → Option Token
number_or_sign word (Some n) = Some (Number n)
number_or_sign word None = sign_of word

abbrev pub token_from : List (List ℕ) → Option Token
token_from (word ∷ []) = number_or_sign word (number_of word)
token_from (left ∷ right ∷ []) = option_and_then (λ p. option_and_then (λ v. Some (Entry p v)) (number_of right)) (number_of left)
token_from parts = None

abbrev pub token_of : List ℕ → Option Token
token_of word = token_from (slice_split (λ b. b == 58) word)

abbrev pub tokens_of : List (List ℕ) → Option (List Token)
tokens_of [] = Some []
tokens_of (word ∷ words) = option_and_then (λ t. option_and_then (λ ts. Some (t ∷ ts)) (tokens_of words)) (token_of word)

abbrev pub words_of : List ℕ → List (List ℕ)
words_of text = slice_split (λ b. b == 32) text
