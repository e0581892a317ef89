-- The tokens of a text, each with the place of its first byte, counted from 0. A byte has a class, what it is good for; the
-- bytes before a byte have begun something, the mode. i is a place, c a class, m a mode, bs are bytes.
--   Token                 Open, Close, Comma, Dots, Semicolon, Number with its value, Bad: a byte that begins no token
--   is_digit b            whether a byte is a digit
--   class_of b            what a byte is good for
--   too_big               the least number that is too big
--   Mode                  Between tokens, in a Comment, after a Dot, or in Digits, whose value is held at too_big once it is that
--                         or more
--   mode_begun i c        what a byte begins where nothing is begun
--   tokens_begun i c      the token that a byte is by itself
--   mode_after m i c      the mode after a byte
--   tokens_at m i c       the tokens that are whole once a byte has come
--   tokens_at_end m       the token that the end of the text makes whole
--   tokens_from m i bs    the tokens of bytes from a mode on
--   tokens text           the tokens of a text
use Rattle.std.specs.Prelude.{ℕ, suc, ◌+◌, ◌-◌, ◌*◌, List, [], ◌∷◌, ◌++◌, Bool, ◌&&◌, ◌==◌, nat_le, min, if◌then◌else◌}
use Rattle.gap_text.specs.declared.byte.Class.{Class}
use Rattle.gap_text.specs.declared.byte.Class.TheVariants.{LeftBracket, RightBracket, CommaSign, SemicolonSign, Point, Digit, Hash, Blank, LineFeed, Other}

pub data Token : Type 0 where
  Open Close Comma Dots Semicolon : (place : ℕ) → Token
  Number : (place value : ℕ) → Token
  -- a byte that begins no token
  Bad : (place : ℕ) → Token

abbrev pub is_digit : ℕ → Bool
is_digit b = nat_le 48 b && nat_le b 57

abbrev pub class_of : ℕ → Class
class_of b =
    if b == 91 then LeftBracket else
    if b == 93 then RightBracket else
    if b == 44 then CommaSign else
    if b == 59 then SemicolonSign else
    if b == 46 then Point else
    if b == 35 then Hash else
    if b == 10 then LineFeed else
    if b == 32 then Blank else
    if b == 9 then Blank else
    if b == 13 then Blank else
    if is_digit b then Digit (b - 48) else Other

abbrev pub too_big : ℕ
too_big = 4294967296

pub data Mode : Type 0 where
  Between Comment : Mode
  Dot : (place : ℕ) → Mode
  Digits : (place value : ℕ) → Mode

abbrev pub mode_begun : ℕ → Class → Mode
mode_begun i Hash = Comment
mode_begun i Point = Dot i
mode_begun i (Digit d) = Digits i d
mode_begun i _ = Between

abbrev pub tokens_begun : ℕ → Class → List Token
tokens_begun i LeftBracket = Open i ∷ []
tokens_begun i RightBracket = Close i ∷ []
tokens_begun i CommaSign = Comma i ∷ []
tokens_begun i SemicolonSign = Semicolon i ∷ []
tokens_begun i Other = Bad i ∷ []
tokens_begun i _ = []

abbrev pub mode_after : Mode → ℕ → Class → Mode
mode_after Between i c = mode_begun i c
mode_after Comment i LineFeed = Between
mode_after Comment i _ = Comment
mode_after (Dot p) i Point = Between
mode_after (Dot p) i c = mode_begun i c
mode_after (Digits p n) i (Digit d) = Digits p (min (10 * n + d) too_big)
mode_after (Digits p n) i c = mode_begun i c

abbrev pub tokens_at : Mode → ℕ → Class → List Token
tokens_at Between i c = tokens_begun i c
tokens_at Comment i c = []
tokens_at (Dot p) i Point = Dots p ∷ []
tokens_at (Dot p) i c = Bad p ∷ tokens_begun i c
tokens_at (Digits p n) i (Digit d) = []
tokens_at (Digits p n) i c = Number p n ∷ tokens_begun i c

abbrev pub tokens_at_end : Mode → List Token
tokens_at_end Between = []
tokens_at_end Comment = []
tokens_at_end (Dot p) = Bad p ∷ []
tokens_at_end (Digits p n) = Number p n ∷ []

abbrev pub tokens_from : Mode → ℕ → List ℕ → List Token
tokens_from m i [] = tokens_at_end m
tokens_from m i (b ∷ bs) = tokens_at m i (class_of b) ++ tokens_from (mode_after m i (class_of b)) (suc i) bs

abbrev pub tokens : List ℕ → List Token
tokens text = tokens_from Between 0 text
