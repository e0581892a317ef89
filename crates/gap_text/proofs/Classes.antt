-- Bytes by their classes, and back.
use Rattle.std.proofs.Common.{◌≡◌, ℕ, ◌-◌, ◌⊎◌, Bool, true, false, arith, refl}
use Rattle.std.proofs.lemmas.Bool.Decides.{nat_tests}
use Rattle.gap_text.specs.declared.byte.Class.TheVariants.{LeftBracket, RightBracket, CommaSign, SemicolonSign, Point, Digit, Hash, Blank, LineFeed}
use Rattle.gap_text.specs.Tokens.{class_of, is_digit}
use Rattle.gap_text.specs.Grammar.{is_blank, is_commented}

pub left_bracket-byte : (b : ℕ) → class_of b ≡ LeftBracket → b ≡ 91
left_bracket-byte b e = grind (arith, nat_tests)

pub right_bracket-byte : (b : ℕ) → class_of b ≡ RightBracket → b ≡ 93
right_bracket-byte b e = grind (arith, nat_tests)

pub comma-byte : (b : ℕ) → class_of b ≡ CommaSign → b ≡ 44
comma-byte b e = grind (arith, nat_tests)

pub semicolon-byte : (b : ℕ) → class_of b ≡ SemicolonSign → b ≡ 59
semicolon-byte b e = grind (arith, nat_tests)

pub point-byte : (b : ℕ) → class_of b ≡ Point → b ≡ 46
point-byte b e = grind (arith, nat_tests)

pub hash-byte : (b : ℕ) → class_of b ≡ Hash → b ≡ 35
hash-byte b e = grind (arith, nat_tests)

pub line_feed-byte : (b : ℕ) → class_of b ≡ LineFeed → b ≡ 10
line_feed-byte b e = grind (arith, nat_tests)

pub blank-byte : (b : ℕ) → class_of b ≡ Blank → is_blank b ≡ true
blank-byte b e = grind (arith, nat_tests)

pub class_of-blank : (b : ℕ) → is_blank b ≡ true → (class_of b ≡ Blank) ⊎ (class_of b ≡ LineFeed)
class_of-blank b e = grind (arith, nat_tests)

pub class_of-commented : (b : ℕ) → is_commented b ≡ true → class_of b ≡ LineFeed → ⊥
class_of-commented b e h = grind (arith, nat_tests)

pub commented-byte : (b : ℕ) → (class_of b ≡ LineFeed → ⊥) → is_commented b ≡ true
commented-byte b h = grind (arith, nat_tests)

pub class_of-digit : (b : ℕ) → is_digit b ≡ true → class_of b ≡ Digit (b - 48)
class_of-digit b e = grind (arith, nat_tests)

pub digit-byte : (b d : ℕ) → class_of b ≡ Digit d → (is_digit b ≡ true) × (d ≡ b - 48)
digit-byte b d e = grind (arith, nat_tests)

pub class_of-no_digit : (b d : ℕ) → is_digit b ≡ false → class_of b ≡ Digit d → ⊥
class_of-no_digit b d e h = grind (arith, nat_tests)

pub no_digit-byte : (b : ℕ) → ((d : ℕ) → class_of b ≡ Digit d → ⊥) → is_digit b ≡ false
no_digit-byte b h = by_test (is_digit b) refl
  where
    by_test : (t : Bool) → is_digit b ≡ t → t ≡ false
    by_test true e = absurd (h (b - 48) (class_of-digit b e))
    by_test false e = refl

pub no_comment-byte : (b : ℕ) → is_commented b ≡ false → b ≡ 10
no_comment-byte b e = grind (arith, nat_tests)
