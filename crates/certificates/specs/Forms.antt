-- What one line of a certificate says. The version is 1 or 2.
--   Form                    what one line says
--   line_text form          the text of the line, without its line feed
--   stands version form     the version has such a line: in version 1 there are no `components`, `columns`, `covers`,
--                           and a spot has component 1
--   IsForm version form     what a line of the version can say
--   form_of version line    what the line says in the version, if it has a form there
--   FormsAreSpelled         a line has a form of a version exactly where it is the text of that form
-- and as steps of these
--   in_first spot           the spot is the start, or in component 1
--   any_form line           what the line says in some version
--   IsAnyForm form          what a line of some version can say
use Rattle.std.specs.Prelude.{◌≡◌, ◌↔◌, ℕ, ◌==◌, List, Bool, true, not, ◌||◌, if◌then◌else◌, Option, Some, None, option_and_then, option_map}
use Rattle.std.specs.Option.{option_or}
use Rattle.certificates.specs.Plain as p
use Rattle.certificates.specs.Plain.{Plain, plain_text, IsPlain, plain_of}
use Rattle.certificates.specs.Placed.{SearchSpot, Placed, Sheets, Cover, Spent, placed_text, IsPlaced, placed_of}

pub data Form : Type 0 where
  plain : Plain → Form
  placed : Placed → Form

abbrev pub line_text : Form → List ℕ
line_text (plain f) = plain_text f
line_text (placed f) = placed_text f

abbrev pub in_first : SearchSpot → Bool
in_first None = true
in_first (Some s) = s.0 == 1

abbrev pub stands : (version : ℕ) → Form → Bool
stands version (plain (p.Components k)) = not (version == 1)
stands version (plain (p.Columns i c)) = not (version == 1)
stands version (plain (p.Covers i)) = not (version == 1)
stands version (plain f) = true
stands version (placed (Sheets n s)) = not (version == 1) || in_first s
stands version (placed (Spent s)) = not (version == 1) || in_first s
stands version (placed (Cover m rows)) = true

abbrev pub IsAnyForm : Form → Type 0
IsAnyForm (plain f) = IsPlain f
IsAnyForm (placed f) = IsPlaced f

pub record IsForm (version : ℕ) (f : Form) : Type 0 where
  pub form : IsAnyForm f
  pub there : stands version f ≡ true

-- ---- the reading

abbrev pub any_form : List ℕ → Option Form
any_form line = option_or (option_map plain (plain_of line)) (option_map placed (placed_of line))

abbrev pub if_stands : (version : ℕ) → Form → Option Form
if_stands version f = if stands version f then Some f else None

abbrev pub form_of : (version : ℕ) → (line : List ℕ) → Option Form
form_of version line = option_and_then (if_stands version) (any_form line)

-- a line has a form exactly where it is the text of that form
abbrev pub FormsAreSpelled : Type 0
FormsAreSpelled = (version : ℕ) (line : List ℕ) (f : Form) → (form_of version line ≡ Some f) ↔ (IsForm version f × (line ≡ line_text f))
