-- Where a text is refused: at the first token that no text of the grammar can have there, or at the end. ts are tokens.
--   token_place t, fault_place f    the place of a token, of a fault
--   IsSpelled ts                    the tokens of a text of the grammar
--   MayGoOn ts                      a text of the grammar may begin with these tokens
--   IsFullRange ts                  the last tokens are `[`, 0 and `..`, and the ranges before have made a million numbers: any
--                                   number that comes is one too many
--   IsRefused text f                the fault has the place of the first token that no text of the grammar can have there, or
--                                   of the end
--   FaultIsPlaced                   so has each fault
use Rattle.std.specs.Prelude.{◌≡◌, ℕ, ◌⊎◌, List, [], ◌∷◌, ◌++◌, length, Option, Some, None, Ok, Err}
use Rattle.gap_text.specs.declared.fault.TextFault.{TextFault}
use Rattle.gap_text.specs.declared.fault.TextFault.TheVariants.{BadByte, Unclosed, Stray, Stepped, BadRange, NumberTooBig, TooDeep, Memory}
use Rattle.gap_text.specs.Value.{Value}
use Rattle.gap_text.specs.Tokens.{Token, Open, Close, Comma, Dots, Semicolon, Number, Bad, tokens}
use Rattle.gap_text.specs.Reading.{Level, RangeEnd, at, start, run, value_of}
use Rattle.gap_text.specs.Grammar.{Spells}

abbrev pub token_place : Token → ℕ
token_place (Open p) = p
token_place (Close p) = p
token_place (Comma p) = p
token_place (Dots p) = p
token_place (Semicolon p) = p
token_place (Number p n) = p
token_place (Bad p) = p

abbrev pub fault_place : TextFault → Option ℕ
fault_place (BadByte p) = Some p
fault_place (Unclosed p) = Some p
fault_place (Stray p) = Some p
fault_place (Stepped p) = Some p
fault_place (BadRange p) = Some p
fault_place (NumberTooBig p) = Some p
fault_place (TooDeep p) = Some p
fault_place Memory = None

abbrev pub IsSpelled : List Token → Type 0
IsSpelled ts = (v : Value) × Spells ts v

abbrev pub MayGoOn : List Token → Type 0
MayGoOn ts = (us : List Token) × IsSpelled (ts ++ us)

abbrev pub IsFullRange : List Token → Type 0
IsFullRange ts = (q : ℕ) × (open_lists : List Level) × (run start ts ≡ Ok (at (RangeEnd q 0) open_lists 1000000))

pub data IsRefused (text : List ℕ) (f : TextFault) : Type 0 where
  at_token : (before : List Token) (t : Token) (after : List Token) → tokens text ≡ before ++ t ∷ after → fault_place f ≡ Some (token_place t)
      → (MayGoOn (before ++ t ∷ []) → ⊥) → MayGoOn before ⊎ IsFullRange before → IsRefused text f
  at_end : f ≡ Unclosed (length text) → (IsSpelled (tokens text) → ⊥) → MayGoOn (tokens text) ⊎ IsFullRange (tokens text) → IsRefused text f

abbrev pub FaultIsPlaced : Type 0
FaultIsPlaced = (text : List ℕ) (f : TextFault) → value_of text ≡ Err f → IsRefused text f
