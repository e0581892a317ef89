-- Lines read one after another. n is the number of a line, counted from 1.
--   Left                        what is left to read: the number of the next line, and the pieces of the text between line feeds
--   Answer A                    a value with what is left, or the first fault
--   pieces_of bytes             the text cut at its line feeds; behind the last of them stands what no line feed ends
--   and_then answer go          goes on with the answer, or stops at the fault
--   next_form version left      what the next line says: `Ends` where there is none, BadLine where it has no line feed or no form
--   take_line version pick fits left   the next line, if it may stand here (WrongOrder) and is in its range (OutOfRange)
--   many count read left        so many of the same
--   each read xs left           one for each of these
--   start bytes                 what is left at the begin of a text
-- and as steps of these: form_at, formed, chosen, in_range
use Rattle.std.specs.Prelude.{ℕ, zero, suc, ◌+◌, ◌==◌, List, [], ◌∷◌, length, Bool, if◌then◌else◌, Option, Some, None, Result, Ok, Err}
use Rattle.std.specs.List.{slice_split}
use Rattle.certificates.specs.Forms.{Form, form_of}
use Rattle.cert_lines.specs.declared.fault.CertFault.{CertFault}
use Rattle.cert_lines.specs.declared.fault.CertFault.TheVariants.{BadLine, WrongOrder, OutOfRange, Ends}

pub record Left : Type 0 where
  pub number : ℕ
  pub pieces : List (List ℕ)

abbrev pub Answer : Type 0 → Type 0
Answer A = Result (A × Left) CertFault

abbrev pub pieces_of : List ℕ → List (List ℕ)
pieces_of bytes = slice_split (λ b. b == 10) bytes

abbrev pub and_then : {A B : Type 0} → Result A CertFault → (A → Result B CertFault) → Result B CertFault
and_then (Ok a) go = go a
and_then (Err f) go = Err f

abbrev pub formed : (n : ℕ) → (rest : List (List ℕ)) → Option Form → Answer Form
formed n rest None = Err (BadLine n)
formed n rest (Some f) = Ok (f, record { number = n + 1; pieces = rest })

abbrev pub form_at : (version n : ℕ) → List (List ℕ) → Answer Form
form_at version n [] = Err Ends
form_at version n (last ∷ []) = if length last == 0 then Err Ends else Err (BadLine n)
form_at version n (line ∷ more ∷ rest) = formed n (more ∷ rest) (form_of version line)

abbrev pub next_form : (version : ℕ) → Left → Answer Form
next_form version left = form_at version left.number left.pieces

abbrev pub in_range : {A : Type 0} → (n : ℕ) → A → Left → Bool → Answer A
in_range n x left fits = if fits then Ok (x, left) else Err (OutOfRange n)

abbrev pub chosen : {A : Type 0} → (A → Bool) → (n : ℕ) → Option A → Left → Answer A
chosen fits n None left = Err (WrongOrder n)
chosen fits n (Some x) left = in_range n x left (fits x)

abbrev pub take_line : {A : Type 0} → (version : ℕ) → (pick : Form → Option A) → (fits : A → Bool) → Left → Answer A
take_line version pick fits left = and_then (next_form version left) (λ a. chosen fits left.number (pick a.0) a.1)

abbrev pub many : {A : Type 0} → (count : ℕ) → (Left → Answer A) → Left → Answer (List A)
many zero read left = Ok ([], left)
many (suc count) read left = and_then (read left) (λ a. and_then (many count read a.1) (λ b. Ok (a.0 ∷ b.0, b.1)))

abbrev pub each : {A B : Type 0} → (B → Left → Answer A) → List B → Left → Answer (List A)
each read [] left = Ok ([], left)
each read (x ∷ xs) left = and_then (read x left) (λ a. and_then (each read xs a.1) (λ b. Ok (a.0 ∷ b.0, b.1)))

abbrev pub start : List ℕ → Left
start bytes = record { number = 1; pieces = pieces_of bytes }
