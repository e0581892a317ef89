-- How the code reads lines: one by one, by the kind and the numbers of a line.
--   Reads see wanted now result   the answer is what the definition reads, seen through see, with what is left now;
--                                 a fault is its fault, or want of memory
--   Says see wanted result        the same of what one line says, whatever is left
--   formed_to n now form          the form with what is left now, or BadLine
--   IsTaken version before kind now line      the next line has a form of the kind, and this is left behind it
--   IsRefused version before kind fault       the fault of the next line, where one of the kind is wanted; IsOther is its half:
--                                 a form of another kind
--   four_of numbers               the first four, zeros behind the last
--   same_kind k l                 whether they are one kind
--   numbers_if kind form          the first four numbers of a line of the kind
--   any x                         no range
use Rattle.std.specs.Prelude.{◌≡◌, ◌≢◌, ◌⊎◌, ℕ, List, [], ◌∷◌, Bool, true, false, Option, Some, None, Result, Ok, Err, if◌then◌else◌, slice_index_or}
use Rattle.certificates.specs.declared.kind.Kind.{Kind}
use Rattle.certificates.specs.declared.kind.Kind.TheVariants as kind
use Rattle.certificates.specs.Plain.{parts}
use Rattle.certificates.specs.Forms.{Form, plain, placed, form_of}
use Rattle.cert_lines.specs.declared.kind.LineKind.{LineKind}
use Rattle.cert_lines.specs.Kinds.{kind_of}
use Rattle.cert_lines.specs.declared.fault.CertFault.{CertFault}
use Rattle.cert_lines.specs.declared.fault.CertFault.TheVariants.{BadLine, WrongOrder, Memory}
use Rattle.cert_lines.specs.Readers.{Left, Answer, next_form}

abbrev pub Reads : {A B : Type 0} → (see : B → A) → (wanted : Answer A) → (now : Left) → Result B CertFault → Type 0
Reads see wanted now (Ok b) = wanted ≡ Ok (see b, now)
Reads see wanted now (Err f) = f ≢ Memory → wanted ≡ Err f

abbrev pub Says : {A B : Type 0} → (see : B → A) → (wanted : Result A CertFault) → Result B CertFault → Type 0
Says see wanted (Ok b) = wanted ≡ Ok (see b)
Says see wanted (Err f) = f ≢ Memory → wanted ≡ Err f

abbrev pub formed_to : (n : ℕ) → (now : Left) → Option Form → Answer Form
formed_to n now None = Err (BadLine n)
formed_to n now (Some f) = Ok (f, now)

pub record IsTaken (version : ℕ) (before : Left) (wanted : LineKind) (now : Left) (line : List ℕ) : Type 0 where
  pub form : Form
  pub next : next_form version before ≡ Ok (form, now)
  pub kind : kind_of form ≡ wanted
  pub of : form_of version line ≡ Some form

pub record IsOther (version : ℕ) (before : Left) (wanted : LineKind) (fault : CertFault) : Type 0 where
  pub form : Form
  pub now : Left
  pub next : next_form version before ≡ Ok (form, now)
  pub kind : kind_of form ≢ wanted
  pub is : fault ≡ WrongOrder before.number

abbrev pub IsRefused : (version : ℕ) → (before : Left) → (wanted : LineKind) → CertFault → Type 0
IsRefused version before wanted fault = (next_form version before ≡ Err fault) ⊎ IsOther version before wanted fault

abbrev pub four_of : List ℕ → List ℕ
four_of ns = slice_index_or ns 0 0 ∷ slice_index_or ns 1 0 ∷ slice_index_or ns 2 0 ∷ slice_index_or ns 3 0 ∷ []

abbrev pub same_kind : Kind → Kind → Bool
same_kind kind.Version kind.Version = true
same_kind kind.Modulus kind.Modulus = true
same_kind kind.Cells kind.Cells = true
same_kind kind.Face kind.Face = true
same_kind kind.Chains kind.Chains = true
same_kind kind.Rank kind.Rank = true
same_kind kind.RankLine kind.RankLine = true
same_kind kind.Classes kind.Classes = true
same_kind kind.ClassLine kind.ClassLine = true
same_kind kind.Products kind.Products = true
same_kind kind.ProductLine kind.ProductLine = true
same_kind kind.Pairs kind.Pairs = true
same_kind kind.PairLine kind.PairLine = true
same_kind kind.Critical kind.Critical = true
same_kind kind.Components kind.Components = true
same_kind kind.Columns kind.Columns = true
same_kind kind.Covers kind.Covers = true
same_kind kind.Done kind.Done = true
same_kind kind.End kind.End = true
same_kind k l = false

abbrev pub numbers_if : Kind → Form → Option (List ℕ)
numbers_if k (plain f) = if same_kind k (parts f).kind then Some (four_of (parts f).rest.numbers) else None
numbers_if k (placed f) = None

abbrev pub any : {A : Type 0} → A → Bool
any x = true
