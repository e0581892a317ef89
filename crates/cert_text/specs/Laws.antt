-- The laws of the text of a certificate.
--   TextsAreRead       the text of a well-formed certificate reads as that certificate
--   OnlyTextsAreRead   what reads as a certificate is the text of it, and it is well formed
--   TextsAreOne        well-formed certificates with equal texts are equal
--   FaultsAreFinal     no text of a well-formed certificate begins with the lines up to one that is
--                      refused and has a line feed
-- and as steps of these
--   line_of fault      the line that is refused
--   lines_to n bytes   the first n lines, each with its line feed
use Rattle.std.specs.Prelude.{◌≡◌, ◌≢◌, ℕ, ◌<◌, List, [], ◌∷◌, ◌++◌, take, length, Option, Some, None, Ok, Err}
use Rattle.std.specs.List.{flat_map}
use Rattle.cert_lines.specs.declared.fault.CertFault.{CertFault}
use Rattle.cert_lines.specs.declared.fault.CertFault.TheVariants.{BadLine, WrongOrder, OutOfRange, BadVersion}
use Rattle.cert_lines.specs.Readers.{pieces_of}
use Rattle.certificates.specs.Cert.{Cert}
use Rattle.certificates.specs.Texts.{cert_text}
use Rattle.certificates.specs.WellFormed.{IsWellFormed}
use Rattle.cert_text.specs.Reading.{certificate_of}

abbrev pub TextsAreRead : Type 0
TextsAreRead = (c : Cert) → IsWellFormed c → certificate_of (cert_text c) ≡ Ok c

abbrev pub OnlyTextsAreRead : Type 0
OnlyTextsAreRead = (bytes : List ℕ) (c : Cert) → certificate_of bytes ≡ Ok c → IsWellFormed c × (bytes ≡ cert_text c)

abbrev pub TextsAreOne : Type 0
TextsAreOne = (c d : Cert) → IsWellFormed c → IsWellFormed d → cert_text c ≡ cert_text d → c ≡ d

abbrev pub line_of : CertFault → Option ℕ
line_of (BadLine n) = Some n
line_of (WrongOrder n) = Some n
line_of (OutOfRange n) = Some n
line_of BadVersion = Some 1
line_of f = None

abbrev pub lines_to : (n : ℕ) → (bytes : List ℕ) → List ℕ
lines_to n bytes = flat_map (λ line. line ++ 10 ∷ []) (take n (pieces_of bytes))

-- a text has fewer line feeds than pieces
abbrev pub FaultsAreFinal : Type 0
FaultsAreFinal =
    (bytes : List ℕ) (fault : CertFault) (n : ℕ) → certificate_of bytes ≡ Err fault → line_of fault ≡ Some n
    → n < length (pieces_of bytes)
    → (c : Cert) (rest : List ℕ) → IsWellFormed c → cert_text c ≢ lines_to n bytes ++ rest
