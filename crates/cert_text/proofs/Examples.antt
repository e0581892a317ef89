-- Texts that are read, and first faults.
use Rattle.std.proofs.Common.{◌≡◌, ◌∷◌, ◌++◌, [], ℕ, List, None, Some, Ok, Err, refl, codes}
use Rattle.std.specs.Fmt.{digits}
use Rattle.certificates.specs.Cert.{Cert, CertCover, CoverTable}
use Rattle.certificates.specs.Texts.{cert_text}
use Rattle.cert_lines.specs.declared.fault.CertFault.TheVariants.{BadLine, WrongOrder, OutOfRange, Ends, BadVersion}
use Rattle.cert_text.specs.Reading.{certificate_of}

abbrev table : (number : ℕ) → CoverTable
table number = record { number = number; sheets = 1; columns = 0; cells = [] }

abbrev covers : (critical section cover : ℕ) → CertCover
covers critical section cover = record {
  pairs = [];
  critical_line = critical;
  critical = 1 ∷ 0 ∷ 0 ∷ 0 ∷ [];
  columns = 0 ∷ [];
  sheets = 2;
  from = None;
  sections = record { number = section; component = 1; tables = table cover ∷ [] } ∷ [];
  spent = None;
}

abbrev point : (version : ℕ) → CertCover → Cert
point version cover = record {
  version = version;
  modulus = 2;
  space = ([] ∷ []) ∷ [] ∷ [] ∷ [] ∷ [];
  chains = 1 ∷ 0 ∷ 0 ∷ 0 ∷ [];
  ranks = [] ∷ [] ∷ [] ∷ [] ∷ [];
  classes = (record { number = 9; left = (1, 1) ∷ []; right = (1, 1) ∷ [] } ∷ []) ∷ [] ∷ [] ∷ [] ∷ [];
  products = [];
  cover = Some cover;
}

abbrev middle : List ℕ
middle = codes "modulus 2\ncells 1 0 0 0\nchains 1 0 0 0\nrank 0 0\nrank 1 0\nrank 2 0\nclasses 0 1\nz 1:1 | 1:1\nclasses 1 0\nclasses 2 0\nclasses 3 0\nproducts 0\npairs 0\ncritical 1 0 0 0\n"

first-version : certificate_of (codes "hap-certificate 1\n" ++ (middle ++ codes "sheets 2 from -\ncover 1 -\ndone\nend\n")) ≡ Ok (point 1 (covers 15 16 17))
first-version = refl

second-version : certificate_of (codes "hap-certificate 2\n" ++ (middle ++ codes "components 1\ncolumns 1 0\nsheets 2 from -\ncovers 1\ncover 1 -\ndone\nend\n")) ≡ Ok (point 2 (covers 15 19 20))
second-version = refl

-- ---- two circles, listed from a spot to a spot

abbrev listed : (number sheets : ℕ) → List ℕ → CoverTable
listed number sheets cells = record { number = number; sheets = sheets; columns = 1; cells = cells }

abbrev circles : Cert
circles = record {
  version = 2;
  modulus = 3;
  space = ([] ∷ [] ∷ [] ∷ [] ∷ []) ∷ ((1 ∷ 2 ∷ []) ∷ (1 ∷ 2 ∷ []) ∷ (3 ∷ 4 ∷ []) ∷ (3 ∷ 4 ∷ []) ∷ []) ∷ [] ∷ [] ∷ [];
  chains = 8 ∷ 8 ∷ 0 ∷ 0 ∷ [];
  ranks = (record { number = 10; left = (2, 1) ∷ (8, 2) ∷ []; right = [] } ∷ []) ∷ [] ∷ [] ∷ [] ∷ [];
  classes = [] ∷ (record { number = 15; left = (1, 2) ∷ []; right = (8, 1) ∷ [] } ∷ []) ∷ [] ∷ [] ∷ [];
  products = record { number = 19; i = 1; a = 1; j = 1; b = 1; coefficients = []; bound = (3, 2) ∷ [] } ∷ [];
  cover = Some (record {
    pairs = record { number = 21; pair = record { dim = 0; lower = 2; upper = 1 } } ∷ record { number = 22; pair = record { dim = 0; lower = 4; upper = 3 } } ∷ [];
    critical_line = 23;
    critical = 2 ∷ 2 ∷ 0 ∷ 0 ∷ [];
    columns = 1 ∷ 1 ∷ [];
    sheets = 2;
    from = Some (1, 2, 2 ∷ []);
    sections = record { number = 28; component = 1; tables = listed 29 2 (2 ∷ 1 ∷ []) ∷ [] } ∷ record { number = 30; component = 2; tables = listed 31 1 (1 ∷ []) ∷ [] } ∷ [];
    spent = Some (Some (2, 1, 1 ∷ []));
  });
}

abbrev circles-text : List ℕ
circles-text = codes "hap-certificate 2\nmodulus 3\ncells 4 4 0 0\nface 1 1 2\nface 1 1 2\nface 1 3 4\nface 1 3 4\nchains 8 8 0 0\nrank 0 1\nr 2:1 8:2 | -\nrank 1 0\nrank 2 0\nclasses 0 0\nclasses 1 1\nz 1:2 | 8:1\nclasses 2 0\nclasses 3 0\nproducts 1\np 1 1 1 1 - | 3:2\npairs 2\npair 0 2 1\npair 0 4 3\ncritical 2 2 0 0\ncomponents 2\ncolumns 1 1\ncolumns 2 1\nsheets 2 from 2:2\ncovers 1\ncover 2 2/1\ncovers 2\ncover 1 1\nspent 2/1:1\nend\n"

two-circles : certificate_of circles-text ≡ Ok circles
two-circles = refl

circles-written : cert_text circles ≡ circles-text
unfolding digits
circles-written = refl

-- ---- first faults

no-byte : certificate_of [] ≡ Err Ends
no-byte = refl

third-version : certificate_of (codes "hap-certificate 3\n") ≡ Err BadVersion
third-version = refl

no-line_feed : certificate_of (codes "hap-certificate 3") ≡ Err (BadLine 1)
no-line_feed = refl

components-first : certificate_of (codes "hap-certificate 1\n" ++ (middle ++ codes "components 1\n")) ≡ Err (BadLine 16)
components-first = refl

leading-zero : certificate_of (codes "hap-certificate 2\nmodulus 02\n") ≡ Err (BadLine 2)
leading-zero = refl

out-of-order : certificate_of (codes "hap-certificate 2\ncells 0 0 0 0\n") ≡ Err (WrongOrder 2)
out-of-order = refl

no-modulus : certificate_of (codes "hap-certificate 2\nmodulus 6\n") ≡ Err (OutOfRange 2)
no-modulus = refl

early-end : certificate_of (codes "hap-certificate 2\n" ++ middle) ≡ Err Ends
early-end = refl

behind-end : certificate_of (codes "hap-certificate 2\n" ++ (middle ++ codes "components 1\ncolumns 1 0\nsheets 2 from -\ncovers 1\ndone\nend\nend\n")) ≡ Err (WrongOrder 22)
behind-end = refl

first-component : certificate_of (codes "hap-certificate 2\n" ++ (middle ++ codes "components 1\ncolumns 1 0\nsheets 2 from -\ncovers 2\n")) ≡ Err (OutOfRange 19)
first-component = refl

huge-numbers : certificate_of (codes "hap-certificate 2\nmodulus 2\ncells 1 0 0 0\nchains 1 0 0 0\nrank 0 4294967295\n") ≡ Err (OutOfRange 5)
huge-numbers = refl
