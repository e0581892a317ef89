-- The certificate of the one-point space is accepted in both versions, and is not where a line is another.
use Rattle.std.proofs.Common.{◌≡◌, ◌∷◌, [], ℕ, List, None, Some, refl}
use Rattle.certificates.specs.Cert.{Cert, CertCover, CoverTable}
use Rattle.cert_laws.specs.Accepted.{first_refusal}
use Rattle.cert_laws.specs.Migrated.{migrated}
use Rattle.cert_laws.specs.declared.refused.Refused.TheVariants as refused

abbrev table : (number : ℕ) → CoverTable
table number = record { number = number; sheets = 1; columns = 0; cells = [] }

abbrev covers : (columns : List ℕ) → (critical section : ℕ) → List CoverTable → CertCover
covers columns critical section tables = record {
  pairs = [];
  critical_line = critical;
  critical = 1 ∷ 0 ∷ 0 ∷ 0 ∷ [];
  columns = columns;
  sheets = 2;
  from = None;
  sections = record { number = section; component = 1; tables = tables } ∷ [];
  spent = None;
}

abbrev point : (version : ℕ) → (right : List (ℕ × ℕ)) → CertCover → Cert
point version right cover = record {
  version = version;
  modulus = 2;
  space = ([] ∷ []) ∷ [] ∷ [] ∷ [] ∷ [];
  chains = 1 ∷ 0 ∷ 0 ∷ 0 ∷ [];
  ranks = [] ∷ [] ∷ [] ∷ [] ∷ [];
  classes = (record { number = 9; left = (1, 1) ∷ []; right = right } ∷ []) ∷ [] ∷ [] ∷ [] ∷ [];
  products = [];
  cover = Some cover;
}

abbrev one : List (ℕ × ℕ)
one = (1, 1) ∷ []

abbrev first : Cert
first = point 1 one (covers (0 ∷ []) 15 16 (table 17 ∷ []))

abbrev second : Cert
second = point 2 one (covers (0 ∷ []) 15 19 (table 20 ∷ []))

first-accepted : first_refusal first ≡ None
first-accepted = refl

second-accepted : first_refusal second ≡ None
second-accepted = refl

first-migrated : migrated first ≡ second
first-migrated = refl

-- a cycle on which the class is 0
no-pairing : first_refusal (point 2 [] (covers (0 ∷ []) 15 19 (table 20 ∷ []))) ≡ Some (refused.Pairing 9)
no-pairing = refl

-- a critical edge that is not there
wrong-columns : first_refusal (point 2 one (covers (1 ∷ []) 15 19 (table 20 ∷ []))) ≡ Some (refused.Columns 17)
wrong-columns = refl

-- a table twice
same-table : first_refusal (point 2 one (covers (0 ∷ []) 15 19 (table 20 ∷ table 21 ∷ []))) ≡ Some (refused.CoverOrder 21)
same-table = refl
