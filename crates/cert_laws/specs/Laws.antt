-- What accepted certificates show: the contracts of the laws in src/lib.rt.
--   LinesFitWhereValid        pairs hold one after another, as lines of a certificate, exactly where they are a valid field
--   CheckedFieldsAreGood      the pairs of an accepted cover part are a good field of its space
--   MigrationKeepsVersionTwo  a certificate of version 2 stays as it is
use Rattle.std.specs.Prelude.{◌≡◌, ◌↔◌, List, [], true, Some}
use Rattle.face_poset.specs.declared.cells.Pair.{Pair}
use Rattle.face_poset.specs.Poset.{Layers}
use Rattle.vector_field.specs.Pairs.{IsValid}
use Rattle.vector_field.specs.Maximal.{IsGood}
use Rattle.certificates.specs.Cert.{CertCover, Cert}
use Rattle.cert_laws.specs.Tests.{pairs_hold, pairs_of}
use Rattle.cert_laws.specs.Accepted.{IsAccepted}
use Rattle.cert_laws.specs.Migrated.{migrated}

abbrev pub LinesFitWhereValid : Type 0
LinesFitWhereValid = (space : Layers) (pairs : List Pair) → (pairs_hold space pairs [] pairs ≡ true) ↔ IsValid space pairs

abbrev pub CheckedFieldsAreGood : Type 0
CheckedFieldsAreGood = (c : Cert) (part : CertCover) → IsAccepted c → c.cover ≡ Some part → IsGood c.space (pairs_of part)

abbrev pub MigrationKeepsVersionTwo : Type 0
MigrationKeepsVersionTwo = (c : Cert) → c.version ≡ 2 → migrated c ≡ c
