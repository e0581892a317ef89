-- What the tests of an accepted certificate say, part by part.
use Rattle.std.proofs.Common.{◌≡◌, ◌++◌, true, Option, Some, subst}
use Rattle.std.specs.List.{flat_map}
use Rattle.small_field.specs.Modulus.{field_of}
use Rattle.certificates.specs.Cert.{CertCover, Cert}
use Rattle.cert_laws.specs.Tests.{space_holds, homology_tests, field_tests, columns_in, section_tests, pairs_of, cover_part_tests}
use Rattle.cert_laws.specs.Accepted.{tests, IsAccepted}
use Rattle.cert_laws.proofs.Passing.{AllHold, hold-left, hold-right, hold-from}

pub space_given : (c : Cert) → IsAccepted c → space_holds c ≡ true
space_given c h = (hold-from (tests c) h.none).0

pub homology_given : (c : Cert) → IsAccepted c → AllHold (homology_tests (field_of c.modulus) c)
homology_given c h = hold-left (homology_tests (field_of c.modulus) c) (cover_part_tests c.version c.space c.cover) (hold-from (tests c) h.none).1

pub part_given : (c : Cert) → IsAccepted c → AllHold (cover_part_tests c.version c.space c.cover)
part_given c h = hold-right (homology_tests (field_of c.modulus) c) (cover_part_tests c.version c.space c.cover) (hold-from (tests c) h.none).1

module _ (c : Cert) (part : CertCover) (h : IsAccepted c) (e : c.cover ≡ Some part) where
  in_part : AllHold (field_tests c.space part ++ (columns_in c.version c.space part ++ flat_map (section_tests c.space (pairs_of part)) part.sections))
  in_part = subst (λ (o : Option CertCover). AllHold (cover_part_tests c.version c.space o)) e (part_given c h)

  pub field_given : AllHold (field_tests c.space part)
  field_given = hold-left (field_tests c.space part) (columns_in c.version c.space part ++ flat_map (section_tests c.space (pairs_of part)) part.sections) in_part

  pub sections_given : AllHold (flat_map (section_tests c.space (pairs_of part)) part.sections)
  sections_given = hold-right (columns_in c.version c.space part) (flat_map (section_tests c.space (pairs_of part)) part.sections) (hold-right (field_tests c.space part) (columns_in c.version c.space part ++ flat_map (section_tests c.space (pairs_of part)) part.sections) in_part)
