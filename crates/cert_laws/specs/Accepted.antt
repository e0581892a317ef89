-- Which certificates are accepted: those that are well formed and pass all tests. The tests stand in the order in which they are made; the
-- first that fails is answered.
--   tests c             all tests, over the field with as many elements as the modulus says
--   refusal_in tests    the refusal of the first test in a list that fails
--   first_refusal c     that of a certificate
--   IsAccepted c        it is well formed, and no test fails
use Rattle.std.specs.Prelude.{◌≡◌, List, ◌∷◌, ◌++◌, not, find, option_map, Option, None}
use Rattle.small_field.specs.Modulus.{field_of}
use Rattle.certificates.specs.Cert.{Cert}
use Rattle.certificates.specs.WellFormed.{IsWellFormed}
use Rattle.cert_laws.specs.declared.refused.Refused.{Refused}
use Rattle.cert_laws.specs.declared.refused.Refused.TheVariants as refused
use Rattle.cert_laws.specs.Tests.{Test, test, space_holds, homology_tests, cover_part_tests}

abbrev pub tests : Cert → List Test
tests c = test (space_holds c) refused.Space ∷ (homology_tests (field_of c.modulus) c ++ cover_part_tests c.version c.space c.cover)

abbrev pub refusal_in : List Test → Option Refused
refusal_in ts = option_map (λ (t : Test). t.refusal) (find (λ (t : Test). not t.holds) ts)

abbrev pub first_refusal : Cert → Option Refused
first_refusal c = refusal_in (tests c)

pub record IsAccepted (c : Cert) : Type 0 where
  pub well_formed : IsWellFormed c
  pub none : first_refusal c ≡ None
