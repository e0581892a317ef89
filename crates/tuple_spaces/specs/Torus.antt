-- The 3-torus of a size: the cells are the triples of coordinates below twice the size, and coordinates go round.
--   facets_round period tuple    the facets of a tuple: an odd coordinate c is replaced by c - 1, or by c + 1 modulo the period
--   torus_of size                the space
--   HasTorusCounts size space    how many cells of each dimension there are
--   TorusIsRegular               a law: the torus of each size from 2 to 19 is regular
use Rattle.std.specs.Prelude.{◌≡◌, ℕ, ◌+◌, ◌-◌, ◌*◌, ◌%◌, ◌^◌, ◌≤◌, List, [], ◌∷◌, ◌++◌, map, if◌then◌else◌}
use Rattle.face_poset.specs.Poset.{Layers, count}
use Rattle.regular_check.specs.Rules.{IsRegular}
use Rattle.tuple_spaces.specs.Tuples.{tuples, is_odd, space_of}

abbrev pub facets_round : (period : ℕ) → List ℕ → List (List ℕ)
facets_round period [] = []
facets_round period (c ∷ cs) =
    (if is_odd c then ((c - 1) ∷ cs) ∷ (((c + 1) % period) ∷ cs) ∷ [] else []) ++ map (λ t. c ∷ t) (facets_round period cs)

abbrev pub torus_of : (size : ℕ) → Layers
torus_of size = space_of (facets_round (2 * size)) (tuples 3 (2 * size))

pub record HasTorusCounts (size : ℕ) (space : Layers) : Type 0 where
  pub vertices : count space 0 ≡ size ^ 3
  pub edges : count space 1 ≡ 3 * size ^ 3
  pub squares : count space 2 ≡ 3 * size ^ 3
  pub cubes : count space 3 ≡ size ^ 3

abbrev pub TorusIsRegular : Type 0
TorusIsRegular = (size : ℕ) → 2 ≤ size → size ≤ 19 → IsRegular (torus_of size)
