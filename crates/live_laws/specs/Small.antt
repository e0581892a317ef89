-- Live partial tables and listed tables of small spaces.
--   of_circle                 the relations of a circle: a generator
--   of_wedge                  those of two circles that meet in a point: two generators
--   of_torus                  those of a torus: two generators that commute
--   numbers qs                positions as lists: the sheets, and then the cells
--   CircleIsListed            the live partial tables of the circle of at most three sheets, those after one of them, and the listed ones
--   WedgeIsListed             how many there are of the wedge of at most two sheets, and the listed ones
--   TorusIsListed             how many of the torus of at most two sheets are listed
use Rattle.std.specs.Prelude.{◌≡◌, ℕ, pos, negsuc, List, [], ◌∷◌, map, length}
use Rattle.live_laws.specs.Live.{Relations, Position, live, listed}

abbrev pub of_circle : Relations
of_circle = record { generators = 1; relators = [] }

abbrev pub of_wedge : Relations
of_wedge = record { generators = 2; relators = [] }

abbrev pub of_torus : Relations
of_torus = record { generators = 2; relators = (pos 1 ∷ pos 2 ∷ negsuc 0 ∷ negsuc 1 ∷ []) ∷ [] }

abbrev pub numbers : List Position → List (List ℕ)
numbers qs = map (λ q. q.0 ∷ q.1) qs

pub record CircleIsListed : Type 0 where
  pub live_ones :
      numbers (live of_circle 3 (0, []))
      ≡ (1 ∷ 1 ∷ [])
      ∷ (2 ∷ 1 ∷ [])
      ∷ (2 ∷ 2 ∷ [])
      ∷ (2 ∷ 2 ∷ 1 ∷ [])
      ∷ (3 ∷ 1 ∷ [])
      ∷ (3 ∷ 2 ∷ [])
      ∷ (3 ∷ 2 ∷ 1 ∷ [])
      ∷ (3 ∷ 2 ∷ 3 ∷ [])
      ∷ (3 ∷ 2 ∷ 3 ∷ 1 ∷ [])
      ∷ []
  pub after : numbers (live of_circle 3 (3, 2 ∷ 3 ∷ [])) ≡ (3 ∷ 2 ∷ 3 ∷ 1 ∷ []) ∷ []
  pub whole : numbers (listed of_circle 3 (0, [])) ≡ (1 ∷ 1 ∷ []) ∷ (2 ∷ 2 ∷ 1 ∷ []) ∷ (3 ∷ 2 ∷ 3 ∷ 1 ∷ []) ∷ []

pub record WedgeIsListed : Type 0 where
  pub count : length (live of_wedge 2 (0, [])) ≡ 14
  pub whole :
      numbers (listed of_wedge 2 (0, []))
      ≡ (1 ∷ 1 ∷ 1 ∷ []) ∷ (2 ∷ 1 ∷ 2 ∷ 2 ∷ 1 ∷ []) ∷ (2 ∷ 2 ∷ 1 ∷ 1 ∷ 2 ∷ []) ∷ (2 ∷ 2 ∷ 2 ∷ 1 ∷ 1 ∷ []) ∷ []

abbrev pub TorusIsListed : Type 0
TorusIsListed = length (listed of_torus 2 (0, [])) ≡ 4
