-- How the code holds sets: by their places among all lists of as many numbers below 65536, in lexicographic order, counted from 0.
--   place_of set                the place of a set
--   members size place          the set of a size at a place
--   AreRows n rows              increasing lists of numbers from 1 to n
--   Adds made old new           the list has these as well, and no others
--   IsCrowded made old          each list that has all of both has more than 60,000 elements
--   facets_at size below place  the numbers of the facets of the set of a size at a place, among those whose places are below
--   layer_at size below cells   so for each of these sets
--   IsRepeat rows index         the list at an index, counted from 0, is the one before it again
--   AreHeld size below cells    places of sets of a size, and of one less, of which the facets of the first are
--   AreSets n test edges triangles solids   the places of the cells of dimensions 1 to 3 of a test, of which each part of a cell is a cell
--   IsComplex n edges triangles solids      they are so for some test
--   made_by size high row       the places of the choices of a size, after others with the place high
use Rattle.std.specs.Prelude.{ℕ, zero, suc, ◌+◌, ◌*◌, ◌/◌, ◌%◌, ◌^◌, ◌-◌, ◌<◌, ◌≤◌, ◌≡◌, ◌⊎◌, List, [], ◌∷◌, length, map, slice_index_or, All, Bool, true}
use Rattle.number_lists.specs.Members.{In}
use Rattle.number_lists.specs.Cofaces.{IsRising}
use Rattle.tuple_spaces.specs.Tuples.{numbers_in}
use Rattle.facet_reader.specs.SetSpaces.{choices, leave_one, sets_of, IsClosed}

abbrev pub place_of : List ℕ → ℕ
place_of [] = 0
place_of (x ∷ xs) = x * 65536 ^ length xs + place_of xs

abbrev pub members : (size place : ℕ) → List ℕ
members zero place = []
members (suc size) place = (place / 65536 ^ size) ∷ members size (place % 65536 ^ size)

abbrev pub AreRows : (n : ℕ) → List (List ℕ) → Type 0
AreRows n rows = All (IsRising n) rows

pub record Adds (made old new : List ℕ) : Type 0 where
  pub kept : (z : ℕ) → In z old → In z new
  pub added : (z : ℕ) → In z made → In z new
  pub no_other : (z : ℕ) → In z new → In z old ⊎ In z made

abbrev pub IsCrowded : (made old : List ℕ) → Type 0
IsCrowded made old = (all : List ℕ) → ((z : ℕ) → In z old → In z all) → ((z : ℕ) → In z made → In z all) → 60000 < length all

abbrev pub made_by : (size high : ℕ) → List ℕ → List ℕ
made_by size high row = map (λ s. high * 65536 ^ size + place_of s) (choices size row)

abbrev pub facets_at : (size : ℕ) → (below : List ℕ) → (place : ℕ) → List ℕ
facets_at size below place = numbers_in (map (members (size - 1)) below) (leave_one (members size place))

abbrev pub layer_at : (size : ℕ) → (below cells : List ℕ) → List (List ℕ)
layer_at size below cells = map (facets_at size below) cells

abbrev pub IsRepeat : List (List ℕ) → (index : ℕ) → Type 0
IsRepeat rows index = (1 ≤ index) × (slice_index_or rows index [] ≡ slice_index_or rows (index - 1) [])

pub record AreHeld (size : ℕ) (below cells : List ℕ) : Type 0 where
  pub below_fit : (q : ℕ) → In q below → q < 65536 ^ (size - 1)
  pub fit : (p : ℕ) → In p cells → p < 65536 ^ size
  pub held : (p : ℕ) → In p cells → (u : List ℕ) → In u (leave_one (members size p)) → In (place_of u) below

pub record AreSets (n : ℕ) (test : List ℕ → Bool) (edges triangles solids : List ℕ) : Type 0 where
  pub closed : IsClosed test
  pub points : (x : ℕ) → 1 ≤ x → x ≤ n → test (x ∷ []) ≡ true
  pub edges_are : edges ≡ map place_of (sets_of n test 1)
  pub triangles_are : triangles ≡ map place_of (sets_of n test 2)
  pub solids_are : solids ≡ map place_of (sets_of n test 3)

pub record IsComplex (n : ℕ) (edges triangles solids : List ℕ) : Type 0 where
  pub test : List ℕ → Bool
  pub are : AreSets n test edges triangles solids
