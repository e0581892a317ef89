-- What validity and maximality mean. space is the lists of a graded set, pairs a list of pairs, p a pair.
--   IsClosed space pairs p     the pairs lead round: from another facet of the pair's upper to its lower
--   AddedPairCloses            a pair of critical cells that is added to a maximal field closes a path
--   ValidClosesNone            the pairs of a valid field close no path
--   SubstitutionEnds           along a valid field substitution ends: what holds of each facet that is no lower, and of the lower of each
--                              pair of which it holds of the other facets of the upper, holds of all lowers
use Rattle.std.specs.Prelude.{◌≡◌, ℕ, ◌+◌, List, Bool, true, false}
use Rattle.number_lists.specs.Members.{In}
use Rattle.face_poset.specs.Poset.{Layers}
use Rattle.face_poset.specs.declared.cells.Pair.{Pair}
use Rattle.vector_field.specs.Pairs.{has_lower, is_used, is_incident, others, IsValid}
use Rattle.vector_field.specs.Paths.{Leads}
use Rattle.vector_field.specs.Maximal.{IsMaximal}
use Rattle.std.specs.List.{list_any}

pub record IsClosed (space : Layers) (pairs : List Pair) (p : Pair) : Type 0 where
  pub first : ℕ
  pub other : In first (others space p)
  pub leads : Leads space pairs p.dim p.lower first

abbrev pub AddedPairCloses : Type 0
AddedPairCloses =
    (space : Layers) (pairs : List Pair) (p : Pair)
    → IsMaximal space pairs
    → is_incident space p ≡ true
    → is_used pairs p.dim p.lower ≡ false
    → is_used pairs (p.dim + 1) p.upper ≡ false
    → IsClosed space pairs p

abbrev pub ValidClosesNone : Type 0
ValidClosesNone = (space : Layers) (pairs : List Pair) (p : Pair) → IsValid space pairs → In p pairs → IsClosed space pairs p → ⊥

abbrev pub SubstitutionEnds : Type 0
SubstitutionEnds =
    (space : Layers) (pairs : List Pair) (dim : ℕ) (known : ℕ → Bool)
    → IsValid space pairs
    → ((p : Pair) (f : ℕ) → In p pairs → p.dim ≡ dim → In f (others space p) → list_any (has_lower dim f) pairs ≡ false → known f ≡ true)
    → ((p : Pair) → In p pairs → p.dim ≡ dim → ((f : ℕ) → In f (others space p) → known f ≡ true) → known p.lower ≡ true)
    → (p : Pair) → In p pairs → p.dim ≡ dim → known p.lower ≡ true
