-- Laws: what lies below in an order, and that order complexes are regular. relations is a list of pairs of points.
--   IsBelow relations a b       a lies below b: the pair is given, or there is a point between them, above a and below b
--   given i, through h k        these two ways
--   AreRelations n relations    pairs of points from 1 to n, the first below the second as numbers
--   BelowIsLeast                the test for a point below another one holds exactly where it lies below
--   OrderComplexesAreRegular    the space of each value that is an order is regular
use Rattle.std.specs.Prelude.{◌≡◌, ◌≤◌, ◌<◌, ℕ, List, true, Ok}
use Rattle.number_lists.specs.Members.{In}
use Rattle.gap_text.specs.Value.{Value}
use Rattle.face_poset.specs.Poset.{Layers}
use Rattle.regular_check.specs.Rules.{IsRegular}
use Rattle.facet_reader.specs.Orders.{is_below, poset_of}

pub data IsBelow (relations : List (ℕ × ℕ)) : ℕ → ℕ → Type 0 where
  given : {a b : ℕ} → In (a, b) relations → IsBelow relations a b
  through : {a b c : ℕ} → IsBelow relations a b → IsBelow relations b c → IsBelow relations a c

abbrev pub AreRelations : (n : ℕ) → List (ℕ × ℕ) → Type 0
AreRelations n relations = (a b : ℕ) → In (a, b) relations → (1 ≤ a) × (a < b) × (b ≤ n)

abbrev pub BelowIsLeast : Type 0
BelowIsLeast =
    (n : ℕ) (relations : List (ℕ × ℕ)) (a b : ℕ) → AreRelations n relations
    → (is_below n relations a b ≡ true → IsBelow relations a b) × (IsBelow relations a b → is_below n relations a b ≡ true)

abbrev pub OrderComplexesAreRegular : Type 0
OrderComplexesAreRegular = (v : Value) (space : Layers) → poset_of v ≡ Ok space → IsRegular space
