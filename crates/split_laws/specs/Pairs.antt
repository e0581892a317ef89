-- The pairs ps of a field between two degrees, by places that count from 0: `lower` among the n cells of the lower degree, `upper`
-- among the m cells of the higher one. The kinds of the cells are ts below and us above; `rows` are those of the coboundary. t has the
-- values that are wanted. F is the arithmetic of a field.
--   IsMatching F n m rows ts us ps   ps are the pairs of a field, in its order
--   Triangular rows ps               the entry of each lower at its own upper is not zero, and the lowers of later pairs are zero at
--                                    the uppers of earlier ones
--   HasLower ps i                    i is the lower of a pair
--   HasUpper ps j                    j is the upper of a pair
--   kind_at ts i                     the kind at a place
--   KindsOf ps ts us                 the kind Lower below, and the kind Upper above, are those of the lowers and the uppers of the pairs
--   correction F rows t p y          what has to be added at the lower, so that the coboundary at the upper is t there
--   settle F rows t ps y             forward: the lowers one after the other, so that the coboundary at each upper is t there
--   back_correction F rows t p z     what has to be added at the upper, so that the boundary at the lower is t there
--   carry F rows t ps z              backward: the uppers one after the other, the last pair first, so that the boundary at each lower
--                                    is t there
use Rattle.std.specs.Prelude.{◌≡◌, ◌≢◌, ◌⊎◌, ⊤, ℕ, ◌<◌, List, [], ◌∷◌, length, slice_index, slice_index_or}
use Rattle.std.specs.List.{AllByRecursion}
use Rattle.small_field.specs.Field.{Ops}
use Rattle.linear_laws.specs.Vectors.{column, dot, entry, row_at, bump, IsMatrix}
pub use Rattle.split_laws.specs.declared.matching.Match.{Match}
use Rattle.split_laws.specs.Kinds.{Kind, Critical, Lower, Upper}

abbrev pub Triangular : List (List ℕ) → List Match → Type 0
Triangular rows [] = ⊤
Triangular rows (p ∷ ps) =
    (p.lower < length rows) × (entry rows p.lower p.upper ≢ 0) × AllByRecursion (λ q. entry rows q.lower p.upper ≡ 0) ps × Triangular rows ps

abbrev pub HasLower : List Match → ℕ → Type 0
HasLower [] i = ⊥
HasLower (p ∷ ps) i = (p.lower ≡ i) ⊎ HasLower ps i

abbrev pub HasUpper : List Match → ℕ → Type 0
HasUpper [] j = ⊥
HasUpper (p ∷ ps) j = (p.upper ≡ j) ⊎ HasUpper ps j

abbrev pub kind_at : List Kind → ℕ → Kind
kind_at ts i = slice_index_or ts i Critical

pub record KindsOf (ps : List Match) (ts us : List Kind) : Type 0 where
  pub lower_or : (i : ℕ) → i < length ts → AllByRecursion (λ (q : Match). i ≢ q.lower) ps ⊎ (kind_at ts i ≡ Lower)
  pub has_lower : (i : ℕ) → i < length ts → kind_at ts i ≡ Lower → HasLower ps i
  pub upper_or : (j : ℕ) → j < length us → AllByRecursion (λ (q : Match). j ≢ q.upper) ps ⊎ (kind_at us j ≡ Upper)
  pub has_upper : (j : ℕ) → j < length us → kind_at us j ≡ Upper → HasUpper ps j

pub record IsMatching (F : Ops) (n m : ℕ) (rows : List (List ℕ)) (ts us : List Kind) (ps : List Match) : Type 0 where
  pub matrix : IsMatrix F m rows
  pub long : length rows ≡ n
  pub below : length ts ≡ n
  pub above : length us ≡ m
  pub triangular : Triangular rows ps
  pub uppers : AllByRecursion (λ (p : Match). p.upper < m) ps
  pub kinds : KindsOf ps ts us

abbrev pub correction : Ops → List (List ℕ) → List ℕ → Match → List ℕ → ℕ
correction F rows t p y = F.mul (F.add (slice_index t p.upper) (F.neg (dot F y (column p.upper rows)))) (F.inv (entry rows p.lower p.upper))

abbrev pub settle : Ops → List (List ℕ) → List ℕ → List Match → List ℕ → List ℕ
settle F rows t [] y = y
settle F rows t (p ∷ ps) y = settle F rows t ps (bump F y p.lower (correction F rows t p y))

abbrev pub back_correction : Ops → List (List ℕ) → List ℕ → Match → List ℕ → ℕ
back_correction F rows t p z = F.mul (F.add (slice_index t p.lower) (F.neg (dot F (row_at rows p.lower) z))) (F.inv (entry rows p.lower p.upper))

abbrev pub carry : Ops → List (List ℕ) → List ℕ → List Match → List ℕ → List ℕ
carry F rows t [] z = z
carry F rows t (p ∷ ps) z = let r = carry F rows t ps z in bump F r p.upper (back_correction F rows t p r)
