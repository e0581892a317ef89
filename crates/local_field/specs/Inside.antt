-- What the pairs inside a cell are: each in its cell, in order, no tower in two roles, and one tower left over. below
-- x c tells whether the cell x is a proper face of the cell c, dim is the dimension of a cell; b is a building of the
-- boundary of g without its facet f, p and q are pairs of towers, t is a tower.
--   NotAbove below c later         the later cell is neither c nor a face of it
--   cells_of pairs f               the cells of the pairs in their order, and at last f
--   IsAmong c pairs f              the cell is one of these
--   FitsIn below dim g p           a pair of two faces of g, the first a facet of the second
--   IsBuilding below dim g f b     the root is a vertex; it and the cells of the pairs with f are the faces of g,
--                                  each after its own faces
--   IsFull below dim t             the tower has one cell of each dimension from that of its top down to 0
--   IsTower below t                each cell is a face of the one before
--   IsFlagged below dim built flag      faces have smaller dimensions, the data are buildings, and the flags are full
--                                       towers of their cells
--   FitsUnder below dim c p        both towers have the top c, the upper goes on with a face of it; the lower is
--                                  shorter by one, the upper is no
--                                  longer than a full tower
--   NotUp t p                      the tower is not the upper
--   InnerApart p q                 no facet of the upper of p that keeps the top is the lower of q
--   Differ p q                     the upper of one is not the lower of the other
--   HasTower pairs t               the tower is the lower or the upper of one of the pairs
--   LeavesOver below dim t pairs   the pairs are inside the top of t, in order, no lower is an upper, t is no upper,
--                                  and each other tower with
--                                  its top is a lower or an upper
--   LocalLeavesOver                the pairs inside a cell leave over the full tower that they were made for
use Rattle.std.specs.Prelude.{◌≡◌, ◌≢◌, ◌⊎◌, ⊤, ℕ, suc, ◌<◌, ◌≤◌, List, [], ◌∷◌, length, Bool, true}
use Rattle.std.specs.List.{AllByRecursion}
use Rattle.local_field.specs.Towers.{top_of, rest_of, TowerPair, inner, Building, local, Pairwise}

abbrev pub NotAbove : (ℕ → ℕ → Bool) → (c later : ℕ) → Type 0
NotAbove below c later = (later ≢ c) × (below later c ≡ true → ⊥)

abbrev pub cells_of : List (ℕ × ℕ) → (f : ℕ) → List ℕ
cells_of [] f = f ∷ []
cells_of (p ∷ pairs) f = p.0 ∷ p.1 ∷ cells_of pairs f

abbrev pub IsAmong : (c : ℕ) → List (ℕ × ℕ) → (f : ℕ) → Type 0
IsAmong c [] f = c ≡ f
IsAmong c (p ∷ pairs) f = (c ≡ p.0) ⊎ (c ≡ p.1) ⊎ IsAmong c pairs f

abbrev pub FitsIn : (ℕ → ℕ → Bool) → (ℕ → ℕ) → (g : ℕ) → ℕ × ℕ → Type 0
FitsIn below dim g p = (below p.0 g ≡ true) × (below p.1 g ≡ true) × (below p.0 p.1 ≡ true) × (dim p.1 ≡ suc (dim p.0))

pub record IsBuilding (below : ℕ → ℕ → Bool) (dim : ℕ → ℕ) (g f : ℕ) (b : Building) : Type 0 where
  pub all : (c : ℕ) → below c g ≡ true → (c ≡ b.root) ⊎ IsAmong c b.pairs f
  pub point : dim b.root ≡ 0
  pub rootless : AllByRecursion (λ c. c ≢ b.root) (cells_of b.pairs f)
  pub rooted : below b.root g ≡ true
  pub other : b.root ≢ f
  pub fit : AllByRecursion (FitsIn below dim g) b.pairs
  pub order : Pairwise (NotAbove below) (cells_of b.pairs f)

abbrev pub IsFull : (ℕ → ℕ → Bool) → (ℕ → ℕ) → List ℕ → Type 0
IsFull below dim [] = ⊥
IsFull below dim (v ∷ []) = dim v ≡ 0
IsFull below dim (g ∷ f ∷ rest) = (below f g ≡ true) × (dim g ≡ suc (dim f)) × IsFull below dim (f ∷ rest)

abbrev pub IsTower : (ℕ → ℕ → Bool) → List ℕ → Type 0
IsTower below [] = ⊥
IsTower below (v ∷ []) = ⊤
IsTower below (g ∷ c ∷ t) = (below c g ≡ true) × IsTower below (c ∷ t)

pub record IsFlagged (below : ℕ → ℕ → Bool) (dim : ℕ → ℕ) (built : ℕ → ℕ → Building) (flag : ℕ → List ℕ) : Type 0 where
  pub falls : (x c : ℕ) → below x c ≡ true → dim x < dim c
  pub builds : (g f : ℕ) → below f g ≡ true → dim g ≡ suc (dim f) → IsBuilding below dim g f (built g f)
  pub tops : (c : ℕ) → flag c ≡ c ∷ rest_of (flag c)
  pub full : (c : ℕ) → IsFull below dim (flag c)

pub record FitsUnder (below : ℕ → ℕ → Bool) (dim : ℕ → ℕ) (c : ℕ) (p : TowerPair) : Type 0 where
  pub a : List ℕ
  pub x : ℕ
  pub b : List ℕ
  pub is_low : p.low ≡ c ∷ a
  pub is_up : p.up ≡ c ∷ x ∷ b
  pub lies : below x c ≡ true
  pub short : length p.up ≤ suc (dim c)
  pub one : suc (length p.low) ≡ length p.up

abbrev pub NotUp : List ℕ → TowerPair → Type 0
NotUp t p = p.up ≢ t

abbrev pub InnerApart : (p q : TowerPair) → Type 0
InnerApart p q = AllByRecursion (λ e. e ≢ q.low) (inner p.up)

abbrev pub Differ : (p q : TowerPair) → Type 0
Differ p q = (p.up ≢ q.low) × (q.up ≢ p.low)

abbrev pub HasTower : List TowerPair → List ℕ → Type 0
HasTower [] t = ⊥
HasTower (p ∷ pairs) t = (p.low ≡ t) ⊎ (p.up ≡ t) ⊎ HasTower pairs t

pub record LeavesOver (below : ℕ → ℕ → Bool) (dim : ℕ → ℕ) (t : List ℕ) (pairs : List TowerPair) : Type 0 where
  pub own : AllByRecursion (FitsUnder below dim (top_of t)) pairs
  pub order : Pairwise InnerApart pairs
  pub split : Pairwise Differ pairs
  pub no_up : AllByRecursion (NotUp t) pairs
  pub covers :
      (other : List ℕ)
      → IsTower below (top_of t ∷ other)
      → (top_of t ∷ other ≡ t) ⊎ HasTower pairs (top_of t ∷ other)

abbrev pub LocalLeavesOver : Type 0
LocalLeavesOver =
    (below : ℕ → ℕ → Bool) (dim : ℕ → ℕ) (data_of : ℕ → ℕ → Building) (flag : ℕ → List ℕ) (d : ℕ) (t : List ℕ)
    → IsFlagged below dim data_of flag
    → IsFull below dim t
    → dim (top_of t) ≤ d
    → LeavesOver below dim t (local data_of flag d t)
