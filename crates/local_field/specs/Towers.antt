-- Towers: chains written from their last cell, and the pairs of towers inside a cell. (Sequential collapses of the
-- boundaries of cells.) Cells are numbers; g, f, v, l and u are cells, t is a tower, its first entry the top. flag
-- gives each cell a tower with one cell of each dimension, data_of g f tells how the boundary of g without its facet
-- f is built up from a vertex.
--   top_of t, rest_of t               the top, and the tower without it
--   TowerPair                         a lower tower and an upper one, of which it is a facet
--   facets t                          the towers with one entry left out, that of the top first
--   inner t                           those that keep the top
--   Building                          a vertex, and pairs of a cell and a coface in the order in which they are put on
--   under g pairs                     the pairs of towers, each tower put under the top g
--   pair_of flag l u                  the pair of the flag of l, and of u over it
--   build flag inside last pairs      for each pair of cells the pairs inside its lower and its upper, and then their
--                                     own pair; last comes `last`
--   first_pair g root                 the pair of g alone, and of g over the root
--   local data_of flag d t            the pairs inside the top of a full tower, of dimension d at most, that leave
--                                     this tower over
--   Pairwise R xs                     R holds of each element with all later ones
use Rattle.std.specs.Prelude.{⊤, ℕ, zero, suc, List, [], ◌∷◌, ◌++◌, map}
use Rattle.std.specs.List.{AllByRecursion}

abbrev pub top_of : List ℕ → ℕ
top_of [] = 0
top_of (g ∷ t) = g

abbrev pub rest_of : List ℕ → List ℕ
rest_of [] = []
rest_of (g ∷ t) = t

pub record TowerPair : Type 0 where
  pub low : List ℕ
  pub up : List ℕ

abbrev pub facets : List ℕ → List (List ℕ)
facets [] = []
facets (g ∷ t) = t ∷ map (λ s. g ∷ s) (facets t)

abbrev pub inner : List ℕ → List (List ℕ)
inner [] = []
inner (g ∷ t) = map (λ s. g ∷ s) (facets t)

pub record Building : Type 0 where
  pub root : ℕ
  pub pairs : List (ℕ × ℕ)

abbrev pub under : ℕ → List TowerPair → List TowerPair
under g pairs = map (λ (p : TowerPair). record { low = g ∷ p.low; up = g ∷ p.up }) pairs

abbrev pub pair_of : (ℕ → List ℕ) → (l u : ℕ) → TowerPair
pair_of flag l u = record { low = flag l; up = u ∷ flag l }

abbrev pub build : (ℕ → List ℕ) → (List ℕ → List TowerPair) → List TowerPair → List (ℕ × ℕ) → List TowerPair
build flag inside last [] = last
build flag inside last (p ∷ pairs) =
    inside (flag p.0) ++ (inside (p.1 ∷ flag p.0) ++ (pair_of flag p.0 p.1 ∷ build flag inside last pairs))

abbrev pub first_pair : (g root : ℕ) → TowerPair
first_pair g root = record { low = g ∷ []; up = g ∷ root ∷ [] }

abbrev pub local : (ℕ → ℕ → Building) → (ℕ → List ℕ) → (d : ℕ) → List ℕ → List TowerPair
local data_of flag zero t = []
local data_of flag (suc d) [] = []
local data_of flag (suc d) (g ∷ []) = []
local data_of flag (suc d) (g ∷ f ∷ rest) =
    let b = data_of g f in
    first_pair g b.root ∷ under g (build flag (local data_of flag d) (local data_of flag d (f ∷ rest)) b.pairs)

abbrev pub Pairwise : {A : Type 0} → (A → A → Type 0) → List A → Type 0
Pairwise R [] = ⊤
Pairwise R (x ∷ xs) = AllByRecursion (R x) xs × Pairwise R xs
