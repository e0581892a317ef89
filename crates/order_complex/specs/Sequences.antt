-- What the chains of a degree are: sequences of cells, each a face of the next. Cells are written by their ids.
--   IsAbove space cell upper      both are cells, and the first is a face of the other
--   Follows space cell rest       each cell of `cell ∷ rest` is a face of the next
--   IsChain space degree chain    a sequence with one cell more than the degree, each a face of the next
use Rattle.std.specs.Prelude.{◌≡◌, ℕ, ◌-◌, ◌≤◌, ⊤, List, [], ◌∷◌, length, slice_index_or}
use Rattle.number_lists.specs.Members.{In}
use Rattle.face_poset.specs.Poset.{Layers, cell_count}
use Rattle.order_complex.specs.Chains.{all_faces}

-- both are ids of cells, and the first cell is a face of the other
pub record IsAbove (space : Layers) (cell upper : ℕ) : Type 0 where
  pub low : 1 ≤ upper
  pub high : upper ≤ cell_count space
  pub face : In cell (slice_index_or (all_faces space) (upper - 1) [])

-- each cell is a face of the next
abbrev pub Follows : Layers → ℕ → List ℕ → Type 0
Follows space cell [] = ⊤
Follows space cell (next ∷ rest) = IsAbove space cell next × Follows space next rest

-- a sequence with one cell more than the degree, each a face of the next
pub record IsChain (space : Layers) (degree : ℕ) (chain : List ℕ) : Type 0 where
  pub first : ℕ
  pub rest : List ℕ
  pub is : chain ≡ first ∷ rest
  pub long : length rest ≡ degree
  pub low : 1 ≤ first
  pub high : first ≤ cell_count space
  pub follows : Follows space first rest
