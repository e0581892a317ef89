-- How chains are counted: by the cell that they end in. `faces` lists the faces of each cell by ids.
--   chain_counts space                                      the numbers of chains of degrees 0 to 3
--   ending faces more cell                                  how many chains with so many cells more end in a cell
--   IsTally space n pairs triples edges triangles tetrahedra   for the first n cells, in the order of ids: how many chains
--       of two and of three cells end in each, and how many of two, three and four cells end in them in all
use Rattle.std.specs.Prelude.{◌≡◌, ℕ, zero, suc, ◌-◌, List, [], ◌∷◌, map, length, slice_index_or, sum_by}
use Rattle.face_poset.specs.Words.{upto}
use Rattle.face_poset.specs.Poset.{Layers}
use Rattle.order_complex.specs.Chains.{all_faces, chains_of}

-- the numbers of chains of degrees 0 to 3
abbrev pub chain_counts : Layers → List ℕ
chain_counts space = length (chains_of space 0) ∷ length (chains_of space 1) ∷ length (chains_of space 2) ∷ length (chains_of space 3) ∷ []

-- how many chains with so many cells more end in a cell, where `faces` lists the faces of each cell
abbrev pub ending : List (List ℕ) → (more cell : ℕ) → ℕ
ending faces zero cell = 1
ending faces (suc more) cell = sum_by (ending faces more) (slice_index_or faces (cell - 1) [])

-- the chains of two and of three cells that end in each of the first n cells, and those of two, three and four that end in them in all
pub record IsTally (space : Layers) (n : ℕ) (pairs triples : List ℕ) (edges triangles tetrahedra : ℕ) : Type 0 where
  pub pairs_are : pairs ≡ map (ending (all_faces space) 1) (upto n)
  pub triples_are : triples ≡ map (ending (all_faces space) 2) (upto n)
  pub edges_are : edges ≡ sum_by (ending (all_faces space) 1) (upto n)
  pub triangles_are : triangles ≡ sum_by (ending (all_faces space) 2) (upto n)
  pub tetrahedra_are : tetrahedra ≡ sum_by (ending (all_faces space) 3) (upto n)
