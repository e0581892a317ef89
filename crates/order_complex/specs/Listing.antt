-- How the chains are listed, degree by degree: each chain with each cell above its last one at its end.
-- `uppers` lists the cells above each cell, by ids; `chains` are sequences of ids.
--   uppers_of space              the ids of the cells above each cell, in the order of ids
--   extensions uppers chain      the chain with one cell more at its end
--   AreWalks uppers chains       sequences that end in a cell
--   first_places uppers chains   for each chain, how many chains with one cell more come before those that it begins
use Rattle.std.specs.Prelude.{ℕ, ◌-◌, ◌≤◌, List, [], ◌∷◌, ◌++◌, All, map, length, slice_index, slice_index_or, take}
use Rattle.std.specs.List.{flat_map, range_with_len}
use Rattle.number_lists.specs.Cofaces.{coface_lists}
use Rattle.face_poset.specs.Poset.{Layers}
use Rattle.order_complex.specs.Chains.{all_faces}

-- the ids of the cells above each cell, in the order of ids
abbrev pub uppers_of : Layers → List (List ℕ)
uppers_of space = coface_lists (length (all_faces space)) (all_faces space)

-- a chain with one cell more at its end, where `uppers` lists the cells above each cell
abbrev pub extensions : List (List ℕ) → List ℕ → List (List ℕ)
extensions uppers chain = map (λ upper. chain ++ upper ∷ []) (slice_index_or uppers (slice_index chain (length chain - 1) - 1) [])

-- sequences that end in a cell
pub record AreWalks (uppers chains : List (List ℕ)) : Type 0 where
  pub some : All (λ chain. 1 ≤ length chain) chains
  pub first : All (λ chain. 1 ≤ slice_index chain (length chain - 1)) chains
  pub last : All (λ chain. slice_index chain (length chain - 1) ≤ length uppers) chains

-- for each chain, how many chains with one cell more come before those that it begins
abbrev pub first_places : (uppers chains : List (List ℕ)) → List ℕ
first_places uppers chains = map (λ i. length (flat_map (extensions uppers) (take i chains))) (range_with_len 0 (length chains))
