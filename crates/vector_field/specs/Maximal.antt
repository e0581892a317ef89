-- Maximal fields: no pair of critical cells can be added without closing a path. space is the lists of a graded set, pairs a list of pairs.
--   IsMaximal space pairs                     each incident pair of critical cells has a gradient path from the upper to the lower by another
--                                             first facet
--   vertices_in space pairs component         the vertices of a component that are in no pair; components are numbered from 1
--   IsGood space pairs                        a valid field that is maximal and leaves one vertex of each component critical
-- The same, computed:
--   is_settled space pairs dim lower upper    whether a coface of a cell is in a pair or has a path to the cell
--   is_maximal_at space pairs dim             whether all critical cells of a dimension have only such cofaces
--   is_maximal space pairs                    whether this is so in each dimension
--   MaximalIsExact                            the test tells whether the pairs are maximal
use Rattle.std.specs.Prelude.{◌≡◌, ◌↔◌, ℕ, ◌+◌, ◌≤◌, ◌==◌, ◌&&◌, ◌||◌, List, length, filter, Bool, true, false}
use Rattle.std.specs.List.{list_all}
use Rattle.face_poset.specs.declared.cells.Pair.{Pair}
use Rattle.face_poset.specs.Poset.{Layers, count, cofaces_of}
use Rattle.regular_check.specs.Components.{component_of, component_count}
use Rattle.vector_field.specs.Pairs.{pair, is_used, is_incident, unpaired, IsValid}
use Rattle.vector_field.specs.Paths.{GradientPath, has_path}

abbrev pub IsMaximal : Layers → List Pair → Type 0
IsMaximal space pairs =
    (dim lower upper : ℕ)
    → is_incident space (pair dim lower upper) ≡ true
    → is_used pairs dim lower ≡ false
    → is_used pairs (dim + 1) upper ≡ false
    → GradientPath space pairs dim upper lower

abbrev pub vertices_in : Layers → List Pair → (component : ℕ) → List ℕ
vertices_in space pairs component = filter (λ v. component_of space v == component) (unpaired pairs 0 (count space 0))

pub record IsGood (space : Layers) (pairs : List Pair) : Type 0 where
  pub valid : IsValid space pairs
  pub maximal : IsMaximal space pairs
  pub vertex : (component : ℕ) → 1 ≤ component → component ≤ component_count space → length (vertices_in space pairs component) ≡ 1

abbrev pub is_settled : Layers → List Pair → (dim lower upper : ℕ) → Bool
is_settled space pairs dim lower upper = is_used pairs (dim + 1) upper || has_path space pairs dim upper lower

abbrev pub is_maximal_at : Layers → List Pair → (dim : ℕ) → Bool
is_maximal_at space pairs dim = list_all (λ lower. list_all (is_settled space pairs dim lower) (cofaces_of space dim lower)) (unpaired pairs dim (count space dim))

abbrev pub is_maximal : Layers → List Pair → Bool
is_maximal space pairs = is_maximal_at space pairs 0 && (is_maximal_at space pairs 1 && is_maximal_at space pairs 2)

abbrev pub MaximalIsExact : Type 0
MaximalIsExact = (space : Layers) (pairs : List Pair) → (is_maximal space pairs ≡ true) ↔ IsMaximal space pairs
