-- Spaces whose cells are sets of vertices, up to dimension 3. (Simplicial complexes: textbook.)
-- Vertices are the numbers from 1 to n. A set is the increasing list of its members, and a cell of dimension d has d + 1 of them.
-- test says which sets are cells; sets gives the cells of each dimension in their order.
--   choices size xs              the lists of so many of the elements, in their order; of increasing numbers, in lexicographic order
--   leave_one set                the lists that leave one member out
--   sets_of n test dim           the cells of a dimension, in lexicographic order: they are numbered from 1 as they stand there
--   layer_of sets dim            the cells of a dimension, each as the list of the numbers of its facets: a facet leaves one member out
--   set_space sets               the space
--   IsClosed test                each part of a cell is a cell
--   SetSpacesAreRegular          a law: where each part of a cell is a cell, and there are at most 60,000 cells, the space is regular
use Rattle.std.specs.Prelude.{◌≡◌, ◌≤◌, ℕ, zero, suc, List, [], ◌∷◌, ◌++◌, filter, map, Bool, true}
use Rattle.number_lists.specs.Words.{upto}
use Rattle.number_lists.specs.Members.{In}
use Rattle.face_poset.specs.Poset.{Layers, cell_count}
use Rattle.regular_check.specs.Rules.{IsRegular}
use Rattle.tuple_spaces.specs.Tuples.{numbers_in}

abbrev pub choices : (size : ℕ) → List ℕ → List (List ℕ)
choices zero xs = [] ∷ []
choices (suc size) [] = []
choices (suc size) (x ∷ xs) = map (λ s. x ∷ s) (choices size xs) ++ choices (suc size) xs

abbrev pub leave_one : List ℕ → List (List ℕ)
leave_one [] = []
leave_one (x ∷ xs) = map (λ s. x ∷ s) (leave_one xs) ++ xs ∷ []

abbrev pub sets_of : (n : ℕ) → (test : List ℕ → Bool) → (dim : ℕ) → List (List ℕ)
sets_of n test dim = filter test (choices (suc dim) (upto n))

abbrev pub layer_of : (sets : ℕ → List (List ℕ)) → (dim : ℕ) → List (List ℕ)
layer_of sets zero = map (λ _. []) (sets 0)
layer_of sets (suc dim) = map (λ s. numbers_in (sets dim) (leave_one s)) (sets (suc dim))

abbrev pub set_space : (sets : ℕ → List (List ℕ)) → Layers
set_space sets = layer_of sets 0 ∷ layer_of sets 1 ∷ layer_of sets 2 ∷ layer_of sets 3 ∷ []

abbrev pub IsClosed : (test : List ℕ → Bool) → Type 0
IsClosed test = (size : ℕ) (s t : List ℕ) → test s ≡ true → In t (choices size s) → test t ≡ true

abbrev pub SetSpacesAreRegular : Type 0
SetSpacesAreRegular =
    (n : ℕ) (test : List ℕ → Bool) → IsClosed test → cell_count (set_space (sets_of n test)) ≤ 60000 → IsRegular (set_space (sets_of n test))
