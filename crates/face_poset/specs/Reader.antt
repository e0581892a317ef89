-- The space of a boundary list, or its first fault.
--
-- The value is a list of layers; layer n holds the n-cells, from n = 0, and empty layers at the end
-- are dropped. A vertex is `[1,0]`. Any other cell is a number t, at least 1, and then t different
-- numbers of cells of the layer before. The faults are looked for in this order: a wrong shape of the
-- top or of a layer, no layer, more than four layers, more than 60,000 cells, and then cell by cell a
-- wrong shape, a wrong count, a face out of range, a repeated face.
--
-- v is a value, dim a dimension, below the number of cells of the layer before, n the number of a cell.
--   and_then r go                      goes on with the answer, or stops at the fault
--   each_from n f xs                   what f gives of each item, with its number from n on, or the first fault
--   unless tests answer                the answer, unless one of these tests finds a fault
--   as_list v, as_number v             the values of a list, the number; any other value has a wrong shape
--   as_cell v                          the numbers of a cell, of which there is at least one
--   repeats xs                         whether a number stands in the list twice
--   is_vertex numbers                  whether these are the numbers of a vertex
--   facets_from dim below n numbers    the facets of a cell from its numbers
--   cell_from dim below n v            the facets of a cell from its value
--   layer_from dim below cells         the cells of a dimension
--   keep_before l ls, trimmed ls       a layer before others; the layers without the empty ones at the end
--   cells_in layers dim                the cells of a dimension, none where there is no such layer
--   layers_from layers                 layer by layer, each over the one before
--   sized layers                       the same of layers that are not too few, too many or too large
--   space_of v                         the space of a value, or its first fault
use Rattle.std.specs.Prelude.{ℕ, zero, suc, List, [], ◌∷◌, length, Bool, false, cond, not, ◌&&◌, ◌||◌, ◌==◌, nat_lt, Result, Ok, Err, filter, sum_by, slice_index_or}
use Rattle.std.specs.List.{list_any}
use Rattle.gap_text.specs.Value.{Value, number, list, none, more, items}
use Rattle.face_poset.specs.declared.fault.SpaceFault.{SpaceFault}
use Rattle.face_poset.specs.declared.fault.SpaceFault.TheVariants.{Shape, Empty, TooHigh, BadCount, FaceOutOfRange, RepeatedFace, TooManyCells}
use Rattle.number_lists.specs.Words.{upto, holds}
use Rattle.face_poset.specs.Poset.{Layers}
use Rattle.face_poset.specs.Below.{cell_at}

abbrev pub and_then : {A B : Type 0} → Result A SpaceFault → (A → Result B SpaceFault) → Result B SpaceFault
and_then (Ok a) go = go a
and_then (Err f) go = Err f

abbrev pub each_from : {A B : Type 0} → ℕ → (ℕ → A → Result B SpaceFault) → List A → Result (List B) SpaceFault
each_from n f [] = Ok []
each_from n f (x ∷ xs) = and_then (f n x) (λ y. and_then (each_from (suc n) f xs) (λ ys. Ok (y ∷ ys)))

abbrev pub unless : List (Bool × SpaceFault) → List ℕ → Result (List ℕ) SpaceFault
unless [] answer = Ok answer
unless (t ∷ ts) answer = cond t.0 (Err t.1) (unless ts answer)

abbrev pub as_list : Value → Result (List Value) SpaceFault
as_list (number place n) = Err (Shape place)
as_list (list place vs) = Ok (items vs)

abbrev pub as_number : Value → Result ℕ SpaceFault
as_number (number place n) = Ok n
as_number (list place vs) = Err (Shape place)

abbrev pub as_cell : Value → Result (List ℕ) SpaceFault
as_cell (number place n) = Err (Shape place)
as_cell (list place none) = Err (Shape place)
as_cell (list place (more v vs)) = each_from 0 (λ _ w. as_number w) (v ∷ items vs)

abbrev pub repeats : List ℕ → Bool
repeats [] = false
repeats (x ∷ xs) = holds xs x || repeats xs

abbrev pub is_vertex : List ℕ → Bool
is_vertex (t ∷ f ∷ []) = (t == 1) && (f == 0)
is_vertex _ = false

abbrev pub facets_from : (dim below n : ℕ) → List ℕ → Result (List ℕ) SpaceFault
facets_from zero below n numbers = unless ((not (is_vertex numbers), BadCount (cell_at zero n)) ∷ []) []
facets_from (suc dim) below n [] = Err (BadCount (cell_at (suc dim) n))
facets_from (suc dim) below n (t ∷ fs) =
    unless (((t == 0) || not (t == length fs), BadCount (cell_at (suc dim) n))
    ∷ (list_any (λ f. (f == 0) || nat_lt below f) fs, FaceOutOfRange (cell_at (suc dim) n))
    ∷ (repeats fs, RepeatedFace (cell_at (suc dim) n)) ∷ [])
    (filter (holds fs) (upto below))

abbrev pub cell_from : (dim below n : ℕ) → Value → Result (List ℕ) SpaceFault
cell_from dim below n v = and_then (as_cell v) (facets_from dim below n)

abbrev pub layer_from : (dim below : ℕ) → List Value → Result (List (List ℕ)) SpaceFault
layer_from dim below cells = each_from 1 (cell_from dim below) cells

abbrev pub keep_before : List Value → List (List Value) → List (List Value)
keep_before [] [] = []
keep_before l ls = l ∷ ls

abbrev pub trimmed : List (List Value) → List (List Value)
trimmed [] = []
trimmed (l ∷ ls) = keep_before l (trimmed ls)

abbrev pub cells_in : List (List Value) → ℕ → List Value
cells_in layers dim = slice_index_or layers dim []

abbrev pub layers_from : List (List Value) → Result (Layers) SpaceFault
layers_from layers =
    and_then (layer_from 0 0 (cells_in layers 0)) (λ vertices.
    and_then (layer_from 1 (length vertices) (cells_in layers 1)) (λ edges.
    and_then (layer_from 2 (length edges) (cells_in layers 2)) (λ faces.
    and_then (layer_from 3 (length faces) (cells_in layers 3)) (λ solids.
    Ok (vertices ∷ edges ∷ faces ∷ solids ∷ [])))))

abbrev pub sized : List (List Value) → Result (Layers) SpaceFault
sized layers =
    cond (length layers == 0) (Err Empty)
    (cond (nat_lt 4 (length layers)) (Err TooHigh)
    (cond (nat_lt 60000 (sum_by (λ cells. length cells) layers)) (Err TooManyCells)
    (layers_from layers)))

abbrev pub space_of : Value → Result (Layers) SpaceFault
space_of v = and_then (as_list v) (λ tops. and_then (each_from 0 (λ _ w. as_list w) tops) (λ layers. sized (trimmed layers)))
