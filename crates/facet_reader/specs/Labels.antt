-- The lists of labels that a value is, or its first fault. Values are visited in reading order, each list before its items.
-- The faults are looked for in this order: the first value of a wrong shape, which is a number in place of a list or the reverse, or an
-- empty list of labels; no list of labels; and the first label that is 0 or stands earlier in its list.
-- v is a value, vs a list of values. A fault at a value has its place.
--   or_else first next           the first of two faults, where there is one
--   first_some f xs              what f gives of the first element of which it gives something
--   list_place v                 the place of a value that is a list
--   unless_empty place vs        that of the first of the values that is a list, or the place of their list where there are none
--   row_shape v                  the place of the first value of a wrong shape in a list of labels
--   shape_in vs                  that in lists of labels
--   label_in v                   the label that a value is
--   labels_in vs                 the labels that values are
--   label_fault before v         the fault of a label after these in its list
--   labels_fault before vs       the first fault of labels after these
--   row_fault v                  the first fault of the labels of a list
--   row_in v                     the list of labels that a value is
--   rows_in vs                   the lists of labels that values are
--   empty_fault vs               the fault where there is no list
--   fault_in vs                  the first fault of these lists
--   unless_fault fault a         what was read, where there is no fault
--   rows_of v                    the lists of labels that a value is, or its first fault
--   IsFirst first fault          the fault is this first one, or memory was wanting
--   HasFault wanted fault        the fault is that of what is wanted, or memory was wanting
use Rattle.std.specs.Prelude.{ℕ, ◌≡◌, ◌≢◌, ◌==◌, List, [], ◌∷◌, ◌++◌, if◌then◌else◌, Option, Some, None, option_map, Result, Ok, Err}
use Rattle.std.specs.List.{flat_map}
use Rattle.number_lists.specs.Words.{holds}
use Rattle.gap_text.specs.Value.{Value, number, list, items}
use Rattle.facet_reader.specs.declared.fault.FacetFault.{FacetFault}
use Rattle.facet_reader.specs.declared.fault.FacetFault.TheVariants.{Shape, Empty, BadLabel, Repeated, Memory}

abbrev pub or_else : {A : Type 0} → (first next : Option A) → Option A
or_else None next = next
or_else (Some a) next = Some a

abbrev pub first_some : {A B : Type 0} → (A → Option B) → List A → Option B
first_some f [] = None
first_some f (x ∷ xs) = or_else (f x) (first_some f xs)

abbrev pub list_place : Value → Option ℕ
list_place (number p n) = None
list_place (list p vs) = Some p

abbrev pub unless_empty : (place : ℕ) → List Value → Option ℕ
unless_empty p [] = Some p
unless_empty p (v ∷ vs) = first_some list_place (v ∷ vs)

abbrev pub row_shape : Value → Option ℕ
row_shape (number p n) = Some p
row_shape (list p vs) = unless_empty p (items vs)

abbrev pub shape_in : List Value → Option ℕ
shape_in vs = first_some row_shape vs

abbrev pub label_in : Value → List ℕ
label_in (number p n) = n ∷ []
label_in (list p vs) = []

abbrev pub labels_in : List Value → List ℕ
labels_in vs = flat_map label_in vs

abbrev pub label_fault : (before : List ℕ) → Value → Option FacetFault
label_fault before (number p n) = if n == 0 then Some (BadLabel p) else (if holds before n then Some (Repeated p) else None)
label_fault before (list p vs) = None

abbrev pub labels_fault : (before : List ℕ) → List Value → Option FacetFault
labels_fault before [] = None
labels_fault before (v ∷ vs) = or_else (label_fault before v) (labels_fault (before ++ label_in v) vs)

abbrev pub row_fault : Value → Option FacetFault
row_fault (number p n) = None
row_fault (list p vs) = labels_fault [] (items vs)

abbrev pub row_in : Value → List (List ℕ)
row_in (number p n) = []
row_in (list p vs) = labels_in (items vs) ∷ []

abbrev pub rows_in : List Value → List (List ℕ)
rows_in vs = flat_map row_in vs

abbrev pub empty_fault : List Value → Option FacetFault
empty_fault [] = Some Empty
empty_fault (v ∷ vs) = None

abbrev pub fault_in : List Value → Option FacetFault
fault_in vs = or_else (option_map Shape (shape_in vs)) (or_else (empty_fault vs) (first_some row_fault vs))

abbrev pub unless_fault : {A : Type 0} → Option FacetFault → A → Result A FacetFault
unless_fault None a = Ok a
unless_fault (Some fault) a = Err fault

abbrev pub rows_of : Value → Result (List (List ℕ)) FacetFault
rows_of (number p n) = Err (Shape p)
rows_of (list p vs) = unless_fault (fault_in (items vs)) (rows_in (items vs))

-- ---- what is answered

abbrev pub IsFirst : Option FacetFault → FacetFault → Type 0
IsFirst first fault = fault ≢ Memory → first ≡ Some fault

abbrev pub HasFault : {A : Type 0} → Result A FacetFault → FacetFault → Type 0
HasFault wanted fault = fault ≢ Memory → wanted ≡ Err fault
