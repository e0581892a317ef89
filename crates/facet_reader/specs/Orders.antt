-- The finite partial order that a value is, or its first fault: a list of a number n and a list of relations, each a list of two numbers
-- from 1 to n, the first smaller than the second. Values are visited in reading order, each list before its items.
-- The faults are looked for in this order: the first value of a wrong shape, which is a number in place of a list or the reverse, or a list
-- that has not two items where two are asked; n is 0; and the first number of a relation that may not stand there.
-- v is a value, vs a list of values, n the number of points, relations a list of pairs of points.
--   go_on answer go              goes on with the answer, or stops at the fault
--   two_shape place vs           the place of the first value of a wrong shape in the items of a relation
--   pair_shape v                 that in a relation
--   is_point n a                 whether a number is one of the points
--   rising_fault n place a b     the fault of the second of two numbers of a relation
--   points_fault n first second a b   the fault of two numbers of a relation, at these places
--   two_fault n vs               the fault of the items of a relation
--   pair_fault n v               that of a relation
--   two_in vs, pair_in v         the pair that a relation is
--   points_in v                  the number of points
--   relations_in v               the relations as values
--   none_fault n                 the fault where there is no point
--   order_fault n vs             the first fault of relations
--   order_in place vs            the number of points and the relations that the items of a list are
--   order_of v                   those that a value is, or its first fault
--   leads k relations a b        whether at most k relations lead from a to b, the second point of each being the first of the next
--   is_below n relations a b     whether relations lead from a to b: no more than n of them do, since each leads upward
--   is_chain below set           whether, of each two members, the earlier lies below the later
--   chain_sets n relations dim   the chains of so many points and one more, in lexicographic order
--   order_complex order          the space whose cells are the chains (the order complex, up to dimension 3: textbook)
--   poset_of v                   the space of a value, or its first fault
use Rattle.std.specs.Prelude.{ℕ, zero, suc, ◌==◌, ◌&&◌, ◌||◌, List, [], ◌∷◌, Bool, true, false, if◌then◌else◌, nat_lt, nat_le, Option, Some, None, option_map, Result, Ok, Err}
use Rattle.std.specs.List.{flat_map, list_all, list_any}
use Rattle.gap_text.specs.Value.{Value, number, list, items}
use Rattle.face_poset.specs.Poset.{Layers}
use Rattle.facet_reader.specs.declared.fault.FacetFault.{FacetFault}
use Rattle.facet_reader.specs.declared.fault.FacetFault.TheVariants.{Shape, Empty, BadLabel, Repeated}
use Rattle.facet_reader.specs.SetSpaces.{sets_of, set_space}
use Rattle.facet_reader.specs.Labels.{or_else, first_some, list_place, unless_fault}
use Rattle.facet_reader.specs.Simplices.{limited}

abbrev pub go_on : {A B : Type 0} → Result A FacetFault → (A → Result B FacetFault) → Result B FacetFault
go_on (Ok a) go = go a
go_on (Err fault) go = Err fault

abbrev pub two_shape : (place : ℕ) → List Value → Option ℕ
two_shape p (v ∷ w ∷ []) = or_else (list_place v) (list_place w)
two_shape p _ = Some p

abbrev pub pair_shape : Value → Option ℕ
pair_shape (number p n) = Some p
pair_shape (list p vs) = two_shape p (items vs)

abbrev pub is_point : (n a : ℕ) → Bool
is_point n a = nat_lt 0 a && nat_le a n

abbrev pub rising_fault : (n place a b : ℕ) → Option FacetFault
rising_fault n q a b = if is_point n b then (if nat_lt b a then Some (BadLabel q) else (if a == b then Some (Repeated q) else None)) else Some (BadLabel q)

abbrev pub points_fault : (n first second a b : ℕ) → Option FacetFault
points_fault n p q a b = if is_point n a then rising_fault n q a b else Some (BadLabel p)

abbrev pub two_fault : (n : ℕ) → List Value → Option FacetFault
two_fault n (number p a ∷ number q b ∷ []) = points_fault n p q a b
two_fault n _ = None

abbrev pub pair_fault : (n : ℕ) → Value → Option FacetFault
pair_fault n (number p a) = None
pair_fault n (list p vs) = two_fault n (items vs)

abbrev pub two_in : List Value → List (ℕ × ℕ)
two_in (number p a ∷ number q b ∷ []) = (a, b) ∷ []
two_in _ = []

abbrev pub pair_in : Value → List (ℕ × ℕ)
pair_in (number p a) = []
pair_in (list p vs) = two_in (items vs)

abbrev pub points_in : Value → Result ℕ FacetFault
points_in (number p n) = Ok n
points_in (list p vs) = Err (Shape p)

abbrev pub relations_in : Value → Result (List Value) FacetFault
relations_in (number p n) = Err (Shape p)
relations_in (list p vs) = Ok (items vs)

abbrev pub none_fault : (n : ℕ) → Option FacetFault
none_fault n = if n == 0 then Some Empty else None

abbrev pub order_fault : (n : ℕ) → List Value → Option FacetFault
order_fault n vs = or_else (option_map Shape (first_some pair_shape vs)) (or_else (none_fault n) (first_some (pair_fault n) vs))

abbrev pub order_in : (place : ℕ) → List Value → Result (ℕ × List (ℕ × ℕ)) FacetFault
order_in p (v ∷ w ∷ []) = go_on (points_in v) (λ n. go_on (relations_in w) (λ vs. unless_fault (order_fault n vs) (n, flat_map pair_in vs)))
order_in p _ = Err (Shape p)

abbrev pub order_of : Value → Result (ℕ × List (ℕ × ℕ)) FacetFault
order_of (number p n) = Err (Shape p)
order_of (list p vs) = order_in p (items vs)

abbrev pub leads : (k : ℕ) → (relations : List (ℕ × ℕ)) → (a b : ℕ) → Bool
leads zero relations a b = false
leads (suc k) relations a b = list_any (λ r. (r.0 == a) && ((r.1 == b) || leads k relations r.1 b)) relations

abbrev pub is_below : (n : ℕ) → (relations : List (ℕ × ℕ)) → (a b : ℕ) → Bool
is_below n relations a b = leads n relations a b

abbrev pub is_chain : (below : ℕ → ℕ → Bool) → List ℕ → Bool
is_chain below [] = true
is_chain below (x ∷ set) = list_all (below x) set && is_chain below set

abbrev pub chain_sets : (n : ℕ) → (relations : List (ℕ × ℕ)) → (dim : ℕ) → List (List ℕ)
chain_sets n relations dim = sets_of n (is_chain (is_below n relations)) dim

abbrev pub order_complex : ℕ × List (ℕ × ℕ) → Layers
order_complex order = set_space (chain_sets order.0 order.1)

abbrev pub poset_of : Value → Result Layers FacetFault
poset_of v = go_on (order_of v) (λ order. limited (order_complex order))
