-- The reader of partial orders, item by item.
use Rattle.std.proofs.Common.{◌≡◌, ◌≢◌, ◌∷◌, [], ℕ, List, length, refl, ap, ◌∙◌, arith, Option, Some, None, option_map, Err, slice_get, Bool, cond}
use Rattle.std.specs.List.{flat_map}
use Rattle.std.proofs.lemmas.Bool.{ne_eqb}
use Rattle.gap_text.specs.Value.{Value, number, list, values}
use Rattle.facet_reader.specs.declared.fault.FacetFault.{FacetFault}
use Rattle.facet_reader.specs.declared.fault.FacetFault.TheVariants.{Shape, Empty}
use Rattle.facet_reader.specs.Labels.{or_else, first_some, unless_fault}
use Rattle.facet_reader.specs.Orders.{pair_shape, pair_fault, two_fault, pair_in, two_in, none_fault, order_in, order_of}
use Rattle.facet_reader.specs.Chains.{order_by, order_with}
use Rattle.facet_reader.proofs.RowLemmas.{items-values}

pub order-list : (v : Value) (p : ℕ) (vs : List Value) → v ≡ list p (values vs) → order_of v ≡ order_in p vs
order-list v p vs e = ap order_of e ∙ ap (order_in p) (items-values vs)

pub with-list : (n : ℕ) (v : Value) (p : ℕ) (vs : List Value) → v ≡ list p (values vs) → order_with n v ≡ order_by n vs
with-list n v p vs e = ap (order_with n) e ∙ ap (order_by n) (items-values vs)

-- a list of two items, or of another number of them
pub not-two : (p : ℕ) (vs : List Value) → length vs ≢ 2 → order_in p vs ≡ Err (Shape p)
not-two p [] ne = refl
not-two p (v ∷ []) ne = refl
not-two p (v ∷ w ∷ []) ne = absurd (ne refl)
not-two p (v ∷ w ∷ x ∷ vs) ne = refl

pub first-list : (p q : ℕ) (vs : List Value) (u : Value) (us : List Value) → length vs ≡ 2 → slice_get vs 0 ≡ Some u → u ≡ list q (values us) → order_in p vs ≡ Err (Shape q)
first-list p q [] u us l a e = absurd (omega (arith, l))
first-list p q (v ∷ []) u us l a e = absurd (omega (arith, l))
first-list p q (v ∷ w ∷ []) u us l a e = cc
first-list p q (v ∷ w ∷ x ∷ vs) u us l a e = absurd (omega (arith, l))

pub first-number : (p q n : ℕ) (vs : List Value) (u w : Value) → length vs ≡ 2 → slice_get vs 0 ≡ Some u → u ≡ number q n → slice_get vs 1 ≡ Some w → order_in p vs ≡ order_with n w
first-number p q n [] u w l a e b = absurd (omega (arith, l))
first-number p q n (v ∷ []) u w l a e b = absurd (omega (arith, l))
first-number p q n (v ∷ x ∷ []) u w l a e b = cc
first-number p q n (v ∷ x ∷ y ∷ vs) u w l a e b = absurd (omega (arith, l))

-- the faults of an order in their order
pub shape-order : (n : ℕ) (vs : List Value) (p : ℕ) → first_some pair_shape vs ≡ Some p → order_by n vs ≡ Err (Shape p)
shape-order n vs p e = cc

pub empty-order : (n : ℕ) (vs : List Value) → first_some pair_shape vs ≡ None → n ≡ 0 → order_by n vs ≡ Err Empty
empty-order n vs h e = cc

shape-none : (n : ℕ) (vs : List Value) (s : Option ℕ) (e z : Option FacetFault) → s ≡ None → e ≡ None → or_else (option_map Shape s) (or_else e z) ≡ z
shape-none n vs s e z p q = cc

no-empty : (n : ℕ) → n ≢ 0 → none_fault n ≡ None
no-empty n ne = ap (λ (b : Bool). cond {A = Option FacetFault} b (Some Empty) None) (ne_eqb n 0 ne)

pub last-order : (n : ℕ) (vs : List Value) (o : Option FacetFault) → first_some pair_shape vs ≡ None → n ≢ 0 → first_some (pair_fault n) vs ≡ o → order_by n vs ≡ unless_fault o (n, flat_map pair_in vs)
last-order n vs o h ne e =
    ap (λ (f : Option FacetFault). unless_fault f (n, flat_map pair_in vs)) (shape-none n vs (first_some pair_shape vs) (none_fault n) (first_some (pair_fault n) vs) h (no-empty n ne) ∙ e)

-- a relation as a value
pub pair-fault-list : (n : ℕ) (v : Value) (p : ℕ) (vs : List Value) → v ≡ list p (values vs) → pair_fault n v ≡ two_fault n vs
pair-fault-list n v p vs e = ap (pair_fault n) e ∙ ap (two_fault n) (items-values vs)

pub pair-in-list : (v : Value) (p : ℕ) (vs : List Value) → v ≡ list p (values vs) → pair_in v ≡ two_in vs
pair-in-list v p vs e = ap pair_in e ∙ ap two_in (items-values vs)
