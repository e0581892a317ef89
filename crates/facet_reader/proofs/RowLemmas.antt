-- The reader of lists of labels, item by item.
use Rattle.std.proofs.Common.{◌≡◌, ◌≢◌, ◌<◌, ◌+◌, ◌++◌, ◌∷◌, [], ℕ, List, length, take, drop, refl, ap, sym, ◌∙◌, arith, Option, Some, None, slice_get, append_assoc, append-nil, Bool, cond, eq-eqb}
use Rattle.std.specs.List.{flat_map}
use Rattle.std.proofs.lemmas.Bool.{ne_eqb}
use Rattle.std.proofs.lemmas.Grind.{flat_map-append}
use Rattle.number_lists.specs.Words.{holds}
use Rattle.number_lists.proofs.CallerLemmas.{take-slice_get, split-slice_get}
use Rattle.gap_text.specs.Value.{Value, number, list, items, values}
use Rattle.facet_reader.specs.declared.fault.FacetFault.{FacetFault}
use Rattle.facet_reader.specs.declared.fault.FacetFault.TheVariants.{Shape, Empty, BadLabel, Repeated}
use Rattle.facet_reader.specs.Labels.{or_else, first_some, list_place, unless_empty, row_shape, shape_in, label_in, labels_in, label_fault, labels_fault, row_fault, row_in, rows_in, fault_in, unless_fault, rows_of}

pub items-values : (vs : List Value) → items (values vs) ≡ vs
items-values [] = refl
items-values (v ∷ vs) = ap (λ (ws : List Value). v ∷ ws) (items-values vs)

-- ---- the first of some

neither : {A : Type 0} (a b : Option A) → or_else a b ≡ None → (a ≡ None) × (b ≡ None)
neither None b h = (refl, h)
neither (Some x) b h = cc

first-append : {A B : Type 0} (f : A → Option B) (xs ys : List A) → first_some f xs ≡ None → first_some f (xs ++ ys) ≡ first_some f ys
first-append f [] ys h = refl
first-append f (x ∷ xs) ys h =
    let p = neither (f x) (first_some f xs) h in
    ap (λ (o : Option _). or_else o (first_some f (xs ++ ys))) p.0 ∙ first-append f xs ys p.1

pub first-more : {A B : Type 0} (f : A → Option B) (xs : List A) (i : ℕ) (x : A) → i < length xs → slice_get xs i ≡ Some x → first_some f (take i xs) ≡ None → f x ≡ None → first_some f (take (i + 1) xs) ≡ None
first-more f xs i x l e h k =
    ap (first_some f) (take-slice_get xs i x l e) ∙ (first-append f (take i xs) (x ∷ []) h ∙ ap (λ (o : Option _). or_else o None) k)

pub first-at : {A B : Type 0} (f : A → Option B) (xs : List A) (i : ℕ) (x : A) (b : B) → i < length xs → slice_get xs i ≡ Some x → first_some f (take i xs) ≡ None → f x ≡ Some b → first_some f xs ≡ Some b
first-at f xs i x b l e h k =
    ap (first_some f) (sym (split-slice_get xs i x l e)) ∙ (first-append f (take i xs) (x ∷ drop (i + 1) xs) h ∙ ap (λ (o : Option _). or_else o (first_some f (drop (i + 1) xs))) k)

-- ---- lists of lists

pub joined-more : {A B : Type 0} (f : A → List B) (xs : List A) (i : ℕ) (x : A) → i < length xs → slice_get xs i ≡ Some x → flat_map f (take (i + 1) xs) ≡ flat_map f (take i xs) ++ f x
joined-more f xs i x l e = ap (flat_map f) (take-slice_get xs i x l e) ∙ (flat_map-append f (take i xs) (x ∷ []) ∙ ap (λ (ys : List _). flat_map f (take i xs) ++ ys) (append-nil (f x)))

pub unless-some : (p : ℕ) (v : Value) (vs : List Value) → unless_empty p (v ∷ vs) ≡ first_some list_place (v ∷ vs)
unless-some p v vs = refl

pub unless-first : (p : ℕ) (vs : List Value) (i : ℕ) → i < length vs → unless_empty p vs ≡ first_some list_place vs
unless-first p [] i l = absurd (omega arith)
unless-first p (v ∷ vs) i l = refl

-- ---- labels

labels-append : (before : List ℕ) (vs ws : List Value) → labels_fault before vs ≡ None → labels_fault before (vs ++ ws) ≡ labels_fault (before ++ labels_in vs) ws
labels-append before [] ws h = ap (λ (xs : List ℕ). labels_fault xs ws) (sym (append-nil before))
labels-append before (v ∷ vs) ws h =
    let p = neither (label_fault before v) (labels_fault (before ++ label_in v) vs) h in
    ap (λ (o : Option FacetFault). or_else o (labels_fault (before ++ label_in v) (vs ++ ws))) p.0
    ∙ (labels-append (before ++ label_in v) vs ws p.1 ∙ ap (λ (xs : List ℕ). labels_fault xs ws) (append_assoc before (label_in v) (labels_in vs)))

pub labels-more : (vs : List Value) (i : ℕ) (v : Value) → i < length vs → slice_get vs i ≡ Some v → labels_fault [] (take i vs) ≡ None → label_fault (labels_in (take i vs)) v ≡ None → labels_fault [] (take (i + 1) vs) ≡ None
labels-more vs i v l e h k =
    ap (labels_fault []) (take-slice_get vs i v l e) ∙ (labels-append [] (take i vs) (v ∷ []) h ∙ ap (λ (o : Option FacetFault). or_else o None) k)

pub labels-at : (vs : List Value) (i : ℕ) (v : Value) (fault : FacetFault) → i < length vs → slice_get vs i ≡ Some v → labels_fault [] (take i vs) ≡ None → label_fault (labels_in (take i vs)) v ≡ Some fault → labels_fault [] vs ≡ Some fault
labels-at vs i v fault l e h k =
    ap (labels_fault []) (sym (split-slice_get vs i v l e))
    ∙ (labels-append [] (take i vs) (v ∷ drop (i + 1) vs) h ∙ ap (λ (o : Option FacetFault). or_else o (labels_fault (labels_in (take i vs) ++ label_in v) (drop (i + 1) vs))) k)

-- a label that is 0, that stands earlier, and that may stand there
pub label-zero : (before : List ℕ) (p n : ℕ) → n ≡ 0 → label_fault before (number p n) ≡ Some (BadLabel p)
label-zero before p n e = ap (λ (b : Bool). cond b (Some (BadLabel p)) (cond (holds before n) (Some (Repeated p)) None)) (eq-eqb n 0 e)

pub label-at : (before : List ℕ) (p n : ℕ) (b : Bool) → n ≢ 0 → holds before n ≡ b → label_fault before (number p n) ≡ cond b (Some (Repeated p)) None
label-at before p n b e h =
    ap (λ (t : Bool). cond t (Some (BadLabel p)) (cond (holds before n) (Some (Repeated p)) None)) (ne_eqb n 0 e) ∙ ap (λ (t : Bool). cond t (Some (Repeated p)) None) h

-- ---- the whole

pub row-fault-list : (v : Value) (p : ℕ) (vs : List Value) → v ≡ list p (values vs) → row_fault v ≡ labels_fault [] vs
row-fault-list v p vs e = ap row_fault e ∙ ap (labels_fault []) (items-values vs)

pub row-in-list : (v : Value) (p : ℕ) (vs : List Value) → v ≡ list p (values vs) → row_in v ≡ labels_in vs ∷ []
row-in-list v p vs e = ap row_in e ∙ ap (λ (ws : List Value). labels_in ws ∷ []) (items-values vs)

pub row-shape-list : (v : Value) (p : ℕ) (vs : List Value) → v ≡ list p (values vs) → row_shape v ≡ unless_empty p vs
row-shape-list v p vs e = ap row_shape e ∙ ap (unless_empty p) (items-values vs)

pub rows-list : (v : Value) (p : ℕ) (vs : List Value) → v ≡ list p (values vs) → rows_of v ≡ unless_fault (fault_in vs) (rows_in vs)
rows-list v p vs e = ap rows_of e ∙ ap (λ (ws : List Value). unless_fault (fault_in ws) (rows_in ws)) (items-values vs)

pub shape-first : (vs : List Value) (p : ℕ) → shape_in vs ≡ Some p → fault_in vs ≡ Some (Shape p)
shape-first vs p e = cc

pub empty-next : (vs : List Value) → shape_in vs ≡ None → length vs ≡ 0 → fault_in vs ≡ Some Empty
empty-next [] h l = refl
empty-next (v ∷ vs) h l = absurd (omega arith)

pub labels-last : (vs : List Value) (o : Option FacetFault) → shape_in vs ≡ None → length vs ≢ 0 → first_some row_fault vs ≡ o → fault_in vs ≡ o
labels-last [] o h l e = absurd (omega arith)
labels-last (v ∷ vs) o h l e = cc
