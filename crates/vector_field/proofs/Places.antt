-- Last places of lowers.
use Rattle.std.proofs.Common.{◌≡◌, ◌⊎◌, inl, inr, ℕ, zero, suc, ◌+◌, ◌-◌, ◌<◌, ◌≤◌, List, Bool, true, false, ◌&&◌, ltb, leb, length, get_or, drop, Option, Some, None, refl, ap, sym, ◌∙◌, subst, arith}
use Rattle.std.specs.List.{list_any}
use Rattle.std.proofs.lemmas.Bool.{and_from, lt-ltb, le-ltb, le-leb, false_from_ne_true, false≢true, cases_lt}
use Rattle.std.proofs.lemmas.List.{get_or-drop, length-drop, get_or_default}
use Rattle.face_poset.specs.declared.cells.Pair.{Pair}
use Rattle.face_poset.specs.Poset.{count}
use Rattle.vector_field.specs.CellMaps.{at, row, IsPut}
use Rattle.vector_field.specs.Pairs.{pair, has_lower, counts_of}
use Rattle.vector_field.specs.Pairings.{lengths}
use Rattle.vector_field.specs.LastPlaces.{pair_at, IsLastPlace, AreLast}
use Rattle.number_lists.proofs.CallerLemmas.{at-In, any-In, any-none, In-Contains}
use Rattle.vector_field.proofs.Valid.{has_lower-true, has_lower-from}
use Rattle.vector_field.proofs.Noted.{put-at, put-cases, length-row}

-- how many cells of a dimension there are
pub count-at : (space : List (List (List ℕ))) (dim : ℕ) → dim ≤ 3 → get_or (counts_of space) dim 0 ≡ count space dim
count-at space zero l = refl
count-at space (suc zero) l = refl
count-at space (suc (suc zero)) l = refl
count-at space (suc (suc (suc zero))) l = refl
count-at space (suc (suc (suc (suc dim)))) l = absurd (omega arith)

pub length-at : (space : List (List (List ℕ))) (cells : List (List (Option ℕ))) (dim : ℕ) → dim ≤ 3 → lengths cells ≡ counts_of space → length (row cells dim) ≡ count space dim
length-at space cells dim l e = sym (length-row cells dim) ∙ (ap (λ (ns : List ℕ). get_or ns dim 0) e ∙ count-at space dim l)

below-suc : (k n : ℕ) → k < n + 1 → (k < n) ⊎ (k ≡ n)
below-suc k n l = elim (cases_lt k n) [ inl a ↦ inl a | inr a ↦ inr (omega arith) ]

-- a pair with an other lower changes no last place
place-more : (pairs : List Pair) (n dim cell : ℕ) (o : Option ℕ) → has_lower dim cell (pair_at pairs n) ≡ false → IsLastPlace pairs n dim cell o → IsLastPlace pairs (n + 1) dim cell o
place-more pairs n dim cell None ne h = λ k l. elim (below-suc k n l) [ inl a ↦ h k a | inr a ↦ ap (λ (j : ℕ). has_lower dim cell (pair_at pairs j)) a ∙ ne ]
place-more pairs n dim cell (Some i) ne h = (omega (arith, h.0), h.1, λ k a l. elim (below-suc k n l) [ inl b ↦ h.2 k a b | inr b ↦ ap (λ (j : ℕ). has_lower dim cell (pair_at pairs j)) b ∙ ne ])

not-lower : (p : Pair) (dim cell : ℕ) → ((p.dim ≡ dim) × (p.lower ≡ cell) → ⊥) → has_lower dim cell p ≡ false
not-lower p dim cell k = false_from_ne_true (has_lower dim cell p) (λ e. k (has_lower-true p dim cell e))

pub last-put : (space : List (List (List ℕ))) (pairs : List Pair) (n : ℕ) (p : Pair) (old new : List (List (Option ℕ))) → p ≡ pair_at pairs n → IsPut old p.dim p.lower n new → AreLast space pairs n old → AreLast space pairs (n + 1) new
last-put space pairs n p old new e put h dim cell d a b =
    let w = put-at old p.dim p.lower n new dim cell a put in
    elim (put-cases p.dim p.lower dim cell) [
      | inl k ↦ subst (IsLastPlace pairs (n + 1) dim cell) (sym (w.same k.0 k.1)) (omega arith, subst (λ (q : Pair). has_lower dim cell q ≡ true) e (has_lower-from p dim cell k.0 k.1), λ j x y. absurd (omega arith))
      | inr k ↦ subst (IsLastPlace pairs (n + 1) dim cell) (sym (w.kept k)) (place-more pairs n dim cell (at old dim cell) (subst (λ (q : Pair). has_lower dim cell q ≡ false) e (not-lower p dim cell k)) (h dim cell d a b))
    ]

pub last-skip : (space : List (List (List ℕ))) (pairs : List Pair) (n : ℕ) (p : Pair) (last : List (List (Option ℕ))) → p ≡ pair_at pairs n → (ltb p.dim 3 && (leb 1 p.lower && leb p.lower (count space p.dim))) ≡ false → AreLast space pairs n last → AreLast space pairs (n + 1) last
last-skip space pairs n p last e ne h dim cell d a b =
    place-more pairs n dim cell (at last dim cell) (subst (λ (q : Pair). has_lower dim cell q ≡ false) e (not-lower p dim cell other)) (h dim cell d a b)
  where
    other : (p.dim ≡ dim) × (p.lower ≡ cell) → ⊥
    other k =
        let high : p.lower ≤ count space p.dim = subst (λ (m : ℕ). p.lower ≤ count space m) (sym k.0) (omega (arith, k.1)) in
        false≢true (sym ne ∙ and_from (ltb p.dim 3) (leb 1 p.lower && leb p.lower (count space p.dim)) (lt-ltb p.dim 3 (omega (arith, k.0))) (and_from (leb 1 p.lower) (leb p.lower (count space p.dim)) (le-leb 1 p.lower (omega (arith, k.1))) (le-leb p.lower (count space p.dim) high)))

-- a test over the rest of a list
any-drop : {A : Type 0} (p : A → Bool) (xs : List A) (m k : ℕ) (d : A) → m ≤ k → k < length xs → p (get_or xs k d) ≡ true → list_any p (drop m xs) ≡ true
any-drop {A} p xs m k d a b e =
    let at : get_or (drop m xs) (k - m) d ≡ get_or xs k d = get_or-drop m xs (k - m) d ∙ ap (λ (j : ℕ). get_or xs j d) (omega arith) in
    any-In p (at-In (drop m xs) (k - m) d (omega (arith, length-drop m xs))) (ap p at ∙ e)

any-drop-none : {A : Type 0} (p : A → Bool) (xs : List A) (m : ℕ) (d : A) → ((k : ℕ) → m ≤ k → k < length xs → p (get_or xs k d) ≡ false) → list_any p (drop m xs) ≡ false
any-drop-none {A} p xs m d h =
    any-none p (drop m xs)
    (λ x i t.
    let c = In-Contains i in
    let lt : m + c.0 < length xs = omega (arith, c.1, length-drop m xs) in
    let same : get_or xs (m + c.0) d ≡ x = get_or_default xs (m + c.0) d x lt ∙ (sym (get_or-drop m xs c.0 x) ∙ c.2) in
    false≢true (sym (h (m + c.0) (omega arith) lt) ∙ (ap p same ∙ t)))

-- the last place tells whether the cell is the lower of a later pair
pub later_by_place : (pairs : List Pair) (dim cell index : ℕ) (o : Option ℕ) → IsLastPlace pairs (length pairs) dim cell o → elim o [ None ↦ false | Some at ↦ ltb index at ] ≡ list_any (has_lower dim cell) (drop (index + 1) pairs)
later_by_place pairs dim cell index None h = sym (any-drop-none (has_lower dim cell) pairs (index + 1) (pair 0 0 0) (λ k a b. h k b))
later_by_place pairs dim cell index (Some i) h = elim (cases_lt index i) [
  | inl l ↦ lt-ltb index i l ∙ sym (any-drop (has_lower dim cell) pairs (index + 1) i (pair 0 0 0) (omega arith) h.0 h.1)
  | inr l ↦ le-ltb index i l ∙ sym (any-drop-none (has_lower dim cell) pairs (index + 1) (pair 0 0 0) (λ k a b. h.2 k (omega arith) b))
]
