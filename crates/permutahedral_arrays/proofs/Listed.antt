-- What is true of the cells of shapes: their points increase, and a cell with fewer points has a facet.
use Rattle.std.proofs.Common.{◌≡◌, inl, inr, ℕ, ◌+◌, ◌-◌, ◌≤◌, List, [], ◌∷◌, Bool, true, false, cond, ◌==◌, filter, map, length, get_or, refl, ap, sym, ◌∙◌, subst, arith}
use Rattle.std.specs.List.{list_all, list_any, flat_map, range_with_len, All}
use Rattle.std.proofs.lemmas.Bool.{false≢true, or_left, or_right, or_cases}
use Rattle.std.proofs.lemmas.List.{get_or_default}
use Rattle.std.proofs.lemmas.List.Elements.{All-nil, All-cons, All-head, All-tail, All-append}
use Rattle.std.proofs.lemmas.List.Folds.{list_any-append, Any-from_list_any}
use Rattle.std.proofs.lemmas.List.Sums.{AllPass-from_list_all}
use Rattle.face_poset.specs.Words.{upto}
use Rattle.face_poset.specs.Poset.{IsCell}
use Rattle.number_lists.specs.Members.{In, here, there}
use Rattle.number_lists.proofs.CallerLemmas.{In-at, In-filter, In-all, all-In, any-In, any-some, holds-In, In-holds, upto-In, In-upto, In-map, map-In}
use Rattle.permutahedral_arrays.specs.Places.{step, cell_at, is_present, cells_at, cells_of, holds_all, facets_of}
use Rattle.permutahedral_arrays.proofs.Climbing.{climbs, climb, are_refined}

-- ---- all cells

keep_one : (P : List ℕ → Type 0) (p : List ℕ → Bool) (x : List ℕ) (kept : List (List ℕ)) (b : Bool) → p x ≡ b → (p x ≡ true → P x) → All P kept → All P (cond b (x ∷ kept) kept)
keep_one P p x kept true e h rest = All-cons P x kept (h e) rest
keep_one P p x kept false e h rest = rest

all_kept : (P : List ℕ → Type 0) (p : List ℕ → Bool) (g : List ℕ → List ℕ) (shapes : List (List ℕ)) → All (λ s. p (g s) ≡ true → P (g s)) shapes → All P (filter p (map g shapes))
all_kept P p g [] h = All-nil P
all_kept P p g (s ∷ ss) h =
    keep_one P p (g s) (filter p (map g ss)) (p (g s)) refl (All-head (λ (t : List ℕ). p (g t) ≡ true → P (g t)) s ss h) (all_kept P p g ss (All-tail (λ (t : List ℕ). p (g t) ≡ true → P (g t)) s ss h))

all_flat : (P : List ℕ → Type 0) (f : ℕ → List (List ℕ)) (xs : List ℕ) → ((x : ℕ) → In x xs → All P (f x)) → All P (flat_map f xs)
all_flat P f [] h = All-nil P
all_flat P f (x ∷ xs) h = All-append P (f x) (flat_map f xs) (h x here) (all_flat P f xs (λ y i. h y (there i)))

-- what holds of the cell of each shape at each first point, where a point of it is present
all_cells : (P : List ℕ → Type 0) (slab row : ℕ) (marks : List Bool) (shapes : List (List ℕ))
    → ((first : ℕ) → 1 ≤ first → first ≤ length marks → All (λ s. list_any (is_present marks) (cell_at slab row first s) ≡ true → P (cell_at slab row first s)) shapes) → All P (cells_of slab row marks shapes)
all_cells P slab row marks shapes h =
    all_flat P (cells_at slab row marks shapes) (range_with_len 1 (length marks))
    (λ first i. let b : (1 ≤ first) × (first ≤ length marks) = upto-In (length marks) first i in all_kept P (list_any (is_present marks)) (cell_at slab row first) shapes (h first b.0 b.1))

-- the points of each cell increase, from 1 to the most
pub cells-fit : (slab row most : ℕ) (marks : List Bool) (shapes : List (List ℕ)) → 1 ≤ slab → 1 ≤ row → length marks + slab + row + 1 ≤ most → list_all climbs shapes ≡ true → All (IsCell most) (cells_of slab row marks shapes)
cells-fit slab row most marks shapes a b m h =
    all_cells (IsCell most) slab row marks shapes (λ first low high k d l _. climb slab row first most a b low (omega (arith, m, high)) (get_or shapes k d) (AllPass-from_list_all climbs shapes h k d l))

-- ---- some cell

any_first : (r : List ℕ → Bool) (x : List ℕ) (xs : List (List ℕ)) (b : Bool) → b ≡ true → r x ≡ true → list_any r (cond b (x ∷ xs) xs) ≡ true
any_first r x xs true e h = or_left (r x) (list_any r xs) h
any_first r x xs false e h = absurd (false≢true e)

any_later : (r : List ℕ → Bool) (x : List ℕ) (xs : List (List ℕ)) (b : Bool) → list_any r xs ≡ true → list_any r (cond b (x ∷ xs) xs) ≡ true
any_later r x xs true h = or_right (r x) (list_any r xs) h
any_later r x xs false h = h

any_kept : (p q r : List ℕ → Bool) (g : List ℕ → List ℕ) (shapes : List (List ℕ)) → list_any q shapes ≡ true → ((s : List ℕ) → q s ≡ true → p (g s) ≡ true) → ((s : List ℕ) → q s ≡ true → r (g s) ≡ true)
    → list_any r (filter p (map g shapes)) ≡ true
any_kept p q r g [] e a b = absurd (false≢true e)
any_kept p q r g (s ∷ ss) e a b =
    elim (or_cases (q s) (list_any q ss) e) [
      | inl h ↦ any_first r (g s) (filter p (map g ss)) (p (g s)) (a s h) (b s h)
      | inr h ↦ any_later r (g s) (filter p (map g ss)) (p (g s)) (any_kept p q r g ss h a b)
    ]

any_flat : (r : List ℕ → Bool) (f : ℕ → List (List ℕ)) {x : ℕ} {xs : List ℕ} → In x xs → list_any r (f x) ≡ true → list_any r (flat_map f xs) ≡ true
any_flat r f {x} (here {xs}) h = list_any-append r (f x) (flat_map f xs) ∙ or_left (list_any r (f x)) (list_any r (flat_map f xs)) h
any_flat r f (there {y} {xs} i) h = list_any-append r (f y) (flat_map f xs) ∙ or_right (list_any r (f y)) (list_any r (flat_map f xs)) (any_flat r f i h)

some_length : (r : List ℕ → Bool) (xs : List (List ℕ)) → list_any r xs ≡ true → 1 ≤ length xs
some_length r [] h = absurd (false≢true h)
some_length r (x ∷ xs) h = omega arith

-- where a point is present and a shape holds the zero vector, there is a cell
pub some-cell : (slab row : ℕ) (marks : List Bool) (shapes : List (List ℕ)) → list_any (λ s. list_any (λ v. v == 0) s) shapes ≡ true → list_any (λ mark. mark) marks ≡ true → 1 ≤ length (cells_of slab row marks shapes)
some-cell slab row marks shapes starts one =
    let at = Any-from_list_any (λ (mark : Bool). mark) marks one in
    let first : ℕ = at.0 + 1 in
    let g : ℕ → ℕ = λ v. first + step slab row v in
    let e : g 0 - 1 ≡ at.0 = omega arith in
    let there_is : is_present marks (g 0) ≡ true = ap (λ (n : ℕ). get_or marks n false) e ∙ (get_or_default marks at.0 false at.1 at.2 ∙ (at.3 ∙ at.4)) in
    some_length (λ _. true) (cells_of slab row marks shapes)
    (any_flat (λ _. true) (cells_at slab row marks shapes) (In-upto (length marks) first (omega arith) (omega (arith, at.2)))
    (any_kept (list_any (is_present marks)) (list_any (λ v. v == 0)) (λ _. true) (cell_at slab row first) shapes starts (λ s h. any-In (is_present marks) (In-map g (holds-In s h)) there_is) (λ s h. refl)))

-- ---- facets

holds-map : (g : ℕ → ℕ) (t s : List ℕ) → holds_all t s ≡ true → holds_all (map g t) (map g s) ≡ true
holds-map g t s h =
    In-all (λ p. list_any (λ q. q == p) (map g t)) (map g s)
    (λ y i. let k = map-In g s i in subst (λ (z : ℕ). list_any (λ q. q == z) (map g t) ≡ true) (sym k.2) (In-holds (In-map g (holds-In t (all-In (λ p. list_any (λ q. q == p) t) h k.1)))))

holds-any : (p : ℕ → Bool) (t s : List ℕ) → holds_all t s ≡ true → list_any p s ≡ true → list_any p t ≡ true
holds-any p t s h e = let m = any-some p s e in any-In p (holds-In t (all-In (λ x. list_any (λ q. q == x) t) h m.1)) m.2

some_facet : (above : List (List ℕ)) (cell : List ℕ) → list_any (λ c. holds_all c cell) above ≡ true → 1 ≤ length (facets_of above cell)
some_facet above cell h =
    let at = Any-from_list_any (λ (c : List ℕ). holds_all c cell) above h in
    let p : ℕ → Bool = λ n. holds_all (get_or above (n - 1) []) cell in
    let back : at.0 + 1 - 1 ≡ at.0 = omega arith in
    let e : get_or above (at.0 + 1 - 1) [] ≡ at.1 = ap (λ (n : ℕ). get_or above n []) back ∙ (get_or_default above at.0 [] at.1 at.2 ∙ at.3) in
    let i : In (at.0 + 1) (upto (length above)) = In-upto (length above) (at.0 + 1) (omega arith) (omega (arith, at.2)) in
    let k = In-at (In-filter p i (ap (λ (c : List ℕ). holds_all c cell) e ∙ at.4)) in
    omega (arith, k.1)

-- each cell of the shapes has a facet among the cells of those above, in which each of the shapes lies
pub cells-bounded : (slab row : ℕ) (marks : List Bool) (above shapes : List (List ℕ)) → are_refined above shapes ≡ true → All (λ cell. 1 ≤ length (facets_of (cells_of slab row marks above) cell)) (cells_of slab row marks shapes)
cells-bounded slab row marks above shapes h =
    all_cells (λ cell. 1 ≤ length (facets_of (cells_of slab row marks above) cell)) slab row marks shapes
    (λ first low high k d l present.
    let s : List ℕ = get_or shapes k d in
    let g : ℕ → ℕ = λ v. first + step slab row v in
    some_facet (cells_of slab row marks above) (cell_at slab row first s)
    (any_flat (λ c. holds_all c (cell_at slab row first s)) (cells_at slab row marks above) (In-upto (length marks) first low high)
    (any_kept (list_any (is_present marks)) (λ t. holds_all t s) (λ c. holds_all c (cell_at slab row first s)) (cell_at slab row first) above (AllPass-from_list_all (λ (t : List ℕ). list_any (λ u. holds_all u t) above) shapes h k d l)
    (λ t q. holds-any (is_present marks) (map g t) (map g s) (holds-map g t s q) present) (λ t q. holds-map g t s q))))
