-- What one turn leaves.
use Rattle.std.proofs.Common.{◌≡◌, inl, inr, ℕ, suc, ◌+◌, ◌-◌, ◌<◌, ◌≤◌, List, [], ◌∷◌, ◌++◌, length, drop, get_or, set, Bool, true, false, cond, not, ◌&&◌, eqb, refl, ap, sym, ◌∙◌, arith, filter, Option, Some, None}
use Rattle.std.specs.List.{find}
use Rattle.std.specs.List.Sorted.{IsStrictlyIncreasing}
use Rattle.std.proofs.lemmas.Bool.{false≢true, cases_eq, eq-eqb, le-leb, ne_eqb}
use Rattle.std.proofs.lemmas.List.{get_or-set_same, get_or-set_other, length-set, append_assoc}
use Rattle.std.proofs.lemmas.List.Kept.{IsStrictlyIncreasing-filter}
use Rattle.face_poset.specs.declared.cells.Pair.{Pair}
use Rattle.number_lists.specs.Words.{upto, holds}
use Rattle.face_poset.specs.Poset.{count, facets_of, cofaces_of}
use Rattle.number_lists.specs.Members.{In}
use Rattle.number_lists.proofs.CallerLemmas.{holds-In, filter-In, In-inside, upto-In, holds-filter, holds-upto, All-upto, increasing-upto}
use Rattle.vector_field.specs.Pairs.{pair}
use Rattle.vector_field.specs.Stages.{is_left}
use Rattle.chosen_field.specs.Chosen.{has_facet, is_free, least_free, free_pair, without, collapse}
use Rattle.chosen_field.specs.Rests.{left_of, is_single, AreCounts}
use Rattle.chosen_field.proofs.Lists.{filter-swap, find-swap, find_same, find-none, find-passes, filter-both, without-fewer, without-first}

-- ---- the cells that are left

pub left-rise : (cells : List Bool) → IsStrictlyIncreasing (left_of cells)
left-rise cells = IsStrictlyIncreasing-filter (is_left cells) (upto (length cells)) (increasing-upto (length cells))

pub left-holds : (cells : List Bool) (b : ℕ) → 1 ≤ b → b ≤ length cells → is_left cells b ≡ true → holds (left_of cells) b ≡ true
left-holds cells b low high e = holds-filter (is_left cells) (upto (length cells)) b ∙ (ap (λ (t : Bool). t && holds (upto (length cells)) b) e ∙ holds-upto (length cells) b low high)

pub In-left_of : (cells : List Bool) (b : ℕ) → 1 ≤ b → b ≤ length cells → is_left cells b ≡ true → In b (left_of cells)
In-left_of cells b low high e = holds-In (left_of cells) (left-holds cells b low high e)

pub left-In : (cells : List Bool) (b : ℕ) → In b (left_of cells) → (1 ≤ b) × (b ≤ length cells) × (is_left cells b ≡ true)
left-In cells b m = let r = upto-In (length cells) b (In-inside (is_left cells) (upto (length cells)) m) in (r.0, r.1, filter-In (is_left cells) (upto (length cells)) m)

-- a cell goes
pub left-without : (cells : List Bool) (b : ℕ) → 1 ≤ b → b ≤ length cells → left_of (set cells (b - 1) false) ≡ without (left_of cells) b
left-without cells b low high =
    ap (λ (n : ℕ). filter (is_left (set cells (b - 1) false)) (upto n)) (length-set cells (b - 1) false)
    ∙ filter-both (λ c. not (eqb c b)) (is_left cells) (is_left (set cells (b - 1) false)) (upto (length cells)) (λ k d l. at (get_or (upto (length cells)) k d) (All-upto (length cells) k d l).0)
  where
    at : (c : ℕ) → 1 ≤ c → is_left (set cells (b - 1) false) c ≡ (not (eqb c b) && is_left cells c)
    at c a = elim (cases_eq c b) [
      | inl e ↦ ap (λ (n : ℕ). get_or (set cells (b - 1) false) (n - 1) false) e ∙ (get_or-set_same cells (b - 1) false false (omega (arith, low, high)) ∙ ap (λ (t : Bool). not t && is_left cells c) (sym (eq-eqb c b e)))
      | inr ne ↦ get_or-set_other cells (b - 1) (c - 1) false false (λ x. ne (omega (arith, x, low, a))) ∙ ap (λ (t : Bool). not t && is_left cells c) (sym (ne_eqb c b ne))
    ]

-- the least cell goes
pub left-drop : (cells : List Bool) (b : ℕ) → find (is_left cells) (upto (length cells)) ≡ Some b → without (left_of cells) b ≡ drop 1 (left_of cells)
left-drop cells b e = without-first (is_left cells) (upto (length cells)) b (increasing-upto (length cells)) e

module _ (space : List (List (List ℕ))) (dim : ℕ) where
  -- ---- cofaces that are left

  pub coface-left : (cells : List Bool) (f : ℕ) → length cells ≡ count space (dim + 1) → find (is_left cells) (cofaces_of space dim f) ≡ find (has_facet space dim f) (left_of cells)
  coface-left cells f long = find-swap (is_left cells) (has_facet space dim f) (upto (count space (dim + 1))) ∙ ap (λ (n : ℕ). find (has_facet space dim f) (filter (is_left cells) (upto n))) (sym long)

  pub cofaces-left : (cells : List Bool) (f : ℕ) → length cells ≡ count space (dim + 1) → filter (is_left cells) (cofaces_of space dim f) ≡ filter (has_facet space dim f) (left_of cells)
  cofaces-left cells f long = filter-swap (is_left cells) (has_facet space dim f) (upto (count space (dim + 1))) ∙ ap (λ (n : ℕ). filter (has_facet space dim f) (filter (is_left cells) (upto n))) (sym long)

  -- ---- counts

  -- by right counts the least facet of just one cell is the least free one
  pub least-free : (cells : List Bool) (shared : List ℕ) → length shared ≡ count space dim → AreCounts space dim (count space dim) cells shared → find (is_single shared) (upto (length shared)) ≡ least_free space dim (left_of cells)
  least-free cells shared long counts =
      find_same (is_single shared) (is_free space dim (left_of cells)) (upto (length shared)) (λ k d l. let r = All-upto (length shared) k d l in at (get_or (upto (length shared)) k d) r.0 r.1)
      ∙ ap (λ (n : ℕ). find (is_free space dim (left_of cells)) (upto n)) long
    where
      at : (f : ℕ) → 1 ≤ f → f ≤ length shared → is_single shared f ≡ is_free space dim (left_of cells) f
      at f a b = ap (λ (t : Bool). t && eqb (get_or shared (f - 1) 0) 1) (le-leb 1 f a) ∙ ap (λ (n : ℕ). eqb n 1) (counts f a (omega (arith, b, long)))

  -- right counts, when a cell goes
  pub counts-less : (cells : List Bool) (shared shared' : List ℕ) (b : ℕ) → 1 ≤ b → b ≤ length cells → is_left cells b ≡ true → AreCounts space dim (count space dim) cells shared
      → ((f : ℕ) → 1 ≤ f → get_or shared' (f - 1) 0 ≡ get_or shared (f - 1) 0 - cond (holds (facets_of space (dim + 1) b) f) 1 0) → AreCounts space dim (count space dim) (set cells (b - 1) false) shared'
  counts-less cells shared shared' b low high e counts less f a m =
      let fewer : length (filter (has_facet space dim f) (without (left_of cells) b)) + cond (has_facet space dim f b) 1 0 ≡ length (filter (has_facet space dim f) (left_of cells)) =
      without-fewer (has_facet space dim f) (left_of cells) b (left-rise cells) (left-holds cells b low high e) in
      let now : get_or shared' (f - 1) 0 ≡ length (filter (has_facet space dim f) (without (left_of cells) b)) = omega (arith, less f a, counts f a m, fewer) in
      now ∙ ap (λ (xs : List ℕ). length (filter (has_facet space dim f) xs)) (sym (left-without cells b low high))

  -- ---- one turn of the definition

  -- the least free facet has a cell
  pub free-some : (xs : List ℕ) (f : ℕ) → least_free space dim xs ≡ Some f → find (has_facet space dim f) xs ≡ None → ⊥
  free-some xs f e g =
      let one : eqb (length (filter (has_facet space dim f) xs)) 1 ≡ true = find-passes (is_free space dim xs) (upto (count space dim)) f e in
      false≢true (sym (ap (λ (ys : List ℕ). eqb (length ys) 1) (find-none (has_facet space dim f) xs g)) ∙ one)

  found : (xs : List ℕ) (f b : ℕ) → least_free space dim xs ≡ Some f → find (has_facet space dim f) xs ≡ Some b → free_pair space dim xs ≡ Some (pair dim f b)
  found xs f b e g = rw (free_pair, e) (rw g refl)

  none_free : (xs : List ℕ) → least_free space dim xs ≡ None → free_pair space dim xs ≡ None
  none_free xs e = rw (free_pair, e) refl

  abbrev turned : (n : ℕ) (xs : List ℕ) → Option Pair → List Pair
  turned n xs o = elim o [
    | None ↦ collapse space dim n (drop 1 xs)
    | Some p ↦ p ∷ collapse space dim n (without xs p.upper)
  ]

  pub turn-pair : (n : ℕ) (xs : List ℕ) (f b : ℕ) → least_free space dim xs ≡ Some f → find (has_facet space dim f) xs ≡ Some b → collapse space dim (suc n) xs ≡ pair dim f b ∷ collapse space dim n (without xs b)
  turn-pair n xs f b e g = ap (turned n xs) (found xs f b e g)

  pub turn-drop : (n : ℕ) (xs : List ℕ) → least_free space dim xs ≡ None → collapse space dim (suc n) xs ≡ collapse space dim n (drop 1 xs)
  turn-drop n xs e = ap (turned n xs) (none_free xs e)

  -- the pairs made and those that are still to be made
  abbrev pub IsMade : (total turn : ℕ) → (made : List Pair) → (now whole : List ℕ) → Type 0
  IsMade total turn made now whole = made ++ collapse space dim (total - turn) now ≡ collapse space dim total whole

  fuel : (total turn : ℕ) → turn < total → total - turn ≡ suc (total - (turn + 1))
  fuel total turn l = omega (arith, l)

  pub made-pair : (total turn : ℕ) (made : List Pair) (now whole : List ℕ) (f b : ℕ) → turn < total → least_free space dim now ≡ Some f → find (has_facet space dim f) now ≡ Some b → IsMade total turn made now whole
      → IsMade total (turn + 1) (made ++ pair dim f b ∷ []) (without now b) whole
  made-pair total turn made now whole f b l e g h =
      append_assoc made (pair dim f b ∷ []) (collapse space dim (total - (turn + 1)) (without now b))
      ∙ (ap (λ (ps : List Pair). made ++ ps) (sym (ap (λ (n : ℕ). collapse space dim n now) (fuel total turn l) ∙ turn-pair (total - (turn + 1)) now f b e g)) ∙ h)

  pub made-drop : (total turn : ℕ) (made : List Pair) (now whole : List ℕ) → turn < total → least_free space dim now ≡ None → IsMade total turn made now whole → IsMade total (turn + 1) made (drop 1 now) whole
  made-drop total turn made now whole l e h =
      ap (λ (ps : List Pair). made ++ ps) (sym (ap (λ (n : ℕ). collapse space dim n now) (fuel total turn l) ∙ turn-drop (total - (turn + 1)) now e)) ∙ h
