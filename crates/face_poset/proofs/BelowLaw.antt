-- A cell with all its faces: its order, and that it is the least such set.
use Rattle.std.proofs.Common.{◌≡◌, ◌<◌, ◌≤◌, ◌+◌, ◌-◌, ◌∷◌, [], ℕ, zero, suc, Bool, true, ◌&&◌, inl, inr, List, get_or, length, map, filter, refl, sym, ◌∙◌, ap, arith, subst, All, AllPairs, Contains}
use Rattle.std.specs.List.{list_any}
use Rattle.std.specs.List.Sorted.{IsStrictlyIncreasing}
use Rattle.std.proofs.lemmas.List.{length-map, get_or_default, get_or-map}
use Rattle.std.proofs.lemmas.Bool.{and_parts}
use Rattle.std.proofs.lemmas.List.Kept.{AllPairs-from_increasing, IsStrictlyIncreasing-filter}
use Rattle.std.proofs.lemmas.List.Elements.{All-append, All-map, Contains-append_left, Contains-append_right, Contains-append_cases}
use Rattle.std.proofs.lemmas.List.Folds.{list_any_at}
use Rattle.face_poset.specs.declared.cells.Cell.{Cell}
use Rattle.number_lists.specs.Words.{upto, holds}
use Rattle.face_poset.specs.Poset.{count, facets_of, IsSpace}
use Rattle.face_poset.specs.Below.{cell_at, facets_of_all, closure, closed_cell, IsBelow, itself, facet}
use Rattle.face_poset.specs.Laws.{ComesBefore}
use Rattle.number_lists.proofs.CallerLemmas.{increasing-upto, holds-upto, holds-filter, Contains-holds, holds-Contains, AllPairs-append, any-some, In-Contains}
use Rattle.face_poset.proofs.BelowLemmas.{facet_within, facets_within}

-- ---- the order

-- the cells of one dimension, by increasing numbers
cells_ordered : (dim : ℕ) (ns : List ℕ) → IsStrictlyIncreasing ns → AllPairs ComesBefore (map (cell_at dim) ns)
cells_ordered dim ns rises i j d lt within =
    let lj : j < length ns = omega (arith, length-map ns (cell_at dim)) in
    let x : get_or (map (cell_at dim) ns) i d ≡ cell_at dim (get_or ns i 0) = get_or-map (cell_at dim) ns i 0 d (omega arith) in
    let y : get_or (map (cell_at dim) ns) j d ≡ cell_at dim (get_or ns j 0) = get_or-map (cell_at dim) ns j 0 d lj in
    subst (λ (a : Cell). ComesBefore a (get_or (map (cell_at dim) ns) j d)) (sym x) (subst (ComesBefore (cell_at dim (get_or ns i 0))) (sym y) (inr (refl, AllPairs-from_increasing ns rises i j 0 lt lj)))

all_dim : (dim : ℕ) (ns : List ℕ) → All (λ (a : Cell). a.dim ≡ dim) (map (cell_at dim) ns)
all_dim dim ns = All-map (λ (a : Cell). a.dim ≡ dim) (cell_at dim) ns (λ k d l. refl)

-- all dimensions of a closure
closure-low : (space : List (List (List ℕ))) (dim : ℕ) (ns : List ℕ) → All (λ (a : Cell). a.dim ≤ dim) (closure space dim ns)
closure-low space zero ns = λ k d l. let e : (get_or (map (cell_at zero) ns) k d).dim ≡ zero = all_dim zero ns k d l in omega arith
closure-low space (suc dim) ns =
    All-append (λ (a : Cell). a.dim ≤ suc dim) (closure space dim (facets_of_all space dim ns)) (map (cell_at (suc dim)) ns)
    (λ k d l. let e : (get_or (closure space dim (facets_of_all space dim ns)) k d).dim ≤ dim = closure-low space dim (facets_of_all space dim ns) k d l in omega arith)
    (λ k d l. let e : (get_or (map (cell_at (suc dim)) ns) k d).dim ≡ suc dim = all_dim (suc dim) ns k d l in omega arith)

closure-ordered : (space : List (List (List ℕ))) (dim : ℕ) (ns : List ℕ) → IsStrictlyIncreasing ns → AllPairs ComesBefore (closure space dim ns)
closure-ordered space zero ns rises = cells_ordered zero ns rises
closure-ordered space (suc dim) ns rises =
    let lower : List ℕ = facets_of_all space dim ns in
    AllPairs-append ComesBefore (closure space dim lower) (map (cell_at (suc dim)) ns)
    (closure-ordered space dim lower (IsStrictlyIncreasing-filter (λ f. list_any (λ c. holds (facets_of space (dim + 1) c) f) ns) (upto (count space dim)) (increasing-upto (count space dim))))
    (cells_ordered (suc dim) ns rises)
    (λ i j d li lj.
    let a : (get_or (closure space dim lower) i d).dim ≤ dim = closure-low space dim lower i d li in
    let b : (get_or (map (cell_at (suc dim)) ns) j d).dim ≡ suc dim = all_dim (suc dim) ns j d lj in
    inl (omega arith))

pub closed_cell-ordered : (space : List (List (List ℕ))) (dim cell : ℕ) → AllPairs ComesBefore (closed_cell space dim cell)
closed_cell-ordered space dim cell = closure-ordered space dim (cell ∷ []) (λ k l. absurd (omega arith))

-- ---- the least set

-- a cell of a list of one dimension
in_cells : (dim : ℕ) (ns : List ℕ) (d n : ℕ) → Contains (map (cell_at dim) ns) (cell_at d n) → (d ≡ dim) × Contains ns n
in_cells dim ns d n (k, l, e) =
    let lk : k < length ns = omega (arith, length-map ns (cell_at dim)) in
    let x : cell_at dim (get_or ns k 0) ≡ cell_at d n = sym (get_or-map (cell_at dim) ns k 0 (cell_at d n) lk) ∙ e in
    let num : get_or ns k 0 ≡ n = ap (λ (a : Cell). a.number) x in
    (sym (ap (λ (a : Cell). a.dim) x), (k, lk, get_or_default ns k n 0 lk ∙ num))

cells_has : (dim : ℕ) (ns : List ℕ) (n : ℕ) → Contains ns n → Contains (map (cell_at dim) ns) (cell_at dim n)
cells_has dim ns n (k, l, e) = (k, omega (arith, length-map ns (cell_at dim)), get_or-map (cell_at dim) ns k n (cell_at dim n) l ∙ ap (cell_at dim) e)

-- the facets of cells are facets of one of them
facets-from : (space : List (List (List ℕ))) (dim : ℕ) (ns : List ℕ) (f : ℕ) → Contains (facets_of_all space dim ns) f → (c : ℕ) × Contains ns c × Contains (facets_of space (dim + 1) c) f
facets-from space dim ns f has =
    let p : ℕ → Bool = λ g. list_any (λ c. holds (facets_of space (dim + 1) c) g) ns in
    let both : (p f ≡ true) × (holds (upto (count space dim)) f ≡ true) = and_parts (p f) (holds (upto (count space dim)) f) (sym (holds-filter p (upto (count space dim)) f) ∙ Contains-holds (filter p (upto (count space dim))) f has) in
    let a = any-some (λ c. holds (facets_of space (dim + 1) c) f) ns both.0 in
    (a.0, In-Contains a.1, holds-Contains (facets_of space (dim + 1) a.0) f a.2)

facets-has : (space : List (List (List ℕ))) (dim : ℕ) (ns : List ℕ) (c f : ℕ) → IsSpace space → All (λ m. (1 ≤ m) × (m ≤ count space (dim + 1))) ns → Contains ns c → Contains (facets_of space (dim + 1) c) f → Contains (facets_of_all space dim ns) f
facets-has space dim ns c f h valid has below =
    let p : ℕ → Bool = λ g. list_any (λ m. holds (facets_of space (dim + 1) m) g) ns in
    let v : (1 ≤ c) × (c ≤ count space (dim + 1)) = subst (λ (m : ℕ). (1 ≤ m) × (m ≤ count space (dim + 1))) has.2 (valid has.0 c has.1) in
    let w : (1 ≤ f) × (f ≤ count space (dim + 1 - 1)) = facet_within space (dim + 1) c f h (omega arith) v.0 v.1 below in
    let e : dim + 1 - 1 ≡ dim = omega arith in
    let high : f ≤ count space dim = subst (λ (m : ℕ). f ≤ count space m) e w.1 in
    let test : p f ≡ true = list_any_at (λ m. holds (facets_of space (dim + 1) m) f) ns has.0 c has.1 (ap (λ (m : ℕ). holds (facets_of space (dim + 1) m) f) has.2 ∙ Contains-holds (facets_of space (dim + 1) c) f below) in
    holds-Contains (filter p (upto (count space dim))) f (holds-filter p (upto (count space dim)) f ∙ (ap (λ (b : Bool). b && holds (upto (count space dim)) f) test ∙ holds-upto (count space dim) f w.0 high))

-- all cells of a closure are below, where its first cells are
closure-below : (space : List (List (List ℕ))) (dim cell e : ℕ) (ns : List ℕ) → ((c : ℕ) → Contains ns c → IsBelow space dim cell e c) → (d n : ℕ) → Contains (closure space e ns) (cell_at d n) → IsBelow space dim cell d n
closure-below space dim cell zero ns h d n has =
    let at : (d ≡ zero) × Contains ns n = in_cells zero ns d n has in
    subst (λ (m : ℕ). IsBelow space dim cell m n) (sym at.0) (h n at.1)
closure-below space dim cell (suc e) ns h d n has =
    let lower : List ℕ = facets_of_all space e ns in
    elim (Contains-append_cases (closure space e lower) (map (cell_at (suc e)) ns) (cell_at d n) has) [
      | inl l ↦ closure-below space dim cell e lower
          (λ f in_lower.
          let a : (c : ℕ) × Contains ns c × Contains (facets_of space (e + 1) c) f = facets-from space e ns f in_lower in
          let s : e + 1 ≡ suc e = omega arith in
          facet e a.0 f (h a.0 a.1) (subst (λ (m : ℕ). Contains (facets_of space m a.0) f) s a.2)) d n l
      | inr r ↦
          let at : (d ≡ suc e) × Contains ns n = in_cells (suc e) ns d n r in
          subst (λ (m : ℕ). IsBelow space dim cell m n) (sym at.0) (h n at.1)
    ]

-- a closure has its first cells
closure-first : (space : List (List (List ℕ))) (e : ℕ) (ns : List ℕ) (n : ℕ) → Contains ns n → Contains (closure space e ns) (cell_at e n)
closure-first space zero ns n h = cells_has zero ns n h
closure-first space (suc e) ns n h = Contains-append_right (closure space e (facets_of_all space e ns)) (map (cell_at (suc e)) ns) (cell_at (suc e) n) (cells_has (suc e) ns n h)

-- and the facets of all its cells
closure-facets : (space : List (List (List ℕ))) (e : ℕ) (ns : List ℕ) → IsSpace space → All (λ m. (1 ≤ m) × (m ≤ count space e)) ns → (d c f : ℕ) → Contains (closure space e ns) (cell_at (suc d) c) → Contains (facets_of space (suc d) c) f
    → Contains (closure space e ns) (cell_at d f)
closure-facets space zero ns h valid d c f has below = let at : (suc d ≡ zero) × Contains ns c = in_cells zero ns (suc d) c has in let e : suc d ≡ zero = at.0 in absurd (omega arith)
closure-facets space (suc e) ns h valid d c f has below =
    let lower : List ℕ = facets_of_all space e ns in
    let s : suc e ≡ e + 1 = omega arith in
    let valid' : All (λ m. (1 ≤ m) × (m ≤ count space (e + 1))) ns = subst (λ (k : ℕ). All (λ m. (1 ≤ m) × (m ≤ count space k)) ns) s valid in
    Contains-append_left (closure space e lower) (map (cell_at (suc e)) ns) (cell_at d f)
    (elim (Contains-append_cases (closure space e lower) (map (cell_at (suc e)) ns) (cell_at (suc d) c) has) [
      | inl l ↦ closure-facets space e lower h (facets_within space e ns) d c f l below
      | inr r ↦
          let at : (suc d ≡ suc e) × Contains ns c = in_cells (suc e) ns (suc d) c r in
          let same : d ≡ e = let q : suc d ≡ suc e = at.0 in omega arith in
          let s' : suc d ≡ e + 1 = omega arith in
          subst (λ (m : ℕ). Contains (closure space e lower) (cell_at m f)) (sym same)
          (closure-first space e lower f (facets-has space e ns c f h valid' at.1 (subst (λ (m : ℕ). Contains (facets_of space m c) f) s' below)))
    ])

pub closed_cell-least : (space : List (List (List ℕ))) (dim cell : ℕ) → IsSpace space → 1 ≤ cell → cell ≤ count space dim → (d n : ℕ)
    → (Contains (closed_cell space dim cell) (cell_at d n) → IsBelow space dim cell d n) × (IsBelow space dim cell d n → Contains (closed_cell space dim cell) (cell_at d n))
closed_cell-least space dim cell h low high d n = (closure-below space dim cell dim (cell ∷ []) only d n, has d n)
  where
    only : (c : ℕ) → Contains (cell ∷ []) c → IsBelow space dim cell dim c
    only c (zero, l, e) = subst (IsBelow space dim cell dim) e itself
    only c (suc k, l, e) = absurd (omega arith)

    one : All (λ m. (1 ≤ m) × (m ≤ count space dim)) (cell ∷ [])
    one zero z l = (low, high)
    one (suc k) z l = absurd (omega arith)

    has : (e m : ℕ) → IsBelow space dim cell e m → Contains (closed_cell space dim cell) (cell_at e m)
    has e m itself = closure-first space dim (cell ∷ []) cell (0, omega arith, refl)
    has e m (facet _ c _ b below) = closure-facets space dim (cell ∷ []) h one e c m (has (suc e) c b) below
