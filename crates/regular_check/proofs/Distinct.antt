-- Numbers put into a list one after another are as many as there are in the increasing list of the same numbers.
use Rattle.std.proofs.Common.{◌≡◌, ℕ, ◌+◌, ◌-◌, ◌<◌, ◌≤◌, List, [], ◌∷◌, ◌++◌, Bool, eqb, length, take, get_or, ap, ◌∙◌, arith, inl, inr}
use Rattle.std.specs.List.{IsDistinct, list_any, flat_map}
use Rattle.std.specs.List.Sorted.{IsStrictlyIncreasing}
use Rattle.std.proofs.lemmas.List.{take_more, append-nil}
use Rattle.std.proofs.lemmas.List.Concat.{flat_map-append}
use Rattle.std.proofs.lemmas.List.Kept.{IsStrictlyIncreasing-filter}
use Rattle.number_lists.specs.Words.{upto, holds}
use Rattle.face_poset.specs.Poset.{IsCell, IsSpace, count, facets_of}
use Rattle.face_poset.specs.Below.{facets_of_all}
use Rattle.number_lists.proofs.CallerLemmas.{increasing-upto, holds-upto, distinct_rising, In-filter, filter-In, any-In, any-some, holds-In, In-holds, In-at, AreMore, are_more, length-inside, inserted_all-append, flat_map-In, In-flat_map}
use Rattle.number_lists.specs.Found.{inserted_all}
use Rattle.number_lists.specs.Members.{In}
use Rattle.regular_check.proofs.Cells.{facets-cell}

-- a list of different numbers with the members of an increasing one is as long
pub same_length : (xs ys : List ℕ) → IsDistinct eqb xs → IsStrictlyIncreasing ys → ((y : ℕ) → In y xs → In y ys) → ((y : ℕ) → In y ys → In y xs) → length xs ≡ length ys
same_length xs ys d r f g =
    let a : length xs ≤ length ys = length-inside xs ys d f in
    let b : length ys ≤ length xs = length-inside ys xs (distinct_rising ys r) g in
    omega (arith, a, b)

none_twice : IsDistinct eqb []
unfolding IsDistinct
none_twice = tt

-- a number of a list of facets
pub cell-In : (most : ℕ) (xs : List ℕ) → IsCell most xs → (c : ℕ) → In c xs → (1 ≤ c) × (c ≤ most)
cell-In most xs h c m = let a = In-at m in let w = h.within a.0 0 a.1 in (omega (arith, w.0, a.2), omega (arith, w.1, a.2))

-- one cell more
pub facets-more : (f : ℕ → List ℕ) (before xs : List ℕ) (i : ℕ) → i < length xs → inserted_all before (flat_map f (take (i + 1) xs)) ≡ inserted_all (inserted_all before (flat_map f (take i xs))) (f (get_or xs i 0))
facets-more f before xs i l =
    ap (λ (ys : List ℕ). inserted_all before (flat_map f ys)) (take_more xs i 0 l)
    ∙ (ap (inserted_all before) (flat_map-append f (take i xs) (get_or xs i 0 ∷ []))
    ∙ (ap (λ (ys : List ℕ). inserted_all before (flat_map f (take i xs) ++ ys)) (append-nil (f (get_or xs i 0)))
    ∙ inserted_all-append before (flat_map f (take i xs)) (f (get_or xs i 0))))

module _ (space : List (List (List ℕ))) (dim : ℕ) (cells : List ℕ) where
  -- the cells have the dimension dim + 1
  abbrev AreCells : Type 0
  AreCells = (c : ℕ) → In c cells → (1 ≤ c) × (c ≤ count space (dim + 1))

  abbrev shared : ℕ → Bool
  shared y = list_any (λ c. holds (facets_of space (dim + 1) c) y) cells

  pub all_facets-In : (y : ℕ) → In y (facets_of_all space dim cells) → (c : ℕ) × In c cells × In y (facets_of space (dim + 1) c)
  all_facets-In y i =
      let s = any-some (λ c. holds (facets_of space (dim + 1) c) y) cells (filter-In shared (upto (count space dim)) i) in
      (s.0, s.1, holds-In (facets_of space (dim + 1) s.0) s.2)

  pub In-all_facets : IsSpace space → AreCells → (c y : ℕ) → In c cells → In y (facets_of space (dim + 1) c) → In y (facets_of_all space dim cells)
  In-all_facets h low c y m i =
      let w = low c m in
      let e : dim + 1 - 1 ≡ dim = omega arith in
      let v = cell-In (count space dim) (facets_of space (dim + 1) c) (facets-cell space (dim + 1) c (count space dim) h (omega arith) w.0 w.1 (omega (arith, ap (count space) e))) y i in
      In-filter shared (holds-In (upto (count space dim)) (holds-upto (count space dim) y v.0 v.1)) (any-In (λ d. holds (facets_of space (dim + 1) d) y) m (In-holds i))

  -- the facets of the cells, put into an empty list, are as many as there are
  pub length-facets : (all : List ℕ) → ((y : ℕ) → In y all → In y (facets_of_all space dim cells)) → ((y : ℕ) → In y (facets_of_all space dim cells) → In y all) → length (inserted_all [] all) ≡ length (facets_of_all space dim cells)
  length-facets all f g =
      let more : AreMore [] all (inserted_all [] all) = are_more [] all in
      same_length (inserted_all [] all) (facets_of_all space dim cells) (more.distinct none_twice) (IsStrictlyIncreasing-filter shared (upto (count space dim)) (increasing-upto (count space dim)))
      (λ y i. elim (more.only y i) [ inl k ↦ elim k [ ] | inr k ↦ f y k ])
      (λ y i. more.added y (g y i))

module _ (space : List (List (List ℕ))) (disks : List ℕ) (h : IsSpace space) (is : IsCell (count space 2) disks) where
  -- the edges of 2-cells
  pub length-edges : length (inserted_all [] (flat_map (facets_of space 2) disks)) ≡ length (facets_of_all space 1 disks)
  length-edges =
      length-facets space 1 disks (flat_map (facets_of space 2) disks)
      (λ y i. let r = flat_map-In (facets_of space 2) disks i in In-all_facets space 1 disks h (cell-In (count space 2) disks is) r.0 y r.1 r.2)
      (λ y i. let r = all_facets-In space 1 disks y i in In-flat_map (facets_of space 2) r.1 r.2)

  edges_low : (e : ℕ) → In e (facets_of_all space 1 disks) → (1 ≤ e) × (e ≤ count space 1)
  edges_low e i =
      let r = all_facets-In space 1 disks e i in
      let w = cell-In (count space 2) disks is r.0 r.1 in
      cell-In (count space 1) (facets_of space 2 r.0) (facets-cell space 2 r.0 (count space 1) h (omega arith) w.0 w.1 (omega arith)) e r.2

  -- the vertices of their edges
  pub length-vertices : length (inserted_all [] (flat_map (λ d. flat_map (facets_of space 1) (facets_of space 2 d)) disks)) ≡ length (facets_of_all space 0 (facets_of_all space 1 disks))
  length-vertices =
      let edges : List ℕ = facets_of_all space 1 disks in
      let vertices_of : ℕ → List ℕ = λ d. flat_map (facets_of space 1) (facets_of space 2 d) in
      length-facets space 0 edges (flat_map vertices_of disks)
      (λ y i.
      let r = flat_map-In vertices_of disks i in
      let q = flat_map-In (facets_of space 1) (facets_of space 2 r.0) r.2 in
      In-all_facets space 0 edges h edges_low q.0 y (In-all_facets space 1 disks h (cell-In (count space 2) disks is) r.0 q.0 r.1 q.1) q.2)
      (λ y i.
      let q = all_facets-In space 0 edges y i in
      let r = all_facets-In space 1 disks q.0 q.1 in
      In-flat_map vertices_of r.1 (In-flat_map (facets_of space 1) r.2 q.2))
