-- The search finds exactly what is connected with the first cell.
use Rattle.std.proofs.Common.{◌≡◌, ◌⊎◌, inl, inr, ℕ, ◌+◌, ◌-◌, ◌≤◌, List, [], ◌∷◌, true, eqb, map, length, get_or, refl, ap, sym, ◌∙◌, subst, arith}
use Rattle.std.specs.List.{list_all, sum}
use Rattle.std.proofs.lemmas.Bool.{eqb-true}
use Rattle.number_lists.specs.Words.{holds}
use Rattle.face_poset.specs.Poset.{IsCell, IsSpace, count, facets_of}
use Rattle.regular_check.specs.declared.tally.Tally.{Tally}
use Rattle.number_lists.specs.Reach.{reaches}
use Rattle.regular_check.specs.Rules.{sharing, meet, each_twice, connected}
use Rattle.regular_check.specs.Tally.{tally_at, IsTally, AreOthers, other}
use Rattle.number_lists.specs.Members.{In, here, there}
use Rattle.number_lists.proofs.CallerLemmas.{In-filter, filter-In, In-inside, any-In, any-some, all-In, In-holds, In-at, at-In}
use Rattle.regular_check.proofs.Tallies.{all_same}
use Rattle.regular_check.proofs.Cells.{facets-cell}
use Rattle.regular_check.proofs.Spreading.{AreNexts}

-- ---- two numbers and their sum

pub sum_two : (a b : ℕ) → sum (a ∷ b ∷ []) ≡ a + b
sum_two a b = omega arith

other_in : (xs : List ℕ) (c : ℕ) → length xs ≡ 2 → In c xs → In (sum xs - c) xs
other_in [] c e h = absurd (omega arith)
other_in (a ∷ []) c e h = absurd (omega arith)
other_in (a ∷ b ∷ []) c e here = let s : sum (a ∷ b ∷ []) - a ≡ b = omega (arith, sum_two a b) in subst (λ (z : ℕ). In z (a ∷ b ∷ [])) (sym s) (there here)
other_in (a ∷ b ∷ []) c e (there here) = let s : sum (a ∷ b ∷ []) - b ≡ a = omega (arith, sum_two a b) in subst (λ (z : ℕ). In z (a ∷ b ∷ [])) (sym s) here
other_in (a ∷ b ∷ []) c e (there (there h)) = elim h [ ]
other_in (a ∷ b ∷ d ∷ xs) c e h = absurd (omega arith)

other_is : (xs : List ℕ) (c z : ℕ) → length xs ≡ 2 → In c xs → In z xs → (z ≡ c) ⊎ (z ≡ sum xs - c)
other_is [] c z e h k = absurd (omega arith)
other_is (a ∷ []) c z e h k = absurd (omega arith)
other_is (a ∷ b ∷ []) c z e here here = inl refl
other_is (a ∷ b ∷ []) c z e here (there here) = let s : b ≡ sum (a ∷ b ∷ []) - a = omega (arith, sum_two a b) in inr s
other_is (a ∷ b ∷ []) c z e (there here) here = let s : a ≡ sum (a ∷ b ∷ []) - b = omega (arith, sum_two a b) in inr s
other_is (a ∷ b ∷ []) c z e (there here) (there here) = inl refl
other_is (a ∷ b ∷ []) c z e (there (there h)) k = elim h [ ]
other_is (a ∷ b ∷ []) c z e here (there (there k)) = elim k [ ]
other_is (a ∷ b ∷ []) c z e (there here) (there (there k)) = elim k [ ]
other_is (a ∷ b ∷ d ∷ xs) c z e h k = absurd (omega arith)

-- ---- across a facet

-- where each facet is a facet of exactly two, two of the cells have it
pub two_sharing : (space : List (List (List ℕ))) (dim : ℕ) (cells : List ℕ) (c f : ℕ) → each_twice space dim cells ≡ true → In c cells → In f (facets_of space dim c) → length (sharing space dim cells f) ≡ 2
two_sharing space dim cells c f e m k =
    eqb-true (length (sharing space dim cells f)) 2 (all-In (λ g. eqb (length (sharing space dim cells g)) 2) (all-In (λ d. list_all (λ g. eqb (length (sharing space dim cells g)) 2) (facets_of space dim d)) e m) k)

module _ (space : List (List (List ℕ))) (dim : ℕ) (cells : List ℕ) (tallies : List Tally) where
  -- what is known of the tallies
  pub record IsReady : Type 0 where
    pub valid : IsSpace space
    pub low : 1 ≤ dim
    pub cell : IsCell (count space dim) cells
    pub few : count space dim ≤ 60000
    pub room : count space (dim - 1) ≤ length tallies
    pub tally : IsTally space dim cells tallies
    pub twice : each_twice space dim cells ≡ true

  pub cell_low : IsReady → (c : ℕ) → In c cells → (1 ≤ c) × (c ≤ count space dim)
  cell_low h c m = let a = In-at m in let w = h.cell.within a.0 0 a.1 in (omega (arith, w.0, a.2), omega (arith, w.1, a.2))

  is_cell : IsReady → (c : ℕ) → In c cells → IsCell (length tallies) (facets_of space dim c)
  is_cell h c m = let w = cell_low h c m in facets-cell space dim c (length tallies) h.valid h.low w.0 w.1 h.room

  -- two of the cells have the facet
  pub pair : IsReady → (c f : ℕ) → In c cells → In f (facets_of space dim c) → length (sharing space dim cells f) ≡ 2
  pair h c f m k = two_sharing space dim cells c f h.twice m k

  pub shares : (c f : ℕ) → In c cells → In f (facets_of space dim c) → In c (sharing space dim cells f)
  shares c f m k = In-filter (λ d. holds (facets_of space dim d) f) m (In-holds k)

  pub sum_is : IsReady → (c f : ℕ) → In c cells → In f (facets_of space dim c) → (tally_at tallies (f - 1)).sum ≡ sum (sharing space dim cells f)
  sum_is h c f m k =
      let a = In-at k in
      let w = (is_cell h c m).within a.0 0 a.1 in
      let low : 1 ≤ f = omega (arith, w.0, a.2) in
      let high : f ≤ length tallies = omega (arith, w.1, a.2) in
      let e : f - 1 + 1 ≡ f = omega arith in
      ap (λ (y : Tally). y.sum) (h.tally (f - 1) (omega arith)) ∙ ap (λ (n : ℕ). sum (sharing space dim cells n)) e

  pub across_in : IsReady → (c f : ℕ) → In c cells → In f (facets_of space dim c) → In (other tallies c f) (sharing space dim cells f)
  across_in h c f m k =
      subst (λ (s : ℕ). In (s - c) (sharing space dim cells f)) (sym (sum_is h c f m k)) (other_in (sharing space dim cells f) c (pair h c f m k) (shares c f m k))

  pub across_cell : IsReady → (c f : ℕ) → In c cells → In f (facets_of space dim c) → In (other tallies c f) cells
  across_cell h c f m k = In-inside (λ d. holds (facets_of space dim d) f) cells (across_in h c f m k)

  across_meets : IsReady → (c f : ℕ) → In c cells → In f (facets_of space dim c) → meet space dim c (other tallies c f) ≡ true
  across_meets h c f m k = any-In (λ g. holds (facets_of space dim (other tallies c f)) g) k (filter-In (λ d. holds (facets_of space dim d) f) cells (across_in h c f m k))

  -- a cell that meets another is it, or lies across a facet of it
  pub meets_across : IsReady → (c z : ℕ) → In c cells → In z cells → meet space dim c z ≡ true → (z ≡ c) ⊎ In z (map (other tallies c) (facets_of space dim c))
  meets_across h c z m n e =
      let s = any-some (λ g. holds (facets_of space dim z) g) (facets_of space dim c) e in
      let f : ℕ = s.0 in
      let both = other_is (sharing space dim cells f) c z (pair h c f m s.1) (shares c f m s.1) (In-filter (λ d. holds (facets_of space dim d) f) n s.2) in
      elim both [
        | inl p ↦ inl p
        | inr p ↦ inr (subst (λ (y : ℕ). In y (map (other tallies c) (facets_of space dim c))) (sym (p ∙ ap (λ (t : ℕ). t - c) (sym (sum_is h c f m s.1)))) (In-map (other tallies c) s.1))
      ]
    where
      In-map : (g : ℕ → ℕ) {x : ℕ} {xs : List ℕ} → In x xs → In (g x) (map g xs)
      In-map g here = here
      In-map g (there i) = there (In-map g i)

  pub others_are : IsReady → (c most : ℕ) → In c cells → count space dim ≤ most → AreOthers tallies (facets_of space dim c) c most
  others_are h c most m room k d l =
      let f : ℕ = get_or (facets_of space dim c) k d in
      let i : In f (facets_of space dim c) = at-In (facets_of space dim c) k d l in
      let w = cell_low h (other tallies c f) (across_cell h c f m i) in
      (omega (arith, w.0), omega (arith, w.1, room), omega (arith, w.1, h.few))

  -- ---- the search

  map-In : (g : ℕ → ℕ) {y : ℕ} (xs : List ℕ) → In y (map g xs) → (x : ℕ) × In x xs × (y ≡ g x)
  map-In g [] h = elim h [ ]
  map-In g (x ∷ xs) here = (x, here, refl)
  map-In g (x ∷ xs) (there h) = let r = map-In g xs h in (r.0, there r.1, r.2)

  pub across_nexts : IsReady → (c : ℕ) → In c cells → AreNexts (meet space dim) cells c (map (other tallies c) (facets_of space dim c))
  across_nexts h c m = record {
    inside = λ y i. let q = map-In (other tallies c) (facets_of space dim c) i in subst (λ (z : ℕ). In z cells) (sym q.2) (across_cell h c q.0 m q.1);
    steps = λ y i. let q = map-In (other tallies c) (facets_of space dim c) i in subst (λ (z : ℕ). meet space dim c z ≡ true) (sym q.2) (across_meets h c q.0 m q.1);
    others = λ z n e. meets_across h c z m n e;
  }

  -- where all cells were found, they are connected
  pub connected_tells : (found : List ℕ) → ((y : ℕ) → holds found y ≡ reaches (meet space dim) cells (get_or cells 0 0) y) → list_all (holds found) cells ≡ connected space dim cells
  connected_tells found h = all_same (holds found) (reaches (meet space dim) cells (get_or cells 0 0)) cells (λ y m. h y)
