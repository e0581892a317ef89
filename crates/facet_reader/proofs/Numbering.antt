-- Labels and their numbers.
use Rattle.std.proofs.Common.{◌≡◌, ◌<◌, ◌≤◌, ℕ, List, [], ◌∷◌, length, map, get_or, sym, subst, Contains, All}
use Rattle.std.specs.List.{concat}
use Rattle.std.specs.List.Sorted.{IsStrictlyIncreasing}
use Rattle.number_lists.specs.Members.{In, here, there}
use Rattle.number_lists.specs.Cofaces.{IsRising}
use Rattle.number_lists.proofs.CallerLemmas.{at-In, map-In, In-left, In-right, In-Contains, Contains-In}
use Rattle.facet_reader.specs.Simplices.{vertices_of, number_in, numbered_row}
use Rattle.facet_reader.proofs.Ranked.{In-order, order-In, order-rises, rises-increasing, number-low, number-high}

concat-In : (rows : List (List ℕ)) (row : List ℕ) (x : ℕ) → In row rows → In x row → In x (concat rows)
concat-In [] row x i j = elim i [ ]
concat-In (r ∷ rows) row x here j = In-left (concat rows) j
concat-In (r ∷ rows) row x (there i) j = In-right r (concat-In rows row x i j)

pub vertices-rise : (rows : List (List ℕ)) (vs : List ℕ) → vs ≡ vertices_of rows → IsStrictlyIncreasing vs
vertices-rise rows vs e = subst IsStrictlyIncreasing (sym e) (rises-increasing (order-rises (concat rows)))

pub vertices-have : (rows : List (List ℕ)) (vs row : List ℕ) (i : ℕ) → vs ≡ vertices_of rows → i < length rows → row ≡ get_or rows i [] → (x : ℕ) → Contains row x → Contains vs x
vertices-have rows vs row i e l r x c =
    let j : In x row = Contains-In c in
    let k : In x (concat rows) = concat-In rows row x (subst (λ (w : List ℕ). In w rows) (sym r) (at-In rows i [] l)) j in
    In-Contains (subst (In x) (sym e) (In-order (concat rows) x k))

-- the lists of numbers increase, from 1 to the number of vertices
pub rows-rise : (rows : List (List ℕ)) (vs : List ℕ) → vs ≡ vertices_of rows → All (IsRising (length vs)) (map (numbered_row vs) rows)
rows-rise rows vs e k d l =
    let r = map-In (numbered_row vs) rows (at-In (map (numbered_row vs) rows) k d l) in
    subst (IsRising (length vs)) (sym r.2)
    (record {
      rises = rises-increasing (order-rises (map (number_in vs) r.0));
      within = λ j b m.
          let p = map-In (number_in vs) r.0 (order-In (map (number_in vs) r.0) (get_or (numbered_row vs r.0) j b) (at-In (numbered_row vs r.0) j b m)) in
          let i : In p.0 vs = subst (In p.0) (sym e) (In-order (concat rows) p.0 (concat-In rows r.0 p.0 r.1 p.1)) in
          subst (λ (n : ℕ). (1 ≤ n) × (n ≤ length vs)) (sym p.2) (number-low vs p.0, number-high vs p.0 i);
    })
