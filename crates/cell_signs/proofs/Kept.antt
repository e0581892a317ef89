-- The facets of cells, and the rules that the cells of a regular space keep.
use Rattle.std.proofs.Common.{◌≡◌, ℕ, suc, ◌+◌, ◌-◌, ◌≤◌, List, [], true, length, refl, subst, arith}
use Rattle.std.specs.List.{list_any}
use Rattle.std.proofs.lemmas.Bool.{eqb-true}
use Rattle.number_lists.specs.Words.{upto, holds}
use Rattle.number_lists.specs.Members.{In}
use Rattle.number_lists.proofs.CallerLemmas.{any-In, any-some, In-filter, filter-In, In-upto, holds-In, In-holds, In-at}
use Rattle.face_poset.specs.Poset.{IsCell, IsSpace, count, facets_of}
use Rattle.face_poset.specs.Below.{facets_of_all}
use Rattle.regular_check.specs.Rules.{IsRegular, each_twice}
use Rattle.regular_check.proofs.CallerLemmas.{IsCopy, edge_copied, solid_copied}

pub facets-cell : (space : List (List (List ℕ))) (d c : ℕ) → IsSpace space → 1 ≤ c → c ≤ count space (suc d) → IsCell (count space d) (facets_of space (suc d) c)
facets-cell space d c hs low high =
    let e : suc d - 1 ≡ d = omega arith in
    subst (λ (n : ℕ). IsCell (count space n) (facets_of space (suc d) c)) e (hs.cells (suc d) (omega arith) (c - 1) [] (omega (arith, low, high)))

pub cell-In : (most : ℕ) (xs : List ℕ) → IsCell most xs → (f : ℕ) → In f xs → (1 ≤ f) × (f ≤ most)
cell-In most xs is f i =
    let k = In-at i in
    let w = is.within k.0 0 k.1 in
    (omega (arith, w.0, k.2), omega (arith, w.1, k.2))

module _ (space : List (List (List ℕ))) (hs : IsSpace space) where
  facet_in : (d c f : ℕ) → 1 ≤ c → c ≤ count space (suc d) → In f (facets_of space (suc d) c) → (1 ≤ f) × (f ≤ count space d)
  facet_in d c f low high i = cell-In (count space d) (facets_of space (suc d) c) (facets-cell space d c hs low high) f i

  -- the facets of some cells
  pub all_facets-In : (d : ℕ) (cells : List ℕ) (y : ℕ) → In y (facets_of_all space d cells) → (c : ℕ) × In c cells × In y (facets_of space (suc d) c)
  all_facets-In d cells y i =
      let e : d + 1 ≡ suc d = omega arith in
      let s = any-some (λ c. holds (facets_of space (d + 1) c) y) cells (filter-In (λ f. list_any (λ c. holds (facets_of space (d + 1) c) f) cells) (upto (count space d)) i) in
      (s.0, s.1, subst (λ (n : ℕ). In y (facets_of space n s.0)) e (holds-In (facets_of space (d + 1) s.0) s.2))

  pub In-all_facets : (d : ℕ) (cells : List ℕ) (c y : ℕ) → In c cells → 1 ≤ c → c ≤ count space (suc d) → In y (facets_of space (suc d) c) → In y (facets_of_all space d cells)
  In-all_facets d cells c y m low high i =
      let e : suc d ≡ d + 1 = omega arith in
      let v = facet_in d c y low high i in
      In-filter (λ f. list_any (λ c. holds (facets_of space (d + 1) c) f) cells) (In-upto (count space d) y v.0 v.1)
      (any-In (λ c. holds (facets_of space (d + 1) c) y) m (In-holds (subst (λ (n : ℕ). In y (facets_of space n c)) e i)))

  -- all cells
  abbrev any : ℕ → ℕ → Type 0
  any d c = (1 ≤ c) × (c ≤ count space d)

  -- each cell is its own copy
  itself : IsCopy space space any (λ d c. c)
  itself =
      record {
        cell = λ d c p. p;
        down = λ d c f p i. facet_in d c f p.0 p.1 i;
        image = λ d c p. p;
        once = λ d a b p q e. e;
        to = λ d c f p i. i;
        from = λ d c y p i. (y, i, refl);
      }

  pub two_ends_kept : IsRegular space → (e : ℕ) → 1 ≤ e → e ≤ count space 1 → length (facets_of space 1 e) ≡ 2
  two_ends_kept regular e low high = eqb-true (length (facets_of space 1 e)) 2 (edge_copied space space any (λ d c. c) hs hs itself regular e (low, high))

  pub twice_kept : IsRegular space → (c : ℕ) → 1 ≤ c → c ≤ count space 3 → each_twice space 2 (facets_of space 3 c) ≡ true
  twice_kept regular c low high = (solid_copied space space any (λ d c. c) hs hs itself regular c (low, high)).0
