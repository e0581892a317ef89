-- The facets of cells, and the rules that the cells of a regular space keep.
use Rattle.std.proofs.Common.{◌≡◌, ℕ, suc, ◌+◌, ◌-◌, ◌≤◌, List, [], true, length, get_or, refl, subst, arith}
use Rattle.std.specs.List.{list_any}
use Rattle.std.proofs.lemmas.Bool.{eqb-true}
use Rattle.number_lists.specs.Words.{upto, holds}
use Rattle.number_lists.specs.Members.{In}
use Rattle.number_lists.proofs.CallerLemmas.{any-In, any-some, In-filter, filter-In, In-upto, holds-In, In-holds, In-at, at-In}
use Rattle.face_poset.specs.Poset.{IsCell, IsSpace, count, facets_of}
use Rattle.face_poset.specs.Below.{facets_of_all}
use Rattle.regular_check.specs.Rules.{IsRegular, each_twice, connected, faces_count}
use Rattle.regular_check.proofs.CallerLemmas.{IsCopy, edge_copied, solid_copied}

module _ (space : List (List (List ℕ))) (hs : IsSpace space) where
  pub facets_cell : (d c : ℕ) → 1 ≤ c → c ≤ count space (suc d) → IsCell (count space d) (facets_of space (suc d) c)
  facets_cell d c low high =
      let e : suc d - 1 ≡ d = omega arith in
      subst (λ (n : ℕ). IsCell (count space n) (facets_of space (suc d) c)) e (hs.cells (suc d) (omega arith) (c - 1) [] (omega (arith, low, high)))

  pub facet_in : (d c f : ℕ) → 1 ≤ c → c ≤ count space (suc d) → In f (facets_of space (suc d) c) → (1 ≤ f) × (f ≤ count space d)
  facet_in d c f low high i =
      let is = facets_cell d c low high in
      let k = In-at i in
      let w = is.within k.0 0 k.1 in
      (omega (arith, w.0, k.2), omega (arith, w.1, k.2))

  pub first_facet : (d c : ℕ) → 1 ≤ c → c ≤ count space (suc d) → In (get_or (facets_of space (suc d) c) 0 0) (facets_of space (suc d) c)
  first_facet d c low high = at-In (facets_of space (suc d) c) 0 0 (omega (arith, (facets_cell d c low high).some))

  -- the facets of some cells
  pub all_facets-In : (d : ℕ) (cells : List ℕ) (y : ℕ) → In y (facets_of_all space d cells) → (c : ℕ) × In c cells × In y (facets_of space (suc d) c)
  all_facets-In d cells y i =
      let e : d + 1 ≡ suc d = omega arith in
      let s = any-some (λ c. holds (facets_of space (d + 1) c) y) cells (filter-In (λ f. list_any (λ c. holds (facets_of space (d + 1) c) f) cells) (upto (count space d)) i) in
      (s.0, s.1, subst (λ (n : ℕ). In y (facets_of space n s.0)) e (holds-In (facets_of space (d + 1) s.0) s.2))

  pub In-all_facets : (d : ℕ) (cells : List ℕ) (c y : ℕ) → In c cells → 1 ≤ c → c ≤ count space (suc d) → In y (facets_of space (suc d) c) → In y (facets_of_all space d cells)
  In-all_facets d cells c y m low high i =
      let e : suc d ≡ d + 1 = omega arith in
      let v = facet_in d c y low high i in
      In-filter (λ f. list_any (λ c. holds (facets_of space (d + 1) c) f) cells) (In-upto (count space d) y v.0 v.1)
      (any-In (λ c. holds (facets_of space (d + 1) c) y) m (In-holds (subst (λ (n : ℕ). In y (facets_of space n c)) e i)))

  -- ---- the rules

  -- all cells
  abbrev any : ℕ → ℕ → Type 0
  any d c = (1 ≤ c) × (c ≤ count space d)

  -- each cell is its own copy
  itself : IsCopy space space any (λ d c. c)
  itself =
      record {
        cell = λ d c p. p;
        down = λ d c f p i. facet_in d c f p.0 p.1 i;
        image = λ d c p. p;
        once = λ d a b p q e. e;
        to = λ d c f p i. i;
        from = λ d c y p i. (y, i, refl);
      }

  module _ (regular : IsRegular space) where
    pub two_ends_kept : (e : ℕ) → 1 ≤ e → e ≤ count space 1 → length (facets_of space 1 e) ≡ 2
    two_ends_kept e low high = eqb-true (length (facets_of space 1 e)) 2 (edge_copied space space any (λ d c. c) hs hs itself regular e (low, high))

    pub record SolidKept (c : ℕ) : Type 0 where
      pub twice : each_twice space 2 (facets_of space 3 c) ≡ true
      pub connected_too : connected space 2 (facets_of space 3 c) ≡ true
      pub euler : faces_count space c 0 + faces_count space c 2 ≡ faces_count space c 1 + 2

    pub solid_kept : (c : ℕ) → 1 ≤ c → c ≤ count space 3 → SolidKept c
    solid_kept c low high =
        let k = solid_copied space space any (λ d c. c) hs hs itself regular c (low, high) in
        record { twice = k.0; connected_too = k.1; euler = eqb-true (faces_count space c 0 + faces_count space c 2) (faces_count space c 1 + 2) k.2 }
