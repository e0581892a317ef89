-- Vertices that edges join.
use Rattle.std.proofs.Common.{inr, ℕ, List, ◌&&◌, arith}
use Rattle.std.specs.List.{flat_map}
use Rattle.number_lists.specs.Words.{upto, holds}
use Rattle.face_poset.specs.Poset.{IsCell, IsSpace, count, facets_of, cofaces_of}
use Rattle.number_lists.proofs.CallerLemmas.{In-filter, In-inside, filter-In, any-In, any-some, holds-In, In-holds, In-at, and-left, and-right, flat_map-In, In-flat_map, upto-In, In-upto}
use Rattle.regular_check.specs.Components.{vertices, share_edge}
use Rattle.number_lists.specs.Members.{In}
use Rattle.std.proofs.lemmas.Bool.{and_from}
use Rattle.regular_check.proofs.Cells.{facets-cell}
use Rattle.regular_check.proofs.Spreading.{AreNexts}

-- the vertices of the edges at a vertex
pub edge_nexts : (space : List (List (List ℕ))) (c : ℕ) → IsSpace space → In c (vertices space) → AreNexts (share_edge space) (vertices space) c (flat_map (facets_of space 1) (cofaces_of space 0 c))
edge_nexts space c h m =
    record {
      inside = λ y i. let r = flat_map-In (facets_of space 1) (cofaces_of space 0 c) i in ends_in r.0 y (edge r.0 r.1) r.2;
      steps = λ y i.
          let r = flat_map-In (facets_of space 1) (cofaces_of space 0 c) i in
          any-In (λ e. holds (facets_of space 1 e) c && holds (facets_of space 1 e) y) (edge r.0 r.1) (and_from (holds (facets_of space 1 r.0) c) (holds (facets_of space 1 r.0) y) (filter-In (λ d. holds (facets_of space 1 d) c) (upto (count space 1)) r.1) (In-holds r.2));
      others = λ z n e.
          let s = any-some (λ d. holds (facets_of space 1 d) c && holds (facets_of space 1 d) z) (upto (count space 1)) e in
          inr (In-flat_map (facets_of space 1) (In-filter (λ d. holds (facets_of space 1 d) c) s.1 (and-left (holds (facets_of space 1 s.0) c) (holds (facets_of space 1 s.0) z) s.2)) (holds-In (facets_of space 1 s.0) (and-right (holds (facets_of space 1 s.0) c) (holds (facets_of space 1 s.0) z) s.2)));
    }
  where
    edge : (e : ℕ) → In e (cofaces_of space 0 c) → In e (upto (count space 1))
    edge e i = In-inside (λ d. holds (facets_of space 1 d) c) (upto (count space 1)) i

    ends_in : (e y : ℕ) → In e (upto (count space 1)) → In y (facets_of space 1 e) → In y (vertices space)
    ends_in e y i k =
        let w = upto-In (count space 1) e i in
        let is : IsCell (count space 0) (facets_of space 1 e) = facets-cell space 1 e (count space 0) h (omega arith) w.0 w.1 (omega arith) in
        let a = In-at k in
        let v = is.within a.0 0 a.1 in
        In-upto (count space 0) y (omega (arith, v.0, a.2)) (omega (arith, v.1, a.2))
