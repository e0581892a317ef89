-- The computed test for maximal fields is exact.
use Rattle.std.proofs.Common.{◌≡◌, inl, inr, ℕ, zero, suc, ◌+◌, ◌<◌, ◌≤◌, List, true, false, ◌&&◌, not, ltb, leb, arith}
use Rattle.std.specs.List.{list_all}
use Rattle.std.proofs.lemmas.Bool.{and_parts, and_from, or_cases, or_left, or_right, not-true, not_from_false, ltb-true, lt-ltb, leb-true, le-leb, cases_Bool, both_ways}
use Rattle.face_poset.specs.declared.cells.Pair.{Pair}
use Rattle.number_lists.specs.Words.{upto, holds}
use Rattle.face_poset.specs.Poset.{count, facets_of, cofaces_of}
use Rattle.number_lists.proofs.CallerLemmas.{In-filter, filter-In, In-inside, all-In, In-all, holds-In, In-holds, In-upto, upto-In}
use Rattle.vector_field.specs.Pairs.{pair, is_used, is_incident, unpaired}
use Rattle.vector_field.specs.Paths.{GradientPath, has_path}
use Rattle.vector_field.specs.Maximal.{IsMaximal, is_settled, is_maximal_at, is_maximal, MaximalIsExact}
use Rattle.number_lists.specs.Members.{In}
use Rattle.vector_field.proofs.Paths.{path_is_exact}

-- what it is to be incident
pub record Incident (space : List (List (List ℕ))) (p : Pair) : Type 0 where
  pub low : p.dim < 3
  pub first : 1 ≤ p.lower
  pub last : p.lower ≤ count space p.dim
  pub upper_first : 1 ≤ p.upper
  pub upper_last : p.upper ≤ count space (p.dim + 1)
  pub facet : In p.lower (facets_of space (p.dim + 1) p.upper)

module _ (space : List (List (List ℕ))) where
  pub incident-true : (p : Pair) → is_incident space p ≡ true → Incident space p
  incident-true p e =
      let a = and_parts (ltb p.dim 3) (leb 1 p.lower && (leb p.lower (count space p.dim) && (leb 1 p.upper && (leb p.upper (count space (p.dim + 1)) && holds (facets_of space (p.dim + 1) p.upper) p.lower)))) e in
      let b = and_parts (leb 1 p.lower) (leb p.lower (count space p.dim) && (leb 1 p.upper && (leb p.upper (count space (p.dim + 1)) && holds (facets_of space (p.dim + 1) p.upper) p.lower))) a.1 in
      let d = and_parts (leb p.lower (count space p.dim)) (leb 1 p.upper && (leb p.upper (count space (p.dim + 1)) && holds (facets_of space (p.dim + 1) p.upper) p.lower)) b.1 in
      let f = and_parts (leb 1 p.upper) (leb p.upper (count space (p.dim + 1)) && holds (facets_of space (p.dim + 1) p.upper) p.lower) d.1 in
      let g = and_parts (leb p.upper (count space (p.dim + 1))) (holds (facets_of space (p.dim + 1) p.upper) p.lower) f.1 in
      record {
        low = ltb-true p.dim 3 a.0;
        first = leb-true 1 p.lower b.0;
        last = leb-true p.lower (count space p.dim) d.0;
        upper_first = leb-true 1 p.upper f.0;
        upper_last = leb-true p.upper (count space (p.dim + 1)) g.0;
        facet = holds-In (facets_of space (p.dim + 1) p.upper) g.1;
      }

  pub incident-from : (p : Pair) → Incident space p → is_incident space p ≡ true
  incident-from p h =
      and_from (ltb p.dim 3) _ (lt-ltb p.dim 3 h.low)
      (and_from (leb 1 p.lower) _ (le-leb 1 p.lower h.first)
      (and_from (leb p.lower (count space p.dim)) _ (le-leb p.lower (count space p.dim) h.last)
      (and_from (leb 1 p.upper) _ (le-leb 1 p.upper h.upper_first)
      (and_from (leb p.upper (count space (p.dim + 1))) _ (le-leb p.upper (count space (p.dim + 1)) h.upper_last) (In-holds h.facet)))))

  -- the cofaces of a cell are the cells with it as a facet
  pub In-cofaces : (dim cell n : ℕ) → 1 ≤ n → n ≤ count space (dim + 1) → In cell (facets_of space (dim + 1) n) → In n (cofaces_of space dim cell)
  In-cofaces dim cell n a b m = In-filter (λ k. holds (facets_of space (dim + 1) k) cell) (In-upto (count space (dim + 1)) n a b) (In-holds m)

  pub record Coface (dim cell n : ℕ) : Type 0 where
    pub first : 1 ≤ n
    pub last : n ≤ count space (dim + 1)
    pub facet : In cell (facets_of space (dim + 1) n)

  pub cofaces-In : (dim cell n : ℕ) → In n (cofaces_of space dim cell) → Coface dim cell n
  cofaces-In dim cell n m =
      let u = upto-In (count space (dim + 1)) n (In-inside (λ k. holds (facets_of space (dim + 1) k) cell) (upto (count space (dim + 1))) m) in
      record { first = u.0; last = u.1; facet = holds-In (facets_of space (dim + 1) n) (filter-In (λ k. holds (facets_of space (dim + 1) k) cell) (upto (count space (dim + 1))) m) }

  pub incident-coface : (dim lower upper : ℕ) → dim < 3 → 1 ≤ lower → lower ≤ count space dim → In upper (cofaces_of space dim lower) → Incident space (pair dim lower upper)
  incident-coface dim lower upper d a b m = let k = cofaces-In dim lower upper m in record { low = d; first = a; last = b; upper_first = k.first; upper_last = k.last; facet = k.facet }

module _ (space : List (List (List ℕ))) (pairs : List Pair) where
  settled : (dim lower upper : ℕ) → is_settled space pairs dim lower upper ≡ true → is_used pairs (dim + 1) upper ≡ false → GradientPath space pairs dim upper lower
  settled dim lower upper e n =
      elim (or_cases (is_used pairs (dim + 1) upper) (has_path space pairs dim upper lower) e) [
        | inl k ↦ absurd (both_ways (is_used pairs (dim + 1) upper) n k)
        | inr k ↦ (path_is_exact space pairs dim upper lower).0 k
      ]

  at-true : (dim : ℕ) → is_maximal_at space pairs dim ≡ true → (lower upper : ℕ) → Incident space (pair dim lower upper) → is_used pairs dim lower ≡ false → is_used pairs (dim + 1) upper ≡ false → GradientPath space pairs dim upper lower
  at-true dim e lower upper i a b =
      let m : In lower (unpaired pairs dim (count space dim)) = In-filter (λ n. not (is_used pairs dim n)) (In-upto (count space dim) lower i.first i.last) (not_from_false (is_used pairs dim lower) a) in
      settled dim lower upper (all-In (is_settled space pairs dim lower) (all-In (λ l. list_all (is_settled space pairs dim l) (cofaces_of space dim l)) e m) (In-cofaces space dim lower upper i.upper_first i.upper_last i.facet)) b

  at-from : (dim : ℕ) → dim < 3 → IsMaximal space pairs → is_maximal_at space pairs dim ≡ true
  at-from dim l h =
      In-all (λ a. list_all (is_settled space pairs dim a) (cofaces_of space dim a)) (unpaired pairs dim (count space dim))
      (λ a m. In-all (is_settled space pairs dim a) (cofaces_of space dim a)
      (λ b n.
      let u = upto-In (count space dim) a (In-inside (λ k. not (is_used pairs dim k)) (upto (count space dim)) m) in
      let free : is_used pairs dim a ≡ false = not-true (is_used pairs dim a) (filter-In (λ k. not (is_used pairs dim k)) (upto (count space dim)) m) in
      elim (cases_Bool (is_used pairs (dim + 1) b)) [
        | inl k ↦ or_left (is_used pairs (dim + 1) b) (has_path space pairs dim b a) k
        | inr k ↦
            or_right (is_used pairs (dim + 1) b) (has_path space pairs dim b a)
            ((path_is_exact space pairs dim b a).1 (h dim a b (incident-from space (pair dim a b) (incident-coface space dim a b l u.0 u.1 n)) free k))
      ]))

  exact-true : is_maximal space pairs ≡ true → IsMaximal space pairs
  exact-true e dim lower upper i a b =
      let x = and_parts (is_maximal_at space pairs 0) (is_maximal_at space pairs 1 && is_maximal_at space pairs 2) e in
      let y = and_parts (is_maximal_at space pairs 1) (is_maximal_at space pairs 2) x.1 in
      by dim (incident-true space (pair dim lower upper) i) a b x.0 y.0 y.1
    where
      by : (d : ℕ) → Incident space (pair d lower upper) → is_used pairs d lower ≡ false → is_used pairs (d + 1) upper ≡ false
          → is_maximal_at space pairs 0 ≡ true → is_maximal_at space pairs 1 ≡ true → is_maximal_at space pairs 2 ≡ true → GradientPath space pairs d upper lower
      by zero h j k p q r = at-true 0 p lower upper h j k
      by (suc zero) h j k p q r = at-true 1 q lower upper h j k
      by (suc (suc zero)) h j k p q r = at-true 2 r lower upper h j k
      by (suc (suc (suc d))) h j k p q r = absurd (omega (arith, h.low))

  exact-from : IsMaximal space pairs → is_maximal space pairs ≡ true
  exact-from h =
      and_from (is_maximal_at space pairs 0) (is_maximal_at space pairs 1 && is_maximal_at space pairs 2) (at-from 0 (omega arith) h)
      (and_from (is_maximal_at space pairs 1) (is_maximal_at space pairs 2) (at-from 1 (omega arith) h) (at-from 2 (omega arith) h))

pub maximal_is_exact : MaximalIsExact
maximal_is_exact space pairs = (exact-true space pairs, exact-from space pairs)
