-- The space of a partial order, from what was read to what is counted.
use Rattle.std.proofs.Common.{◌≡◌, ◌<◌, ◌≤◌, ◌+◌, ◌-◌, ℕ, zero, suc, List, [], ◌∷◌, length, map, get_or, refl, ap, sym, ◌∙◌, subst, arith, All, Bool, true, Result, Ok, Err}
use Rattle.std.specs.List.{concat, range_with_len}
use Rattle.std.proofs.lemmas.List.{length-map}
use Rattle.number_lists.specs.Words.{upto}
use Rattle.number_lists.specs.Members.{In}
use Rattle.number_lists.proofs.CallerLemmas.{In-inside, upto-In, at-In, map-In}
use Rattle.face_poset.specs.Poset.{Layers, cell_count}
use Rattle.regular_check.specs.Rules.{IsRegular}
use Rattle.gap_text.specs.Value.{Value}
use Rattle.facet_reader.specs.declared.fault.FacetFault.{FacetFault}
use Rattle.facet_reader.specs.declared.fault.FacetFault.TheVariants.{TooManyCells}
use Rattle.facet_reader.specs.SetSpaces.{sets_of, set_space, SetSpacesAreRegular}
use Rattle.facet_reader.specs.Simplices.{limited}
use Rattle.facet_reader.specs.Orders.{go_on, order_of, is_below, is_chain, order_complex, poset_of}
use Rattle.facet_reader.specs.OrderLaws.{AreRelations}
use Rattle.facet_reader.specs.Places.{place_of, AreSets, IsComplex}
use Rattle.facet_reader.specs.Chains.{pairs_of, IsOrder, points_above, all_above, row_at, places_from}
use Rattle.facet_reader.proofs.SetPlaces.{count-vertices}
use Rattle.facet_reader.proofs.Whole.{too-many, not-many, count-cells}
use Rattle.facet_reader.proofs.ChainLemmas.{chains-closed}
use Rattle.facet_reader.proofs.AboveLemmas.{pair-relations, below-rises, below-through, length-first, first-at, concat-all}
use Rattle.facet_reader.proofs.ChainPlaces.{flat_map_same, all-places, edge-length}

module _ (v : Value) (n : ℕ) (pairs : List (List ℕ)) (read : IsOrder (order_of v) n pairs) where
  abbrev test : List ℕ → Bool
  test = is_chain (is_below n (pairs_of pairs))

  abbrev sets : ℕ → List (List ℕ)
  sets = sets_of n (is_chain (is_below n (pairs_of pairs)))

  are : AreRelations n (pairs_of pairs)
  are = pair-relations n pairs read.pairs

  space-read : poset_of v ≡ limited (set_space (sets_of n (is_chain (is_below n (pairs_of pairs)))))
  space-read = ap (λ (r : Result (ℕ × List (ℕ × ℕ)) FacetFault). go_on r (λ order. limited (order_complex order))) read.is

  point-is : (x : ℕ) → 1 ≤ x → x ≤ n → is_chain (is_below n (pairs_of pairs)) (x ∷ []) ≡ true
  point-is x low high = refl

  points-count : length (sets_of n (is_chain (is_below n (pairs_of pairs))) 0) ≡ n
  points-count = count-vertices n test point-is

  pub many-points : 60000 < n → poset_of v ≡ Err TooManyCells
  many-points l = space-read ∙ too-many (set_space sets) (omega (arith, l, count-cells sets, points-count))

  many-sets : (d : ℕ) → d ≤ 3 → 60000 < length (sets_of n (is_chain (is_below n (pairs_of pairs))) d) → poset_of v ≡ Err TooManyCells
  many-sets zero m l = space-read ∙ too-many (set_space sets) (omega (arith, l, count-cells sets))
  many-sets (suc zero) m l = space-read ∙ too-many (set_space sets) (omega (arith, l, count-cells sets))
  many-sets (suc (suc zero)) m l = space-read ∙ too-many (set_space sets) (omega (arith, l, count-cells sets))
  many-sets (suc (suc (suc zero))) m l = space-read ∙ too-many (set_space sets) (omega (arith, l, count-cells sets))
  many-sets (suc (suc (suc (suc d)))) m l = absurd (omega arith)

  module _ (above : List (List ℕ)) (is : above ≡ all_above n (pairs_of pairs)) where
    pub above-long : length above ≡ n
    above-long = ap (λ (rows : List (List ℕ)). length rows) is ∙ length-first n (pairs_of pairs) n

    above-at : (x : ℕ) → 1 ≤ x → x ≤ n → row_at above x ≡ points_above n (pairs_of pairs) x
    above-at x low high =
        ap (λ (k : ℕ). get_or above (k - x) []) above-long
        ∙ (ap (λ (rows : List (List ℕ)). get_or rows (n - x) []) is ∙ first-at n (pairs_of pairs) n x (omega (arith, low)) high)

    pub above-points : All (All (λ x. (1 ≤ x) × (x ≤ length above))) above
    above-points k d l j e m =
        let row : List ℕ = get_or above k d in
        let r = map-In (λ i. points_above n (pairs_of pairs) (n - i)) (range_with_len 0 n) (subst (In (get_or above k d)) is (at-In above k d l)) in
        let i : In (get_or (get_or above k d) j e) (points_above n (pairs_of pairs) (n - r.0)) = subst (In (get_or (get_or above k d) j e)) r.2 (at-In (get_or above k d) j e m) in
        let b = upto-In n (get_or (get_or above k d) j e) (In-inside (is_below n (pairs_of pairs) (n - r.0)) (upto n) i) in
        (b.0, omega (arith, b.1, above-long))

    pub places-are : (d : ℕ) → places_from above (suc d) 0 (upto n) ≡ map place_of (sets_of n (is_chain (is_below n (pairs_of pairs))) d)
    places-are d = all-places n (is_below n (pairs_of pairs)) above above-at (below-rises n (pairs_of pairs) are) (below-through n (pairs_of pairs) are) d

    places-count : (d : ℕ) → length (places_from above (suc d) 0 (upto n)) ≡ length (sets_of n (is_chain (is_below n (pairs_of pairs))) d)
    places-count d = ap (λ (xs : List ℕ). length xs) (places-are d) ∙ length-map (sets d) place_of

    edges-above : length (sets_of n (is_chain (is_below n (pairs_of pairs))) 1) ≡ length (concat (all_above n (pairs_of pairs)))
    edges-above =
        sym (places-count 1)
        ∙ (edge-length above (upto n)
        ∙ (ap (λ (xs : List ℕ). length xs) (flat_map_same (row_at above) (points_above n (pairs_of pairs)) (upto n) (λ x i. (let b = upto-In n x i in above-at x b.0 b.1))) ∙ sym (concat-all n (pairs_of pairs))))

    pub many-places : (d : ℕ) → d ≤ 3 → 60000 < length (places_from above (suc d) 0 (upto n)) → poset_of v ≡ Err TooManyCells
    many-places d three l = many-sets d three (omega (arith, l, places-count d))

    module _ (edges triangles solids : List ℕ) (first : edges ≡ places_from above 2 0 (upto n)) (second : triangles ≡ places_from above 3 0 (upto n)) (third : solids ≡ places_from above 4 0 (upto n)) where
      pub sets-are : AreSets n (is_chain (is_below n (pairs_of pairs))) edges triangles solids
      sets-are = record { closed = chains-closed (is_below n (pairs_of pairs)); points = point-is; edges_are = first ∙ places-are 1; triangles_are = second ∙ places-are 2; solids_are = third ∙ places-are 3 }

      pub complex-is : IsComplex n edges triangles solids
      complex-is = record { test = test; are = sets-are }

      counted : cell_count (set_space (sets_of n (is_chain (is_below n (pairs_of pairs))))) ≡ n + length edges + length triangles + length solids
      counted =
          omega (arith, count-cells sets, points-count, ap (λ (xs : List ℕ). length xs) first, ap (λ (xs : List ℕ). length xs) second, ap (λ (xs : List ℕ). length xs) third, places-count 1, places-count 2, places-count 3)

      pub many-cells : 60000 < n + length edges + length triangles + length solids → poset_of v ≡ Err TooManyCells
      many-cells l = space-read ∙ too-many (set_space sets) (omega (arith, l, counted))

      pub all-cells : (space : Layers) → n + length edges + length triangles + length solids ≤ 60000 → space ≡ set_space (sets_of n (is_chain (is_below n (pairs_of pairs)))) → poset_of v ≡ Ok space
      all-cells space l e = space-read ∙ (not-many (set_space sets) (omega (arith, l, counted)) ∙ ap (λ (s : Layers). Ok s) (sym e))

      pub regular-cells : SetSpacesAreRegular → (space : Layers) → n + length edges + length triangles + length solids ≤ 60000 → space ≡ set_space (sets_of n (is_chain (is_below n (pairs_of pairs)))) → IsRegular space
      regular-cells law space l e = subst IsRegular (sym e) (law n test (chains-closed (is_below n (pairs_of pairs))) (omega (arith, l, counted)))

  pub many-above : 60000 < length (concat (all_above n (pairs_of pairs))) → poset_of v ≡ Err TooManyCells
  many-above l = many-sets 1 (omega arith) (omega (arith, l, edges-above (all_above n (pairs_of pairs)) refl))
