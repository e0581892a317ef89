-- The numbers of chains with one cell more, and of their facets, by the places where they are listed.
use Rattle.std.proofs.Common.{◌≡◌, ℕ, suc, ◌+◌, ◌-◌, ◌<◌, ◌≤◌, List, [], ◌∷◌, ◌++◌, map, take, length, get_or, Contains, refl, ap, sym, ◌∙◌, subst, arith}
use Rattle.std.specs.List.{flat_map}
use Rattle.std.specs.List.Sorted.{IsStrictlyIncreasing}
use Rattle.std.specs.Option.{unwrap_or}
use Rattle.std.proofs.lemmas.List.{length-map, get_or-map}
use Rattle.std.proofs.lemmas.List.Concat.{get_or-flat_map}
use Rattle.std.proofs.lemmas.List.Folds.{length-flat_map-take}
use Rattle.std.proofs.lemmas.List.FromFn.{get_or-map-range_with_len, length-map-range_with_len}
use Rattle.std.proofs.lemmas.List.Kept.{IsStrictlyIncreasing-filter}
use Rattle.face_poset.specs.Words.{upto, holds}
use Rattle.face_poset.specs.Poset.{cell_count}
use Rattle.number_lists.proofs.CallerLemmas.{increasing-upto, In-Contains, In-map, In-upto, at-In}
use Rattle.number_lists.specs.Members.{In, here, there}
use Rattle.order_complex.specs.Chains.{all_faces, above, chains_of}
use Rattle.order_complex.specs.Complex.{number_or_zero, facet_numbers, facet_lists}
use Rattle.order_complex.specs.Listing.{extensions, first_places, uppers_of}
use Rattle.order_complex.proofs.Chained.{IsAbove, Follows, above-member, member-above, above-trans, chains_of-member, leave_out-member}
use Rattle.order_complex.proofs.Extended.{chains_of-zero, chains_of-next, uppers_of-at}
use Rattle.order_complex.proofs.Graded.{placed}
use Rattle.order_complex.proofs.Numbers.{number-at}
use Rattle.order_complex.proofs.Ordered.{ordered-chains_of}

module _ (space : List (List (List ℕ))) where
  -- ---- the cells above a cell

  pub uppers-rise : (c : ℕ) → 1 ≤ c → c ≤ cell_count space → IsStrictlyIncreasing (get_or (uppers_of space) (c - 1) [])
  uppers-rise c low high =
      subst IsStrictlyIncreasing (sym (uppers_of-at space c low high))
      (IsStrictlyIncreasing-filter (λ n. holds (get_or (all_faces space) (n - 1) []) c) (upto (length (all_faces space))) (increasing-upto (length (all_faces space))))

  -- ---- the number of a chain with one cell more

  pub record Extends (degree : ℕ) (chain : List ℕ) (cell start place : ℕ) : Type 0 where
    pub is : number_or_zero (chains_of space (suc degree)) (chain ++ cell ∷ []) ≡ start + place + 1
    pub within : start + place < length (chains_of space (suc degree))

  -- `last` is the last cell of the chain, and the cell stands at the place among those above it
  pub number-extended : (degree number : ℕ) (chain : List ℕ) (last cell place : ℕ) → In chain (chains_of space degree) → get_or chain (length chain - 1) 0 ≡ last
      → number ≡ number_or_zero (chains_of space degree) chain
      → place < length (get_or (uppers_of space) (last - 1) []) → get_or (get_or (uppers_of space) (last - 1) []) place 0 ≡ cell
      → Extends degree chain cell (get_or (first_places (uppers_of space) (chains_of space degree)) (number - 1) 0) place
  number-extended degree number chain last cell place m e n l h =
      let f : List ℕ → List (List ℕ) = extensions (uppers_of space) in
      let chains : List (List ℕ) = chains_of space degree in
      let p = placed chains chain (ordered-chains_of space degree) m in
      let i : ℕ = p.place in
      let upper : List ℕ = get_or (uppers_of space) (last - 1) [] in
      let same : f (get_or chains i []) ≡ map (λ u. chain ++ u ∷ []) upper =
      ap f p.there ∙ ap (λ k. map (λ u. chain ++ u ∷ []) (get_or (uppers_of space) (k - 1) [])) e in
      let long : length (f (get_or chains i [])) ≡ length upper = ap (λ (xs : List (List ℕ)). length xs) same ∙ length-map upper (λ u. chain ++ u ∷ []) in
      let start : get_or (first_places (uppers_of space) chains) (number - 1) 0 ≡ length (flat_map f (take i chains)) =
      get_or-map-range_with_len (λ k. length (flat_map f (take k chains))) 0 (length chains) (number - 1) i 0 (omega (arith, p.within, p.number, n)) (omega (arith, p.number, n)) in
      let at : get_or (chains_of space (suc degree)) (length (flat_map f (take i chains)) + place) [] ≡ chain ++ cell ∷ [] =
      ap (λ xs. get_or xs (length (flat_map f (take i chains)) + place) []) (sym (chains_of-next space degree))
      ∙ get_or-flat_map f chains i place [] [] p.within (omega (arith, long, l))
      ∙ ap (λ xs. get_or xs place []) same
      ∙ get_or-map (λ u. chain ++ u ∷ []) upper place 0 [] l
      ∙ ap (λ u. chain ++ u ∷ []) h in
      let inside : length (flat_map f (take i chains)) + place < length (chains_of space (suc degree)) =
      omega (arith, length-flat_map-take f chains i [] p.within, long, l, ap (λ (xs : List (List ℕ)). length xs) (chains_of-next space degree)) in
      record {
        is = ap (λ o. unwrap_or o 0) (number-at (chains_of space (suc degree)) (chain ++ cell ∷ []) (length (flat_map f (take i chains)) + place) (ordered-chains_of space (suc degree)) inside at)
            ∙ ap (λ s. s + place + 1) (sym start);
        within = subst (λ s. s + place < length (chains_of space (suc degree))) (sym start) inside;
      }

  -- ---- chains of one cell

  pub point-member : (c : ℕ) → 1 ≤ c → c ≤ cell_count space → In (c ∷ []) (chains_of space 0)
  point-member c low high =
      subst (In (c ∷ [])) (sym (chains_of-zero space)) (In-map (λ x. x ∷ []) (In-upto (cell_count space) c low high))

  pub number-point : (c : ℕ) → 1 ≤ c → c ≤ cell_count space → number_or_zero (chains_of space 0) (c ∷ []) ≡ c
  number-point c low high =
      let long : length (chains_of space 0) ≡ cell_count space = ap (λ (xs : List (List ℕ)). length xs) (chains_of-zero space) ∙ length-map-range_with_len {X = List ℕ} (λ x. x ∷ []) 1 (cell_count space) in
      ap (λ o. unwrap_or o 0)
      (number-at (chains_of space 0) (c ∷ []) (c - 1) (ordered-chains_of space 0) (omega (arith, long))
      (ap (λ xs. get_or xs (c - 1) []) (chains_of-zero space) ∙ get_or-map-range_with_len {X = List ℕ} (λ x. x ∷ []) 1 (cell_count space) (c - 1) c [] (omega arith) (omega arith)))
      ∙ omega arith

  -- ---- chains of two cells: their facets are their ids

  pub record IsEdge (a b : ℕ) : Type 0 where
    pub low : 1 ≤ a
    pub high : a ≤ cell_count space
    pub above : IsAbove space a b

  pub edge-cells : (chain : List ℕ) → In chain (chains_of space 1) → (a : ℕ) × (b : ℕ) × (chain ≡ a ∷ b ∷ []) × IsEdge a b
  edge-cells chain m = let c = chains_of-member space 1 chain m in by_rest c.first c.rest c.is c.long c.low c.high c.follows
    where
      by_rest : (first : ℕ) (rest : List ℕ) → chain ≡ first ∷ rest → length rest ≡ 1 → 1 ≤ first → first ≤ cell_count space → Follows space first rest → (a : ℕ) × (b : ℕ) × (chain ≡ a ∷ b ∷ []) × IsEdge a b
      by_rest first [] e l low high f = absurd (omega arith)
      by_rest first (b ∷ []) e l low high f = (first, b, e, record { low = low; high = high; above = f.0 })
      by_rest first (b ∷ c ∷ rest) e l low high f = absurd (omega arith)

  edge-of : (a b : ℕ) → In (a ∷ b ∷ []) (chains_of space 1) → IsEdge a b
  edge-of a b m = let c = edge-cells (a ∷ b ∷ []) m in same c.0 c.1 c.2 c.3
    where
      same : (x y : ℕ) → ◌≡◌ {A = List ℕ} (a ∷ b ∷ []) (x ∷ y ∷ []) → IsEdge x y → IsEdge a b
      same x y e k =
          let ex : x ≡ a = cc in
          let ey : y ≡ b = cc in
          subst (λ z. IsEdge z b) ex (subst (IsEdge x) ey k)

  pub edge-facets : facet_lists space 1 ≡ chains_of space 1
  edge-facets = along (chains_of space 1) (λ chain m. m)
    where
      one : (chain : List ℕ) → In chain (chains_of space 1) → facet_numbers (chains_of space 0) chain ≡ chain
      one chain m =
          let c = edge-cells chain m in
          let a : ℕ = c.0 in
          let b : ℕ = c.1 in
          ap (facet_numbers (chains_of space 0)) c.2
          ∙ two (number_or_zero (chains_of space 0) (a ∷ [])) a (number_or_zero (chains_of space 0) (b ∷ [])) b (number-point a c.3.low c.3.high) (number-point b c.3.above.low c.3.above.high)
          ∙ sym c.2
        where
          two : (x a y b : ℕ) → x ≡ a → y ≡ b → ◌≡◌ {A = List ℕ} (x ∷ y ∷ []) (a ∷ b ∷ [])
          two x a y b e f = rw (e, f) refl

      along : (chains : List (List ℕ)) → ((chain : List ℕ) → In chain chains → In chain (chains_of space 1)) → map (facet_numbers (chains_of space 0)) chains ≡ chains
      along [] h = refl
      along (c ∷ chains) h = rw (one c (h c here), along chains (λ x m. h x (there m))) refl

  -- ---- the facets of chains of three cells

  -- what the listing gives for the chain a, b with the cell x at its end
  pub record TriangleFacets (index a b x turned moved : ℕ) : Type 0 where
    pub is : facet_numbers (chains_of space 1) (a ∷ b ∷ x ∷ []) ≡ (index + 1) ∷ turned ∷ moved ∷ []
    pub turned_small : turned ≤ length (chains_of space 1)
    pub moved_small : moved ≤ length (chains_of space 1)

  three : (p x q y r z : ℕ) → p ≡ x → q ≡ y → r ≡ z → ◌≡◌ {A = List ℕ} (p ∷ q ∷ r ∷ []) (x ∷ y ∷ z ∷ [])
  three p x q y r z e f g = rw (e, f, g) refl

  pub triangle-facets : (starts : List ℕ) (index a b place x skip : ℕ) → index < length (chains_of space 1) → get_or (chains_of space 1) index [] ≡ a ∷ b ∷ []
      → starts ≡ first_places (uppers_of space) (chains_of space 0)
      → place < length (get_or (uppers_of space) (b - 1) []) → get_or (get_or (uppers_of space) (b - 1) []) place 0 ≡ x
      → skip < length (get_or (uppers_of space) (a - 1) []) → get_or (get_or (uppers_of space) (a - 1) []) skip 0 ≡ x
      → TriangleFacets index a b x (get_or starts (a - 1) 0 + skip + 1) (get_or starts (b - 1) 0 + place + 1)
  triangle-facets starts index a b place x skip l e s lp hp ls hs =
      let m : In (a ∷ b ∷ []) (chains_of space 1) = subst (λ c. In c (chains_of space 1)) e (at-In (chains_of space 1) index [] l) in
      let k = edge-of a b m in
      let turned = number-extended 0 a (a ∷ []) a x skip (point-member a k.low k.high) refl (sym (number-point a k.low k.high)) ls hs in
      let moved = number-extended 0 b (b ∷ []) b x place (point-member b k.above.low k.above.high) refl (sym (number-point b k.above.low k.above.high)) lp hp in
      let first : number_or_zero (chains_of space 1) (a ∷ b ∷ []) ≡ index + 1 =
      ap (λ o. unwrap_or o 0) (number-at (chains_of space 1) (a ∷ b ∷ []) index (ordered-chains_of space 1) l e) in
      record {
        is = three (number_or_zero (chains_of space 1) (a ∷ b ∷ [])) (index + 1) (number_or_zero (chains_of space 1) (a ∷ x ∷ [])) (get_or starts (a - 1) 0 + skip + 1)
            (number_or_zero (chains_of space 1) (b ∷ x ∷ [])) (get_or starts (b - 1) 0 + place + 1) first (turned.is ∙ ap (λ ns. get_or ns (a - 1) 0 + skip + 1) (sym s)) (moved.is ∙ ap (λ ns. get_or ns (b - 1) 0 + place + 1) (sym s));
        turned_small = subst (λ ns. get_or ns (a - 1) 0 + skip + 1 ≤ length (chains_of space 1)) (sym s) (omega (arith, turned.within));
        moved_small = subst (λ ns. get_or ns (b - 1) 0 + place + 1 ≤ length (chains_of space 1)) (sym s) (omega (arith, moved.within));
      }

  -- the cell x above b, of which the cell a is a face, is above a
  pub above-again : (a b place x : ℕ) → 1 ≤ a → a ≤ cell_count space → IsAbove space a b → place < length (get_or (uppers_of space) (b - 1) []) → get_or (get_or (uppers_of space) (b - 1) []) place 0 ≡ x
      → Contains (get_or (uppers_of space) (a - 1) []) x
  above-again a b place x low high h l e =
      let listed : get_or (uppers_of space) (b - 1) [] ≡ above (all_faces space) b = uppers_of-at space b h.low h.high in
      let m : In x (above (all_faces space) b) = subst (In x) listed (subst (λ y. In y (get_or (uppers_of space) (b - 1) [])) e (at-In (get_or (uppers_of space) (b - 1) []) place 0 l)) in
      let up = above-trans space a b x h (above-member space b x m) in
      subst (λ xs. Contains xs x) (sym (uppers_of-at space a low high)) (In-Contains (member-above space a x up))

  length-first_places : (degree : ℕ) → length (first_places (uppers_of space) (chains_of space degree)) ≡ length (chains_of space degree)
  length-first_places degree = length-map-range_with_len (λ i. length (flat_map (extensions (uppers_of space)) (take i (chains_of space degree)))) 0 (length (chains_of space degree))

  -- what the listing asks for at the chain a, b
  pub record EdgeAt (starts : List ℕ) (a b : ℕ) : Type 0 where
    pub low : 1 ≤ a
    pub high : a ≤ cell_count space
    pub above : IsAbove space a b
    pub first : a - 1 < length starts
    pub second : b - 1 < length starts

  pub edge-at : (starts : List ℕ) (index a b : ℕ) → index < length (chains_of space 1) → get_or (chains_of space 1) index [] ≡ a ∷ b ∷ [] → starts ≡ first_places (uppers_of space) (chains_of space 0) → EdgeAt starts a b
  edge-at starts index a b l e s =
      let k = edge-of a b (subst (λ c. In c (chains_of space 1)) e (at-In (chains_of space 1) index [] l)) in
      let long : length starts ≡ cell_count space =
      ap (λ (ns : List ℕ). length ns) s ∙ length-first_places 0 ∙ ap (λ (xs : List (List ℕ)). length xs) (chains_of-zero space) ∙ length-map-range_with_len {X = List ℕ} (λ x. x ∷ []) 1 (cell_count space) in
      record { low = k.low; high = k.high; above = k.above; first = omega (arith, k.low, k.high, long); second = omega (arith, k.above.low, k.above.high, long) }

  -- ---- the facets of chains of four cells

  pub record IsTriangle (a b c : ℕ) : Type 0 where
    pub low : 1 ≤ a
    pub high : a ≤ cell_count space
    pub first : IsAbove space a b
    pub second : IsAbove space b c

  triangle-of : (a b c : ℕ) → In (a ∷ b ∷ c ∷ []) (chains_of space 2) → IsTriangle a b c
  triangle-of a b c m = let d = chains_of-member space 2 (a ∷ b ∷ c ∷ []) m in by_rest d.first d.rest d.is d.low d.high d.follows
    where
      by_rest : (first : ℕ) (rest : List ℕ) → ◌≡◌ {A = List ℕ} (a ∷ b ∷ c ∷ []) (first ∷ rest) → 1 ≤ first → first ≤ cell_count space → Follows space first rest → IsTriangle a b c
      by_rest first rest e low high f =
          let x : first ≡ a = cc in
          let xs : rest ≡ b ∷ c ∷ [] = cc in
          let g : Follows space a (b ∷ c ∷ []) = subst (λ ys. Follows space a ys) xs (subst (λ y. Follows space y rest) x f) in
          record { low = subst (λ y. 1 ≤ y) x low; high = subst (λ y. y ≤ cell_count space) x high; first = g.0; second = g.1.0 }

  -- what the listing gives for the chain a, b, c with the cell x at its end
  pub record TetrahedronFacets (index a b c x turned skipped moved : ℕ) : Type 0 where
    pub is : facet_numbers (chains_of space 2) (a ∷ b ∷ c ∷ x ∷ []) ≡ (index + 1) ∷ turned ∷ skipped ∷ moved ∷ []
    pub turned_small : turned ≤ length (chains_of space 2)
    pub skipped_small : skipped ≤ length (chains_of space 2)
    pub moved_small : moved ≤ length (chains_of space 2)

  four : (p x q y r z s w : ℕ) → p ≡ x → q ≡ y → r ≡ z → s ≡ w → ◌≡◌ {A = List ℕ} (p ∷ q ∷ r ∷ s ∷ []) (x ∷ y ∷ z ∷ w ∷ [])
  four p x q y r z s w e f g h = rw (e, f, g, h) refl

  -- the chain a, b, c, and its facets by their numbers
  pub record TriangleAt (starts : List ℕ) (a b c front mid back : ℕ) : Type 0 where
    pub cells : IsTriangle a b c
    pub there : In (a ∷ b ∷ c ∷ []) (chains_of space 2)
    pub front_is : front ≡ number_or_zero (chains_of space 1) (a ∷ b ∷ [])
    pub mid_is : mid ≡ number_or_zero (chains_of space 1) (a ∷ c ∷ [])
    pub back_is : back ≡ number_or_zero (chains_of space 1) (b ∷ c ∷ [])
    pub front_in : In (a ∷ b ∷ []) (chains_of space 1)
    pub mid_in : In (a ∷ c ∷ []) (chains_of space 1)
    pub back_in : In (b ∷ c ∷ []) (chains_of space 1)
    pub front_low : 1 ≤ front
    pub front_high : front ≤ length starts
    pub mid_low : 1 ≤ mid
    pub mid_high : mid ≤ length starts
    pub back_low : 1 ≤ back
    pub back_high : back ≤ length starts

  numbered : (starts : List ℕ) (chain : List ℕ) (number : ℕ) → starts ≡ first_places (uppers_of space) (chains_of space 1) → In chain (chains_of space 1) → number ≡ number_or_zero (chains_of space 1) chain → (1 ≤ number) × (number ≤ length starts)
  numbered starts chain number s m e =
      let p = placed (chains_of space 1) chain (ordered-chains_of space 1) m in
      (omega (arith, e, p.number), omega (arith, e, p.number, p.within, ap (λ (ns : List ℕ). length ns) s, length-first_places 1))

  pub triangle-at : (starts : List ℕ) (index a b c front mid back : ℕ) → index < length (chains_of space 2) → get_or (chains_of space 2) index [] ≡ a ∷ b ∷ c ∷ []
      → get_or (facet_lists space 2) index [] ≡ front ∷ mid ∷ back ∷ [] → starts ≡ first_places (uppers_of space) (chains_of space 1) → TriangleAt starts a b c front mid back
  triangle-at starts index a b c front mid back l e f s =
      let m : In (a ∷ b ∷ c ∷ []) (chains_of space 2) = subst (λ x. In x (chains_of space 2)) e (at-In (chains_of space 2) index [] l) in
      let out = leave_out-member space 1 (a ∷ b ∷ c ∷ []) m in
      let same : ◌≡◌ {A = List ℕ} (front ∷ mid ∷ back ∷ []) (number_or_zero (chains_of space 1) (a ∷ b ∷ []) ∷ number_or_zero (chains_of space 1) (a ∷ c ∷ []) ∷ number_or_zero (chains_of space 1) (b ∷ c ∷ []) ∷ []) =
      sym f ∙ get_or-map (facet_numbers (chains_of space 1)) (chains_of space 2) index [] [] l ∙ ap (facet_numbers (chains_of space 1)) e in
      let one : In (a ∷ b ∷ []) (chains_of space 1) = out (a ∷ b ∷ []) (there (there here)) in
      let two : In (a ∷ c ∷ []) (chains_of space 1) = out (a ∷ c ∷ []) (there here) in
      let three : In (b ∷ c ∷ []) (chains_of space 1) = out (b ∷ c ∷ []) here in
      let fe : front ≡ number_or_zero (chains_of space 1) (a ∷ b ∷ []) = cc in
      let me : mid ≡ number_or_zero (chains_of space 1) (a ∷ c ∷ []) = cc in
      let be : back ≡ number_or_zero (chains_of space 1) (b ∷ c ∷ []) = cc in
      let fn = numbered starts (a ∷ b ∷ []) front s one fe in
      let mn = numbered starts (a ∷ c ∷ []) mid s two me in
      let bn = numbered starts (b ∷ c ∷ []) back s three be in
      record {
        cells = triangle-of a b c m;
        there = m;
        front_is = fe;
        mid_is = me;
        back_is = be;
        front_in = one;
        mid_in = two;
        back_in = three;
        front_low = fn.0;
        front_high = fn.1;
        mid_low = mn.0;
        mid_high = mn.1;
        back_low = bn.0;
        back_high = bn.1;
      }

  pub tetrahedron-facets : (starts : List ℕ) (index a b c front mid back place x skip : ℕ) → index < length (chains_of space 2) → get_or (chains_of space 2) index [] ≡ a ∷ b ∷ c ∷ []
      → TriangleAt starts a b c front mid back → starts ≡ first_places (uppers_of space) (chains_of space 1)
      → place < length (get_or (uppers_of space) (c - 1) []) → get_or (get_or (uppers_of space) (c - 1) []) place 0 ≡ x
      → skip < length (get_or (uppers_of space) (b - 1) []) → get_or (get_or (uppers_of space) (b - 1) []) skip 0 ≡ x
      → TetrahedronFacets index a b c x (get_or starts (front - 1) 0 + skip + 1) (get_or starts (mid - 1) 0 + (place + 1)) (get_or starts (back - 1) 0 + (place + 1))
  tetrahedron-facets starts index a b c front mid back place x skip l e t s lp hp ls hs =
      let turned = number-extended 1 front (a ∷ b ∷ []) b x skip t.front_in refl t.front_is ls hs in
      let skipped = number-extended 1 mid (a ∷ c ∷ []) c x place t.mid_in refl t.mid_is lp hp in
      let moved = number-extended 1 back (b ∷ c ∷ []) c x place t.back_in refl t.back_is lp hp in
      let first : number_or_zero (chains_of space 2) (a ∷ b ∷ c ∷ []) ≡ index + 1 =
      ap (λ o. unwrap_or o 0) (number-at (chains_of space 2) (a ∷ b ∷ c ∷ []) index (ordered-chains_of space 2) l e) in
      let assoc : (m n : ℕ) → m + n + 1 ≡ m + (n + 1) = λ m n. omega arith in
      record {
        is = four (number_or_zero (chains_of space 2) (a ∷ b ∷ c ∷ [])) (index + 1) (number_or_zero (chains_of space 2) (a ∷ b ∷ x ∷ [])) (get_or starts (front - 1) 0 + skip + 1)
            (number_or_zero (chains_of space 2) (a ∷ c ∷ x ∷ [])) (get_or starts (mid - 1) 0 + (place + 1)) (number_or_zero (chains_of space 2) (b ∷ c ∷ x ∷ [])) (get_or starts (back - 1) 0 + (place + 1))
            first (turned.is ∙ ap (λ ns. get_or ns (front - 1) 0 + skip + 1) (sym s)) (skipped.is ∙ ap (λ ns. get_or ns (mid - 1) 0 + place + 1) (sym s) ∙ assoc _ _) (moved.is ∙ ap (λ ns. get_or ns (back - 1) 0 + place + 1) (sym s) ∙ assoc _ _);
        turned_small = subst (λ ns. get_or ns (front - 1) 0 + skip + 1 ≤ length (chains_of space 2)) (sym s) (omega (arith, turned.within));
        skipped_small = subst (λ ns. get_or ns (mid - 1) 0 + (place + 1) ≤ length (chains_of space 2)) (sym s) (omega (arith, skipped.within));
        moved_small = subst (λ ns. get_or ns (back - 1) 0 + (place + 1) ≤ length (chains_of space 2)) (sym s) (omega (arith, moved.within));
      }
