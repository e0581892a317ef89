-- The numbers of facets, and the builder cell after cell.
use Rattle.std.proofs.Common.{◌≡◌, inl, inr, ◌<◌, ◌≤◌, ◌+◌, ◌*◌, ◌^◌, ◌-◌, ℕ, List, [], ◌∷◌, length, map, filter, get_or, set, refl, ap, sym, ◌∙◌, subst, arith, Contains, Bool}
use Rattle.std.specs.List.{list_any}
use Rattle.std.specs.List.Sorted.{IsStrictlyIncreasing}
use Rattle.std.proofs.lemmas.List.{get_or-map, length-map, get_or-set_other, set-get_or}
use Rattle.std.proofs.lemmas.List.Kept.{IsStrictlyIncreasing-filter}
use Rattle.number_lists.specs.Words.{upto}
use Rattle.number_lists.specs.Members.{In, here}
use Rattle.number_lists.proofs.CallerLemmas.{In-cases, In-map, map-In, In-filter, filter-In, In-inside, any-In, any-some, In-at, at-In, upto-In, In-upto, In-Contains, Contains-In, increasing-upto, same_increasing, same_holds}
use Rattle.face_poset.specs.Poset.{IsCell, layer, count}
use Rattle.tuple_spaces.specs.Tuples.{same}
use Rattle.tuple_spaces.proofs.CallerLemmas.{same-eq, eq-same}
use Rattle.facet_reader.specs.SetSpaces.{leave_one}
use Rattle.facet_reader.specs.Simplices.{number_in}
use Rattle.facet_reader.specs.Places.{place_of, members, facets_at, AreHeld}
use Rattle.facet_reader.proofs.Choices.{leave-part, leave-some, part-In}
use Rattle.facet_reader.proofs.Ranked.{increasing-rises, number-at}
use Rattle.facet_reader.proofs.FacetPlaces.{length-members, place-members, members-place, members-low}

module _ (size place : ℕ) (below : List ℕ) (low : 1 ≤ size) (rises : IsStrictlyIncreasing below) (h : AreHeld size below (place ∷ [])) where
  abbrev cells : List (List ℕ)
  cells = map (members (size - 1)) below

  abbrev facets : List (List ℕ)
  facets = leave_one (members size place)

  abbrev passes : ℕ → Bool
  passes n = list_any (same (get_or (map (members (size - 1)) below) (n - 1) [])) (leave_one (members size place))

  -- a facet is the set at its place
  facet-is : (u : List ℕ) → In u (leave_one (members size place)) → members (size - 1) (place_of u) ≡ u
  facet-is u i =
      let p = leave-part (members size place) u i in
      let l : length u ≡ size - 1 = omega (arith, p.1, length-members size place, low) in
      ap (λ (n : ℕ). members n (place_of u)) (sym l) ∙ members-place u (λ x j. members-low size place x (h.fit place here) (part-In p.0 j))

  cell-at : (j : ℕ) → j < length below → get_or (map (members (size - 1)) below) j [] ≡ members (size - 1) (get_or below j 0)
  cell-at j l = get_or-map (members (size - 1)) below j 0 [] l

  facet-number : (u : List ℕ) → In u (leave_one (members size place)) → In (number_in below (place_of u)) (filter (λ n. list_any (same (get_or (map (members (size - 1)) below) (n - 1) [])) (leave_one (members size place))) (upto (length (map (members (size - 1)) below))))
  facet-number u i =
      let (j, l, e) = In-at (h.held place here u i) in
      let number : number_in below (place_of u) ≡ j + 1 = ap (number_in below) (sym e) ∙ number-at below j (increasing-rises below rises) l in
      let q : j + 1 - 1 ≡ j = omega arith in
      let at : get_or cells (j + 1 - 1) [] ≡ u = ap (λ (k : ℕ). get_or cells k []) q ∙ (cell-at j l ∙ (ap (members (size - 1)) e ∙ facet-is u i)) in
      subst (λ (n : ℕ). In n (filter passes (upto (length cells)))) (sym number)
      (In-filter passes (In-upto (length cells) (j + 1) (omega arith) (omega (arith, l, length-map below (members (size - 1)))))
      (any-In (same (get_or cells (j + 1 - 1) [])) i (ap (λ (v : List ℕ). same v u) at ∙ eq-same u)))

  number-facet : (n : ℕ) → In n (filter (λ n. list_any (same (get_or (map (members (size - 1)) below) (n - 1) [])) (leave_one (members size place))) (upto (length (map (members (size - 1)) below))))
      → (u : List ℕ) × In u (leave_one (members size place)) × (n ≡ number_in below (place_of u))
  number-facet n i =
      let b = upto-In (length cells) n (In-inside passes (upto (length cells)) i) in
      let r = any-some (same (get_or cells (n - 1) [])) facets (filter-In passes (upto (length cells)) i) in
      let l : n - 1 < length below = omega (arith, b.0, b.1, length-map below (members (size - 1))) in
      let e : members (size - 1) (get_or below (n - 1) 0) ≡ r.0 = sym (cell-at (n - 1) l) ∙ same-eq (get_or cells (n - 1) []) r.0 r.2 in
      let q : place_of r.0 ≡ get_or below (n - 1) 0 = ap place_of (sym e) ∙ place-members (size - 1) (get_or below (n - 1) 0) (h.below_fit (get_or below (n - 1) 0) (at-In below (n - 1) 0 l)) in
      let number : number_in below (place_of r.0) ≡ n - 1 + 1 = ap (number_in below) q ∙ number-at below (n - 1) (increasing-rises below rises) l in
      (r.0, r.1, omega (arith, number, b.0))

  pub facets-sorted : (listed sorted : List ℕ) → listed ≡ map (λ u. number_in below (0 * 65536 ^ length u + place_of u)) (leave_one (members size place)) → IsStrictlyIncreasing sorted
      → ((z : ℕ) → Contains listed z → Contains sorted z) → ((z : ℕ) → Contains sorted z → Contains listed z) → sorted ≡ facets_at size below place
  facets-sorted listed sorted e inc keeps adds_none =
      same_increasing sorted (filter passes (upto (length cells))) inc (IsStrictlyIncreasing-filter passes (upto (length cells)) (increasing-upto (length cells)))
      (λ n. same_holds sorted (filter passes (upto (length cells))) n
      (λ c.
      let r = map-In (λ u. number_in below (0 * 65536 ^ length u + place_of u)) facets (subst (In n) e (Contains-In (adds_none n c))) in
      In-Contains (subst (λ (m : ℕ). In m (filter passes (upto (length cells)))) (sym (r.2 ∙ ap (number_in below) (none (65536 ^ length r.0) (place_of r.0)))) (facet-number r.0 r.1)))
      (λ c.
      let r = number-facet n (Contains-In c) in
      let i : In (number_in below (0 * 65536 ^ length r.0 + place_of r.0)) listed = subst (In (number_in below (0 * 65536 ^ length r.0 + place_of r.0))) (sym e) (In-map (λ u. number_in below (0 * 65536 ^ length u + place_of u)) r.1) in
      keeps n (In-Contains (subst (λ (m : ℕ). In m listed) (sym (r.2 ∙ ap (number_in below) (sym (none (65536 ^ length r.0) (place_of r.0))))) i))))
    where
      none : (w p : ℕ) → 0 * w + p ≡ p
      none w p = grind arith

  pub facets-cell : IsCell (length below) (facets_at size below place)
  facets-cell =
      record {
        rises = IsStrictlyIncreasing-filter passes (upto (length cells)) (increasing-upto (length cells));
        within = λ k d l. (let b = upto-In (length cells) (get_or (facets_at size below place) k d) (In-inside passes (upto (length cells)) (at-In (facets_at size below place) k d l)) in (b.0, omega (arith, b.1, length-map below (members (size - 1)))));
        some = (let u = some_left (members size place) (length-members size place) in let r = In-at (facet-number u.0 u.1) in omega (arith, r.1));
      }
    where
      some_left : (s : List ℕ) → length s ≡ size → (u : List ℕ) × In u (leave_one s)
      some_left [] e = absurd (omega (arith, e, low))
      some_left (x ∷ s) e = leave-some x s

-- ---- the builder

pub no_layer : (xs : List (List ℕ)) → length xs ≡ 0 → xs ≡ []
no_layer [] e = refl
no_layer (x ∷ xs) e = absurd (omega (arith, e))

pub start-is : (old : List (List (List ℕ))) (d : ℕ) → count old d ≡ 0 → old ≡ set old d []
start-is old d e = sym (ap (set old d) (sym (no_layer (layer old d) e)) ∙ set-get_or old d [])

pub held-one : (size : ℕ) (below cells : List ℕ) (i : ℕ) → AreHeld size below cells → i < length cells → AreHeld size below (get_or cells i 0 ∷ [])
held-one size below cells i h l =
    record {
      below_fit = h.below_fit;
      fit = λ p j. h.fit p (inside p j);
      held = λ p j. h.held p (inside p j);
    }
  where
    inside : (p : ℕ) → In p (get_or cells i 0 ∷ []) → In p cells
    inside p j = elim (In-cases j) [ inl e ↦ subst (λ (q : ℕ). In q cells) (sym e) (at-In cells i 0 l) | inr k ↦ absurd (no_number p k) ]
      where
        no_number : (p : ℕ) → In p [] → ⊥
        no_number p k = elim k [ ]

pub cell-fits : (size place : ℕ) (below : List ℕ) (old builder : List (List (List ℕ))) (ls : List (List ℕ)) (found : List ℕ) → 2 ≤ size → IsStrictlyIncreasing below → AreHeld size below (place ∷ [])
    → builder ≡ set old (size - 1) ls → count old (size - 2) ≡ length below → found ≡ facets_at size below place → IsCell (count builder (size - 1 - 1)) found
cell-fits size place below old builder ls found low rises h is same e =
    let q : size - 1 - 1 ≡ size - 2 = omega arith in
    let n : count builder (size - 1 - 1) ≡ length below =
    ap (λ (b : List (List (List ℕ))). count b (size - 1 - 1)) is
    ∙ (ap length (get_or-set_other old (size - 1) (size - 1 - 1) ls [] (λ r. omega (arith, r, low))) ∙ (ap (λ (d : ℕ). count old d) q ∙ same)) in
    subst (λ (k : ℕ). IsCell k found) (sym n) (subst (IsCell (length below)) (sym e) (facets-cell size place below (omega (arith, low)) rises h))
