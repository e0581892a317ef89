-- The space of lists of labels, from what was read to what is counted.
use Rattle.std.proofs.Common.{◌≡◌, inl, inr, ◌<◌, ◌≤◌, ◌+◌, ◌-◌, ℕ, zero, suc, List, [], ◌∷◌, length, map, get_or, refl, ap, sym, ◌∙◌, subst, arith, All, Bool, true, cond, nat_lt, Option, Some, None, Ok, Err}
use Rattle.std.specs.List.{list_all, concat}
use Rattle.std.proofs.lemmas.Bool.{lt-ltb, ltb-true, false_from_ne_true}
use Rattle.std.proofs.lemmas.List.{length-map}
use Rattle.number_lists.specs.Words.{holds}
use Rattle.number_lists.specs.Members.{In, here, there}
use Rattle.number_lists.specs.Cofaces.{IsRising}
use Rattle.number_lists.proofs.CallerLemmas.{In-cases, In-map, append-In, any-In, any-some, all-In, In-all, In-holds, at-In, In-at}
use Rattle.face_poset.specs.Poset.{Layers, cell_count}
use Rattle.regular_check.specs.Rules.{IsRegular}
use Rattle.gap_text.specs.Value.{Value, number, list, none, more, items}
use Rattle.facet_reader.specs.declared.fault.FacetFault.{FacetFault}
use Rattle.facet_reader.specs.declared.fault.FacetFault.TheVariants.{TooManyCells}
use Rattle.facet_reader.specs.SetSpaces.{sets_of, set_space, IsClosed, SetSpacesAreRegular}
use Rattle.facet_reader.specs.Labels.{rows_of, rows_in, fault_in, unless_fault, labels_in}
use Rattle.facet_reader.specs.Simplices.{vertices_of, number_in, numbered_row, is_face, limited, and_limited, simplices_of}
use Rattle.facet_reader.specs.Places.{place_of, AreRows, AreSets, IsComplex}
use Rattle.facet_reader.proofs.Choices.{choice-part, part-In}
use Rattle.facet_reader.proofs.Ranked.{Ranked, In-order, order-In, order-rises, number-at}
use Rattle.facet_reader.proofs.Numbering.{rows-rise}
use Rattle.facet_reader.proofs.SetSpaces.{count-at}
use Rattle.facet_reader.proofs.SetPlaces.{count-vertices}

-- ---- something was read

first-label : (n : ℕ) (ns : List ℕ) (rows : List (List ℕ)) → 1 ≤ length (vertices_of ((n ∷ ns) ∷ rows))
first-label n ns rows = let (k, l, e) = In-at (In-order (concat ((n ∷ ns) ∷ rows)) n here) in omega (arith, l)

some-label : (vs : List Value) (rows : List (List ℕ)) → fault_in vs ≡ None → rows_in vs ≡ rows → 1 ≤ length (vertices_of rows)
some-label [] rows f e = cc
some-label (number p n ∷ vs) rows f e = cc
some-label (list p none ∷ vs) rows f e = cc
some-label (list p (more (list q us) ws) ∷ vs) rows f e = cc
some-label (list p (more (number q n) ws) ∷ vs) rows f e = subst (λ (rs : List (List ℕ)). 1 ≤ length (vertices_of rs)) e (first-label n (labels_in (items ws)) (rows_in vs))

no-fault : (o : Option FacetFault) (rs rows : List (List ℕ)) → unless_fault o rs ≡ Ok rows → (o ≡ None) × (rs ≡ rows)
no-fault None rs rows e = (refl, cc)
no-fault (Some f) rs rows e = cc

pub some-vertex : (v : Value) (rows : List (List ℕ)) → rows_of v ≡ Ok rows → 1 ≤ length (vertices_of rows)
some-vertex (number p n) rows e = cc
some-vertex (list p vs) rows e = let r = no-fault (fault_in (items vs)) (rows_in (items vs)) rows e in some-label (items vs) rows r.0 r.1

-- ---- faces

pub faces-closed : (rows : List (List ℕ)) → IsClosed (is_face rows)
faces-closed rows size s t passes i =
    let r = any-some (λ row. list_all (holds row) s) rows passes in
    let p = choice-part size t s i in
    any-In (λ row. list_all (holds row) t) r.1 (In-all (holds r.0) t (λ z j. all-In (holds r.0) r.2 (part-In p.0 j)))

row-of : (rows : List (List ℕ)) (x : ℕ) → In x (concat rows) → (row : List ℕ) × In row rows × In x row
row-of [] x i = elim i [ ]
row-of (r ∷ rows) x i = elim (append-In r (concat rows) i) [ inl j ↦ (r, here, j) | inr j ↦ (let s = row-of rows x j in (s.0, there s.1, s.2)) ]

-- ---- counts

pub too-many : (space : Layers) → 60000 < cell_count space → limited space ≡ Err TooManyCells
too-many space l = ap (λ (b : Bool). cond b (Err TooManyCells) (Ok space)) (lt-ltb 60000 (cell_count space) l)

pub not-many : (space : Layers) → cell_count space ≤ 60000 → limited space ≡ Ok space
not-many space l = ap (λ (b : Bool). cond b (Err TooManyCells) (Ok space)) (false_from_ne_true (nat_lt 60000 (cell_count space)) (λ e. (let m : 60000 < cell_count space = ltb-true 60000 (cell_count space) e in omega (arith, l, m))))

pub count-cells : (sets : ℕ → List (List ℕ)) → cell_count (set_space sets) ≡ length (sets 0) + length (sets 1) + length (sets 2) + length (sets 3)
count-cells sets = omega (arith, count-at sets 0 (omega arith), count-at sets 1 (omega arith), count-at sets 2 (omega arith), count-at sets 3 (omega arith))

-- ---- the vertices and rows that were numbered

module _ (v : Value) (labels : List (List ℕ)) (vs : List ℕ) (rows : List (List ℕ)) (read : rows_of v ≡ Ok labels) (vertices : vs ≡ vertices_of labels) (are : rows ≡ map (numbered_row vs) labels) where
  abbrev sets : ℕ → List (List ℕ)
  sets = sets_of (length vs) (is_face rows)

  pub space-read : simplices_of v ≡ limited (set_space (sets_of (length vs) (is_face rows)))
  space-read =
      ap and_limited read
      ∙ (ap (λ (w : List ℕ). limited (set_space (sets_of (length w) (is_face (map (numbered_row w) labels))))) (sym vertices)
      ∙ ap (λ (rs : List (List ℕ)). limited (set_space (sets_of (length vs) (is_face rs)))) (sym are))

  pub some-is : 1 ≤ length vs
  some-is = subst (λ (w : List ℕ). 1 ≤ length w) (sym vertices) (some-vertex v labels read)

  pub rows-are : AreRows (length vs) rows
  rows-are = subst (All (IsRising (length vs))) (sym are) (rows-rise labels vs vertices)

  pub digits-are : length vs ≤ 60000 → All (λ row. All (λ x. x < 65536) row) rows
  digits-are few k d l j b m = let r = (rows-are k d l).within j b m in omega (arith, r.1, few)

  pub points-are : (x : ℕ) → 1 ≤ x → x ≤ length vs → is_face rows (x ∷ []) ≡ true
  points-are x low high =
      let l : x - 1 < length vs = omega (arith, low, high) in
      let label : ℕ = get_or vs (x - 1) 0 in
      let number : number_in vs (get_or vs (x - 1) 0) ≡ x = number-at vs (x - 1) (subst (Ranked (λ a b. a < b)) (sym vertices) (order-rises (concat labels))) l ∙ (let q : x - 1 + 1 ≡ x = omega (arith, low) in q) in
      let i : In (get_or vs (x - 1) 0) (concat labels) = order-In (concat labels) (get_or vs (x - 1) 0) (subst (In (get_or vs (x - 1) 0)) vertices (at-In vs (x - 1) 0 l)) in
      let r = row-of labels (get_or vs (x - 1) 0) i in
      let j : In (numbered_row vs r.0) rows = subst (In (numbered_row vs r.0)) (sym are) (In-map (numbered_row vs) r.1) in
      let k : In x (numbered_row vs r.0) = subst (λ (y : ℕ). In y (numbered_row vs r.0)) number (In-order (map (number_in vs) r.0) (number_in vs (get_or vs (x - 1) 0)) (In-map (number_in vs) r.2)) in
      any-In (λ row. list_all (holds row) (x ∷ [])) j (In-all (holds (numbered_row vs r.0)) (x ∷ []) (λ z m. elim (In-cases m) [ inl e ↦ In-holds (subst (λ (y : ℕ). In y (numbered_row vs r.0)) (sym e) k) | inr n ↦ absurd (nothing z n) ]))
    where
      nothing : (z : ℕ) → In z [] → ⊥
      nothing z n = elim n [ ]

  vertices-count : length (sets_of (length vs) (is_face rows) 0) ≡ length vs
  vertices-count = count-vertices (length vs) (is_face rows) points-are

  pub many-vertices : 60000 < length vs → simplices_of v ≡ Err TooManyCells
  many-vertices l = space-read ∙ too-many (set_space sets) (omega (arith, l, count-cells sets, vertices-count))

  pub many-sets : (d : ℕ) → d ≤ 3 → 60000 < length (sets_of (length vs) (is_face rows) d) → simplices_of v ≡ Err TooManyCells
  many-sets zero m l = space-read ∙ too-many (set_space sets) (omega (arith, l, count-cells sets))
  many-sets (suc zero) m l = space-read ∙ too-many (set_space sets) (omega (arith, l, count-cells sets))
  many-sets (suc (suc zero)) m l = space-read ∙ too-many (set_space sets) (omega (arith, l, count-cells sets))
  many-sets (suc (suc (suc zero))) m l = space-read ∙ too-many (set_space sets) (omega (arith, l, count-cells sets))
  many-sets (suc (suc (suc (suc d)))) m l = absurd (omega arith)

  module _ (edges triangles solids : List ℕ) (first : edges ≡ map place_of (sets_of (length vs) (is_face rows) 1)) (second : triangles ≡ map place_of (sets_of (length vs) (is_face rows) 2)) (third : solids ≡ map place_of (sets_of (length vs) (is_face rows) 3)) where
    pub sets-are : AreSets (length vs) (is_face rows) edges triangles solids
    sets-are = record { closed = faces-closed rows; points = points-are; edges_are = first; triangles_are = second; solids_are = third }

    pub complex-is : IsComplex (length vs) edges triangles solids
    complex-is = record { test = is_face rows; are = sets-are }

    pub counted : cell_count (set_space (sets_of (length vs) (is_face rows))) ≡ length vs + length edges + length triangles + length solids
    counted =
        omega (arith, count-cells sets, vertices-count, ap (λ (xs : List ℕ). length xs) first, ap (λ (xs : List ℕ). length xs) second, ap (λ (xs : List ℕ). length xs) third, length-map (sets 1) place_of, length-map (sets 2) place_of, length-map (sets 3) place_of)

    pub many-cells : 60000 < length vs + length edges + length triangles + length solids → simplices_of v ≡ Err TooManyCells
    many-cells l = space-read ∙ too-many (set_space sets) (omega (arith, l, counted))

    pub all-cells : (space : Layers) → length vs + length edges + length triangles + length solids ≤ 60000 → space ≡ set_space (sets_of (length vs) (is_face rows)) → simplices_of v ≡ Ok space
    all-cells space l e = space-read ∙ (not-many (set_space sets) (omega (arith, l, counted)) ∙ ap (λ (s : Layers). Ok s) (sym e))

    pub regular-cells : SetSpacesAreRegular → (space : Layers) → length vs + length edges + length triangles + length solids ≤ 60000 → space ≡ set_space (sets_of (length vs) (is_face rows)) → IsRegular space
    regular-cells law space l e = subst IsRegular (sym e) (law (length vs) (is_face rows) (faces-closed rows) (omega (arith, l, counted)))
