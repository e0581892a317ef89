-- Spaces of sets are regular: each cell with its faces is a copy of a simplex with its faces.
use Rattle.std.proofs.Common.{◌≡◌, ℕ, suc, ◌+◌, ◌-◌, ◌<◌, ◌≤◌, List, [], ◌∷◌, Bool, true, map, length, get_or, drop, refl, ap, sym, ◌∙◌, subst, arith}
use Rattle.std.proofs.lemmas.List.{get_or-map, length-map, same_lists, get_or_default}
use Rattle.number_lists.specs.Words.{upto}
use Rattle.number_lists.specs.Members.{In, here, there}
use Rattle.number_lists.proofs.CallerLemmas.{In-filter, In-inside, filter-In, upto-In, AreDistinct, distinct-filter, distinct-range, distinct-at, In-map, map-In, get_or-upto, length-upto}
use Rattle.face_poset.specs.Poset.{count, cell_count, facets_of}
use Rattle.regular_check.specs.Rules.{IsRegular, two_ends, one_cycle, each_twice, connected, is_spherical}
use Rattle.regular_check.proofs.CallerLemmas.{regular_from, IsCopy, edge_copied, disk_copied, solid_copied}
use Rattle.facet_reader.specs.SetSpaces.{choices, leave_one, sets_of, set_space, IsClosed, SetSpacesAreRegular}
use Rattle.facet_reader.proofs.Choices.{IsPart, whole_part, part_of_part, part-In, choice-part, choice-of-part, leave-part, leave-some, leave-map, part-map, part-distinct, distinct-choices}
use Rattle.facet_reader.proofs.SetSpaces.{place_in, IsSetSpace, dim-low, set-In, IsNumber, is_number, cell_once, facets-In, In-facets, is_space}

-- all parts of the numbers from 1 to m
abbrev pub simplex : ℕ → ℕ → List (List ℕ)
simplex m = sets_of m (λ _. true)

-- the sets of a test that holds of the parts
pub is_set_space : (n : ℕ) (test : List ℕ → Bool) → IsClosed test → cell_count (set_space (sets_of n test)) ≤ 60000 → IsSetSpace (sets_of n test)
is_set_space n test closed few =
    record {
      distinct = λ d. distinct-filter test (distinct-choices (suc d) (upto n) (distinct-range 1 n));
      closed = λ d t u i j.
          let p = choice-part (suc (suc d)) t (upto n) (In-inside test (choices (suc (suc d)) (upto n)) i) in
          let q = leave-part t u j in
          let l : length u ≡ suc d = omega (arith, p.1, q.1) in
          In-filter test (choice-of-part (suc d) (part_of_part q.0 p.0) l) (closed (suc d) t u (filter-In test (choices (suc (suc d)) (upto n)) i) (choice-of-part (suc d) q.0 l));
      some = λ d t i. some_left t (choice-part (suc (suc d)) t (upto n) (In-inside test (choices (suc (suc d)) (upto n)) i)).1;
      few = few;
    }
  where
    some_left : {k : ℕ} (t : List ℕ) → length t ≡ suc k → (u : List ℕ) × In u (leave_one t)
    some_left [] e = absurd (omega (arith, e))
    some_left (x ∷ t) e = leave-some x t

-- ---- one cell with its faces

-- the members of a list at the places that some numbers say
abbrev at_places : List ℕ → List ℕ → List ℕ
at_places s = map (λ k. get_or s (k - 1) 0)

pub all-places : (s : List ℕ) → at_places s (upto (length s)) ≡ s
all-places s =
    same_lists (map (λ k. get_or s (k - 1) 0) (upto (length s))) s (length-map (upto (length s)) (λ k. get_or s (k - 1) 0) ∙ length-upto (length s))
    (λ i d l. at i d d (omega (arith, l, length-map (upto (length s)) (λ k. get_or s (k - 1) 0), length-upto (length s))))
  where
    at : (i d e : ℕ) → i < length s → get_or (map (λ k. get_or s (k - 1) 0) (upto (length s))) i d ≡ get_or s i e
    at i d e m =
        let q : i + 1 - 1 ≡ i = omega arith in
        get_or-map (λ k. get_or s (k - 1) 0) (upto (length s)) i 0 d (omega (arith, m, length-upto (length s)))
        ∙ (ap (λ (k : ℕ). get_or s (k - 1) 0) (get_or-upto (length s) i m) ∙ (ap (λ (k : ℕ). get_or s k 0) q ∙ get_or_default s i 0 e m))

-- maps of members that are kept apart
apart : (f : ℕ → ℕ) (s t : List ℕ) → ((x y : ℕ) → In x s → In y t → f x ≡ f y → x ≡ y) → map f s ≡ map f t → s ≡ t
apart f [] [] h e = refl
apart f [] (y ∷ t) h e = cc
apart f (x ∷ s) [] h e = cc
apart f (x ∷ s) (y ∷ t) h e =
    let q : x ≡ y = h x y here here (ap (λ (l : List ℕ). get_or l 0 0) e) in
    let r : s ≡ t = apart f s t (λ a b i j. h a b (there i) (there j)) (ap (λ (l : List ℕ). drop 1 l) e) in
    ap (λ (z : ℕ). z ∷ s) q ∙ ap (λ (l : List ℕ). y ∷ l) r

-- the simplices of dimensions 1 to 3
edge_regular : IsRegular (set_space (simplex 2))
edge_regular = refl

triangle_regular : IsRegular (set_space (simplex 3))
triangle_regular = refl

solid_regular : IsRegular (set_space (simplex 4))
solid_regular = refl

small_edge : cell_count (set_space (simplex 2)) ≤ 60000
small_edge = omega arith

small_triangle : cell_count (set_space (simplex 3)) ≤ 60000
small_triangle = omega arith

small_solid : cell_count (set_space (simplex 4)) ≤ 60000
small_solid = omega arith

module _ (n : ℕ) (test : List ℕ → Bool) (closed : IsClosed test) (few : cell_count (set_space (sets_of n test)) ≤ 60000) where
  abbrev h : IsSetSpace (sets_of n test)
  h = is_set_space n test closed few

  -- a simplex whose parts are parts of a cell
  module _ (m : ℕ) (s : List ℕ) (here_is : In s (choices m (upto n))) (passes : test s ≡ true) (small : cell_count (set_space (simplex m)) ≤ 60000) where
    abbrev k : IsSetSpace (simplex m)
    k = is_set_space m (λ _. true) (λ size a b e i. refl) small

    long : length s ≡ m
    long = (choice-part m s (upto n) here_is).1

    part_s : IsPart s (upto n)
    part_s = (choice-part m s (upto n) here_is).0

    different : AreDistinct s
    different = part-distinct part_s (distinct-range 1 n)

    abbrev σ : List ℕ → List ℕ
    σ = at_places s

    inside : (d : ℕ) (t : List ℕ) → In t (simplex m d) → IsPart t (upto m) × (length t ≡ suc d)
    inside d t i = choice-part (suc d) t (upto m) (In-inside (λ _. true) (choices (suc d) (upto m)) i)

    -- a part of the numbers from 1 to m goes to a part of the set
    part_σ : (t : List ℕ) → IsPart t (upto m) → IsPart (at_places s t) s
    part_σ t p = subst (IsPart (σ t)) (ap (λ (j : ℕ). at_places s (upto j)) (sym long) ∙ all-places s) (part-map (λ j. get_or s (j - 1) 0) p)

    into : (d : ℕ) (t : List ℕ) → In t (simplex m d) → In (at_places s t) (sets_of n test d)
    into d t i =
        let p = inside d t i in
        let q : IsPart (σ t) s = part_σ t p.0 in
        let l : length (σ t) ≡ suc d = length-map t (λ j. get_or s (j - 1) 0) ∙ p.1 in
        In-filter test (choice-of-part (suc d) (part_of_part q part_s) l) (closed (suc d) s (σ t) passes (choice-of-part (suc d) q l))

    within : (d x : ℕ) (t : List ℕ) → In t (simplex m d) → In x t → (1 ≤ x) × (x ≤ m)
    within d x t i j = upto-In m x (part-In (inside d t i).0 j)

    once : (d : ℕ) (t u : List ℕ) → In t (simplex m d) → In u (simplex m d) → at_places s t ≡ at_places s u → t ≡ u
    once d t u i j e =
        apart (λ a. get_or s (a - 1) 0) t u
        (λ x y a b q.
        let p = within d x t i a in
        let r = within d y u j b in
        let w : x - 1 ≡ y - 1 = distinct-at (x - 1) (y - 1) 0 different (omega (arith, p.0, p.1, long)) (omega (arith, r.0, r.1, long)) q in
        omega (arith, w, p.0, r.0)) e

    abbrev part : ℕ → ℕ → Type 0
    part d c = (1 ≤ c) × (c ≤ count (set_space (simplex m)) d)

    -- where a cell goes
    abbrev φ : ℕ → ℕ → ℕ
    φ d c = place_in (sets_of n test d) (at_places s (get_or (simplex m d) (c - 1) [])) + 1

    moved : (d c : ℕ) → part d c → IsNumber (sets_of n test) d (at_places s (get_or (simplex m d) (c - 1) [])) (φ d c)
    moved d c p = is_number (sets_of n test) d (σ (get_or (simplex m d) (c - 1) [])) (dim-low (simplex m) d c p.0 p.1) (into d (get_or (simplex m d) (c - 1) []) (set-In (simplex m) d c p.0 p.1))

    φ-number : (d : ℕ) (u : List ℕ) → d ≤ 3 → In u (simplex m d) → φ d (place_in (simplex m d) u + 1) ≡ place_in (sets_of n test d) (at_places s u) + 1
    φ-number d u l i = ap (λ (t : List ℕ). place_in (sets_of n test d) (at_places s t) + 1) (is_number (simplex m) d u l i).back

    copy : IsCopy (set_space (simplex m)) (set_space (sets_of n test)) part φ
    copy =
        record {
          cell = λ d c p. p;
          down = λ d c f p i. (let r = facets-In (simplex m) k d c f p.0 p.1 i in (r.1, r.2));
          image = λ d c p. (let r = moved d c p in (r.low, r.high));
          once = λ d a b p q e.
              let same_image : σ (get_or (simplex m d) (a - 1) []) ≡ σ (get_or (simplex m d) (b - 1) []) = sym (moved d a p).back ∙ (ap (λ (c : ℕ). get_or (sets_of n test d) (c - 1) []) e ∙ (moved d b q).back) in
              cell_once (simplex m) k d a b p.0 p.1 q.0 q.1 (once d (get_or (simplex m d) (a - 1) []) (get_or (simplex m d) (b - 1) []) (set-In (simplex m) d a p.0 p.1) (set-In (simplex m) d b q.0 q.1) same_image);
          to = λ d c f p i.
              let r = facets-In (simplex m) k d c f p.0 p.1 i in
              let w = moved (suc d) c p in
              let t : List ℕ = get_or (simplex m (suc d)) (c - 1) [] in
              let u : List ℕ = get_or (simplex m d) (f - 1) [] in
              let j : In (σ u) (leave_one (get_or (sets_of n test (suc d)) (φ (suc d) c - 1) [])) = subst (λ (v : List ℕ). In (σ u) (leave_one v)) (sym w.back) (subst (In (σ u)) (sym (leave-map (λ a. get_or s (a - 1) 0) t)) (In-map σ r.0)) in
              In-facets (sets_of n test) h d (φ (suc d) c) (σ u) w.low w.high j;
          from = λ d c y p i.
              let w = moved (suc d) c p in
              let t : List ℕ = get_or (simplex m (suc d)) (c - 1) [] in
              let r = facets-In (sets_of n test) h d (φ (suc d) c) y w.low w.high i in
              let j : In (get_or (sets_of n test d) (y - 1) []) (map σ (leave_one t)) = subst (In (get_or (sets_of n test d) (y - 1) [])) (leave-map (λ a. get_or s (a - 1) 0) t) (subst (λ (v : List ℕ). In (get_or (sets_of n test d) (y - 1) []) (leave_one v)) w.back r.0) in
              let v = map-In σ (leave_one t) j in
              let three : d ≤ 3 = (let l : suc d ≤ 3 = dim-low (simplex m) (suc d) c p.0 p.1 in omega arith) in
              let low : In v.0 (simplex m d) = k.closed d t v.0 (set-In (simplex m) (suc d) c p.0 p.1) v.1 in
              let z : IsNumber (sets_of n test) d (σ v.0) (place_in (sets_of n test d) (σ v.0) + 1) = is_number (sets_of n test) d (σ v.0) three (into d v.0 low) in
              let same_cell : y ≡ place_in (sets_of n test d) (σ v.0) + 1 = cell_once (sets_of n test) h d y (place_in (sets_of n test d) (σ v.0) + 1) r.1 r.2 z.low z.high (v.2 ∙ sym z.back) in
              (place_in (simplex m d) v.0 + 1, In-facets (simplex m) k d c v.0 p.0 p.1 v.1, same_cell ∙ sym (φ-number d v.0 three low));
        }

    -- the cell itself is the copy of the only cell of the simplex
    record IsCovered (d c a : ℕ) : Type 0 where
      pub cell : part d a
      pub is : c ≡ φ d a

    covered : (d c : ℕ) → suc d ≡ m → 1 ≤ c → c ≤ count (set_space (sets_of n test)) d → get_or (sets_of n test d) (c - 1) [] ≡ s → IsCovered d c (place_in (simplex m d) (upto m) + 1)
    covered d c e low high is =
        let three = dim-low (sets_of n test) d c low high in
        let i : In (upto m) (simplex m d) = In-filter (λ _. true) (choice-of-part (suc d) (whole_part (upto m)) (length-upto m ∙ sym e)) refl in
        let a = is_number (simplex m) d (upto m) three i in
        let z = is_number (sets_of n test) d (σ (upto m)) three (into d (upto m) i) in
        let q : σ (upto m) ≡ s = ap (λ (j : ℕ). at_places s (upto j)) (sym long) ∙ all-places s in
        record { cell = (a.low, a.high); is = cell_once (sets_of n test) h d c (place_in (sets_of n test d) (σ (upto m)) + 1) low high z.low z.high (is ∙ (sym q ∙ sym z.back)) ∙ sym (φ-number d (upto m) three i) }

  -- the set of a cell is a choice that passes
  choice_is : (d c : ℕ) → 1 ≤ c → c ≤ count (set_space (sets_of n test)) d → In (get_or (sets_of n test d) (c - 1) []) (choices (suc d) (upto n)) × (test (get_or (sets_of n test d) (c - 1) []) ≡ true)
  choice_is d c low high =
      let i = set-In (sets_of n test) d c low high in
      (In-inside test (choices (suc d) (upto n)) i, filter-In test (choices (suc d) (upto n)) i)

  pub sets_kept : IsRegular (set_space (sets_of n test))
  sets_kept =
      let space : List (List (List ℕ)) = set_space (sets_of n test) in
      regular_from space
      (λ e low high.
      let s : List ℕ = get_or (sets_of n test 1) (e - 1) [] in
      let p = choice_is 1 e low high in
      let c = covered 2 s p.0 p.1 small_edge 1 e refl low high refl in
      subst (λ (x : ℕ). two_ends space x ≡ true) (sym c.is)
      (edge_copied (set_space (simplex 2)) space (part 2 s p.0 p.1 small_edge) (φ 2 s p.0 p.1 small_edge) (is_space (simplex 2) (is_set_space 2 (λ _. true) (λ size a b q i. refl) small_edge)) (is_space (sets_of n test) h) (copy 2 s p.0 p.1 small_edge) edge_regular (place_in (simplex 2 1) (upto 2) + 1) c.cell))
      (λ e low high.
      let s : List ℕ = get_or (sets_of n test 2) (e - 1) [] in
      let p = choice_is 2 e low high in
      let c = covered 3 s p.0 p.1 small_triangle 2 e refl low high refl in
      subst (λ (x : ℕ). one_cycle space x ≡ true) (sym c.is)
      (disk_copied (set_space (simplex 3)) space (part 3 s p.0 p.1 small_triangle) (φ 3 s p.0 p.1 small_triangle) (is_space (simplex 3) (is_set_space 3 (λ _. true) (λ size a b q i. refl) small_triangle)) (is_space (sets_of n test) h) (copy 3 s p.0 p.1 small_triangle) triangle_regular (place_in (simplex 3 2) (upto 3) + 1) c.cell))
      (λ e low high.
      let s : List ℕ = get_or (sets_of n test 3) (e - 1) [] in
      let p = choice_is 3 e low high in
      let c = covered 4 s p.0 p.1 small_solid 3 e refl low high refl in
      subst (λ (x : ℕ). (each_twice space 2 (facets_of space 3 x) ≡ true) × (connected space 2 (facets_of space 3 x) ≡ true) × (is_spherical space x ≡ true)) (sym c.is)
      (solid_copied (set_space (simplex 4)) space (part 4 s p.0 p.1 small_solid) (φ 4 s p.0 p.1 small_solid) (is_space (simplex 4) (is_set_space 4 (λ _. true) (λ size a b q i. refl) small_solid)) (is_space (sets_of n test) h) (copy 4 s p.0 p.1 small_solid) solid_regular (place_in (simplex 4 3) (upto 4) + 1) c.cell))

pub sets_regular : SetSpacesAreRegular
sets_regular n test closed few = sets_kept n test closed few
