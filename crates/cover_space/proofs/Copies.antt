-- The closed cells of a total space are copies of closed cells, so it is regular.
use Rattle.std.proofs.Common.{◌≡◌, ℕ, suc, ◌*◌, ◌≤◌, List, [], ◌∷◌, true, map, refl, ap, sym, ◌∙◌, subst, arith}
use Rattle.number_lists.specs.Members.{In, here, there}
use Rattle.number_lists.proofs.CallerLemmas.{In-map, map-In, In-Contains}
use Rattle.face_poset.specs.Poset.{IsSpace, count, cell_count, facets_of}
use Rattle.face_poset.specs.Below.{IsBelow, itself, facet}
use Rattle.regular_check.specs.Rules.{IsRegular, two_ends, one_cycle, each_twice, connected, is_spherical}
use Rattle.regular_check.proofs.CallerLemmas.{regular_from, IsCopy, edge_copied, disk_copied, solid_copied}
use Rattle.sheet_laws.specs.Permutations.{InRange}
use Rattle.sheet_laws.proofs.CallerLemmas.{number-range, same_vertex}
use Rattle.cover_space.specs.Total.{least_vertex, sheeted, facet_over, total_of}
use Rattle.cover_space.specs.Laws.{HasOneChoice}
use Rattle.cover_space.proofs.Inside.{below-range, below-then, least-below}
use Rattle.cover_space.proofs.Labelled.{IsLabelled}
use Rattle.cover_space.proofs.Solids.{Given}
use Rattle.cover_space.proofs.Sheets.{one-choice, sheet-below}
use Rattle.cover_space.proofs.Laid.{count-total, facets-total, facet-over, split, total_space}

-- functions that agree on the elements of a list
map-on : (f g : ℕ → ℕ) (xs : List ℕ) → ((x : ℕ) → In x xs → f x ≡ g x) → map f xs ≡ map g xs
map-on f g [] h = refl
map-on f g (x ∷ xs) h = ap (λ (y : ℕ). y ∷ map f xs) (h x here) ∙ ap (λ (ys : List ℕ). g x ∷ ys) (map-on f g xs (λ y i. h y (there i)))

module _ (G : Given) (X : List (List (List ℕ))) (hs : IsSpace X) (regular : IsRegular X) (m : ℕ) (u : List (List ℕ)) (h : IsLabelled X m u) where
  module _ (d c s : ℕ) (r : InRange (count X d) c) (q : InRange m s) where
    pub one : HasOneChoice X m u d c s
    one = one-choice G X hs regular m u h d c s r q

    -- where a face of the closed cell stands in the copy
    abbrev pub over : ℕ → ℕ → ℕ
    over e n = sheeted m n (one.over (least_vertex X e n))

    face-range : (e n : ℕ) → IsBelow X d c e n → InRange (count X e) n
    face-range e n i = below-range X hs d c r i

    -- the facets of a copy are the copies of the facets
    facets-over : (e n : ℕ) → IsBelow X d c (suc e) n → facets_of (total_of X m u) (suc e) (over (suc e) n) ≡ map (over e) (facets_of X (suc e) n)
    facets-over e n i =
        let t : ℕ = one.over (least_vertex X (suc e) n) in
        facets-total X m u hs (suc e) n t (face-range (suc e) n i) (one.is.sheets (least_vertex X (suc e) n))
        ∙ map-on (facet_over X m u (suc e) n t) (over e) (facets_of X (suc e) n)
        (λ f j.
        let k : IsBelow X (suc e) n e f = facet e n f itself (In-Contains j) in
        let low : IsBelow X (suc e) n 0 (least_vertex X e f) = below-then X hs (suc e) n e f k (least-below X hs e f (face-range e f (facet e n f i (In-Contains j)))) in
        facet-over X m u e n t f ∙ ap (sheeted m f) (sheet-below G X hs regular m u h d c s r q one.over one.is (suc e) n (least_vertex X e f) i low))

    pub copies : IsCopy X (total_of X m u) (IsBelow X d c) over
    copies =
        record {
          cell = λ e n i. face-range e n i;
          down = λ e n f i j. facet e n f i (In-Contains j);
          image = λ e n i. (let w = number-range m (count X e) n (one.over (least_vertex X e n)) (face-range e n i) (one.is.sheets (least_vertex X e n)) in (w.0, omega (arith, w.1, count-total X m u hs e)));
          once = λ e a b i j k. same_vertex m a b (one.over (least_vertex X e a)) (one.over (least_vertex X e b)) (face-range e a i).0 (face-range e b j).0 (one.is.sheets (least_vertex X e a)) (one.is.sheets (least_vertex X e b)) k;
          to = λ e n f i j. subst (In (over e f)) (sym (facets-over e n i)) (In-map (over e) j);
          from = λ e n y i j. map-In (over e) (facets_of X (suc e) n) (subst (In y) (facets-over e n i) j);
        }

    -- the cell itself
    pub own : over d c ≡ sheeted m c s
    own = ap (sheeted m c) one.is.least

  module _ (few : m * cell_count X ≤ 4294967295) where
    valid : IsSpace (total_of X m u)
    valid = total_space G X hs regular m u h few

    pub total_regular : IsRegular (total_of X m u)
    total_regular =
        regular_from (total_of X m u)
        (λ p low high.
        let w = split X m u hs h.some 1 p (low, high) in
        subst (λ (x : ℕ). two_ends (total_of X m u) x ≡ true) (own 1 w.vertex w.sheet w.vertex_range w.sheet_range ∙ w.is)
        (edge_copied X (total_of X m u) (IsBelow X 1 w.vertex) (over 1 w.vertex w.sheet w.vertex_range w.sheet_range) hs valid (copies 1 w.vertex w.sheet w.vertex_range w.sheet_range) regular w.vertex itself))
        (λ p low high.
        let w = split X m u hs h.some 2 p (low, high) in
        subst (λ (x : ℕ). one_cycle (total_of X m u) x ≡ true) (own 2 w.vertex w.sheet w.vertex_range w.sheet_range ∙ w.is)
        (disk_copied X (total_of X m u) (IsBelow X 2 w.vertex) (over 2 w.vertex w.sheet w.vertex_range w.sheet_range) hs valid (copies 2 w.vertex w.sheet w.vertex_range w.sheet_range) regular w.vertex itself))
        (λ p low high.
        let w = split X m u hs h.some 3 p (low, high) in
        subst
        (λ (x : ℕ). (each_twice (total_of X m u) 2 (facets_of (total_of X m u) 3 x) ≡ true) × (connected (total_of X m u) 2 (facets_of (total_of X m u) 3 x) ≡ true) × (is_spherical (total_of X m u) x ≡ true)) (own 3 w.vertex w.sheet w.vertex_range w.sheet_range ∙ w.is)
        (solid_copied X (total_of X m u) (IsBelow X 3 w.vertex) (over 3 w.vertex w.sheet w.vertex_range w.sheet_range) hs valid (copies 3 w.vertex w.sheet w.vertex_range w.sheet_range) regular w.vertex itself))
