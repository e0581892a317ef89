-- Cells that are sequences of points, and the same cells by the places of their points.
use Rattle.std.proofs.Common.{◌≡◌, ℕ, zero, suc, ◌-◌, List, [], ◌∷◌, Bool, true, false, cond, ◌&&◌, ◌||◌, eqb, map, filter, length, get_or, refl, ap, sym, ◌∙◌}
use Rattle.std.specs.List.{list_any, list_all}
use Rattle.std.proofs.lemmas.List.{length-map}
use Rattle.number_lists.proofs.CallerLemmas.{and-left, and-right, filter_same}
use Rattle.std.proofs.lemmas.Bool.{and_from}
use Rattle.face_poset.specs.Words.{upto}
use Rattle.tuple_spaces.specs.Tuples.{same}
use Rattle.permutahedral_arrays.specs.Places as places
use Rattle.permutahedral_arrays.specs.Permutahedra.{moved, vectors, still, chains, sequences, is_among, facets_of}
use Rattle.tuple_spaces.proofs.CallerLemmas.{map_same}
use Rattle.std.proofs.lemmas.Simd.{map-map}

-- ---- the sequences at a point

-- the sequences that begin with a point, by the vectors of each
pub sequences-are : (d k : ℕ) (first : List ℕ) (vector : ℕ → List ℕ) (shapes : List (List ℕ)) → map (λ chain. still d ∷ chain) (chains k (vectors d) (still d)) ≡ map (map vector) shapes → moved first (still d) ≡ first
    → sequences d k first ≡ map (map (λ v. moved first (vector v))) shapes
sequences-are d k first vector shapes e f =
    let cs : List (List (List ℕ)) = chains k (vectors d) (still d) in
    ap (λ (q : List ℕ). map (λ chain. q ∷ map (moved first) chain) cs) (sym f)
    ∙ (sym (map-map (map (moved first)) (λ chain. still d ∷ chain) cs)
    ∙ (ap (map (map (moved first))) e
    ∙ (map-map (map (moved first)) (map vector) shapes ∙ map_same (λ shape. map (moved first) (map vector shape)) (map (λ v. moved first (vector v))) shapes (λ shape i. map-map (moved first) vector shape))))

-- ---- the cells at a point

module _ {X : Type 0} (pass : ℕ → Bool) (at : ℕ → ℕ) (point : ℕ → X) (place : X → ℕ) (mark : ℕ → Bool) (present : X → Bool) (placed : (v : ℕ) → pass v ≡ true → at v ≡ place (point v)) (marked : (v : ℕ) → pass v ≡ true → mark (at v) ≡ present (point v)) where
  placed-all : (shape : List ℕ) → list_all pass shape ≡ true → map at shape ≡ map place (map point shape)
  placed-all [] h = refl
  placed-all (v ∷ vs) h = ap (λ i. i ∷ map at vs) (placed v (and-left (pass v) (list_all pass vs) h)) ∙ ap (λ is. place (point v) ∷ is) (placed-all vs (and-right (pass v) (list_all pass vs) h))

  marked-all : (shape : List ℕ) → list_all pass shape ≡ true → list_any mark (map at shape) ≡ list_any present (map point shape)
  marked-all [] h = refl
  marked-all (v ∷ vs) h = ap (λ b. b || list_any mark (map at vs)) (marked v (and-left (pass v) (list_all pass vs) h)) ∙ ap (λ b. present (point v) || b) (marked-all vs (and-right (pass v) (list_all pass vs) h))

  kept : (b : Bool) (x : List ℕ) (y : List X) (xs : List (List ℕ)) (ys : List (List X)) → x ≡ map place y → xs ≡ map (map place) ys → cond b (x ∷ xs) xs ≡ map (map place) (cond b (y ∷ ys) ys)
  kept true x y xs ys e f = ap (λ z. z ∷ xs) e ∙ ap (λ zs. map place y ∷ zs) f
  kept false x y xs ys e f = f

  pub cells-placed : (shapes : List (List ℕ)) → list_all (list_all pass) shapes ≡ true → filter (list_any mark) (map (map at) shapes) ≡ map (map place) (filter (list_any present) (map (map point) shapes))
  cells-placed [] h = refl
  cells-placed (s ∷ ss) h =
      let a = and-left (list_all pass s) (list_all (list_all pass) ss) h in
      let b = and-right (list_all pass s) (list_all (list_all pass) ss) h in
      let xs : List (List ℕ) = filter (list_any mark) (map (map at) ss) in
      ap (λ t. cond t (map at s ∷ xs) xs) (marked-all s a)
      ∙ kept (list_any present (map point s)) (map at s) (map point s) xs (filter (list_any present) (map (map point) ss)) (placed-all s a) (cells-placed ss b)

module _ (pass : ℕ → Bool) (at : ℕ → ℕ) (mark : ℕ → Bool) (unmarked : (v : ℕ) → pass v ≡ true → mark (at v) ≡ false) where
  unmarked-all : (shape : List ℕ) → list_all pass shape ≡ true → list_any mark (map at shape) ≡ false
  unmarked-all [] h = refl
  unmarked-all (v ∷ vs) h = ap (λ b. b || list_any mark (map at vs)) (unmarked v (and-left (pass v) (list_all pass vs) h)) ∙ unmarked-all vs (and-right (pass v) (list_all pass vs) h)

  -- no cell is at a point from which no present point is reached
  pub no-cells : (shapes : List (List ℕ)) → list_all (list_all pass) shapes ≡ true → filter (list_any mark) (map (map at) shapes) ≡ []
  no-cells [] h = refl
  no-cells (s ∷ ss) h =
      let xs : List (List ℕ) = filter (list_any mark) (map (map at) ss) in
      ap (λ t. cond t (map at s ∷ xs) xs) (unmarked-all s (and-left (list_all pass s) (list_all (list_all pass) ss) h)) ∙ no-cells ss (and-right (list_all pass s) (list_all (list_all pass) ss) h)

-- what is true of all points of all cells
module _ {X : Type 0} (pass : ℕ → Bool) (point : ℕ → X) (ok : X → Bool) (good : (v : ℕ) → pass v ≡ true → ok (point v) ≡ true) where
  good-points : (shape : List ℕ) → list_all pass shape ≡ true → list_all ok (map point shape) ≡ true
  good-points [] h = refl
  good-points (v ∷ vs) h = and_from (ok (point v)) (list_all ok (map point vs)) (good v (and-left (pass v) (list_all pass vs) h)) (good-points vs (and-right (pass v) (list_all pass vs) h))

  pub good-cells : (shapes : List (List ℕ)) → list_all (list_all pass) shapes ≡ true → list_all (list_all ok) (map (map point) shapes) ≡ true
  good-cells [] h = refl
  good-cells (s ∷ ss) h =
      and_from (list_all ok (map point s)) (list_all (list_all ok) (map (map point) ss)) (good-points s (and-left (list_all pass s) (list_all (list_all pass) ss) h))
      (good-cells ss (and-right (list_all pass s) (list_all (list_all pass) ss) h))

-- ---- facets

all-at : {A : Type 0} (p : A → Bool) (xs : List A) (i : ℕ) (d : A) → p d ≡ true → list_all p xs ≡ true → p (get_or xs i d) ≡ true
all-at p [] i d e h = e
all-at p (x ∷ xs) zero d e h = and-left (p x) (list_all p xs) h
all-at p (x ∷ xs) (suc i) d e h = all-at p xs i d e (and-right (p x) (list_all p xs) h)

at-map : {A B : Type 0} (f : A → B) (xs : List A) (i : ℕ) (d : A) → get_or (map f xs) i (f d) ≡ f (get_or xs i d)
at-map f [] i d = refl
at-map f (x ∷ xs) zero d = refl
at-map f (x ∷ xs) (suc i) d = at-map f xs i d

module _ (place : List ℕ → ℕ) (ok : List ℕ → Bool) (once : (t u : List ℕ) → ok t ≡ true → ok u ≡ true → eqb (place u) (place t) ≡ same t u) where
  among : (t : List ℕ) (points : List (List ℕ)) → ok t ≡ true → list_all ok points ≡ true → list_any (λ q. eqb q (place t)) (map place points) ≡ is_among points t
  among t [] e h = refl
  among t (u ∷ us) e h =
      ap (λ b. b || list_any (λ q. eqb q (place t)) (map place us)) (once t u e (and-left (ok u) (list_all ok us) h)) ∙ ap (λ b. same t u || b) (among t us e (and-right (ok u) (list_all ok us) h))

  all_among : (points cell : List (List ℕ)) → list_all ok points ≡ true → list_all ok cell ≡ true → places.holds_all (map place points) (map place cell) ≡ list_all (is_among points) cell
  all_among points [] h k = refl
  all_among points (t ∷ ts) h k =
      ap (λ b. b && places.holds_all (map place points) (map place ts)) (among t points (and-left (ok t) (list_all ok ts) k) h) ∙ ap (λ b. is_among points t && b) (all_among points ts h (and-right (ok t) (list_all ok ts) k))

  -- a cell has the same facets by the places of its points
  pub facets-same : (above : List (List (List ℕ))) (cell : List (List ℕ)) → list_all (list_all ok) above ≡ true → list_all ok cell ≡ true → places.facets_of (map (map place) above) (map place cell) ≡ facets_of above cell
  facets-same above cell h k =
      ap (λ n. filter (λ n. places.holds_all (get_or (map (map place) above) (n - 1) []) (map place cell)) (upto n)) (length-map above (map place))
      ∙ filter_same (λ n. places.holds_all (get_or (map (map place) above) (n - 1) []) (map place cell)) (λ n. list_all (is_among (get_or above (n - 1) [])) cell) (upto (length above))
      (λ i d l. let n : ℕ = get_or (upto (length above)) i d in ap (λ points. places.holds_all points (map place cell)) (at-map (map place) above (n - 1) []) ∙ all_among (get_or above (n - 1) []) cell (all-at (list_all ok) above (n - 1) [] refl h) k)

  pub layer-same : (above cells : List (List (List ℕ))) → list_all (list_all ok) above ≡ true → list_all (list_all ok) cells ≡ true → places.layer_of (map (map place) above) (map (map place) cells) ≡ map (facets_of above) cells
  layer-same above [] h k = refl
  layer-same above (c ∷ cs) h k =
      ap (λ fs. fs ∷ places.layer_of (map (map place) above) (map (map place) cs)) (facets-same above c h (and-left (list_all ok c) (list_all (list_all ok) cs) k))
      ∙ ap (λ ls. facets_of above c ∷ ls) (layer-same above cs h (and-right (list_all ok c) (list_all (list_all ok) cs) k))
