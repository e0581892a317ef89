-- The torus in the making.
use Rattle.std.proofs.Common.{◌≡◌, ◌≢◌, ℕ, ◌+◌, ◌-◌, ◌*◌, ◌/◌, ◌%◌, ◌<◌, ◌≤◌, List, [], ◌∷◌, ◌++◌, Bool, true, false, cond, eqb, map, length, get_or, set, ap, sym, ◌∙◌, arith}
use Rattle.std.specs.List.{list_any}
use Rattle.std.proofs.lemmas.Bool.{eq-eqb, ne_eqb}
use Rattle.std.proofs.lemmas.List.{map-append, append-nil, length-map}
use Rattle.face_poset.specs.Words.{upto}
use Rattle.face_poset.specs.Poset.{layer, count, IsCell}
use Rattle.number_lists.specs.Members.{In, here}
use Rattle.number_lists.proofs.CallerLemmas.{In-inside, In-at, at-In, upto-In, map-In, In-map}
use Rattle.tuple_spaces.specs.Tuples.{tuples, same, is_odd, cells_in, numbers_in, layer_of, space_of}
use Rattle.tuple_spaces.specs.Torus.{facets_round}
use Rattle.tuple_spaces.specs.TorusPlaces.{volume, triple_at, dim_at, number_at, facet_places, moved, facets_at, cells_before, stage}
use Rattle.tuple_spaces.proofs.PassingPlaces.{passing, passing-more}
use Rattle.tuple_spaces.proofs.Triples.{cells_are}
use Rattle.std.proofs.lemmas.Simd.{map-map}
use Rattle.tuple_spaces.proofs.TorusFacets.{Turns, are_neighbors}
use Rattle.tuple_spaces.proofs.OddCoordinates.{dim-cons}
use Rattle.tuple_spaces.proofs.MakingLemmas.{made-all, made-below, made-more, made-same}
use Rattle.tuple_spaces.proofs.ListLemmas.{none_in}
use Rattle.tuple_spaces.proofs.TorusNumbers.{rises, to_facet, from_facet, length-cells}

-- ---- one place more

before-here : (side dim place : ℕ) → dim_at side place ≡ dim → cells_before side dim (place + 1) ≡ cells_before side dim place ++ facets_at side dim place ∷ []
before-here side dim place e =
    ap (map (facets_at side dim)) (passing-more (λ p. eqb (dim_at side p) dim) place ∙ ap (λ (b : Bool). passing (λ p. eqb (dim_at side p) dim) place ++ cond b (place ∷ []) []) (eq-eqb (dim_at side place) dim e))
    ∙ map-append (facets_at side dim) (passing (λ p. eqb (dim_at side p) dim) place) (place ∷ [])

before-other : (side dim place : ℕ) → dim_at side place ≢ dim → cells_before side dim (place + 1) ≡ cells_before side dim place
before-other side dim place ne =
    ap (map (facets_at side dim))
    (passing-more (λ p. eqb (dim_at side p) dim) place
    ∙ (ap (λ (b : Bool). passing (λ p. eqb (dim_at side p) dim) place ++ cond b (place ∷ []) []) (ne_eqb (dim_at side place) dim ne) ∙ append-nil (passing (λ p. eqb (dim_at side p) dim) place)))

module _ (side : ℕ) where
  abbrev full : ℕ → List (List ℕ)
  full dim = cells_before side dim (volume side)

  abbrev done : ℕ → ℕ → List (List ℕ)
  done place dim = cells_before side dim place

  pub stage-more : (dim place : ℕ) → dim ≤ 3 → dim_at side place ≡ dim → set (stage side dim place) dim (layer (stage side dim place) dim ++ facets_at side dim place ∷ []) ≡ stage side dim (place + 1)
  stage-more dim place l e = made-more full (done place) (done (place + 1)) dim (facets_at side dim place) l (before-here side dim place e)

  pub stage-idle : (dim place : ℕ) → dim ≤ 3 → dim_at side place ≢ dim → stage side dim place ≡ stage side dim (place + 1)
  stage-idle dim place l ne = made-same full (done place) (done (place + 1)) dim l (before-other side dim place ne)

  -- how many cells stand below
  pub stage-below : (dim place : ℕ) → 0 < side → dim ≤ 3 → 1 ≤ dim → count (stage side dim place) (dim - 1) ≡ length (cells_in (tuples 3 side) (dim - 1))
  stage-below dim place some l m =
      made-below full (done place) dim l m
      ∙ (length-map (passing (λ p. eqb (dim_at side p) (dim - 1)) (volume side)) (facets_at side (dim - 1)) ∙ sym (length-cells side (dim - 1) some))

  pub layers : (dim : ℕ) → 0 < side → cells_before side dim (volume side) ≡ map (λ t. numbers_in (cells_in (tuples 3 side) (dim - 1)) (facets_round side t)) (cells_in (tuples 3 side) dim)
  layers dim some =
      sym (ap (map (λ t. numbers_in (cells_in (tuples 3 side) (dim - 1)) (facets_round side t))) (cells_are side dim some)
      ∙ map-map (λ t. numbers_in (cells_in (tuples 3 side) (dim - 1)) (facets_round side t)) (triple_at side) (passing (λ p. eqb (dim_at side p) dim) (volume side)))

  pub stage-all : 0 < side → stage side 4 0 ≡ space_of (facets_round side) (tuples 3 side)
  stage-all some = made-all full (done 0) (layer_of (facets_round side) (tuples 3 side)) (λ d. layers d some)

-- ---- what the builder asks of the facets

-- where a coordinate is odd, there is a facet
some_of : (a b c d e f : ℕ) (bx by bz : Bool) → 1 ≤ cond bx 1 0 + (cond by 1 0 + (cond bz 1 0 + 0)) → (k : ℕ) × In k (cond bx (a ∷ b ∷ []) [] ++ (cond by (c ∷ d ∷ []) [] ++ cond bz (e ∷ f ∷ []) []))
some_of a b c d e f true by bz h = (a, here)
some_of a b c d e f false true bz h = (c, here)
some_of a b c d e f false false true h = (e, here)
some_of a b c d e f false false false h = absurd (omega arith)

module _ (side place : ℕ) (some : 0 < side) (low : place < volume side) (turns : Turns side) where
  -- a vertex has no facet
  pub no_facets : dim_at side place ≡ 0 → facets_at side (dim_at side place) place ≡ []
  no_facets e =
      none_in (facets_at side (dim_at side place) place)
      (λ n i. let r = map-In (number_at side) (facet_places side place) (from_facet side place some low turns n i) in omega (arith, (are_neighbors side place some low turns r.0 r.1).dim, e))

  -- another cell has some
  first_place : 1 ≤ dim_at side place → (k : ℕ) × In k (facet_places side place)
  first_place h =
      let x : ℕ = place / (side * side) in
      let y : ℕ = place % (side * side) / side in
      let z : ℕ = place % (side * side) % side in
      some_of (moved (side * side) place x (x - 1)) (moved (side * side) place x ((x + 1) % side)) (moved side place y (y - 1)) (moved side place y ((y + 1) % side)) (moved 1 place z (z - 1)) (moved 1 place z ((z + 1) % side)) (is_odd x) (is_odd y) (is_odd z)
      (omega (arith, h, dim-cons x (y ∷ z ∷ []), dim-cons y (z ∷ []), dim-cons z []))

  pub cell_facets : 1 ≤ dim_at side place → IsCell (length (cells_in (tuples 3 side) (dim_at side place - 1))) (facets_at side (dim_at side place) place)
  cell_facets h =
      let f = first_place h in
      let i = In-at (to_facet side place some low turns (number_at side f.0) (In-map (number_at side) f.1)) in
      record {
        rises = rises side place some low turns;
        within = λ k d l. upto-In (length (cells_in (tuples 3 side) (dim_at side place - 1))) (get_or (facets_at side (dim_at side place) place) k d)
            (In-inside (λ n. list_any (same (get_or (cells_in (tuples 3 side) (dim_at side place - 1)) (n - 1) [])) (facets_round side (triple_at side place))) (upto (length (cells_in (tuples 3 side) (dim_at side place - 1)))) (at-In (facets_at side (dim_at side place) place) k d l));
        some = omega (arith, i.1);
      }
