-- The places of the facets of a triple.
use Rattle.std.proofs.Common.{◌≡◌, ◌⊎◌, inl, inr, ℕ, suc, ◌+◌, ◌-◌, ◌*◌, ◌/◌, ◌%◌, ◌<◌, ◌≤◌, List, [], ◌∷◌, ◌++◌, Bool, true, false, cond, map, refl, ap, sym, ◌∙◌, subst, arith}
use Rattle.std.proofs.Math.Nat.{mod-eq_of_lt, mod_self, mul_comm, mul-le-mul_right}
use Rattle.std.proofs.lemmas.Bool.{cases_lt}
use Rattle.std.proofs.lemmas.Nat.{mod_below, div_below}
use Rattle.std.proofs.lemmas.List.{map-append}
use Rattle.number_lists.specs.Members.{In}
use Rattle.number_lists.proofs.CallerLemmas.{append-In}
use Rattle.tuple_spaces.specs.Tuples.{dim_of, is_odd}
use Rattle.tuple_spaces.specs.Torus.{facets_round}
use Rattle.tuple_spaces.specs.TorusPlaces.{volume, triple_at, dim_at, moved, pair_places, facet_places}
use Rattle.tuple_spaces.proofs.Triples.{triple_of, place_is}
use Rattle.tuple_spaces.proofs.OddCoordinates.{below-even, dim-cons, even-is, odd-is}
use Rattle.tuple_spaces.proofs.ListLemmas.{two_of}

-- ---- one up

-- one up, going round
pub up-cases : (side c : ℕ) → c < side → ((c + 1 < side) × ((c + 1) % side ≡ c + 1)) ⊎ ((c + 1 ≡ side) × ((c + 1) % side ≡ 0))
up-cases side c l =
    elim (cases_lt (c + 1) side) [
      | inl q ↦ inl (q, mod-eq_of_lt q)
      | inr q ↦ let e : c + 1 ≡ side = omega (arith, l, q) in inr (e, ap (λ (n : ℕ). n % side) e ∙ mod_self side)
    ]

pub up-below : (side c : ℕ) → c < side → (c + 1) % side < side
up-below side c l = mod_below (c + 1) side (omega (arith, l))

pub up-even : (side c : ℕ) → side % 2 ≡ 0 → c < side → is_odd c ≡ true → is_odd ((c + 1) % side) ≡ false
up-even side c s l e =
    let o : c % 2 ≡ 1 = odd-is c e in
    elim (up-cases side c l) [
      | inl q ↦ let t : (c + 1) % side ≡ c + 1 = q.1 in subst (λ (n : ℕ). is_odd n ≡ false) (sym t) (even-is (c + 1) (omega arith))
      | inr q ↦ let t : (c + 1) % side ≡ 0 = q.1 in subst (λ (n : ℕ). is_odd n ≡ false) (sym t) refl
    ]

-- one up from an odd coordinate is an even one, also where it goes round
abbrev pub Turns : ℕ → Type 0
Turns side = (c : ℕ) → c < side → is_odd c ≡ true → is_odd ((c + 1) % side) ≡ false

pub even_turns : (side : ℕ) → side % 2 ≡ 0 → Turns side
even_turns side s c l e = up-even side c s l e

-- ---- the coordinates of a place

module _ (side place : ℕ) (some : 0 < side) (low : place < volume side) where
  abbrev x : ℕ
  x = place / (side * side)

  abbrev y : ℕ
  y = place % (side * side) / side

  abbrev z : ℕ
  z = place % (side * side) % side

  wide : 0 < side * side
  wide = omega (arith, mul-le-mul_right side some)

  pub x-below : place / (side * side) < side
  x-below = div_below place (side * side) side wide (omega (arith, low, mul_comm side (side * side)))

  pub y-below : place % (side * side) / side < side
  y-below = div_below (place % (side * side)) side side some (mod_below place (side * side) wide)

  pub z-below : place % (side * side) % side < side
  z-below = mod_below (place % (side * side)) side some

  -- a place from its coordinates
  pub in_volume : (a b c : ℕ) → a < side → b < side → c < side → a * (side * side) + (b * side + c) < volume side
  in_volume a b c la lb lc =
      let m : suc a * (side * side) ≤ side * (side * side) = mul-le-mul_right (side * side) la in
      let n : suc b * side ≤ side * side = mul-le-mul_right side lb in
      omega (arith, m, n, mul_comm side (side * side))

  -- the same place in other words
  pub moved-x : (c : ℕ) → moved (side * side) place x c ≡ c * (side * side) + (y * side + z)
  moved-x c = let e = place_is side place in omega (arith, e)

  pub moved-y : (c : ℕ) → moved side place y c ≡ x * (side * side) + (c * side + z)
  moved-y c = let e = place_is side place in omega (arith, e)

  pub moved-z : (c : ℕ) → moved 1 place z c ≡ x * (side * side) + (y * side + c)
  moved-z c = let e = place_is side place in omega (arith, e)

  -- ---- their triples

  pub at-x : (c : ℕ) → triple_at side (moved (side * side) place x c) ≡ c ∷ y ∷ z ∷ []
  at-x c = ap (triple_at side) (moved-x c) ∙ triple_of side c y z y-below z-below

  pub at-y : (c : ℕ) → c < side → triple_at side (moved side place y c) ≡ x ∷ c ∷ z ∷ []
  at-y c l = ap (triple_at side) (moved-y c) ∙ triple_of side x c z l z-below

  pub at-z : (c : ℕ) → c < side → triple_at side (moved 1 place z c) ≡ x ∷ y ∷ c ∷ []
  at-z c l = ap (triple_at side) (moved-z c) ∙ triple_of side x y c y-below l

  pairs : (stride c : ℕ) (T : ℕ → List ℕ) → c < side → ((d : ℕ) → d < side → triple_at side (moved stride place c d) ≡ T d)
      → map (triple_at side) (pair_places side stride place c) ≡ cond (is_odd c) (T (c - 1) ∷ T ((c + 1) % side) ∷ []) []
  pairs stride c T l h = by_test (is_odd c)
    where
      by_test : (b : Bool) → map (triple_at side) (cond b (moved stride place c (c - 1) ∷ moved stride place c ((c + 1) % side) ∷ []) []) ≡ cond b (T (c - 1) ∷ T ((c + 1) % side) ∷ []) []
      by_test true = ap (λ (t : List ℕ). t ∷ triple_at side (moved stride place c ((c + 1) % side)) ∷ []) (h (c - 1) (omega (arith, l))) ∙ ap (λ (t : List ℕ). T (c - 1) ∷ t ∷ []) (h ((c + 1) % side) (up-below side c l))
      by_test false = refl

  together : (a b d e f g : ℕ) (bx by bz : Bool)
      → cond bx ((a ∷ y ∷ z ∷ []) ∷ (b ∷ y ∷ z ∷ []) ∷ []) [] ++ (cond by ((x ∷ d ∷ z ∷ []) ∷ (x ∷ e ∷ z ∷ []) ∷ []) [] ++ cond bz ((x ∷ y ∷ f ∷ []) ∷ (x ∷ y ∷ g ∷ []) ∷ []) [])
      ≡ cond bx ((a ∷ y ∷ z ∷ []) ∷ (b ∷ y ∷ z ∷ []) ∷ []) [] ++ map (λ t. x ∷ t) (cond by ((d ∷ z ∷ []) ∷ (e ∷ z ∷ []) ∷ []) [] ++ map (λ t. y ∷ t) (cond bz ((f ∷ []) ∷ (g ∷ []) ∷ []) [] ++ []))
  together a b d e f g true true true = refl
  together a b d e f g true true false = refl
  together a b d e f g true false true = refl
  together a b d e f g true false false = refl
  together a b d e f g false true true = refl
  together a b d e f g false true false = refl
  together a b d e f g false false true = refl
  together a b d e f g false false false = refl

  -- the triples of the facets
  pub round_is : map (triple_at side) (facet_places side place) ≡ facets_round side (triple_at side place)
  round_is =
      let px : List ℕ = pair_places side (side * side) place x in
      let py : List ℕ = pair_places side side place y in
      let pz : List ℕ = pair_places side 1 place z in
      map-append (triple_at side) px (py ++ pz)
      ∙ (ap (λ (ts : List (List ℕ)). map (triple_at side) px ++ ts) (map-append (triple_at side) py pz)
      ∙ (ap (λ (ts : List (List ℕ)). ts ++ (map (triple_at side) py ++ map (triple_at side) pz)) (pairs (side * side) x (λ c. c ∷ y ∷ z ∷ []) x-below (λ d l. at-x d))
      ∙ (ap (λ (ts : List (List ℕ)). cond (is_odd x) (((x - 1) ∷ y ∷ z ∷ []) ∷ (((x + 1) % side) ∷ y ∷ z ∷ []) ∷ []) [] ++ (ts ++ map (triple_at side) pz)) (pairs side y (λ c. x ∷ c ∷ z ∷ []) y-below at-y)
      ∙ (ap (λ (ts : List (List ℕ)). cond (is_odd x) (((x - 1) ∷ y ∷ z ∷ []) ∷ (((x + 1) % side) ∷ y ∷ z ∷ []) ∷ []) [] ++ (cond (is_odd y) ((x ∷ (y - 1) ∷ z ∷ []) ∷ (x ∷ ((y + 1) % side) ∷ z ∷ []) ∷ []) [] ++ ts)) (pairs 1 z (λ c. x ∷ y ∷ c ∷ []) z-below at-z)
      ∙ together (x - 1) ((x + 1) % side) (y - 1) ((y + 1) % side) (z - 1) ((z + 1) % side) (is_odd x) (is_odd y) (is_odd z)))))

  -- ---- what the places of facets are

  -- a triple with one odd coordinate fewer
  pub record IsNeighbor (k : ℕ) : Type 0 where
    pub below : k < volume side
    pub dim : dim_at side k + 1 ≡ dim_at side place

  pub dims : (a b c : ℕ) → dim_of (a ∷ b ∷ c ∷ []) ≡ cond (is_odd a) 1 0 + (cond (is_odd b) 1 0 + (cond (is_odd c) 1 0 + 0))
  dims a b c = dim-cons a (b ∷ c ∷ []) ∙ ap (λ (n : ℕ). cond (is_odd a) 1 0 + n) (dim-cons b (c ∷ []) ∙ ap (λ (n : ℕ). cond (is_odd b) 1 0 + n) (dim-cons c []))

  module _ (turns : Turns side) where
    -- each of the two is below the side, and even
    both : (c d : ℕ) → c < side → is_odd c ≡ true → (d ≡ c - 1) ⊎ (d ≡ (c + 1) % side) → (d < side) × (is_odd d ≡ false)
    both c d l o (inl e) = subst (λ (n : ℕ). (n < side) × (is_odd n ≡ false)) (sym e) (omega (arith, l), below-even c o)
    both c d l o (inr e) = subst (λ (n : ℕ). (n < side) × (is_odd n ≡ false)) (sym e) (up-below side c l, turns c l o)

    -- a facet in one direction
    moved_there : (stride c : ℕ) {k : ℕ} → c < side → In k (pair_places side stride place c) → (is_odd c ≡ true) × ((d : ℕ) × (d < side) × (is_odd d ≡ false) × (k ≡ moved stride place c d))
    moved_there stride c l i =
        let r = two_of (is_odd c) (moved stride place c (c - 1)) (moved stride place c ((c + 1) % side)) i in (
          r.0,
          elim r.1 [
            | inl e ↦ let w = both c (c - 1) l r.0 (inl refl) in (c - 1, w.0, w.1, e)
            | inr e ↦ let w = both c ((c + 1) % side) l r.0 (inr refl) in ((c + 1) % side, w.0, w.1, e)
          ],
        )

    neighbor : (k a b c : ℕ) → a < side → b < side → c < side → k ≡ a * (side * side) + (b * side + c) → dim_of (a ∷ b ∷ c ∷ []) + 1 ≡ dim_of (x ∷ y ∷ z ∷ []) → IsNeighbor k
    neighbor k a b c la lb lc e d = record {
      below = subst (λ (n : ℕ). n < volume side) (sym e) (in_volume a b c la lb lc);
      dim = subst (λ (n : ℕ). dim_at side n + 1 ≡ dim_at side place) (sym e) (subst (λ (t : List ℕ). dim_of t + 1 ≡ dim_at side place) (sym (triple_of side a b c lb lc)) d);
    }

    pub are_neighbors : (k : ℕ) → In k (facet_places side place) → IsNeighbor k
    are_neighbors k i =
        elim (append-In (pair_places side (side * side) place x) (pair_places side side place y ++ pair_places side 1 place z) i) [
          | inl p ↦
              let r = moved_there (side * side) x x-below p in
              let d : ℕ = r.1.0 in
              neighbor k d y z r.1.1 y-below z-below (r.1.3 ∙ moved-x d)
              (omega (arith, dims d y z ∙ ap (λ (b : Bool). cond b 1 0 + (cond (is_odd y) 1 0 + (cond (is_odd z) 1 0 + 0))) r.1.2, dims x y z ∙ ap (λ (b : Bool). cond b 1 0 + (cond (is_odd y) 1 0 + (cond (is_odd z) 1 0 + 0))) r.0))
          | inr q ↦
              elim (append-In (pair_places side side place y) (pair_places side 1 place z) q) [
                | inl p ↦
                    let r = moved_there side y y-below p in
                    let d : ℕ = r.1.0 in
                    neighbor k x d z x-below r.1.1 z-below (r.1.3 ∙ moved-y d)
                    (omega (arith, dims x d z ∙ ap (λ (b : Bool). cond (is_odd x) 1 0 + (cond b 1 0 + (cond (is_odd z) 1 0 + 0))) r.1.2, dims x y z ∙ ap (λ (b : Bool). cond (is_odd x) 1 0 + (cond b 1 0 + (cond (is_odd z) 1 0 + 0))) r.0))
                | inr p ↦
                    let r = moved_there 1 z z-below p in
                    let d : ℕ = r.1.0 in
                    neighbor k x y d x-below y-below r.1.1 (r.1.3 ∙ moved-z d)
                    (omega (arith, dims x y d ∙ ap (λ (b : Bool). cond (is_odd x) 1 0 + (cond (is_odd y) 1 0 + (cond b 1 0 + 0))) r.1.2, dims x y z ∙ ap (λ (b : Bool). cond (is_odd x) 1 0 + (cond (is_odd y) 1 0 + (cond b 1 0 + 0))) r.0))
              ]
        ]
