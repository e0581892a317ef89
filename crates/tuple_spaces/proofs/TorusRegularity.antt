-- The torus is regular: a cell with its faces lies at fixed offsets from the corner of a cube, and is the 3-cube or one of its faces.
use Rattle.std.proofs.Common.{◌≡◌, ◌≢◌, inl, inr, ℕ, zero, suc, ◌+◌, ◌-◌, ◌*◌, ◌%◌, ◌<◌, ◌≤◌, List, [], ◌∷◌, ◌++◌, Bool, true, false, cond, map, length, drop, get_or, refl, ap, sym, ◌∙◌, subst, arith}
use Rattle.std.specs.List.{range_with_len}
use Rattle.std.proofs.Math.Nat.{mod-eq_of_lt}
use Rattle.std.proofs.lemmas.Bool.{eq-eqb, false≢true}
use Rattle.std.proofs.lemmas.List.{map-append}
use Rattle.std.proofs.lemmas.List.FromFn.{length-map-range_with_len}
use Rattle.regular_check.specs.Rules.{IsRegular}
use Rattle.tuple_spaces.specs.Tuples.{tuples, dim_of, is_odd, space_of}
use Rattle.tuple_spaces.specs.Torus.{facets_round, torus_of}
use Rattle.tuple_spaces.specs.TorusPlaces.{volume, triple_at}
use Rattle.tuple_spaces.proofs.PassingPlaces.{volume-le}
use Rattle.tuple_spaces.proofs.Triples.{triples}
use Rattle.std.proofs.lemmas.Simd.{map-map}
use Rattle.tuple_spaces.proofs.TorusFacets.{Turns, even_turns, up-cases, up-below}
use Rattle.tuple_spaces.proofs.OddCoordinates.{dim-cons, odd-low, below-even, replaced}
use Rattle.tuple_spaces.proofs.ListLemmas.{two_of}
use Rattle.number_lists.specs.Members.{In, here, there}
use Rattle.number_lists.proofs.CallerLemmas.{AreDistinct, none, more, append-In, In-map, map-In, flat_map-In, In-flat_map, distinct-map, distinct-flat_map, In-range, range-In, distinct-range}
use Rattle.tuple_spaces.proofs.TupleSpaces.{IsTupleSpace, IsMoving, regular_by_copies}
use Rattle.tuple_spaces.proofs.SmallestTorus.{cube_regular}

-- ---- tuples below a limit

-- so many coordinates, each below the limit
data AreBelow (limit : ℕ) : ℕ → List ℕ → Type 0 where
  no_more : AreBelow limit 0 []
  one_more : {n c : ℕ} {cs : List ℕ} → c < limit → AreBelow limit n cs → AreBelow limit (suc n) (c ∷ cs)

tuples-below : (limit n : ℕ) (t : List ℕ) → In t (tuples n limit) → AreBelow limit n t
tuples-below limit zero t i = by_place i
  where
    by_place : {u : List ℕ} → In u ([] ∷ []) → AreBelow limit 0 u
    by_place here = no_more
    by_place (there j) = elim j [ ]
tuples-below limit (suc n) t i =
    let r = flat_map-In (λ (c : ℕ). map (λ u. c ∷ u) (tuples n limit)) (range_with_len 0 limit) i in
    let s = map-In (λ u. r.0 ∷ u) (tuples n limit) r.2 in
    subst (AreBelow limit (suc n)) (sym s.2) (one_more (let w = range-In 0 limit r.0 r.1 in omega (arith, w.1)) (tuples-below limit n s.0 s.1))

below-tuples : (limit : ℕ) {n : ℕ} {t : List ℕ} → AreBelow limit n t → In t (tuples n limit)
below-tuples limit no_more = here
below-tuples limit (one_more {n} {c} {cs} l b) = In-flat_map (λ (d : ℕ). map (λ u. d ∷ u) (tuples n limit)) (In-range 0 limit c (omega arith) (omega arith)) (In-map (λ u. c ∷ u) (below-tuples limit b))

distinct-tuples : (limit n : ℕ) → AreDistinct (tuples n limit)
distinct-tuples limit zero = more (λ i. elim i [ ]) none
distinct-tuples limit (suc n) =
    distinct-flat_map (λ (c : ℕ). map (λ u. c ∷ u) (tuples n limit)) (distinct-range 0 limit) (λ c. distinct-map (λ u. c ∷ u) (λ t u e. tail_same c t u e) (distinct-tuples limit n))
    (λ c d t i j.
    let r = map-In (λ u. c ∷ u) (tuples n limit) i in
    let s = map-In (λ u. d ∷ u) (tuples n limit) j in
    ap (λ (v : List ℕ). get_or v 0 0) (sym r.2 ∙ s.2))
  where
    tail_same : (c : ℕ) (t u : List ℕ) → c ∷ t ≡ c ∷ u → t ≡ u
    tail_same c t u e = cc

-- ---- the facets of a tuple

module _ (side : ℕ) (turns : Turns side) where
  facet_of : {n : ℕ} {t : List ℕ} (u : List ℕ) → AreBelow side n t → In u (facets_round side t) → AreBelow side n u × (dim_of u + 1 ≡ dim_of t)
  facet_of u no_more i = elim i [ ]
  facet_of u (one_more {n} {c} {cs} l b) i =
      elim (append-In (cond (is_odd c) (((c - 1) ∷ cs) ∷ (((c + 1) % side) ∷ cs) ∷ []) []) (map (λ t. c ∷ t) (facets_round side cs)) i) [
        | inl p ↦
            let r = two_of (is_odd c) ((c - 1) ∷ cs) (((c + 1) % side) ∷ cs) p in
            elim r.1 [
              | inl e ↦ subst (λ (v : List ℕ). AreBelow side (suc n) v × (dim_of v + 1 ≡ dim_of (c ∷ cs))) (sym e) (one_more (omega arith) b, replaced c (c - 1) cs r.0 (below-even c r.0))
              | inr e ↦ subst (λ (v : List ℕ). AreBelow side (suc n) v × (dim_of v + 1 ≡ dim_of (c ∷ cs))) (sym e) (one_more (up-below side c l) b, replaced c ((c + 1) % side) cs r.0 (turns c l r.0))
            ]
        | inr p ↦
            let r = map-In (λ t. c ∷ t) (facets_round side cs) p in
            let k = facet_of r.0 b r.1 in
            subst (λ (v : List ℕ). AreBelow side (suc n) v × (dim_of v + 1 ≡ dim_of (c ∷ cs))) (sym r.2) (one_more l k.0, omega (arith, dim-cons c r.0, dim-cons c cs, k.1))
      ]

  some_facet : (t : List ℕ) → 1 ≤ dim_of t → (u : List ℕ) × In u (facets_round side t)
  some_facet [] h = absurd (omega (arith, h))
  some_facet (c ∷ cs) h = by_test (is_odd c) (omega (arith, h, dim-cons c cs)) (λ k. some_facet cs k)
    where
      by_test : (b : Bool) → 1 ≤ cond b 1 0 + dim_of cs → (1 ≤ dim_of cs → (u : List ℕ) × In u (facets_round side cs)) → (u : List ℕ) × In u (cond b (((c - 1) ∷ cs) ∷ (((c + 1) % side) ∷ cs) ∷ []) [] ++ map (λ t. c ∷ t) (facets_round side cs))
      by_test true l k = ((c - 1) ∷ cs, here)
      by_test false l k = let r = k (omega (arith, l)) in (c ∷ r.0, In-map (λ t. c ∷ t) r.1)

  -- all triples below a side
  triple_space : 0 < side → side ≤ 38 → IsTupleSpace (facets_round side) (tuples 3 side)
  triple_space some small =
      record {
        distinct = distinct-tuples side 3;
        closed = λ t u i j. (let r = facet_of u (tuples-below side 3 t i) j in (below-tuples side r.0, r.1));
        some = λ t i l. some_facet t l;
        few = omega (arith, ap length (triples side some), length-map-range_with_len (triple_at side) 0 (volume side), volume-le side small);
      }

-- ---- one direction

-- the coordinate that lies at an offset from the one below an odd coordinate
abbrev pub offset : (side base : ℕ) → ℕ → ℕ
offset side base a = (base - 1 + a) % side

three : (P : ℕ → Type 0) → P 0 → P 1 → P 2 → (a : ℕ) → a < 3 → P a
three P p q r zero l = p
three P p q r (suc zero) l = q
three P p q r (suc (suc zero)) l = r
three P p q r (suc (suc (suc a))) l = absurd (omega arith)

-- the numbers below 3
pub three_turns : Turns 3
three_turns c l e = three (λ c. is_odd c ≡ true → is_odd ((c + 1) % 3) ≡ false) (λ o. absurd (false≢true o)) (λ o. refl) (λ o. absurd (false≢true o)) c l e

module _ (side : ℕ) (even : side % 2 ≡ 0) (four : 4 ≤ side) where
  module _ (base : ℕ) (low : base < side) (odd : is_odd base ≡ true) where
    pub offset-zero : offset side base 0 ≡ base - 1
    offset-zero = let e : base - 1 + 0 ≡ base - 1 = omega arith in ap (λ (n : ℕ). n % side) e ∙ mod-eq_of_lt (let l : base - 1 < side = omega (arith, low) in l)

    pub offset-one : offset side base 1 ≡ base
    offset-one = let o : 1 ≤ base = odd-low base odd in let e : base - 1 + 1 ≡ base = omega arith in ap (λ (n : ℕ). n % side) e ∙ mod-eq_of_lt low

    offset-two : offset side base 2 ≡ (base + 1) % side
    offset-two = let o : 1 ≤ base = odd-low base odd in let e : base - 1 + 2 ≡ base + 1 = omega arith in ap (λ (n : ℕ). n % side) e

    offset-below : (a : ℕ) → a < 3 → offset side base a < side
    offset-below a l =
        three (λ a. offset side base a < side) (omega (arith, offset-zero, low)) (omega (arith, offset-one, low))
        (elim (up-cases side base low) [ inl q ↦ omega (arith, offset-two, q.0, q.1) | inr q ↦ omega (arith, offset-two, q.1, four) ]) a l

    offset-odd : (a : ℕ) → a < 3 → is_odd (offset side base a) ≡ is_odd a
    offset-odd a l =
        three (λ a. is_odd (offset side base a) ≡ is_odd a) (ap is_odd offset-zero ∙ below-even base odd) (ap is_odd offset-one ∙ odd) (ap is_odd offset-two ∙ even_turns side even base low odd) a l

    apart : (a b : ℕ) → (offset side base 0 ≡ offset side base 1 → ⊥) × (offset side base 0 ≡ offset side base 2 → ⊥) × (offset side base 1 ≡ offset side base 2 → ⊥)
    apart a b =
        let o : 1 ≤ base = odd-low base odd in (
          λ e. omega (arith, e, offset-zero, offset-one, o),
          λ e. elim (up-cases side base low) [ inl q ↦ omega (arith, e, offset-zero, offset-two, q.1) | inr q ↦ omega (arith, e, offset-zero, offset-two, q.0, q.1, four) ],
          λ e. elim (up-cases side base low) [ inl q ↦ omega (arith, e, offset-one, offset-two, q.1) | inr q ↦ omega (arith, e, offset-one, offset-two, q.1, o) ],
        )

    offset-once : (a b : ℕ) → a < 3 → b < 3 → offset side base a ≡ offset side base b → a ≡ b
    offset-once a b l m =
        three (λ a. offset side base a ≡ offset side base b → a ≡ b)
        (three (λ b. offset side base 0 ≡ offset side base b → 0 ≡ b) (λ e. refl) (λ e. absurd ((apart 0 0).0 e)) (λ e. absurd ((apart 0 0).1 e)) b m)
        (three (λ b. offset side base 1 ≡ offset side base b → 1 ≡ b) (λ e. absurd ((apart 0 0).0 (sym e))) (λ e. refl) (λ e. absurd ((apart 0 0).2 e)) b m)
        (three (λ b. offset side base 2 ≡ offset side base b → 2 ≡ b) (λ e. absurd ((apart 0 0).1 (sym e))) (λ e. absurd ((apart 0 0).2 (sym e))) (λ e. refl) b m) a l

    offset-down : (a : ℕ) → a < 3 → is_odd a ≡ true → offset side base a - 1 ≡ offset side base (a - 1)
    offset-down a l =
        three (λ a. is_odd a ≡ true → offset side base a - 1 ≡ offset side base (a - 1)) (λ o. absurd (false≢true o)) (λ o. omega (arith, offset-one, offset-zero)) (λ o. absurd (false≢true o)) a l

    offset-up : (a : ℕ) → a < 3 → is_odd a ≡ true → (offset side base a + 1) % side ≡ offset side base ((a + 1) % 3)
    offset-up a l =
        three (λ a. is_odd a ≡ true → (offset side base a + 1) % side ≡ offset side base ((a + 1) % 3)) (λ o. absurd (false≢true o))
        (λ o. ap (λ (n : ℕ). (n + 1) % side) offset-one ∙ sym offset-two) (λ o. absurd (false≢true o)) a l

  -- ---- all directions

  -- odd coordinates, below the side
  data AreBases : ℕ → List ℕ → Type 0 where
    no_base : AreBases 0 []
    one_base : {n b : ℕ} {bs : List ℕ} → b < side → is_odd b ≡ true → AreBases n bs → AreBases (suc n) (b ∷ bs)

  -- the tuple at these offsets
  abbrev offsets : List ℕ → List ℕ → List ℕ
  offsets [] xs = []
  offsets (b ∷ bs) [] = []
  offsets (b ∷ bs) (a ∷ xs) = offset side b a ∷ offsets bs xs

  offsets-below : {n : ℕ} {bs xs : List ℕ} → AreBases n bs → AreBelow 3 n xs → AreBelow side n (offsets bs xs)
  offsets-below no_base no_more = no_more
  offsets-below (one_base {n} {b} {bs} l o h) (one_more {c = a} {cs = xs} m k) = one_more (offset-below b l o a m) (offsets-below h k)

  offsets-dim : {n : ℕ} {bs xs : List ℕ} → AreBases n bs → AreBelow 3 n xs → dim_of (offsets bs xs) ≡ dim_of xs
  offsets-dim no_base no_more = refl
  offsets-dim (one_base {n} {b} {bs} l o h) (one_more {c = a} {cs = xs} m k) =
      dim-cons (offset side b a) (offsets bs xs)
      ∙ (ap (λ (t : Bool). cond t 1 0 + dim_of (offsets bs xs)) (offset-odd b l o a m) ∙ (ap (λ (d : ℕ). cond (is_odd a) 1 0 + d) (offsets-dim h k) ∙ sym (dim-cons a xs)))

  offsets-once : {n : ℕ} {bs ts us : List ℕ} → AreBases n bs → AreBelow 3 n ts → AreBelow 3 n us → offsets bs ts ≡ offsets bs us → ts ≡ us
  offsets-once no_base no_more no_more e = refl
  offsets-once (one_base {n} {b} {bs} l o h) (one_more {c = t} {cs = ts} m k) (one_more {c = u} {cs = us} p q) e =
      let x : t ≡ u = offset-once b l o t u m p (ap (λ (v : List ℕ). get_or v 0 0) e) in
      let y : ts ≡ us = offsets-once h k q (ap (λ (v : List ℕ). drop 1 v) e) in
      ap (λ (c : ℕ). c ∷ ts) x ∙ ap (λ (v : List ℕ). u ∷ v) y

  offsets-facets : {n : ℕ} {bs xs : List ℕ} → AreBases n bs → AreBelow 3 n xs → facets_round side (offsets bs xs) ≡ map (offsets bs) (facets_round 3 xs)
  offsets-facets no_base no_more = refl
  offsets-facets (one_base {n} {b} {bs} l o h) (one_more {c = a} {cs = xs} m k) =
      let σs : List ℕ = offsets bs xs in
      let first : cond (is_odd (offset side b a)) (((offset side b a - 1) ∷ σs) ∷ (((offset side b a + 1) % side) ∷ σs) ∷ []) [] ≡ map (offsets (b ∷ bs)) (cond (is_odd a) (((a - 1) ∷ xs) ∷ (((a + 1) % 3) ∷ xs) ∷ []) []) =
      ap (λ (t : Bool). cond t (((offset side b a - 1) ∷ σs) ∷ (((offset side b a + 1) % side) ∷ σs) ∷ []) []) (offset-odd b l o a m) ∙ by_test (is_odd a) refl (λ e. offset-down b l o a m e) (λ e. offset-up b l o a m e) in
      let others : map (λ t. offset side b a ∷ t) (facets_round side σs) ≡ map (offsets (b ∷ bs)) (map (λ t. a ∷ t) (facets_round 3 xs)) =
      ap (map (λ t. offset side b a ∷ t)) (offsets-facets h k)
      ∙ (map-map (λ t. offset side b a ∷ t) (offsets bs) (facets_round 3 xs) ∙ sym (map-map (offsets (b ∷ bs)) (λ t. a ∷ t) (facets_round 3 xs))) in
      ap (λ (ts : List (List ℕ)). ts ++ map (λ t. offset side b a ∷ t) (facets_round side σs)) first
      ∙ (ap (λ (ts : List (List ℕ)). map (offsets (b ∷ bs)) (cond (is_odd a) (((a - 1) ∷ xs) ∷ (((a + 1) % 3) ∷ xs) ∷ []) []) ++ ts) others
      ∙ sym (map-append (offsets (b ∷ bs)) (cond (is_odd a) (((a - 1) ∷ xs) ∷ (((a + 1) % 3) ∷ xs) ∷ []) []) (map (λ t. a ∷ t) (facets_round 3 xs))))
    where
      by_test : (t : Bool) → is_odd a ≡ t → (is_odd a ≡ true → offset side b a - 1 ≡ offset side b (a - 1)) → (is_odd a ≡ true → (offset side b a + 1) % side ≡ offset side b ((a + 1) % 3))
          → cond t (((offset side b a - 1) ∷ offsets bs xs) ∷ (((offset side b a + 1) % side) ∷ offsets bs xs) ∷ []) [] ≡ map (offsets (b ∷ bs)) (cond t (((a - 1) ∷ xs) ∷ (((a + 1) % 3) ∷ xs) ∷ []) [])
      by_test true e down up =
          ap (λ (c : ℕ). (c ∷ offsets bs xs) ∷ (((offset side b a + 1) % side) ∷ offsets bs xs) ∷ []) (down e) ∙ ap (λ (c : ℕ). (offset side b (a - 1) ∷ offsets bs xs) ∷ (c ∷ offsets bs xs) ∷ []) (up e)
      by_test false e down up = refl

  moving : (bs : List ℕ) → AreBases 3 bs → IsMoving (facets_round 3) (tuples 3 3) (facets_round side) (tuples 3 side) (offsets bs)
  moving bs h = record {
    into = λ t i. below-tuples side (offsets-below h (tuples-below 3 3 t i));
    dim = λ t i. offsets-dim h (tuples-below 3 3 t i);
    once = λ t u i j e. offsets-once h (tuples-below 3 3 t i) (tuples-below 3 3 u j) e;
    facets_are = λ t i. offsets-facets h (tuples-below 3 3 t i);
  }

  -- ---- each cell

  -- a coordinate lies at an offset from the one below an odd coordinate
  record IsFrom (x base a : ℕ) : Type 0 where
    pub low : base < side
    pub odd : is_odd base ≡ true
    pub small : a < 3
    pub is : offset side base a ≡ x

  from_odd : (x : ℕ) → x < side → is_odd x ≡ true → IsFrom x x 1
  from_odd x l o = record { low = l; odd = o; small = omega arith; is = offset-one x l o }

  from_even : (x : ℕ) → x < side → is_odd x ≡ false → IsFrom x (x + 1) 0
  from_even x l o =
      let e : x % 2 ≢ 1 = λ q. false≢true (sym o ∙ eq-eqb (x % 2) 1 q) in
      let low : x + 1 < side = omega (arith, e, even, l) in
      let odd : is_odd (x + 1) ≡ true = eq-eqb ((x + 1) % 2) 1 (omega (arith, e)) in
      record { low = low; odd = odd; small = omega arith; is = offset-zero (x + 1) low odd ∙ omega arith }

  from_coordinate : (x : ℕ) → x < side → (base : ℕ) × ((a : ℕ) × IsFrom x base a)
  from_coordinate x l = by_test (is_odd x) refl
    where
      by_test : (b : Bool) → is_odd x ≡ b → (base : ℕ) × ((a : ℕ) × IsFrom x base a)
      by_test true o = (x, (1, from_odd x l o))
      by_test false o = (x + 1, (0, from_even x l o))

  -- a tuple lies at offsets from some odd coordinates
  record IsAt (n : ℕ) (t bs xs : List ℕ) : Type 0 where
    pub bases : AreBases n bs
    pub small : AreBelow 3 n xs
    pub is : t ≡ offsets bs xs

  lies_at : {n : ℕ} {t : List ℕ} → AreBelow side n t → (bs : List ℕ) × ((xs : List ℕ) × IsAt n t bs xs)
  lies_at no_more = ([], ([], record { bases = no_base; small = no_more; is = refl }))
  lies_at (one_more {n} {c} {cs} l k) =
      let f = from_coordinate c l in
      let r = lies_at k in (
        f.0 ∷ r.0,
        (
          f.1.0 ∷ r.1.0,
          record {
            bases = one_base f.1.1.low f.1.1.odd r.1.1.bases;
            small = one_more f.1.1.small r.1.1.small;
            is = ap (λ (d : ℕ). d ∷ cs) (sym f.1.1.is) ∙ ap (λ (ds : List ℕ). offset side f.0 f.1.0 ∷ ds) r.1.1.is;
          },
        ),
      )

  triples_regular : side ≤ 38 → IsRegular (space_of (facets_round side) (tuples 3 side))
  triples_regular m =
      regular_by_copies (facets_round 3) (tuples 3 3) (facets_round side) (tuples 3 side) (triple_space 3 three_turns (omega arith) (omega arith)) (triple_space side (even_turns side even) (omega (arith, four)) m) cube_regular
      (λ t i l.
      let r = lies_at (tuples-below side 3 t i) in
      (offsets r.0, (r.1.0, record { moving = moving r.0 r.1.1.bases; among = below-tuples 3 r.1.1.small; is = r.1.1.is })))

pub torus_regular : (size : ℕ) → 2 ≤ size → size ≤ 19 → IsRegular (torus_of size)
torus_regular size low high = triples_regular (2 * size) (omega arith) (omega arith) (omega arith)
