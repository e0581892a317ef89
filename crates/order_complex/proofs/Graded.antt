-- The order complex is a graded set.
use Rattle.std.proofs.Common.{◌≡◌, inl, inr, ℕ, zero, suc, ◌+◌, ◌-◌, ◌<◌, ◌≤◌, List, [], ◌∷◌, map, reverse, length, get_or, All, refl, ap, sym, ◌∙◌, subst, arith}
use Rattle.std.specs.Prelude.{⊤}
use Rattle.std.specs.Option.{unwrap_or}
use Rattle.std.specs.List.{AllByRecursion}
use Rattle.std.specs.List.Sorted.{IsStrictlyIncreasing}
use Rattle.std.proofs.lemmas.List.{length-map, length-reverse, get_or-reverse}
use native.Mathlib.Decide.{dec_lt}
use Prim.{yes, no}
use Rattle.face_poset.specs.Poset.{layer, count, IsCell, IsSpace}
use Rattle.number_lists.specs.Cofaces.{IsRising}
use Rattle.number_lists.specs.Members.{In, here, there}
use Rattle.number_lists.proofs.CallerLemmas.{In-cases, at-In, map-In}
use Rattle.order_complex.specs.Order.{Before, IsOrdered}
use Rattle.order_complex.specs.Chains.{chains_of, chain_count}
use Rattle.order_complex.specs.Cochains.{leave_out}
use Rattle.order_complex.specs.Complex.{number_or_zero, facet_numbers, facet_lists, complex_of}
use Rattle.order_complex.proofs.FaceIds.{face-below}
use Rattle.order_complex.proofs.Chained.{IsAbove, Follows, chains_of-member, leave_out-member}
use Rattle.order_complex.proofs.Ordered.{ordered-at, ordered-chains_of, before-self}
use Rattle.order_complex.proofs.Compare.{before-trans}
use Rattle.order_complex.proofs.Numbers.{number-at}

-- ---- the number of a member

pub record Placed (chains : List (List ℕ)) (ids : List ℕ) : Type 0 where
  pub place : ℕ
  pub within : place < length chains
  pub there : get_or chains place [] ≡ ids
  pub number : number_or_zero chains ids ≡ place + 1

place-of : (chains : List (List ℕ)) (ids : List ℕ) → In ids chains → (place : ℕ) × (place < length chains) × (get_or chains place [] ≡ ids)
place-of [] ids h = elim h [ ]
place-of (c ∷ chains) ids m =
    elim (In-cases m) [
      | inl e ↦ (0, omega arith, sym e)
      | inr h ↦ let r = place-of chains ids h in (suc r.0, omega (arith, r.1), r.2)
    ]

pub placed : (chains : List (List ℕ)) (ids : List ℕ) → IsOrdered chains → In ids chains → Placed chains ids
placed chains ids o h =
    let r = place-of chains ids h in
    record { place = r.0; within = r.1; there = r.2; number = ap (λ n. unwrap_or n 0) (number-at chains ids r.0 o r.1 r.2) }

-- an earlier member has a smaller number
number-rises : (chains : List (List ℕ)) (a b : List ℕ) → IsOrdered chains → In a chains → In b chains → Before a b → number_or_zero chains a < number_or_zero chains b
number-rises chains a b o ha hb less =
    let p = placed chains a o ha in
    let q = placed chains b o hb in
    elim (dec_lt p.place q.place) [
      | yes l ↦ omega (arith, p.number, q.number)
      | no g ↦ absurd (elim (dec_lt q.place p.place) [
        | yes l ↦ before-self a (before-trans a b a less (subst (λ x. Before x a) q.there (subst (λ x. Before (get_or chains q.place []) x) p.there (ordered-at chains q.place p.place o l p.within))))
        | no h ↦
            let same : p.place ≡ q.place = omega arith in
            before-self b (subst (λ x. Before x b) (sym p.there ∙ ap (λ i. get_or chains i []) same ∙ q.there) less)
      ])
    ]

-- ---- one entry left out: a later entry gives an earlier sequence

FallingSequences : List (List ℕ) → Type 0
FallingSequences [] = ⊤
FallingSequences (x ∷ xs) = AllByRecursion (λ y. Before y x) xs × FallingSequences xs

falling-cons : (c : ℕ) (xs : List (List ℕ)) → FallingSequences xs → FallingSequences (map (λ x. c ∷ x) xs)
unfolding FallingSequences
falling-cons c [] h = tt
falling-cons c (x ∷ xs) h = (all-cons xs h.0, falling-cons c xs h.1)
  where
    all-cons : (zs : List (List ℕ)) → AllByRecursion (λ y. Before y x) zs → AllByRecursion (λ y. Before y (c ∷ x)) (map (λ z. c ∷ z) zs)
    all-cons [] g = tt
    all-cons (z ∷ zs) g = (inr (refl, g.0), all-cons zs g.1)

first-later : (c d : ℕ) (rest : List ℕ) (xs : List (List ℕ)) → c < d → AllByRecursion (λ y. Before y (d ∷ rest)) (map (λ x. c ∷ x) xs)
first-later c d rest [] l = tt
first-later c d rest (x ∷ xs) l = (inl l, first-later c d rest xs l)

module _ (space : List (List (List ℕ))) where
  above-less : (a b : ℕ) → IsAbove space a b → a < b
  above-less a b h = (face-below space a b h.low h.high h.face).1

  leave_out-falls : (c : ℕ) (rest : List ℕ) → Follows space c rest → FallingSequences (leave_out (c ∷ rest))
  unfolding FallingSequences
  leave_out-falls c [] f = (tt, tt)
  leave_out-falls c (d ∷ rest) f =
      (first-later c d rest (leave_out (d ∷ rest)) (above-less c d f.0), falling-cons c (leave_out (d ∷ rest)) (leave_out-falls d rest f.1))

-- falling numbers
abbrev pub Falls : List ℕ → Type 0
Falls [] = ⊤
Falls (x ∷ xs) = AllByRecursion (λ y. y < x) xs × Falls xs

falls-numbers : (chains xs : List (List ℕ)) → IsOrdered chains → ((x : List ℕ) → In x xs → In x chains) → FallingSequences xs → Falls (map (number_or_zero chains) xs)
unfolding FallingSequences
falls-numbers chains [] o w h = tt
falls-numbers chains (x ∷ xs) o w h = (smaller xs h.0 (λ y m. w y (there m)), falls-numbers chains xs o (λ y m. w y (there m)) h.1)
  where
    smaller : (ys : List (List ℕ)) → AllByRecursion (λ y. Before y x) ys → ((y : List ℕ) → In y ys → In y chains) → AllByRecursion (λ n. n < number_or_zero chains x) (map (number_or_zero chains) ys)
    smaller [] g v = tt
    smaller (y ∷ ys) g v = (number-rises chains y x o (v y here) (w x here) g.0, smaller ys g.1 (λ z m. v z (there m)))

falls-at : (xs : List ℕ) (i j : ℕ) → Falls xs → i < j → j < length xs → get_or xs j 0 < get_or xs i 0
falls-at [] i j h l m = absurd (omega arith)
falls-at (x ∷ xs) i zero h l m = absurd (omega arith)
falls-at (x ∷ xs) zero (suc j) h l m = all-place xs j h.0 (omega arith)
  where
    all-place : (ys : List ℕ) (k : ℕ) → AllByRecursion (λ y. y < x) ys → k < length ys → get_or ys k 0 < x
    all-place [] k g b = absurd (omega arith)
    all-place (y ∷ ys) zero g b = g.0
    all-place (y ∷ ys) (suc k) g b = all-place ys k g.1 (omega arith)
falls-at (x ∷ xs) (suc i) (suc j) h l m = falls-at xs i j h.1 (omega arith) (omega arith)

rises-reversed : (xs : List ℕ) → Falls xs → IsStrictlyIncreasing (reverse xs)
rises-reversed xs h k l =
    let n : k + 1 < length xs = omega (arith, length-reverse xs) in
    let a : get_or (reverse xs) k 0 ≡ get_or xs (length xs - 1 - k) 0 = get_or-reverse xs k 0 (omega arith) in
    let b : get_or (reverse xs) (k + 1) 0 ≡ get_or xs (length xs - 1 - (k + 1)) 0 = get_or-reverse xs (k + 1) 0 n in
    let less : get_or xs (length xs - 1 - k) 0 < get_or xs (length xs - 1 - (k + 1)) 0 = falls-at xs (length xs - 1 - (k + 1)) (length xs - 1 - k) h (omega arith) (omega arith) in
    omega (arith, a, b, less)

-- ---- cells

pub all-index : {A : Type 0} (P : A → Type 0) (xs : List A) → ((x : A) → In x xs → P x) → All P xs
all-index P xs f i d l = f (get_or xs i d) (at-In xs i d l)

length-leave_out : (chain : List ℕ) → length (leave_out chain) ≡ length chain
length-leave_out [] = refl
length-leave_out (c ∷ cs) = omega (arith, length-map (leave_out cs) (λ chain. c ∷ chain), length-leave_out cs)

module _ (space : List (List (List ℕ))) where
  numbers-within : (degree : ℕ) (xs : List (List ℕ)) → ((x : List ℕ) → In x xs → In x (chains_of space degree)) → (n : ℕ) → In n (map (number_or_zero (chains_of space degree)) xs) → (1 ≤ n) × (n ≤ length (chains_of space degree))
  numbers-within degree xs w n h =
      let r = map-In (number_or_zero (chains_of space degree)) xs h in
      let p = placed (chains_of space degree) r.0 (ordered-chains_of space degree) (w r.0 r.1) in
      (omega (arith, p.number, r.2), omega (arith, p.number, p.within, r.2))

  -- the numbers of the chains with one entry left out fall
  pub numbers-fall : (degree : ℕ) (chain : List ℕ) → In chain (chains_of space (suc degree)) → Falls (map (number_or_zero (chains_of space degree)) (leave_out chain))
  numbers-fall degree chain h =
      let c = chains_of-member space (suc degree) chain h in
      let falls : FallingSequences (leave_out chain) = subst (λ x. FallingSequences (leave_out x)) (sym c.is) (leave_out-falls space c.first c.rest c.follows) in
      falls-numbers (chains_of space degree) (leave_out chain) (ordered-chains_of space degree) (leave_out-member space degree chain h) falls

  pub facets-are : (degree : ℕ) (chain : List ℕ) → In chain (chains_of space (suc degree)) → IsCell (length (chains_of space degree)) (facet_numbers (chains_of space degree) chain)
  facets-are degree chain h =
      let below : List (List ℕ) = chains_of space degree in
      let ns : List ℕ = map (number_or_zero below) (leave_out chain) in
      let c = chains_of-member space (suc degree) chain h in
      let w : (x : List ℕ) → In x (leave_out chain) → In x below = leave_out-member space degree chain h in
      let long : length ns ≡ length chain = length-map (leave_out chain) (number_or_zero below) ∙ length-leave_out chain in
      record {
        rises = rises-reversed ns (numbers-fall degree chain h);
        within = λ i d l.
            let lt : i < length ns = omega (arith, length-reverse ns) in
            let m : In (get_or ns (length ns - 1 - i) d) ns = at-In ns (length ns - 1 - i) d (omega arith) in
            subst (λ n. (1 ≤ n) × (n ≤ length below)) (sym (get_or-reverse ns i d lt)) (numbers-within degree (leave_out chain) w (get_or ns (length ns - 1 - i) d) m);
        some = omega (arith, length-reverse ns, long, ap (λ (x : List ℕ). length x) c.is);
      }

  all-map : (below : ℕ) (degree : ℕ) → below ≡ length (chains_of space degree) → All (IsCell below) (facet_lists space (suc degree))
  all-map below degree e =
      all-index (IsCell below) (facet_lists space (suc degree)) (λ x m.
      let r = map-In (facet_numbers (chains_of space degree)) (chains_of space (suc degree)) m in
      subst (λ n. IsCell n x) (sym e) (subst (IsCell (length (chains_of space degree))) (sym r.2) (facets-are degree r.0 r.1)))

  length-facet_lists : (degree : ℕ) → length (facet_lists space degree) ≡ length (chains_of space degree)
  length-facet_lists zero = length-map (chains_of space 0) (λ chain. [])
  length-facet_lists (suc degree) = length-map (chains_of space (suc degree)) (facet_numbers (chains_of space degree))

  no_facets : (xs : List (List ℕ)) (x : List ℕ) → In x (map {B = List ℕ} (λ chain. []) xs) → x ≡ []
  no_facets xs x m = (map-In {B = List ℕ} (λ chain. []) xs m).2

  cells-are : (dim : ℕ) → 1 ≤ dim → All (IsCell (count (complex_of space) (dim - 1))) (layer (complex_of space) dim)
  cells-are zero l = absurd (omega arith)
  cells-are (suc zero) l = all-map (count (complex_of space) 0) 0 (length-facet_lists 0)
  cells-are (suc (suc zero)) l = all-map (count (complex_of space) 1) 1 (length-facet_lists 1)
  cells-are (suc (suc (suc zero))) l = all-map (count (complex_of space) 2) 2 (length-facet_lists 2)
  cells-are (suc (suc (suc (suc dim)))) l = λ i d b. absurd (omega arith)

  pub complex-is_space : chain_count space ≤ 4294967295 → IsSpace (complex_of space)
  complex-is_space few = record {
    layers = refl;
    vertices = all-index (λ facets. facets ≡ []) (facet_lists space 0) (no_facets (chains_of space 0));
    cells = cells-are;
    few = omega (arith, length-facet_lists 0, length-facet_lists 1, length-facet_lists 2, length-facet_lists 3);
  }

  pub facet_lists-rise : (degree : ℕ) → All (IsRising (length (chains_of space degree))) (facet_lists space (suc degree))
  facet_lists-rise degree = λ i d l. let c = all-map (length (chains_of space degree)) degree refl i d l in record { rises = c.rises; within = c.within }
