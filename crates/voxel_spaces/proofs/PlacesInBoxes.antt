-- Tuples below limits by their places.
use Rattle.std.proofs.Common.{◌≡◌, ℕ, suc, ◌+◌, ◌*◌, ◌/◌, ◌%◌, ◌<◌, ◌≤◌, List, [], ◌∷◌, map, refl, ap, sym, ◌∙◌, arith}
use Rattle.std.specs.List.{All, range_with_len}
use Rattle.std.proofs.Math.Nat.{mul_comm, mul-le-mul_right}
use Rattle.std.proofs.lemmas.Nat.{div-mul-add, mod-mul-add, div-add-mod', mod_below, div_below}
use Rattle.array_values.specs.Bits.{volume}
use Rattle.tuple_spaces.proofs.CallerLemmas.{rows_joined}
use Rattle.number_lists.proofs.CallerLemmas.{flat_map_agree}
use Rattle.std.proofs.lemmas.Simd.{map-map}
use Rattle.tuple_spaces.specs.Tuples.{boxed}
use Rattle.voxel_spaces.specs.BoxTuples.{strides_of, tuple_at}

abbrev pub Some : List ℕ → Type 0
Some limits = All (λ limit. 1 ≤ limit) limits

pub all-head : (P : ℕ → Type 0) (x : ℕ) (xs : List ℕ) → All P (x ∷ xs) → P x
all-head P x xs h = h 0 0 (omega arith)

pub all-tail : (P : ℕ → Type 0) (x : ℕ) (xs : List ℕ) → All P (x ∷ xs) → All P xs
all-tail P x xs h = λ k d l. h (suc k) d (omega arith)

-- ---- lists

-- ---- places

-- each coordinate is below its limit
abbrev pub IsWithin : (limits tuple : List ℕ) → Type 0
IsWithin [] [] = Unit {0}
IsWithin [] (c ∷ cs) = ⊥
IsWithin (l ∷ ls) [] = ⊥
IsWithin (l ∷ ls) (c ∷ cs) = (c < l) × IsWithin ls cs

abbrev pub place_of : (limits tuple : List ℕ) → ℕ
place_of [] t = 0
place_of (l ∷ ls) [] = 0
place_of (l ∷ ls) (c ∷ cs) = c * volume ls + place_of ls cs

pub some-volume : (limits : List ℕ) → Some limits → 1 ≤ volume limits
some-volume [] h = omega arith
some-volume (l ∷ ls) h =
    let a : 1 ≤ l = all-head (λ limit. 1 ≤ limit) l ls h in
    let b : 1 ≤ volume ls = some-volume ls (all-tail (λ limit. 1 ≤ limit) l ls h) in
    omega (arith, mul-le-mul_right (volume ls) a)

pub row-below : (c l v r : ℕ) → c < l → r < v → c * v + r < l * v
row-below c l v r a b = let m : suc c * v ≤ l * v = mul-le-mul_right v a in omega (arith, m)

pub place-below : (limits t : List ℕ) → IsWithin limits t → place_of limits t < volume limits
place-below [] [] h = omega arith
place-below [] (c ∷ cs) h = absurd h
place-below (l ∷ ls) [] h = absurd h
place-below (l ∷ ls) (c ∷ cs) h = row-below c l (volume ls) (place_of ls cs) h.0 (place-below ls cs h.1)

pub tuple-row : (c r : ℕ) (ls : List ℕ) → r < volume ls → tuple_at (volume ls ∷ strides_of ls) (c * volume ls + r) ≡ c ∷ tuple_at (strides_of ls) r
tuple-row c r ls h =
    ap (λ (n : ℕ). n ∷ tuple_at (strides_of ls) ((c * volume ls + r) % volume ls)) (div-mul-add c (volume ls) r h) ∙ ap (λ (n : ℕ). c ∷ tuple_at (strides_of ls) n) (mod-mul-add c (volume ls) r h)

pub tuple-place : (limits t : List ℕ) → IsWithin limits t → tuple_at (strides_of limits) (place_of limits t) ≡ t
tuple-place [] [] h = refl
tuple-place [] (c ∷ cs) h = absurd h
tuple-place (l ∷ ls) [] h = absurd h
tuple-place (l ∷ ls) (c ∷ cs) h = tuple-row c (place_of ls cs) ls (place-below ls cs h.1) ∙ ap (λ (u : List ℕ). c ∷ u) (tuple-place ls cs h.1)

pub place-tuple : (limits : List ℕ) (p : ℕ) → Some limits → p < volume limits → place_of limits (tuple_at (strides_of limits) p) ≡ p
place-tuple [] p s h = omega arith
place-tuple (l ∷ ls) p s h =
    let some = all-tail (λ limit. 1 ≤ limit) l ls s in
    let v : 0 < volume ls = some-volume ls some in
    ap (λ (n : ℕ). p / volume ls * volume ls + n) (place-tuple ls (p % volume ls) some (mod_below p (volume ls) v)) ∙ div-add-mod' p (volume ls)

pub tuple-within : (limits : List ℕ) (p : ℕ) → Some limits → p < volume limits → IsWithin limits (tuple_at (strides_of limits) p)
tuple-within [] p s h = tt
tuple-within (l ∷ ls) p s h =
    let some = all-tail (λ limit. 1 ≤ limit) l ls s in
    let v : 0 < volume ls = some-volume ls some in (
      div_below p (volume ls) l v (omega (arith, h, mul_comm l (volume ls))),
      tuple-within ls (p % volume ls) some (mod_below p (volume ls) v),
    )

-- two places with the same tuple are the same
pub tuple_once : (limits : List ℕ) (p q : ℕ) → Some limits → p < volume limits → q < volume limits → tuple_at (strides_of limits) p ≡ tuple_at (strides_of limits) q → p ≡ q
tuple_once limits p q s a b e = sym (place-tuple limits p s a) ∙ (ap (place_of limits) e ∙ place-tuple limits q s b)

pub boxed-is : (limits : List ℕ) → Some limits → boxed limits ≡ map (tuple_at (strides_of limits)) (range_with_len 0 (volume limits))
boxed-is [] s = refl
boxed-is (l ∷ ls) s =
    let some = all-tail (λ limit. 1 ≤ limit) l ls s in
    flat_map_agree (λ (c : ℕ). map (λ t. c ∷ t) (boxed ls)) (λ (c : ℕ). map (λ i. c ∷ tuple_at (strides_of ls) i) (range_with_len 0 (volume ls))) (range_with_len 0 l)
    (λ c. ap (map (λ t. c ∷ t)) (boxed-is ls some) ∙ map-map (λ t. c ∷ t) (tuple_at (strides_of ls)) (range_with_len 0 (volume ls)))
    ∙ rows_joined (λ (c i : ℕ). c ∷ tuple_at (strides_of ls) i) l (volume ls) (some-volume ls some)
