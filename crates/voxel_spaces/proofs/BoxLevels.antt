-- One direction more.
use Rattle.std.proofs.Common.{◌≡◌, ◌⊎◌, inl, inr, ℕ, zero, suc, ◌+◌, ◌-◌, ◌*◌, ◌/◌, ◌%◌, ◌<◌, ◌≤◌, List, [], ◌∷◌, ◌++◌, Bool, true, false, cond, drop, take, length, get_or, sum, refl, ap, sym, ◌∙◌, arith}
use Rattle.std.proofs.Math.Nat.{mul-le-mul_right}
use Rattle.std.proofs.Math.Seq.{drop-cons}
use Rattle.std.proofs.lemmas.List.{take_more, drop_all}
use Rattle.std.proofs.lemmas.List.Sums.{sum_by-cons}
use Rattle.std.proofs.lemmas.Bool.{eq-eqb, ne_eqb, false≢true}
use Rattle.array_values.specs.Bits.{volume}
use Rattle.tuple_spaces.specs.Tuples.{is_odd}
use Rattle.tuple_spaces.proofs.CallerLemmas.{dim-cons, odd-is}
use Rattle.voxel_spaces.specs.Places.{dim_at, voxel_place, face_places, facets_from}
use Rattle.voxel_spaces.specs.BoxTuples.{strides_of, tuple_at}
use Rattle.voxel_spaces.proofs.PlacesInBoxes.{Some, all-head, all-tail}

drop-at : (xs : List ℕ) (i : ℕ) → i < length xs → drop i xs ≡ get_or xs i 0 ∷ drop (i + 1) xs
drop-at xs i l = drop-cons xs i 0 l ∙ ap (λ (n : ℕ). get_or xs i 0 ∷ drop n xs) (let e : suc i ≡ i + 1 = omega arith in e)

pub volume-at : (ls : List ℕ) (i : ℕ) → i < length ls → volume (drop i ls) ≡ get_or ls i 0 * volume (drop (i + 1) ls)
volume-at ls i l = ap volume (drop-at ls i l)

pub volume-drop : (ls : List ℕ) (i : ℕ) → Some ls → volume (drop i ls) ≤ volume ls
volume-drop ls zero s = omega arith
volume-drop [] (suc i) s = omega arith
volume-drop (x ∷ ls) (suc i) s =
    let one : 1 ≤ x = all-head (λ limit. 1 ≤ limit) x ls s in
    omega (arith, volume-drop ls i (all-tail (λ limit. 1 ≤ limit) x ls s), mul-le-mul_right (volume ls) one)

pub stride-at : (ls : List ℕ) (i : ℕ) → i < length ls → get_or (strides_of ls) i 0 ≡ volume (drop (i + 1) ls)
stride-at [] i l = absurd (omega arith)
stride-at (x ∷ ls) zero l = refl
stride-at (x ∷ ls) (suc i) l = stride-at ls i (omega arith) ∙ ap (λ (n : ℕ). volume (drop n (x ∷ ls))) (let e : suc (i + 1) ≡ suc i + 1 = omega arith in e)

pub voxel_place-at : (sides strides : List ℕ) (i rest : ℕ) → i < length sides → i < length strides
    → voxel_place (drop i sides) (drop i strides) rest ≡ (2 * (rest / get_or sides i 0) + 1) * get_or strides i 0 + voxel_place (drop (i + 1) sides) (drop (i + 1) strides) (rest % get_or sides i 0)
voxel_place-at sides strides i rest l m =
    ap (λ (xs : List ℕ). voxel_place xs (drop i strides) rest) (drop-at sides i l) ∙ ap (λ (xs : List ℕ). voxel_place (get_or sides i 0 ∷ drop (i + 1) sides) xs rest) (drop-at strides i m)

pub voxel_place-end : (sides strides : List ℕ) (i rest : ℕ) → length sides ≤ i → voxel_place (drop i sides) (drop i strides) rest ≡ 0
voxel_place-end sides strides i rest l = ap (λ (xs : List ℕ). voxel_place xs (drop i strides) rest) (drop_all i sides l)

pub sum-at : (ss : List ℕ) (i : ℕ) → i < length ss → sum (drop i ss) ≡ get_or ss i 0 + sum (drop (i + 1) ss)
sum-at ss i l = ap sum (drop-at ss i l) ∙ sum_by-cons (λ (x : ℕ). x) (get_or ss i 0) (drop (i + 1) ss)

pub face_places-at : (ss : List ℕ) (i p : ℕ) → i < length ss
    → face_places (drop i ss) p ≡ face_places (drop (i + 1) ss) (p - get_or ss i 0) ++ (face_places (drop (i + 1) ss) p ++ face_places (drop (i + 1) ss) (p + get_or ss i 0))
face_places-at ss i p l = ap (λ (xs : List ℕ). face_places xs p) (drop-at ss i l)

pub face_places-end : (ss : List ℕ) (i p : ℕ) → length ss ≤ i → face_places (drop i ss) p ≡ p ∷ []
face_places-end ss i p l = ap (λ (xs : List ℕ). face_places xs p) (drop_all i ss l)

odd-rest : (c : ℕ) → cond (is_odd c) 1 0 ≡ c % 2
odd-rest c = by_test (is_odd c) refl
  where
    by_test : (b : Bool) → is_odd c ≡ b → cond b 1 0 ≡ c % 2
    by_test true e = sym (odd-is c e)
    by_test false e = elim (two (c % 2) (omega arith)) [ inl q ↦ sym q | inr q ↦ absurd (false≢true (sym e ∙ eq-eqb (c % 2) 1 q)) ]
      where
        two : (n : ℕ) → n < 2 → (n ≡ 0) ⊎ (n ≡ 1)
        two zero l = inl refl
        two (suc zero) l = inr refl
        two (suc (suc n)) l = absurd (omega arith)

pub dim-at : (ss : List ℕ) (i rest : ℕ) → i < length ss → dim_at (drop i ss) rest ≡ rest / get_or ss i 0 % 2 + dim_at (drop (i + 1) ss) (rest % get_or ss i 0)
dim-at ss i rest l =
    ap (λ (xs : List ℕ). dim_at xs rest) (drop-at ss i l)
    ∙ (dim-cons (rest / get_or ss i 0) (tuple_at (drop (i + 1) ss) (rest % get_or ss i 0)) ∙ ap (λ (n : ℕ). n + dim_at (drop (i + 1) ss) (rest % get_or ss i 0)) (odd-rest (rest / get_or ss i 0)))

pub dim-end : (ss : List ℕ) (i rest : ℕ) → length ss ≤ i → dim_at (drop i ss) rest ≡ 0
dim-end ss i rest l = ap (λ (xs : List ℕ). dim_at xs rest) (drop_all i ss l)

pub facets_from-odd : (ss : List ℕ) (i p rest : ℕ) → i < length ss → rest / get_or ss i 0 % 2 ≡ 1
    → facets_from (drop i ss) p rest ≡ (p - get_or ss i 0) ∷ (p + get_or ss i 0) ∷ facets_from (drop (i + 1) ss) p (rest % get_or ss i 0)
facets_from-odd ss i p rest l o =
    let d : ℕ = get_or ss i 0 in
    ap (λ (xs : List ℕ). facets_from xs p rest) (drop-at ss i l)
    ∙ ap (λ (b : Bool). cond b ((p - d) ∷ (p + d) ∷ []) [] ++ facets_from (drop (i + 1) ss) p (rest % d)) (eq-eqb (rest / d % 2) 1 o)

pub facets_from-even : (ss : List ℕ) (i p rest : ℕ) → i < length ss → (rest / get_or ss i 0 % 2 ≡ 1 → ⊥)
    → facets_from (drop i ss) p rest ≡ facets_from (drop (i + 1) ss) p (rest % get_or ss i 0)
facets_from-even ss i p rest l ne =
    let d : ℕ = get_or ss i 0 in
    ap (λ (xs : List ℕ). facets_from xs p rest) (drop-at ss i l)
    ∙ ap (λ (b : Bool). cond b ((p - d) ∷ (p + d) ∷ []) [] ++ facets_from (drop (i + 1) ss) p (rest % d)) (ne_eqb (rest / d % 2) 1 ne)

pub facets_from-end : (ss : List ℕ) (i p rest : ℕ) → length ss ≤ i → facets_from (drop i ss) p rest ≡ []
facets_from-end ss i p rest l = ap (λ (xs : List ℕ). facets_from xs p rest) (drop_all i ss l)

pub length-strides : (ls : List ℕ) → length (strides_of ls) ≡ length ls
length-strides [] = refl
length-strides (x ∷ ls) = ap suc (length-strides ls)

pub strides-more : (ls now : List ℕ) (i v : ℕ) → i < length ls → now ≡ take i (strides_of ls) → v ≡ volume (drop (i + 1) ls) → now ++ v ∷ [] ≡ take (i + 1) (strides_of ls)
strides-more ls now i v l e h =
    ap (λ (xs : List ℕ). xs ++ v ∷ []) e
    ∙ (ap (λ (n : ℕ). take i (strides_of ls) ++ n ∷ []) (h ∙ sym (stride-at ls i l)) ∙ sym (take_more (strides_of ls) i 0 (omega (arith, length-strides ls))))

pub voxel_place-low : (sides strides : List ℕ) (i : ℕ) → length sides ≡ length strides → sum strides ≤ voxel_place sides strides i
voxel_place-low [] [] i e = omega arith
voxel_place-low [] (s ∷ strides) i e = absurd (omega arith)
voxel_place-low (a ∷ sides) [] i e = absurd (omega arith)
voxel_place-low (a ∷ sides) (s ∷ strides) i e =
    let r = voxel_place-low sides strides (i % a) (let q : length sides ≡ length strides = omega arith in q) in
    let m : (2 * (i / a) + 1) * s ≡ 2 * (i / a) * s + s = omega arith in
    omega (arith, r, m, sum_by-cons (λ (x : ℕ). x) s strides)
