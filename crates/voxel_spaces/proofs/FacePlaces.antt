-- The places of a voxel and its faces.
use Rattle.std.proofs.Common.{◌≡◌, ◌⊎◌, inl, inr, ℕ, zero, suc, ◌+◌, ◌-◌, ◌*◌, ◌/◌, ◌%◌, ◌<◌, ◌≤◌, List, [], ◌∷◌, ◌++◌, Bool, true, false, ◌||◌, ◌&&◌, eqb, map, sum, refl, ap, sym, ◌∙◌, arith, subst}
use Rattle.std.specs.List.{list_any}
use Rattle.std.proofs.lemmas.List.{map-append, append-nil}
use Rattle.std.proofs.lemmas.List.Folds.{list_any-append}
use Rattle.std.proofs.lemmas.List.Sums.{sum_by-cons}
use Rattle.std.proofs.lemmas.Bool.{eq-eqb, eqb-true, false≢true, and_from, or_left, or_right, or_cases}
use Rattle.number_lists.proofs.CallerLemmas.{and-left, and-right}
use Rattle.array_values.specs.Bits.{volume}
use Rattle.tuple_spaces.specs.Tuples.{same}
use Rattle.std.proofs.lemmas.Simd.{map-map}
use Rattle.tuple_spaces.specs.Voxels.{faces, voxel, limits_of}
use Rattle.voxel_spaces.specs.Places.{voxel_place, face_places}
use Rattle.voxel_spaces.specs.BoxTuples.{strides_of, tuple_at}
use Rattle.voxel_spaces.proofs.PlacesInBoxes.{IsWithin, place_of}

-- ---- places

-- a coordinate can move by one in both directions
abbrev pub IsInner : (limits tuple : List ℕ) → Type 0
IsInner [] [] = Unit {0}
IsInner [] (c ∷ cs) = ⊥
IsInner (l ∷ ls) [] = ⊥
IsInner (l ∷ ls) (c ∷ cs) = (1 ≤ c) × (c + 1 < l) × IsInner ls cs

pub voxel-inner : (sizes i : List ℕ) → IsWithin sizes i → IsInner (limits_of sizes) (voxel i)
voxel-inner [] [] h = tt
voxel-inner [] (i ∷ is) h = absurd h
voxel-inner (s ∷ ss) [] h = absurd h
voxel-inner (s ∷ ss) (i ∷ is) h = let l : i < s = h.0 in (omega arith, omega arith, voxel-inner ss is h.1)

pub sum-low : (limits v : List ℕ) → IsInner limits v → sum (strides_of limits) ≤ place_of limits v
sum-low [] [] h = omega arith
sum-low [] (c ∷ cs) h = absurd h
sum-low (l ∷ ls) [] h = absurd h
sum-low (l ∷ ls) (zero ∷ cs) h = let z : 1 ≤ 0 = h.0 in absurd (omega arith)
sum-low (l ∷ ls) (suc c ∷ cs) h =
    let r = sum-low ls cs h.2 in
    let e : suc c * volume ls ≡ volume ls + c * volume ls = omega arith in
    omega (arith, r, e, sum_by-cons (λ (x : ℕ). x) (volume ls) (strides_of ls))

shift : (ss : List ℕ) (base q : ℕ) → sum ss ≤ q → face_places ss (base + q) ≡ map (λ x. base + x) (face_places ss q)
shift [] base q h = refl
shift (s ∷ ss) base q h =
    let all : sum (s ∷ ss) ≡ s + sum ss = sum_by-cons (λ (x : ℕ). x) s ss in
    let low : base + q - s ≡ base + (q - s) = omega arith in
    let high : base + q + s ≡ base + (q + s) = omega arith in
    let one : sum ss ≤ q - s = omega arith in
    let two : sum ss ≤ q = omega arith in
    let three : sum ss ≤ q + s = omega arith in
    let f : ℕ → ℕ = λ x. base + x in
    ap (λ (xs : List ℕ). xs ++ (face_places ss (base + q) ++ face_places ss (base + q + s))) (ap (face_places ss) low ∙ shift ss base (q - s) one)
    ∙ (ap (λ (xs : List ℕ). map f (face_places ss (q - s)) ++ (xs ++ face_places ss (base + q + s))) (shift ss base q two)
    ∙ (ap (λ (xs : List ℕ). map f (face_places ss (q - s)) ++ (map f (face_places ss q) ++ xs)) (ap (face_places ss) high ∙ shift ss base (q + s) three)
    ∙ sym (map-append f (face_places ss (q - s)) (face_places ss q ++ face_places ss (q + s)) ∙ ap (λ (xs : List ℕ). map f (face_places ss (q - s)) ++ xs) (map-append f (face_places ss q) (face_places ss (q + s))))))

-- the places of the faces in one row
row : (l d : ℕ) (ls cs : List ℕ) → IsInner ls cs → face_places (strides_of ls) (place_of ls cs) ≡ map (place_of ls) (faces cs) → face_places (strides_of ls) (d * volume ls + place_of ls cs) ≡ map (place_of (l ∷ ls)) (map (λ t. d ∷ t) (faces cs))
row l d ls cs h e =
    shift (strides_of ls) (d * volume ls) (place_of ls cs) (sum-low ls cs h)
    ∙ (ap (map (λ x. d * volume ls + x)) e ∙ (map-map (λ x. d * volume ls + x) (place_of ls) (faces cs) ∙ sym (map-map (place_of (l ∷ ls)) (λ t. d ∷ t) (faces cs))))

pub faces-are : (limits v : List ℕ) → IsInner limits v → face_places (strides_of limits) (place_of limits v) ≡ map (place_of limits) (faces v)
faces-are [] [] h = refl
faces-are [] (c ∷ cs) h = absurd h
faces-are (l ∷ ls) [] h = absurd h
faces-are (l ∷ ls) (zero ∷ cs) h = let z : 1 ≤ 0 = h.0 in absurd (omega arith)
faces-are (l ∷ ls) (suc c ∷ cs) h =
    let V : ℕ = volume ls in
    let r : ℕ = place_of ls cs in
    let ss : List ℕ = strides_of ls in
    let f : List ℕ → ℕ = place_of (l ∷ ls) in
    let line : ℕ → List (List ℕ) = λ d. map (λ t. d ∷ t) (faces cs) in
    let e = faces-are ls cs h.2 in
    let c1 : suc c - 1 ≡ c = omega arith in
    let low : suc c * V + r - V ≡ (suc c - 1) * V + r = (let q : suc c * V ≡ V + c * V = omega arith in let w : (suc c - 1) * V ≡ c * V = ap (λ (n : ℕ). n * V) c1 in omega arith) in
    let high : suc c * V + r + V ≡ (suc c + 1) * V + r = omega arith in
    ap (λ (xs : List ℕ). xs ++ (face_places ss (suc c * V + r) ++ face_places ss (suc c * V + r + V))) (ap (face_places ss) low ∙ row l (suc c - 1) ls cs h.2 e)
    ∙ (ap (λ (xs : List ℕ). map f (line (suc c - 1)) ++ (xs ++ face_places ss (suc c * V + r + V))) (row l (suc c) ls cs h.2 e)
    ∙ (ap (λ (xs : List ℕ). map f (line (suc c - 1)) ++ (map f (line (suc c)) ++ xs)) (ap (face_places ss) high ∙ row l (suc c + 1) ls cs h.2 e)
    ∙ sym (map-append f (line (suc c - 1)) (line (suc c) ++ (line (suc c + 1) ++ []))
    ∙ ap (λ (xs : List ℕ). map f (line (suc c - 1)) ++ xs) (map-append f (line (suc c)) (line (suc c + 1) ++ []) ∙ ap (λ (xs : List ℕ). map f (line (suc c)) ++ xs) (ap (map f) (append-nil (line (suc c + 1))))))))

pub voxel_place-is : (sizes : List ℕ) (i : ℕ) → voxel_place (strides_of sizes) (strides_of (limits_of sizes)) i ≡ place_of (limits_of sizes) (voxel (tuple_at (strides_of sizes) i))
voxel_place-is [] i = refl
voxel_place-is (s ∷ ss) i = ap (λ (n : ℕ). (2 * (i / volume ss) + 1) * volume (limits_of ss) + n) (voxel_place-is ss (i % volume ss))

-- ---- tuples

-- two numbers differ by at most one
abbrev pub IsBeside : ℕ → ℕ → Type 0
IsBeside c d = (d + 1 ≡ c) ⊎ ((d ≡ c) ⊎ (d ≡ c + 1))

abbrev pub IsNear : (v t : List ℕ) → Type 0
IsNear [] [] = Unit {0}
IsNear [] (d ∷ ds) = ⊥
IsNear (c ∷ cs) [] = ⊥
IsNear (c ∷ cs) (d ∷ ds) = IsBeside c d × IsNear cs ds

-- a tuple in a row of tuples
any_row : (d : ℕ) (t : List ℕ) (e : ℕ) (us : List (List ℕ)) → list_any (same (d ∷ t)) (map (λ u. e ∷ u) us) ≡ true → (d ≡ e) × (list_any (same t) us ≡ true)
any_row d t e [] h = absurd (false≢true h)
any_row d t e (u ∷ us) h =
    elim (or_cases (eqb d e && same t u) (list_any (same (d ∷ t)) (map (λ w. e ∷ w) us)) h) [
      | inl q ↦ (eqb-true d e (and-left (eqb d e) (same t u) q), or_left (same t u) (list_any (same t) us) (and-right (eqb d e) (same t u) q))
      | inr q ↦ let r = any_row d t e us q in (r.0, or_right (same t u) (list_any (same t) us) r.1)
    ]

row_any : (d : ℕ) (t : List ℕ) (us : List (List ℕ)) → list_any (same t) us ≡ true → list_any (same (d ∷ t)) (map (λ u. d ∷ u) us) ≡ true
row_any d t [] h = absurd (false≢true h)
row_any d t (u ∷ us) h =
    elim (or_cases (same t u) (list_any (same t) us) h) [
      | inl q ↦ or_left (eqb d d && same t u) (list_any (same (d ∷ t)) (map (λ w. d ∷ w) us)) (and_from (eqb d d) (same t u) (eq-eqb d d refl) q)
      | inr q ↦ or_right (eqb d d && same t u) (list_any (same (d ∷ t)) (map (λ w. d ∷ w) us)) (row_any d t us q)
    ]

three : (p : List ℕ → Bool) (a b c : List (List ℕ)) → list_any p (a ++ (b ++ (c ++ []))) ≡ (list_any p a || (list_any p b || (list_any p c || false)))
three p a b c =
    list_any-append p a (b ++ (c ++ [])) ∙ ap (λ (x : Bool). list_any p a || x) (list_any-append p b (c ++ []) ∙ ap (λ (x : Bool). list_any p b || x) (list_any-append p c []))

pub near-any : (v t : List ℕ) → IsNear v t → list_any (same t) (faces v) ≡ true
near-any [] [] h = refl
near-any [] (d ∷ ds) h = absurd h
near-any (c ∷ cs) [] h = absurd h
near-any (c ∷ cs) (d ∷ ds) h =
    let p : List ℕ → Bool = same (d ∷ ds) in
    let line : ℕ → List (List ℕ) = λ e. map (λ t. e ∷ t) (faces cs) in
    let r : (e : ℕ) → d ≡ e → list_any p (line e) ≡ true = λ e q. subst (λ (n : ℕ). list_any p (line n) ≡ true) q (row_any d ds (faces cs) (near-any cs ds h.1)) in
    three p (line (c - 1)) (line c) (line (c + 1))
    ∙ elim h.0 [
      | inl q ↦ or_left (list_any p (line (c - 1))) (list_any p (line c) || (list_any p (line (c + 1)) || false)) (r (c - 1) (omega arith))
      | inr q ↦ or_right (list_any p (line (c - 1))) (list_any p (line c) || (list_any p (line (c + 1)) || false))
          (elim q [
            | inl s ↦ or_left (list_any p (line c)) (list_any p (line (c + 1)) || false) (r c s)
            | inr s ↦ or_right (list_any p (line c)) (list_any p (line (c + 1)) || false) (or_left (list_any p (line (c + 1))) false (r (c + 1) s))
          ])
    ]

-- all coordinates are odd
abbrev pub IsOdd : List ℕ → Type 0
IsOdd [] = Unit {0}
IsOdd (c ∷ cs) = (c % 2 ≡ 1) × IsOdd cs

pub voxel-odd : (i : List ℕ) → IsOdd (voxel i)
voxel-odd [] = tt
voxel-odd (i ∷ is) = (omega arith, voxel-odd is)

pub any-near : (v t : List ℕ) → IsOdd v → list_any (same t) (faces v) ≡ true → IsNear v t
any-near [] [] o h = tt
any-near [] (d ∷ ds) o h = absurd (false≢true h)
any-near (c ∷ cs) [] o h = absurd (false≢true (sym (none_same (c - 1) (faces cs) (map (λ t. c ∷ t) (faces cs) ++ (map (λ t. (c + 1) ∷ t) (faces cs) ++ [])) (none_same c (faces cs) (map (λ t. (c + 1) ∷ t) (faces cs) ++ []) (none_same (c + 1) (faces cs) [] refl))) ∙ h))
  where
    none_same : (e : ℕ) (us ws : List (List ℕ)) → list_any (same []) ws ≡ false → list_any (same []) (map (λ u. e ∷ u) us ++ ws) ≡ false
    none_same e [] ws q = q
    none_same e (u ∷ us) ws q = none_same e us ws q
any-near (c ∷ cs) (d ∷ ds) o h =
    let p : List ℕ → Bool = same (d ∷ ds) in
    let line : ℕ → List (List ℕ) = λ e. map (λ t. e ∷ t) (faces cs) in
    let odd : c % 2 ≡ 1 = o.0 in
    elim (or_cases (list_any p (line (c - 1))) (list_any p (line c) || (list_any p (line (c + 1)) || false)) (sym (three p (line (c - 1)) (line c) (line (c + 1))) ∙ h)) [
      | inl q ↦ let r = any_row d ds (c - 1) (faces cs) q in let e : d ≡ c - 1 = r.0 in (inl (omega arith), any-near cs ds o.1 r.1)
      | inr q ↦ elim (or_cases (list_any p (line c)) (list_any p (line (c + 1)) || false) q) [
        | inl s ↦ let r = any_row d ds c (faces cs) s in (inr (inl r.0), any-near cs ds o.1 r.1)
        | inr s ↦ elim (or_cases (list_any p (line (c + 1))) false s) [
          | inl u ↦ let r = any_row d ds (c + 1) (faces cs) u in (inr (inr r.0), any-near cs ds o.1 r.1)
          | inr u ↦ absurd (false≢true u)
        ]
      ]
    ]
