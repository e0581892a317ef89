-- The sets that lie together in rows, by their places.
use Rattle.std.proofs.Common.{◌≡◌, inl, inr, ◌<◌, ◌≤◌, ◌+◌, ◌*◌, ◌^◌, ◌-◌, ◌++◌, ℕ, zero, suc, List, [], ◌∷◌, length, map, take, get_or, refl, ap, sym, ◌∙◌, subst, arith, append-nil, Contains, Bool, true}
use Rattle.std.specs.List.{flat_map, list_all}
use Rattle.std.specs.List.Sorted.{IsStrictlyIncreasing}
use Rattle.std.proofs.Math.Nat.{mul-le-mul_right}
use Rattle.std.proofs.lemmas.Grind.{flat_map-append}
use Rattle.std.proofs.lemmas.List.{take_more, take_all, length-map, get_or-take, length-take-le}
use Rattle.number_lists.specs.Words.{upto, holds}
use Rattle.number_lists.specs.Members.{In, here, there}
use Rattle.number_lists.specs.Cofaces.{IsRising}
use Rattle.number_lists.proofs.CallerLemmas.{In-cases, In-left, append-In, In-map, map-In, In-flat_map, flat_map-In, In-filter, filter-In, In-inside, any-In, any-some, In-all, all-In, holds-In, In-holds, In-at, at-In, upto-In, In-upto, In-Contains, Contains-In, increasing-upto, same_increasing, same_holds, length-inside, distinct_rising}
use Rattle.facet_reader.specs.SetSpaces.{choices, sets_of}
use Rattle.facet_reader.specs.Simplices.{is_face}
use Rattle.facet_reader.specs.Places.{place_of, AreRows, Adds, IsCrowded, made_by}
use Rattle.facet_reader.proofs.Choices.{IsPart, no_part, kept, left, empty_part, part_of_part, part-In, choice-part, choice-of-part}
use Rattle.facet_reader.proofs.Ranked.{Ranked, no_rank, rank, ranked-filter, ranked-append, ranked-map, rises-increasing, increasing-rises}
use Rattle.facet_reader.proofs.Powers.{power-next, power-some}
use Rattle.facet_reader.proofs.MadeSets.{adds-same, crowded-later}

-- ---- increasing lists

no_member : (z : ℕ) → In z [] → ⊥
no_member z i = elim i [ ]

-- increasing numbers that are all among others are a part of them
pub rising-part : {s xs : List ℕ} → Ranked (λ a b. a < b) s → Ranked (λ a b. a < b) xs → ((z : ℕ) → In z s → In z xs) → IsPart s xs
rising-part {xs = xs} no_rank k h = empty_part xs
rising-part (rank {x = y} {xs = s} m d) no_rank h = absurd (no_member y (h y here))
rising-part (rank {x = y} {xs = s} m d) (rank {x} {xs} n e) h =
    elim (In-cases (h y here)) [
      | inl q ↦ subst (λ (w : ℕ). IsPart (w ∷ s) (x ∷ xs)) (sym q)
          (kept (rising-part d e (λ z i. elim (In-cases (h z (there i))) [ inl r ↦ (let less : y < z = m z i in absurd (omega (arith, less, q, r))) | inr j ↦ j ])))
      | inr j ↦
          let above : x < y = n y j in
          left (rising-part (rank m d) e
          (λ z i. elim (In-cases (h z i)) [
            | inl r ↦ elim (In-cases i) [ inl q ↦ absurd (omega (arith, above, q, r)) | inr l ↦ (let less : y < z = m z l in absurd (omega (arith, above, less, r))) ]
            | inr l ↦ l
          ]))
    ]

pub part-ranked : {s xs : List ℕ} → IsPart s xs → Ranked (λ a b. a < b) xs → Ranked (λ a b. a < b) s
part-ranked no_part h = h
part-ranked (kept k) (rank n d) = rank (λ y i. n y (part-In k i)) (part-ranked k d)
part-ranked (left k) (rank n d) = part-ranked k d

-- ---- places increase

pub place-below : (s : List ℕ) → ((x : ℕ) → In x s → x < 65536) → place_of s < 65536 ^ length s
place-below [] h = omega (arith, power-some 0)
place-below (x ∷ s) h =
    let l : x < 65536 = h x here in
    let below : place_of s < 65536 ^ length s = place-below s (λ y i. h y (there i)) in
    let up : (x + 1) * 65536 ^ length s ≤ 65536 * 65536 ^ length s = mul-le-mul_right (65536 ^ length s) (let m : x + 1 ≤ 65536 = omega (arith, l) in m) in
    let cut : (x + 1) * 65536 ^ length s ≡ x * 65536 ^ length s + 65536 ^ length s = grind arith in
    omega (arith, below, up, cut, power-next (length s))

first-less : (x y w p q : ℕ) → x < y → p < w → x * w + p < y * w + q
first-less x y w p q l m =
    let up : (x + 1) * w ≤ y * w = mul-le-mul_right w (let n : x + 1 ≤ y = omega (arith, l) in n) in
    let cut : (x + 1) * w ≡ x * w + w = grind arith in
    omega (arith, up, cut, m)

pub choices-ranked : (size : ℕ) (xs : List ℕ) → Ranked (λ a b. a < b) xs → ((x : ℕ) → In x xs → x < 65536) → Ranked (λ s t. place_of s < place_of t) (choices size xs)
choices-ranked zero xs h small = rank (λ y i. elim i [ ]) no_rank
choices-ranked (suc size) [] h small = no_rank
choices-ranked (suc size) (x ∷ xs) (rank n d) small =
    ranked-append (λ s t. place_of s < place_of t)
    (ranked-map (λ s t. place_of s < place_of t) (λ s t. place_of s < place_of t) (λ s. x ∷ s) (λ s t i j l. same_head s t (long s i) (long t j) l) (choices-ranked size xs d (λ y i. small y (there i))))
    (choices-ranked (suc size) xs d (λ y i. small y (there i)))
    (λ s t i j.
    let r = map-In (λ u. x ∷ u) (choices size xs) i in
    subst (λ (u : List ℕ). place_of u < place_of t) (sym r.2) (other_head r.0 t r.1 (choice-part (suc size) t xs j)))
  where
    long : (s : List ℕ) → In s (choices size xs) → length s ≡ size
    long s i = (choice-part size s xs i).1

    same_head : (s t : List ℕ) → length s ≡ size → length t ≡ size → place_of s < place_of t → place_of (x ∷ s) < place_of (x ∷ t)
    same_head s t e q l =
        let a : x * 65536 ^ length s ≡ x * 65536 ^ length t = ap (λ (k : ℕ). x * 65536 ^ k) (e ∙ sym q) in
        omega (arith, a, l)

    other_head : (s t : List ℕ) → In s (choices size xs) → IsPart t xs × (length t ≡ suc size) → place_of (x ∷ s) < place_of t
    other_head s [] i p = absurd (omega (arith, p.1))
    other_head s (y ∷ t) i p =
        let q = choice-part size s xs i in
        let below : place_of s < 65536 ^ length s = place-below s (λ z j. small z (there (part-In q.0 j))) in
        let e : length s ≡ length t = omega (arith, p.1, q.1) in
        let less : x < y = n y (part-In p.0 here) in
        subst (λ (k : ℕ). x * 65536 ^ length s + place_of s < y * 65536 ^ k + place_of t) e (first-less x y (65536 ^ length s) (place_of s) (place_of t) less below)

pub sets-increase : (n : ℕ) (test : List ℕ → Bool) (dim : ℕ) → n < 65536 → IsStrictlyIncreasing (map place_of (sets_of n test dim))
sets-increase n test dim l =
    rises-increasing
    (ranked-map (λ s t. place_of s < place_of t) (λ a b. a < b) place_of (λ s t i j h. h)
    (ranked-filter (λ s t. place_of s < place_of t) test
    (choices-ranked (suc dim) (upto n) (increasing-rises (upto n) (increasing-upto n)) (λ x i. (let r = upto-In n x i in omega (arith, r.1, l))))))

-- ---- the sets of rows

-- the places of the choices of all rows
abbrev pub made_in : (size : ℕ) → List (List ℕ) → List ℕ
made_in size rows = flat_map (made_by size 0) rows

pub made-in-more : (size : ℕ) (rows : List (List ℕ)) (i : ℕ) → i < length rows → made_in size (take (i + 1) rows) ≡ made_in size (take i rows) ++ made_by size 0 (get_or rows i [])
made-in-more size rows i l =
    ap (made_in size) (take_more rows i [] l) ∙ (flat_map-append (made_by size 0) (take i rows) (get_or rows i [] ∷ []) ∙ ap (λ (xs : List ℕ). made_in size (take i rows) ++ xs) (append-nil (made_by size 0 (get_or rows i []))))

module _ (n : ℕ) (rows : List (List ℕ)) (are : AreRows n rows) where
  row-is : (row : List ℕ) → In row rows → IsRising n row
  row-is row i = at_place (at i)
    where
      at : {ys : List (List ℕ)} → In row ys → (k : ℕ) × (k < length ys) × (get_or ys k [] ≡ row)
      at here = (0, omega arith, refl)
      at (there j) = let r = at j in (suc r.0, omega (arith, r.1), r.2)

      at_place : (k : ℕ) × (k < length rows) × (get_or rows k [] ≡ row) → IsRising n row
      at_place r = subst (IsRising n) r.2 (are r.0 [] r.1)

  row-inside : (row : List ℕ) → In row rows → IsPart row (upto n)
  row-inside row i =
      let r = row-is row i in
      rising-part (increasing-rises row r.rises) (increasing-rises (upto n) (increasing-upto n))
      (λ z j. (let (k, l, e) = In-at j in let b = r.within k 0 l in In-upto n z (omega (arith, b.0, e)) (omega (arith, b.1, e))))

  -- a choice of a row is a face, and the other way round
  choice-face : (size : ℕ) (row s : List ℕ) → In row rows → In s (choices (suc size) row) → In s (sets_of n (is_face rows) size)
  choice-face size row s i j =
      let p = choice-part (suc size) s row j in
      In-filter (is_face rows) (choice-of-part (suc size) (part_of_part p.0 (row-inside row i)) p.1)
      (any-In (λ r. list_all (holds r) s) i (all_held row s (λ z k. part-In p.0 k)))
    where
      all_held : (row s : List ℕ) → ((z : ℕ) → In z s → In z row) → list_all (holds row) s ≡ true
      all_held row s h = In-all (holds row) s (λ z k. In-holds (h z k))

  face-choice : (size : ℕ) (s : List ℕ) → In s (sets_of n (is_face rows) size) → (row : List ℕ) × In row rows × In s (choices (suc size) row)
  face-choice size s i =
      let p = choice-part (suc size) s (upto n) (In-inside (is_face rows) (choices (suc size) (upto n)) i) in
      let r = any-some (λ r. list_all (holds r) s) rows (filter-In (is_face rows) (choices (suc size) (upto n)) i) in
      let part = rising-part (part-ranked p.0 (increasing-rises (upto n) (increasing-upto n))) (increasing-rises r.0 (row-is r.0 r.1).rises) (λ z k. holds-In r.0 (all-In (holds r.0) r.2 k)) in
      (r.0, r.1, choice-of-part (suc size) part p.1)

  pub made-face : (size z : ℕ) → In z (made_in (suc size) rows) → In z (map place_of (sets_of n (is_face rows) size))
  made-face size z i =
      let r = flat_map-In (made_by (suc size) 0) rows i in
      let s = map-In (λ s. 0 * 65536 ^ suc size + place_of s) (choices (suc size) r.0) r.2 in
      let e : z ≡ place_of s.0 = s.2 ∙ none (65536 ^ suc size) (place_of s.0) in
      subst (λ (k : ℕ). In k (map place_of (sets_of n (is_face rows) size))) (sym e) (In-map place_of (choice-face size r.0 s.0 r.1 s.1))
    where
      none : (w p : ℕ) → 0 * w + p ≡ p
      none w p = grind arith

  pub face-made : (size z : ℕ) → In z (map place_of (sets_of n (is_face rows) size)) → In z (made_in (suc size) rows)
  face-made size z i =
      let s = map-In place_of (sets_of n (is_face rows) size) i in
      let r = face-choice size s.0 s.1 in
      let e : z ≡ 0 * 65536 ^ suc size + place_of s.0 = s.2 ∙ none (65536 ^ suc size) (place_of s.0) in
      In-flat_map (made_by (suc size) 0) r.1 (subst (λ (k : ℕ). In k (made_by (suc size) 0 r.0)) (sym e) (In-map (λ s. 0 * 65536 ^ suc size + place_of s) r.2))
    where
      none : (w p : ℕ) → p ≡ 0 * w + p
      none w p = grind arith

pub sets-listed : (n : ℕ) (rows : List (List ℕ)) (size : ℕ) (found sorted : List ℕ) → AreRows n rows → n < 65536 → 1 ≤ size → Adds (made_in size rows) [] found → IsStrictlyIncreasing sorted
    → ((z : ℕ) → Contains found z → Contains sorted z) → ((z : ℕ) → Contains sorted z → Contains found z) → sorted ≡ map place_of (sets_of n (is_face rows) (size - 1))
sets-listed n rows size found sorted are small some h rises keeps adds_none =
    let e : size ≡ suc (size - 1) = omega (arith, some) in
    let k : Adds (made_in (suc (size - 1)) rows) [] found = subst (λ (j : ℕ). Adds (made_in j rows) [] found) e h in
    same_increasing sorted (map place_of (sets_of n (is_face rows) (size - 1))) rises (sets-increase n (is_face rows) (size - 1) small)
    (λ z. same_holds sorted (map place_of (sets_of n (is_face rows) (size - 1))) z
    (λ c. In-Contains (made-face n rows are (size - 1) z (elim (k.no_other z (Contains-In (adds_none z c))) [ inl i ↦ absurd (no_member z i) | inr i ↦ i ])))
    (λ c. keeps z (In-Contains (k.added z (face-made n rows are (size - 1) z (Contains-In c))))))

pub sets-crowded : (n : ℕ) (rows : List (List ℕ)) (size : ℕ) (now : List ℕ) (i : ℕ) → AreRows n rows → 1 ≤ size → i < length rows → Adds (made_in size (take i rows)) [] now → IsCrowded (made_by size 0 (get_or rows i [])) now
    → 60000 < length (sets_of n (is_face rows) (size - 1))
sets-crowded n rows size now i are some l h k =
    let e : size ≡ suc (size - 1) = omega (arith, some) in
    let all : List ℕ = map place_of (sets_of n (is_face rows) (size - 1)) in
    let up : (z : ℕ) → In z (made_in size rows) → In z all = λ z j. made-face n rows are (size - 1) z (subst (λ (m : ℕ). In z (made_in m rows)) e j) in
    let many : 60000 < length all = crowded-later h (λ z j. first-in z j) (λ z j. at-in z j) k all (λ z j. absurd (no_member z j)) up in
    omega (arith, many, length-map (sets_of n (is_face rows) (size - 1)) place_of)
  where
    first-in : (z : ℕ) → In z (made_in size (take i rows)) → In z (made_in size rows)
    first-in z j = let r = flat_map-In (made_by size 0) (take i rows) j in In-flat_map (made_by size 0) (taken rows i r.0 r.1) r.2
      where
        taken : (rs : List (List ℕ)) (k : ℕ) (row : List ℕ) → In row (take k rs) → In row rs
        taken [] zero row j = elim j [ ]
        taken [] (suc k) row j = elim j [ ]
        taken (r ∷ rs) zero row j = elim j [ ]
        taken (r ∷ rs) (suc k) row j = elim (In-cases j) [ inl q ↦ subst (λ w. In w (r ∷ rs)) (sym q) here | inr q ↦ there (taken rs k row q) ]

    at-in : (z : ℕ) → In z (made_by size 0 (get_or rows i [])) → In z (made_in size rows)
    at-in z j = In-flat_map (made_by size 0) (at-In rows i [] l) j

pub sets-many : (n : ℕ) (rows : List (List ℕ)) (size : ℕ) (found sorted : List ℕ) → AreRows n rows → 1 ≤ size → Adds (made_in size rows) [] found → IsStrictlyIncreasing sorted
    → ((z : ℕ) → Contains sorted z → Contains found z) → 60000 < length sorted → 60000 < length (sets_of n (is_face rows) (size - 1))
sets-many n rows size found sorted are some h rises adds_none many =
    let e : size ≡ suc (size - 1) = omega (arith, some) in
    let all : List ℕ = map place_of (sets_of n (is_face rows) (size - 1)) in
    let up : (z : ℕ) → In z (made_in size rows) → In z all = λ z j. made-face n rows are (size - 1) z (subst (λ (m : ℕ). In z (made_in m rows)) e j) in
    let l : length sorted ≤ length all =
    length-inside sorted all (distinct_rising sorted rises) (λ z i. elim (h.no_other z (Contains-In (adds_none z (In-Contains i)))) [ inl j ↦ absurd (no_member z j) | inr j ↦ up z j ]) in
    omega (arith, many, l, length-map (sets_of n (is_face rows) (size - 1)) place_of)

pub all_rows : (size : ℕ) (rows : List (List ℕ)) (i : ℕ) (now : List ℕ) → length rows ≤ i → Adds (made_in size (take i rows)) [] now → Adds (made_in size rows) [] now
all_rows size rows i now l h = subst (λ (rs : List (List ℕ)). Adds (made_in size rs) [] now) (take_all i rows l) h

-- a row that is the one before it again
pub made-in-again : (size : ℕ) (rows : List (List ℕ)) (i : ℕ) (now : List ℕ) → i < length rows → 1 ≤ i → get_or rows i [] ≡ get_or rows (i - 1) [] → Adds (made_in size (take i rows)) [] now → Adds (made_in size (take (i + 1) rows)) [] now
made-in-again size rows i now l some e h =
    let more : made_in size (take (i + 1) rows) ≡ made_in size (take i rows) ++ made_by size 0 (get_or rows i []) = made-in-more size rows i l in
    let at : get_or (take i rows) (i - 1) [] ≡ get_or rows (i - 1) [] = get_or-take i rows (i - 1) [] (omega (arith, some)) in
    let long : length (take i rows) ≡ i = length-take-le i rows (omega (arith, l)) in
    let stands : In (get_or rows (i - 1) []) (take i rows) = subst (λ (r : List ℕ). In r (take i rows)) at (at-In (take i rows) (i - 1) [] (omega (arith, some, long))) in
    adds-same
    (λ z j. subst (In z) (sym more) (In-left (made_by size 0 (get_or rows i [])) j))
    (λ z j. elim (append-In (made_in size (take i rows)) (made_by size 0 (get_or rows i [])) (subst (In z) more j)) [
      | inl k ↦ k
      | inr k ↦ In-flat_map (made_by size 0) stands (subst (λ (r : List ℕ). In z (made_by size 0 r)) e k)
    ]) h
