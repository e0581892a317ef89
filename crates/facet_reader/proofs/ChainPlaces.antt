-- The places of chains, head by head: chains are the choices of which each member stands in the list of the one before.
use Rattle.std.proofs.Common.{◌≡◌, inl, inr, ◌<◌, ◌≤◌, ◌+◌, ◌*◌, ◌^◌, ◌++◌, ℕ, zero, suc, List, [], ◌∷◌, length, map, filter, take, get_or, refl, ap, sym, ◌∙◌, subst, arith, append-nil, Bool, true, false, cond, ◌&&◌, Contains}
use Rattle.std.specs.List.{flat_map, list_all}
use Rattle.std.proofs.lemmas.Grind.{flat_map-append}
use Rattle.std.proofs.lemmas.List.{take_more, length-append}
use Rattle.std.proofs.lemmas.Simd.{map-map}
use Rattle.std.proofs.lemmas.List.Elements.{filter-append}
use Rattle.number_lists.specs.Words.{upto}
use Rattle.number_lists.specs.Members.{In, here, there}
use Rattle.number_lists.proofs.CallerLemmas.{In-cases, In-filter, filter-In, In-inside, In-upto, upto-In, In-Contains, Contains-In, increasing-upto, same_increasing, same_holds, filter-map, map-flat_map}
use Rattle.tuple_spaces.proofs.CallerLemmas.{map_same}
use Rattle.facet_reader.specs.SetSpaces.{choices, sets_of}
use Rattle.facet_reader.specs.Orders.{is_chain}
use Rattle.facet_reader.specs.Places.{place_of}
use Rattle.facet_reader.specs.Chains.{row_at, places_from}
use Rattle.facet_reader.proofs.Choices.{choice-part}
use Rattle.facet_reader.proofs.Ranked.{Ranked, rank, ranked-filter, rises-increasing, increasing-rises}
use Rattle.facet_reader.proofs.MadeSets.{place-front}

-- ---- filters

filter-both : {A : Type 0} (p q : A → Bool) (xs : List A) → filter (λ x. p x && q x) xs ≡ filter q (filter p xs)
filter-both p q [] = refl
filter-both {A} p q (x ∷ xs) = by_test (p x) (filter-both p q xs)
  where
    by_test : (b : Bool) → filter (λ x. p x && q x) xs ≡ filter q (filter p xs) → cond (b && q x) (x ∷ filter (λ x. p x && q x) xs) (filter (λ x. p x && q x) xs) ≡ filter q (cond b (x ∷ filter p xs) (filter p xs))
    by_test true h = ap (λ (ys : List A). cond (q x) (x ∷ ys) ys) h
    by_test false h = h

filter-none : {A : Type 0} (xs : List A) → filter (λ _. false) xs ≡ []
filter-none [] = refl
filter-none (x ∷ xs) = filter-none xs

-- the choices of which all members pass are those among the members that pass
choices-filter : (p : ℕ → Bool) (size : ℕ) (ys : List ℕ) → filter (list_all p) (choices size ys) ≡ choices size (filter p ys)
choices-filter p zero ys = refl
choices-filter p (suc size) [] = refl
choices-filter p (suc size) (y ∷ ys) =
    filter-append (list_all p) (map (λ s. y ∷ s) (choices size ys)) (choices (suc size) ys)
    ∙ (ap (λ (ss : List (List ℕ)). ss ++ filter (list_all p) (choices (suc size) ys)) (filter-map (list_all p) (λ s. y ∷ s) (choices size ys))
    ∙ (ap (λ (ss : List (List ℕ)). map (λ s. y ∷ s) (filter (λ s. p y && list_all p s) (choices size ys)) ++ ss) (choices-filter p (suc size) ys)
    ∙ by_test (p y) (choices-filter p size ys)))
  where
    by_test : (b : Bool) → filter (list_all p) (choices size ys) ≡ choices size (filter p ys)
        → map (λ s. y ∷ s) (filter (λ s. b && list_all p s) (choices size ys)) ++ choices (suc size) (filter p ys) ≡ choices (suc size) (cond b (y ∷ filter p ys) (filter p ys))
    by_test true h = ap (λ (ss : List (List ℕ)). map (λ s. y ∷ s) ss ++ choices (suc size) (filter p ys)) h
    by_test false h = ap (λ (ss : List (List ℕ)). map (λ s. y ∷ s) ss ++ choices (suc size) (filter p ys)) (filter-none (choices size ys))

pub flat_map_same : {A B : Type 0} (f g : A → List B) (xs : List A) → ((x : A) → In x xs → f x ≡ g x) → flat_map f xs ≡ flat_map g xs
flat_map_same f g [] h = refl
flat_map_same f g (x ∷ xs) h = ap (λ ys. ys ++ flat_map f xs) (h x here) ∙ ap (λ ys. g x ++ ys) (flat_map_same f g xs (λ y i. h y (there i)))

-- ---- chains

module _ (n : ℕ) (below : ℕ → ℕ → Bool) (rows : List (List ℕ)) (at : (x : ℕ) → 1 ≤ x → x ≤ n → row_at rows x ≡ filter (below x) (upto n)) (rises : (x y : ℕ) → below x y ≡ true → (1 ≤ x) × (x < y) × (y ≤ n)) (through : (x y z : ℕ) → below x y ≡ true → below y z ≡ true → below x z ≡ true) where
  -- increasing points, with each point all that are above it
  pub record IsUp (xs : List ℕ) : Type 0 where
    pub rising : Ranked (λ a b. a < b) xs
    pub points : (x : ℕ) → In x xs → (1 ≤ x) × (x ≤ n)
    pub up : (x y : ℕ) → In x xs → below x y ≡ true → In y xs

  rest-up : {x : ℕ} {xs : List ℕ} → IsUp (x ∷ xs) → IsUp xs
  rest-up {x} {xs} h = from_ranked h.rising
    where
      from_ranked : Ranked (λ a b. a < b) (x ∷ xs) → IsUp xs
      from_ranked (rank less d) =
          record {
            rising = d;
            points = λ y i. h.points y (there i);
            up = λ y z i q.
                let more : y < z = (rises y z q).1 in
                let less_y : x < y = less y i in
                elim (In-cases (h.up y z (there i) q)) [ inl e ↦ absurd (omega (arith, more, less_y, e)) | inr j ↦ j ];
          }

  head-rest : {x : ℕ} {xs : List ℕ} → IsUp (x ∷ xs) → filter (below x) xs ≡ row_at rows x
  head-rest {x} {xs} h =
      let p = h.points x here in
      same_increasing (filter (below x) xs) (filter (below x) (upto n))
      (rises-increasing (ranked-filter (λ a b. a < b) (below x) (rest-up h).rising))
      (rises-increasing (ranked-filter (λ a b. a < b) (below x) (increasing-rises (upto n) (increasing-upto n))))
      (λ z. same_holds (filter (below x) xs) (filter (below x) (upto n)) z (λ c. to z (Contains-In c)) (λ c. from z (Contains-In c)))
      ∙ sym (at x p.0 p.1)
    where
      to : (z : ℕ) → In z (filter (below x) xs) → Contains (filter (below x) (upto n)) z
      to z i =
          let q = filter-In (below x) xs i in
          let r = rises x z q in
          In-Contains (In-filter (below x) (In-upto n z (omega (arith, r.0, r.1)) r.2) q)

      from : (z : ℕ) → In z (filter (below x) (upto n)) → Contains (filter (below x) xs) z
      from z i =
          let q = filter-In (below x) (upto n) i in
          let less : x < z = (rises x z q).1 in
          In-Contains (In-filter (below x) (elim (In-cases (h.up x z here q)) [ inl e ↦ absurd (omega (arith, less, e)) | inr j ↦ j ]) q)

  pub row-up : (x : ℕ) → 1 ≤ x → x ≤ n → IsUp (row_at rows x)
  row-up x low high =
      subst IsUp (sym (at x low high))
      (record {
        rising = ranked-filter (λ a b. a < b) (below x) (increasing-rises (upto n) (increasing-upto n));
        points = λ y i. upto-In n y (In-inside (below x) (upto n) i);
        up = λ y z i q.
            let p = filter-In (below x) (upto n) i in
            let r = rises y z q in
            In-filter (below x) (In-upto n z (omega (arith, r.0, r.1)) r.2) (through x y z p q);
      })

  pub all-up : IsUp (upto n)
  all-up =
      record {
        rising = increasing-rises (upto n) (increasing-upto n);
        points = λ x i. upto-In n x i;
        up = λ x y i q. (let r = rises x y q in In-upto n y (omega (arith, r.0, r.1)) r.2);
      }

  chain-heads : (size : ℕ) (xs : List ℕ) → IsUp xs → filter (is_chain below) (choices (suc size) xs) ≡ flat_map (λ x. map (λ s. x ∷ s) (filter (is_chain below) (choices size (row_at rows x)))) xs
  chain-heads size [] h = refl
  chain-heads size (x ∷ xs) h =
      filter-append (is_chain below) (map (λ s. x ∷ s) (choices size xs)) (choices (suc size) xs)
      ∙ (ap (λ (ss : List (List ℕ)). ss ++ filter (is_chain below) (choices (suc size) xs)) first
      ∙ ap (λ (ss : List (List ℕ)). map (λ s. x ∷ s) (filter (is_chain below) (choices size (row_at rows x))) ++ ss) (chain-heads size xs (rest-up h)))
    where
      first : filter (is_chain below) (map (λ s. x ∷ s) (choices size xs)) ≡ map (λ s. x ∷ s) (filter (is_chain below) (choices size (row_at rows x)))
      first =
          filter-map (is_chain below) (λ s. x ∷ s) (choices size xs)
          ∙ ap (map (λ s. x ∷ s))
          (filter-both (list_all (below x)) (is_chain below) (choices size xs)
          ∙ (ap (filter (is_chain below)) (choices-filter (below x) size xs) ∙ ap (λ (ys : List ℕ). filter (is_chain below) (choices size ys)) (head-rest h)))

  pub chain-places : (size high : ℕ) (xs : List ℕ) → IsUp xs → places_from rows size high xs ≡ map (λ s. high * 65536 ^ size + place_of s) (filter (is_chain below) (choices size xs))
  chain-places zero high xs h = let e : high ≡ high * 65536 ^ 0 + 0 = omega arith in ap (λ (k : ℕ). k ∷ []) e
  chain-places (suc size) high xs h =
      flat_map_same (λ x. places_from rows size (high * 65536 + x) (row_at rows x)) (λ x. map (λ s. high * 65536 ^ suc size + place_of s) (map (λ s. x ∷ s) (filter (is_chain below) (choices size (row_at rows x))))) xs (λ x i. at_head x i (let p = h.points x i in chain-places size (high * 65536 + x) (row_at rows x) (row-up x p.0 p.1)))
      ∙ (sym (map-flat_map (λ s. high * 65536 ^ suc size + place_of s) (λ x. map (λ s. x ∷ s) (filter (is_chain below) (choices size (row_at rows x)))) xs)
      ∙ ap (map (λ s. high * 65536 ^ suc size + place_of s)) (sym (chain-heads size xs h)))
    where
      at_head : (x : ℕ) → In x xs → places_from rows size (high * 65536 + x) (row_at rows x) ≡ map (λ s. (high * 65536 + x) * 65536 ^ size + place_of s) (filter (is_chain below) (choices size (row_at rows x))) → places_from rows size (high * 65536 + x) (row_at rows x) ≡ map (λ s. high * 65536 ^ suc size + place_of s) (map (λ s. x ∷ s) (filter (is_chain below) (choices size (row_at rows x))))
      at_head x i e =
          let ss : List (List ℕ) = filter (is_chain below) (choices size (row_at rows x)) in
          e
          ∙ (map_same (λ s. (high * 65536 + x) * 65536 ^ size + place_of s) (λ s. high * 65536 ^ suc size + place_of (x ∷ s)) ss
          (λ s j. sym (place-front size high x s (choice-part size s (row_at rows x) (In-inside (is_chain below) (choices size (row_at rows x)) j)).1))
          ∙ sym (map-map (λ s. high * 65536 ^ suc size + place_of s) (λ s. x ∷ s) ss))

  -- all chains of so many points
  pub all-places : (d : ℕ) → places_from rows (suc d) 0 (upto n) ≡ map place_of (sets_of n (is_chain below) d)
  all-places d =
      chain-places (suc d) 0 (upto n) all-up
      ∙ map_same (λ s. 0 * 65536 ^ suc d + place_of s) place_of (filter (is_chain below) (choices (suc d) (upto n))) (λ s i. none (65536 ^ suc d) (place_of s))
    where
      none : (w p : ℕ) → 0 * w + p ≡ p
      none w p = grind arith

-- ---- lengths

flat-length : {A B C : Type 0} (f : A → List B) (g : A → List C) (xs : List A) → ((x : A) → length (f x) ≡ length (g x)) → length (flat_map f xs) ≡ length (flat_map g xs)
flat-length f g [] h = refl
flat-length f g (x ∷ xs) h = omega (arith, h x, flat-length f g xs h, length-append (f x) (flat_map f xs), length-append (g x) (flat_map g xs))

pub edge-length : (rows : List (List ℕ)) (xs : List ℕ) → length (places_from rows 2 0 xs) ≡ length (flat_map (row_at rows) xs)
edge-length rows xs = flat-length (λ x. places_from rows 1 (0 * 65536 + x) (row_at rows x)) (row_at rows) xs (λ x. single (0 * 65536 + x) (row_at rows x))
  where
    single : (high : ℕ) (ys : List ℕ) → length (places_from rows 1 high ys) ≡ length ys
    single high [] = refl
    single high (y ∷ ys) = ap (λ (k : ℕ). suc k) (single high ys)

-- places of the first heads, and with one head more
abbrev pub places_first : (rows : List (List ℕ)) → (size high : ℕ) → List ℕ → ℕ → List ℕ
places_first rows size high next i = flat_map (λ x. places_from rows size (high * 65536 + x) (row_at rows x)) (take i next)

pub first-places : (rows : List (List ℕ)) (size high : ℕ) (next : List ℕ) (i : ℕ) → i < length next
    → places_first rows size high next (i + 1) ≡ places_first rows size high next i ++ places_from rows size (high * 65536 + get_or next i 0) (row_at rows (get_or next i 0))
first-places rows size high next i l =
    let f : ℕ → List ℕ = λ x. places_from rows size (high * 65536 + x) (row_at rows x) in
    ap (flat_map f) (take_more next i 0 l) ∙ (flat_map-append f (take i next) (get_or next i 0 ∷ []) ∙ ap (λ (ys : List ℕ). flat_map f (take i next) ++ ys) (append-nil (f (get_or next i 0))))

pub first-length : (rows : List (List ℕ)) (size high : ℕ) (next : List ℕ) (i : ℕ) → i < length next
    → length (places_first rows size high next i) + length (places_from rows size (high * 65536 + get_or next i 0) (row_at rows (get_or next i 0))) ≤ length (places_from rows (suc size) high next)
first-length rows size high [] i l = absurd (omega arith)
first-length rows size high (x ∷ xs) zero l =
    let f : ℕ → List ℕ = λ x. places_from rows size (high * 65536 + x) (row_at rows x) in
    omega (arith, length-append (f x) (flat_map f xs))
first-length rows size high (x ∷ xs) (suc i) l =
    let f : ℕ → List ℕ = λ x. places_from rows size (high * 65536 + x) (row_at rows x) in
    omega (arith, first-length rows size high xs i (omega (arith, l)), length-append (f x) (flat_map f xs), length-append (f x) (places_first rows size high xs i))
