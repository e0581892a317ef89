-- The cells of a dimension in the order of the numbers of their flags, and the place of each.
use Rattle.std.proofs.Common.{◌≡◌, ℕ, zero, suc, ◌+◌, ◌-◌, ◌<◌, ◌≤◌, List, [], ◌∷◌, ◌++◌, All, Contains, length, map, reverse, get_or, refl, ap, sym, ◌∙◌, subst, arith}
use Rattle.std.specs.List.Sorted.{IsStrictlyIncreasing}
use Rattle.std.proofs.lemmas.List.{get_or-map, length-map, length-reverse, reverse-append}
use Rattle.std.proofs.Math.Seq.{get_or-append_seam}
use Rattle.number_lists.specs.Words.{upto, holds}
use Rattle.number_lists.specs.Members.{In}
use Rattle.number_lists.proofs.CallerLemmas.{In-map, map-In, In-upto, upto-In, at-In, In-Contains, Contains-In, holds-In, same_holds, members_sorted, length-inside, distinct_rising, increasing-upto, length-upto, get_or-upto}
use Rattle.face_poset.specs.Poset.{IsSpace, count, cell_count}
use Rattle.face_poset.specs.Below.{cell_at}
use Rattle.order_complex.specs.Chains.{id_of, chains_of}
use Rattle.order_complex.specs.Complex.{last_of}
use Rattle.order_complex.specs.Laws.{FacesAreBelow, ChainsAreSequences}
use Rattle.sphere_collapses.specs.Places.{ArePlaces}
use Rattle.sphere_collapses.specs.Places.{number_at as entry_at}
use Rattle.sphere_collapses.proofs.CallerLemmas.{place_once}
use Rattle.local_field.specs.Towers.{top_of, rest_of}
use Rattle.local_field.specs.Inside.{IsFull, IsTower}
use Rattle.local_field.specs.Buildings.{dim_at, number_at, is_below, flag_of}
use Rattle.local_field.specs.Numbered.{number_of, flag_numbers}
use Rattle.local_field.specs.Flags.{flags_in_order, top_number, IsOrderOf}
use Rattle.local_field.proofs.FlagLaw.{dim-id, number-id, full}
use Rattle.local_field.proofs.Cells.{id-range}
use Rattle.local_field.proofs.TowerParts.{full-long}
use Rattle.local_field.proofs.ChainTowers.{IsRoom, IsNumber, tower-chain, numbered-chain, tower-number}

-- the last entry of a list turned round is the first
last-turned : (g : ℕ) (t : List ℕ) → last_of (reverse (g ∷ t)) ≡ g
last-turned g t =
    let e : reverse (g ∷ t) ≡ reverse t ++ g ∷ [] = reverse-append (g ∷ []) t in
    let l : length (reverse (g ∷ t)) - 1 ≡ length (reverse t) = ap (λ (k : ℕ). k - 1) (length-reverse (g ∷ t)) ∙ (omega arith ∙ sym (length-reverse t)) in
    ap (λ (k : ℕ). get_or (reverse (g ∷ t)) k 0) l ∙ (ap (λ (xs : List ℕ). get_or xs (length (reverse t)) 0) e ∙ get_or-append_seam (reverse t) g [] 0)

module _ (space : List (List (List ℕ))) (valid : IsSpace space) (faces : FacesAreBelow) (sequences : ChainsAreSequences) (d : ℕ) (small : d ≤ 3) where
  abbrev N : ℕ → ℕ
  N n = number_of space (flag_of space d n)

  abbrev Is : ℕ → Type 0
  Is n = (1 ≤ n) × (n ≤ count space d)

  tower : (t : List ℕ) → IsFull (is_below space) (dim_at space) t → IsTower (is_below space) t
  tower [] h = h
  tower (v ∷ []) h = tt
  tower (g ∷ f ∷ rest) h = (h.0, tower (f ∷ rest) h.2)

  head : (d n : ℕ) → flag_of space d n ≡ id_of space (cell_at d n) ∷ rest_of (flag_of space d n)
  head zero n = refl
  head (suc d) n = refl

  -- the flag of a cell is a tower that is there
  pub room : (n : ℕ) → 1 ≤ n → n ≤ count space d → IsRoom space valid faces sequences (flag_of space d n) d
  room n low high =
      let f = full space valid d n small low high in
      let h = head d n in
      let r = id-range space d n small low high in
      let top : top_of (flag_of space d n) ≡ id_of space (cell_at d n) = ap top_of h in
      record {
        tower = tower (flag_of space d n) f;
        range = (omega (arith, top, r.0), omega (arith, top, r.1));
        long = full-long space (flag_of space d n) f ∙ ap suc (ap (dim_at space) top ∙ dim-id space d n small low high);
      }

  -- and a chain with its number
  pub number : (n : ℕ) → 1 ≤ n → n ≤ count space d → IsNumber space valid faces sequences d (reverse (flag_of space d n)) (N n)
  number n low high =
      let h = room n low high in
      subst (IsNumber space valid faces sequences d (reverse (flag_of space d n))) (sym (tower-number space valid faces sequences (flag_of space d n) d h))
      (numbered-chain space valid faces sequences d (reverse (flag_of space d n)) (tower-chain space valid faces sequences (flag_of space d n) d h))

  pub top-number : (n : ℕ) → 1 ≤ n → n ≤ count space d → top_number space d (N n) ≡ n
  top-number n low high =
      ap (λ (c : List ℕ). number_at space (last_of c)) ((number n low high).there ∙ ap (λ (t : List ℕ). reverse t) (head d n))
      ∙ (ap (number_at space) (last-turned (id_of space (cell_at d n)) (rest_of (flag_of space d n))) ∙ number-id space d n small low high)

  module _ (sorted : List ℕ) (rises : IsStrictlyIncreasing sorted) (keeps : (n : ℕ) → Contains (flag_numbers space d) n → Contains sorted n) (adds : (n : ℕ) → Contains sorted n → Contains (flag_numbers space d) n) where
    -- each of the numbers is that of a flag
    pub of-flag : (k : ℕ) → In k sorted → (n : ℕ) × (1 ≤ n) × (n ≤ count space d) × (k ≡ N n)
    of-flag k i =
        let r = map-In N (upto (count space d)) (Contains-In (adds k (In-Contains i))) in
        let w = upto-In (count space d) r.0 r.1 in
        (r.0, w.0, w.1, r.2)

    to-flag : (n : ℕ) → 1 ≤ n → n ≤ count space d → In (N n) sorted
    to-flag n low high = Contains-In (keeps (N n) (In-Contains (In-map N (In-upto (count space d) n low high))))

    pub in-range : All (λ n. (1 ≤ n) × (n ≤ length (chains_of space d))) sorted
    in-range i e l =
        let r = of-flag (get_or sorted i e) (at-In sorted i e l) in
        let h = number r.0 r.1 r.2 in
        subst (λ (k : ℕ). (1 ≤ k) × (k ≤ length (chains_of space d))) (sym r.3) (h.low, h.high)

    pub there : All (Contains sorted) (flag_numbers space d)
    there i e l = keeps (get_or (flag_numbers space d) i e) (In-Contains (at-In (flag_numbers space d) i e l))

    pub is-order : sorted ≡ flags_in_order space d
    is-order =
        members_sorted sorted (holds (flag_numbers space d)) (length (chains_of space d)) rises (λ n. same_holds sorted (flag_numbers space d) n (adds n) (keeps n))
        (λ n h. (let r = map-In N (upto (count space d)) (holds-In (flag_numbers space d) h) in
        let w = upto-In (count space d) r.0 r.1 in
        let k = number r.0 w.0 w.1 in
        subst (λ (x : ℕ). (1 ≤ x) × (x ≤ length (chains_of space d))) (sym r.2) (k.low, k.high)))

    abbrev tops : List ℕ
    tops = map (top_number space d) sorted

    pub many : length sorted ≡ count space d
    many =
        let up = length-inside (upto (count space d)) tops (distinct_rising (upto (count space d)) (increasing-upto (count space d)))
        (λ y i. (let w = upto-In (count space d) y i in subst (λ (z : ℕ). In z tops) (top-number y w.0 w.1) (In-map (top_number space d) (to-flag y w.0 w.1)))) in
        let down = length-inside sorted (flag_numbers space d) (distinct_rising sorted rises) (λ y i. Contains-In (adds y (In-Contains i))) in
        omega (arith, up, down, length-upto (count space d), length-map sorted (top_number space d), length-map (upto (count space d)) N)

    pub few : length sorted ≤ cell_count space
    few = omega (arith, many, by d small)
      where
        by : (d : ℕ) → d ≤ 3 → count space d ≤ cell_count space
        by zero l = omega arith
        by (suc zero) l = omega arith
        by (suc (suc zero)) l = omega arith
        by (suc (suc (suc zero))) l = omega arith
        by (suc (suc (suc (suc d)))) l = absurd (omega (arith, l))

    module _ (places : List ℕ) (are : ArePlaces sorted (flag_numbers space d) places) where
      each : length places ≡ count space d
      each =
          let e = ap (λ (xs : List ℕ). length xs) are.numbers_are in
          omega (arith, sym (length-map places (entry_at sorted)) ∙ e, length-map (upto (count space d)) N, length-upto (count space d))

      -- what stands at the place of a cell is the number of its flag
      at-place : (c : ℕ) → 1 ≤ c → c ≤ count space d → entry_at sorted (get_or places (c - 1) 0) ≡ N c
      at-place c low high =
          let l : c - 1 < length places = omega (arith, each, low, high) in
          let m : c - 1 < length (upto (count space d)) = omega (arith, length-upto (count space d), low, high) in
          let back : c - 1 + 1 ≡ c = omega (arith, low) in
          sym (get_or-map (entry_at sorted) places (c - 1) 0 0 l)
          ∙ (ap (λ (xs : List ℕ). get_or xs (c - 1) 0) are.numbers_are ∙ (get_or-map N (upto (count space d)) (c - 1) 0 0 m ∙ ap N (get_or-upto (count space d) (c - 1) (omega (arith, low, high)) ∙ back)))

      place : (c : ℕ) → 1 ≤ c → c ≤ count space d → (1 ≤ get_or places (c - 1) 0) × (get_or places (c - 1) 0 ≤ count space d)
      place c low high =
          let w = are.within (c - 1) 0 (omega (arith, each, low, high)) in
          (w.0, omega (arith, w.1, many))

      cell : (c : ℕ) → 1 ≤ c → c ≤ count space d → get_or tops (get_or places (c - 1) 0 - 1) 0 ≡ c
      cell c low high =
          let w = place c low high in
          get_or-map (top_number space d) sorted (get_or places (c - 1) 0 - 1) 0 0 (omega (arith, w.0, w.1, many)) ∙ (ap (top_number space d) (at-place c low high) ∙ top-number c low high)

      top-at : (p : ℕ) → 1 ≤ p → p ≤ count space d → (n : ℕ) × (1 ≤ n) × (n ≤ count space d) × (entry_at sorted p ≡ N n) × (get_or tops (p - 1) 0 ≡ n)
      top-at p low high =
          let l : p - 1 < length sorted = omega (arith, low, high, many) in
          let r = of-flag (entry_at sorted p) (at-In sorted (p - 1) 0 l) in
          (r.0, r.1, r.2, r.3, get_or-map (top_number space d) sorted (p - 1) 0 0 l ∙ (ap (top_number space d) r.3 ∙ top-number r.0 r.1 r.2))

      within : (p : ℕ) → 1 ≤ p → p ≤ count space d → (1 ≤ get_or tops (p - 1) 0) × (get_or tops (p - 1) 0 ≤ count space d)
      within p low high = let r = top-at p low high in subst (λ (x : ℕ). (1 ≤ x) × (x ≤ count space d)) (sym r.4) (r.1, r.2)

      back : (p : ℕ) → 1 ≤ p → p ≤ count space d → get_or places (get_or tops (p - 1) 0 - 1) 0 ≡ p
      back p low high =
          let r = top-at p low high in
          let q : ℕ = get_or places (r.0 - 1) 0 in
          let w = place r.0 r.1 r.2 in
          ap (λ (k : ℕ). get_or places (k - 1) 0) r.4 ∙ place_once sorted rises q p w.0 (omega (arith, w.1, many)) low (omega (arith, high, many)) (at-place r.0 r.1 r.2 ∙ sym r.3)

      pub ordered : IsOrderOf (count space d) (map (top_number space d) sorted) places
      ordered = record { many = length-map sorted (top_number space d) ∙ many; each = each; place = place; cell = cell; within = within; back = back }
