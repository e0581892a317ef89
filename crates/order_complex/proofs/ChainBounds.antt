-- Bounds on faces, chains and counts that the code asks for.
use Rattle.std.proofs.Common.{◌≡◌, ℕ, zero, suc, ◌+◌, ◌-◌, ◌<◌, ◌≤◌, List, [], ◌∷◌, ◌++◌, map, length, get_or, All, refl, ap, sym, ◌∙◌, subst, arith}
use Rattle.std.specs.List.{AllByRecursion, flat_map}
use Rattle.std.specs.List.Sorted.{IsStrictlyIncreasing}
use Rattle.std.proofs.lemmas.List.{get_or_default}
use native.Mathlib.Decide.{dec_lt}
use Prim.{yes, no}
use Rattle.face_poset.specs.declared.cells.Cell.{Cell}
use Rattle.face_poset.specs.Words.{upto}
use Rattle.face_poset.specs.Poset.{count, cell_count}
use Rattle.number_lists.specs.Cofaces.{IsRising}
use Rattle.face_poset.specs.Below.{cell_at, closure, facets_of_all}
use Rattle.number_lists.specs.Members.{In, here, there}
use Rattle.number_lists.proofs.CallerLemmas.{map-In}
use Rattle.order_complex.specs.Chains.{cells_before, id_of, faces_of, all_faces, chains_of}
use Rattle.order_complex.specs.Listing.{extensions, uppers_of, AreWalks}
use Rattle.order_complex.proofs.Ordered.{Rises, all-of, rises-range, rises-filter}
use Rattle.order_complex.proofs.FaceIds.{faces_at, face-below, closure-of, facets_of_all-range, length-all_faces, cell_with, faces_at-cell}
use Rattle.order_complex.proofs.Chained.{Follows, chains_of-member}
use Rattle.order_complex.proofs.Extended.{chains_of-zero, chains_of-next, length-uppers_of}
use Rattle.order_complex.proofs.Graded.{all-index}

rises-index : (xs : List ℕ) → Rises xs → IsStrictlyIncreasing xs
rises-index [] h k l = absurd (omega arith)
rises-index (x ∷ []) h k l = absurd (omega arith)
rises-index (x ∷ y ∷ ys) h zero l = h.0.0
rises-index (x ∷ y ∷ ys) h (suc k) l =
    let e : suc (k + 1) ≡ suc k + 1 = omega arith in
    subst (λ j. get_or (y ∷ ys) k 0 < get_or (x ∷ y ∷ ys) j 0) e (rises-index (y ∷ ys) h.1 k (omega arith))

rises-append : (xs ys : List ℕ) → Rises xs → Rises ys → ((x y : ℕ) → In x xs → In y ys → x < y) → Rises (xs ++ ys)
rises-append [] ys h k f = k
rises-append (x ∷ xs) ys h k f = (all-append xs h.0, rises-append xs ys h.1 k (λ a b m n. f a b (there m) n))
  where
    all-append : (zs : List ℕ) → AllByRecursion (λ y. x < y) zs → AllByRecursion (λ y. x < y) (zs ++ ys)
    all-append [] g = all-of (λ y. x < y) ys (λ y m. f x y here m)
    all-append (z ∷ zs) g = (g.0, all-append zs g.1)

map-append : (f : Cell → ℕ) (xs ys : List Cell) → map f (xs ++ ys) ≡ map f xs ++ map f ys
map-append f [] ys = refl
map-append f (x ∷ xs) ys = ap (λ r. f x ∷ r) (map-append f xs ys)

module _ (space : List (List (List ℕ))) where
  ids-rise : (dim : ℕ) (cells : List ℕ) → Rises cells → Rises (map (id_of space) (map (cell_at dim) cells))
  ids-rise dim [] h = tt
  ids-rise dim (c ∷ cells) h = (later cells h.0, ids-rise dim cells h.1)
    where
      later : (ds : List ℕ) → AllByRecursion (λ d. c < d) ds → AllByRecursion (λ y. cells_before space dim + c < y) (map (id_of space) (map (cell_at dim) ds))
      later [] g = tt
      later (d ∷ ds) g = (let less : c < d = g.0 in omega arith, later ds g.1)

  facets_of_all-rise : (dim : ℕ) (cells : List ℕ) → Rises (facets_of_all space dim cells)
  facets_of_all-rise dim cells = rises-filter _ (upto (count space dim)) (rises-range 1 (count space dim))

  lower : (dim : ℕ) (cells : List ℕ) → ((m : ℕ) → In m cells → (1 ≤ m) × (m ≤ count space dim)) → (x : ℕ) → In x (map (id_of space) (closure space dim cells)) → x ≤ cells_before space (suc dim)
  lower dim cells range x h =
      let r = map-In (id_of space) (closure space dim cells) h in
      let o = closure-of space dim cells r.0 range r.1 in
      let b : cells_before space r.0.dim + r.0.number ≤ cells_before space (suc dim) = before r.0.dim dim o.1 r.0.number o.0.high in
      omega (arith, r.2, b)
    where
      before : (e d : ℕ) → e ≤ d → (n : ℕ) → n ≤ count space e → cells_before space e + n ≤ cells_before space (suc d)
      before e zero le n high = let z : e ≡ 0 = omega arith in subst (λ k. cells_before space k + n ≤ cells_before space 1) (sym z) (let w : n ≤ count space 0 = subst (λ k. n ≤ count space k) z high in omega arith)
      before e (suc d) le n high =
          elim (dec_lt e (suc d)) [
            | yes a ↦ let r = before e d (omega arith) n high in omega (arith, r)
            | no a ↦ let same : suc d ≡ e = omega arith in subst (λ k. cells_before space e + n ≤ cells_before space (suc k)) (sym same) (omega arith)
          ]

  top-ids : (dim : ℕ) (cells : List ℕ) → ((m : ℕ) → In m cells → 1 ≤ m) → (y : ℕ) → In y (map (id_of space) (map (cell_at dim) cells)) → cells_before space dim < y
  top-ids dim cells first y h =
      let r = map-In (id_of space) (map (cell_at dim) cells) h in
      let s = map-In (cell_at dim) cells r.1 in
      let low : 1 ≤ s.0 = first s.0 s.1 in
      let id : y ≡ cells_before space dim + s.0 = r.2 ∙ ap (id_of space) s.2 in omega (arith, id)

  closure-rises : (dim : ℕ) (cells : List ℕ) → Rises cells → ((m : ℕ) → In m cells → 1 ≤ m) → Rises (map (id_of space) (closure space dim cells))
  closure-rises zero cells h first = ids-rise 0 cells h
  closure-rises (suc dim) cells h first =
      let below : List ℕ = facets_of_all space dim cells in
      subst Rises (sym (map-append (id_of space) (closure space dim below) (map (cell_at (suc dim)) cells)))
      (rises-append (map (id_of space) (closure space dim below)) (map (id_of space) (map (cell_at (suc dim)) cells))
      (closure-rises dim below (facets_of_all-rise dim cells) (λ m k. (facets_of_all-range space dim cells m k).0))
      (ids-rise (suc dim) cells h)
      (λ x y m n. let a = lower dim below (facets_of_all-range space dim cells) x m in let b = top-ids (suc dim) cells first y n in omega (arith, a, b)))

  faces_of-rise : (dim n : ℕ) → Rises (faces_of space dim n)
  faces_of-rise zero n = tt
  faces_of-rise (suc dim) n = closure-rises dim (facets_of_all space dim (n ∷ [])) (facets_of_all-rise dim (n ∷ [])) (λ m k. (facets_of_all-range space dim (n ∷ []) m k).0)

  -- each list of faces rises, within the ids
  pub all_faces-rising : All (IsRising (cell_count space)) (all_faces space)
  all_faces-rising i d l =
      let id : ℕ = i + 1 in
      let high : id ≤ cell_count space = omega (arith, length-all_faces space) in
      let x = cell_with space id (omega arith) high in
      let at : get_or (all_faces space) (id - 1) [] ≡ faces_of space x.dim x.number = ap (faces_at space) x.is ∙ faces_at-cell space x.dim x.number x.small x.low x.high in
      let here : get_or (all_faces space) i d ≡ faces_of space x.dim x.number = get_or_default (all_faces space) i d [] l ∙ ap (λ k. get_or (all_faces space) k []) (omega arith) ∙ at in
      subst (IsRising (cell_count space)) (sym here) record {
        rises = rises-index (faces_of space x.dim x.number) (faces_of-rise x.dim x.number);
        within = all-index (λ a. (1 ≤ a) × (a ≤ cell_count space)) (faces_of space x.dim x.number)
            (λ a m. let b = face-below space a id (omega arith) high (subst (In a) (sym at) m) in (b.0, omega (arith, b.1, high)));
      }

  -- ---- chains

  last-within : (c : ℕ) (rest : List ℕ) → 1 ≤ c → c ≤ cell_count space → Follows space c rest → (1 ≤ get_or (c ∷ rest) (length (c ∷ rest) - 1) 0) × (get_or (c ∷ rest) (length (c ∷ rest) - 1) 0 ≤ cell_count space)
  last-within c [] low high f = (low, high)
  last-within c (d ∷ rest) low high f =
      let r = last-within d rest f.0.low f.0.high f.1 in
      let same : get_or (c ∷ d ∷ rest) (length (c ∷ d ∷ rest) - 1) 0 ≡ get_or (d ∷ rest) (length (d ∷ rest) - 1) 0 = at (length (d ∷ rest) - 1) (length (c ∷ d ∷ rest) - 1) (omega arith) in
      subst (λ n. (1 ≤ n) × (n ≤ cell_count space)) (sym same) r
    where
      at : (i j : ℕ) → j ≡ suc i → get_or (c ∷ d ∷ rest) j 0 ≡ get_or (d ∷ rest) i 0
      at i j e = ap (λ k. get_or (c ∷ d ∷ rest) k 0) e

  pub chains-walk : (degree : ℕ) → AreWalks (uppers_of space) (chains_of space degree)
  chains-walk degree = record {
    some = all-index (λ chain. 1 ≤ length chain) (chains_of space degree) (λ x m. let c = chains_of-member space degree x m in omega (arith, ap (λ (y : List ℕ). length y) c.is));
    first = all-index (λ chain. 1 ≤ get_or chain (length chain - 1) 0) (chains_of space degree)
        (λ x m. let c = chains_of-member space degree x m in subst (λ (y : List ℕ). 1 ≤ get_or y (length y - 1) 0) (sym c.is) (last-within c.first c.rest c.low c.high c.follows).0);
    last = all-index (λ chain. get_or chain (length chain - 1) 0 ≤ length (uppers_of space)) (chains_of space degree)
        (λ x m. let c = chains_of-member space degree x m in
        let w = last-within c.first c.rest c.low c.high c.follows in
        subst (λ (y : List ℕ). get_or y (length y - 1) 0 ≤ length (uppers_of space)) (sym c.is) (omega (arith, w.1, length-uppers_of space)));
  }

  -- ---- as the code asks for them

  pub faces-rising : (faces : List (List ℕ)) (n : ℕ) → faces ≡ all_faces space → n ≡ length faces → All (IsRising n) faces
  faces-rising faces n e l =
      let m : cell_count space ≡ n = sym (length-all_faces space) ∙ ap (λ (xs : List (List ℕ)). length xs) (sym e) ∙ sym l in
      subst (All (IsRising n)) (sym e) (subst (λ k. All (IsRising k) (all_faces space)) m all_faces-rising)

  pub walks : (uppers chains : List (List ℕ)) (degree : ℕ) → uppers ≡ uppers_of space → chains ≡ chains_of space degree → AreWalks uppers chains
  walks uppers chains degree u e = subst (AreWalks uppers) (sym e) (subst (λ us. AreWalks us (chains_of space degree)) (sym u) (chains-walk degree))

  pub points-are : (uppers points : List (List ℕ)) (n : ℕ) → uppers ≡ uppers_of space → n ≡ length uppers → points ≡ map (λ cell. cell ∷ []) (upto n) → points ≡ chains_of space 0
  points-are uppers points n u l e =
      let m : n ≡ cell_count space = l ∙ ap (λ (xs : List (List ℕ)). length xs) u ∙ length-uppers_of space in
      e ∙ ap (λ k. map (λ cell. cell ∷ []) (upto k)) m ∙ sym (chains_of-zero space)

  pub next-are : (uppers chains next : List (List ℕ)) (degree : ℕ) → uppers ≡ uppers_of space → chains ≡ chains_of space degree → next ≡ flat_map (extensions uppers) chains → next ≡ chains_of space (suc degree)
  next-are uppers chains next degree u e n =
      n ∙ ap (λ us. flat_map (extensions us) chains) u ∙ ap (flat_map (extensions (uppers_of space))) e ∙ chains_of-next space degree
