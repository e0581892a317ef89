-- The faces of a face of a cell are faces of the cell, by ids.
use Rattle.std.proofs.Common.{lit≤, ◌≡◌, inl, inr, ℕ, zero, suc, ◌+◌, ◌-◌, ◌<◌, ◌≤◌, List, [], ◌∷◌, ◌++◌, Bool, map, take, length, get_or, refl, ap, sym, ◌∙◌, subst, arith}
use Rattle.std.specs.List.{list_any}
use Rattle.std.proofs.lemmas.List.{get_or-map, get_or-append_right, append-nil, length-append, length-map, append_assoc, map-append}
use Rattle.std.proofs.Math.ListN.{get_or-append}
use Rattle.std.proofs.lemmas.List.FromFn.{length-range_with_len, get_or-map-range_with_len}
use native.Mathlib.Decide.{dec_lt}
use Prim.{yes, no}
use Rattle.face_poset.specs.declared.cells.Cell.{Cell}
use Rattle.face_poset.specs.Words.{upto, holds}
use Rattle.face_poset.specs.Poset.{count, cell_count, facets_of}
use Rattle.face_poset.specs.Below.{cell_at, closed_cell, closure, facets_of_all}
use Rattle.number_lists.specs.Members.{In}
use Rattle.number_lists.proofs.CallerLemmas.{In-cases, In-filter, In-inside, In-left, In-map, In-right, any-In, any-some, append-In, at-In, filter-In, map-In, upto-In}
use Rattle.order_complex.specs.Chains.{cells_before, id_of, all_cells, faces_of, all_faces}

-- ---- closures

-- each member of the first list is one of the second
abbrev pub Within : {A : Type 0} → List A → List A → Type 0
Within {A} xs ys = (x : A) → In x xs → In x ys

module _ (space : List (List (List ℕ))) where
  facets_of_all-within : (dim : ℕ) (xs ys : List ℕ) → Within xs ys → Within (facets_of_all space dim xs) (facets_of_all space dim ys)
  facets_of_all-within dim xs ys w f h =
      let p : ℕ → Bool = λ c. holds (facets_of space (dim + 1) c) f in
      let q : ℕ → Bool = λ g. list_any (λ c. holds (facets_of space (dim + 1) c) g) xs in
      let c = any-some p xs (filter-In q (upto (count space dim)) h) in
      In-filter (λ g. list_any (λ c. holds (facets_of space (dim + 1) c) g) ys) (In-inside q (upto (count space dim)) h) (any-In p (w c.0 c.1) c.2)

  pub facets_of_all-range : (dim : ℕ) (xs : List ℕ) (f : ℕ) → In f (facets_of_all space dim xs) → (1 ≤ f) × (f ≤ count space dim)
  facets_of_all-range dim xs f h =
      upto-In (count space dim) f (In-inside (λ g. list_any (λ c. holds (facets_of space (dim + 1) c) g) xs) (upto (count space dim)) h)

  map-within : (dim : ℕ) (xs ys : List ℕ) → Within xs ys → Within (map (cell_at dim) xs) (map (cell_at dim) ys)
  map-within dim xs ys w x h =
      let r = map-In (cell_at dim) xs h in
      subst (λ c. In c (map (cell_at dim) ys)) (sym r.2) (In-map (cell_at dim) (w r.0 r.1))

  closure-within : (dim : ℕ) (xs ys : List ℕ) → Within xs ys → Within (closure space dim xs) (closure space dim ys)
  closure-within zero xs ys w x h = map-within 0 xs ys w x h
  closure-within (suc dim) xs ys w x h =
      elim (append-In (closure space dim (facets_of_all space dim xs)) (map (cell_at (suc dim)) xs) h) [
        | inl a ↦ In-left (map (cell_at (suc dim)) ys) (closure-within dim (facets_of_all space dim xs) (facets_of_all space dim ys) (facets_of_all-within dim xs ys w) x a)
        | inr b ↦ In-right (closure space dim (facets_of_all space dim ys)) (map-within (suc dim) xs ys w x b)
      ]

  one-within : (m : ℕ) (xs : List ℕ) → In m xs → Within (m ∷ []) xs
  one-within m xs h k i = elim (In-cases i) [ inl e ↦ subst (λ n. In n xs) (sym e) h | inr n ↦ elim n [ ] ]

  at_top : (dim : ℕ) (cells : List ℕ) (x : Cell) → In x (map (cell_at dim) cells) → Within (closure space dim cells) (closure space dim cells) → Within (closure space x.dim (x.number ∷ [])) (closure space dim cells)
  at_top dim cells x h w =
      let r = map-In (cell_at dim) cells h in
      subst (λ (c : Cell). Within (closure space c.dim (c.number ∷ [])) (closure space dim cells)) (sym r.2) (closure-within dim (r.0 ∷ []) cells (one-within r.0 cells r.1))

  -- what lies below a cell of a closure is in the closure
  pub closure-closed : (dim : ℕ) (cells : List ℕ) (x : Cell) → In x (closure space dim cells) → Within (closure space x.dim (x.number ∷ [])) (closure space dim cells)
  closure-closed zero cells x h = at_top 0 cells x h (λ y k. k)
  closure-closed (suc dim) cells x h =
      elim (append-In (closure space dim (facets_of_all space dim cells)) (map (cell_at (suc dim)) cells) h) [
        | inl a ↦ λ y k. In-left (map (cell_at (suc dim)) cells) (closure-closed dim (facets_of_all space dim cells) x a y k)
        | inr b ↦ at_top (suc dim) cells x b (λ y k. k)
      ]

  pub record IsOf (x : Cell) : Type 0 where
    pub low : 1 ≤ x.number
    pub high : x.number ≤ count space x.dim

  of_top : (dim : ℕ) (cells : List ℕ) (x : Cell) → ((m : ℕ) → In m cells → (1 ≤ m) × (m ≤ count space dim)) → In x (map (cell_at dim) cells) → IsOf x × (x.dim ≡ dim)
  of_top dim cells x range h =
      let r = map-In (cell_at dim) cells h in
      let b = range r.0 r.1 in
      subst (λ (c : Cell). IsOf c × (c.dim ≡ dim)) (sym r.2) (record { low = b.0; high = b.1 }, refl)

  pub closure-of : (dim : ℕ) (cells : List ℕ) (x : Cell) → ((m : ℕ) → In m cells → (1 ≤ m) × (m ≤ count space dim)) → In x (closure space dim cells) → IsOf x × (x.dim ≤ dim)
  closure-of zero cells x range h = let t = of_top 0 cells x range h in (t.0, omega (arith, t.1))
  closure-of (suc dim) cells x range h =
      elim (append-In (closure space dim (facets_of_all space dim cells)) (map (cell_at (suc dim)) cells) h) [
        | inl a ↦ let t = closure-of dim (facets_of_all space dim cells) x (facets_of_all-range dim cells) a in (t.0, omega (arith, t.1))
        | inr b ↦ let t = of_top (suc dim) cells x range b in (t.0, omega (arith, t.1))
      ]

  -- ---- ids

  part : ℕ → List Cell
  part dim = map (cell_at dim) (upto (count space dim))

  length-part : (dim : ℕ) → length (part dim) ≡ count space dim
  unfolding part
  length-part dim = length-map (upto (count space dim)) (cell_at dim) ∙ length-range_with_len 1 (count space dim)

  all_cells-parts : all_cells space ≡ part 0 ++ (part 1 ++ (part 2 ++ (part 3 ++ [])))
  unfolding part
  all_cells-parts = refl

  pub length-all_cells : length (all_cells space) ≡ cell_count space
  length-all_cells =
      ap (λ (cs : List Cell). length cs) all_cells-parts
      ∙ length-append (part 0) (part 1 ++ (part 2 ++ (part 3 ++ [])))
      ∙ omega (arith, length-part 0, length-part 1, length-part 2, length-part 3, length-append (part 1) (part 2 ++ (part 3 ++ [])), length-append (part 2) (part 3 ++ []), length-append (part 3) [])

  at_part : (before after : List Cell) (dim n k : ℕ) (d : Cell) → 1 ≤ n → n ≤ count space dim → length before ≡ k → get_or (before ++ (part dim ++ after)) ((k + n) - 1) d ≡ cell_at dim n
  unfolding part
  at_part before after dim n k d low high e =
      get_or-append_right before (part dim ++ after) k ((k + n) - 1) d e (omega arith)
      ∙ ap (λ i. get_or (part dim ++ after) i d) (omega arith)
      ∙ get_or-append (part dim) after d (n - 1) (omega (arith, length-part dim))
      ∙ get_or-map-range_with_len (cell_at dim) 1 (count space dim) (n - 1) n d (omega arith) (omega arith)

  -- the cell with the id of a cell is that cell
  pub at_id : (dim n : ℕ) (d : Cell) → dim ≤ 3 → 1 ≤ n → n ≤ count space dim → get_or (all_cells space) ((cells_before space dim + n) - 1) d ≡ cell_at dim n
  at_id zero n d small low high = ap (λ cs. get_or cs ((0 + n) - 1) d) all_cells-parts ∙ at_part [] (part 1 ++ (part 2 ++ (part 3 ++ []))) 0 n 0 d low high refl
  at_id (suc zero) n d small low high =
      ap (λ cs. get_or cs ((cells_before space 1 + n) - 1) d) all_cells-parts
      ∙ at_part (part 0) (part 2 ++ (part 3 ++ [])) 1 n (cells_before space 1) d low high (length-part 0 ∙ omega arith)
  at_id (suc (suc zero)) n d small low high =
      ap (λ cs. get_or cs ((cells_before space 2 + n) - 1) d) (all_cells-parts ∙ sym (append_assoc (part 0) (part 1) (part 2 ++ (part 3 ++ []))))
      ∙ at_part (part 0 ++ part 1) (part 3 ++ []) 2 n (cells_before space 2) d low high (length-append (part 0) (part 1) ∙ omega (arith, length-part 0, length-part 1))
  at_id (suc (suc (suc zero))) n d small low high =
      ap (λ cs. get_or cs ((cells_before space 3 + n) - 1) d)
      (all_cells-parts ∙ sym (append_assoc (part 0) (part 1) (part 2 ++ (part 3 ++ []))) ∙ sym (append_assoc (part 0 ++ part 1) (part 2) (part 3 ++ [])))
      ∙ at_part (part 0 ++ part 1 ++ part 2) [] 3 n (cells_before space 3) d low high
      (length-append (part 0 ++ part 1) (part 2) ∙ omega (arith, length-append (part 0) (part 1), length-part 0, length-part 1, length-part 2))
  at_id (suc (suc (suc (suc dim)))) n d small low high = absurd (omega arith)

  -- a number up to the number of cells is the id of a cell
  pub record IdOf (id : ℕ) : Type 0 where
    pub dim : ℕ
    pub number : ℕ
    pub small : dim ≤ 3
    pub low : 1 ≤ number
    pub high : number ≤ count space dim
    pub is : id ≡ cells_before space dim + number

  cell_in : (id dim : ℕ) → dim ≤ 3 → cells_before space dim < id → id ≤ cells_before space dim + count space dim → IdOf id
  cell_in id dim small low high = record { dim = dim; number = id - cells_before space dim; small = small; low = omega arith; high = omega arith; is = omega arith }

  pub cell_with : (id : ℕ) → 1 ≤ id → id ≤ cell_count space → IdOf id
  cell_with id low high =
      elim (dec_lt (cells_before space 1) id) [
        | no a ↦ cell_in id 0 (lit≤ tt) (omega arith) (omega arith)
        | yes a ↦ elim (dec_lt (cells_before space 2) id) [
          | no b ↦ cell_in id 1 (lit≤ tt) a (omega arith)
          | yes b ↦ elim (dec_lt (cells_before space 3) id) [
            | no c ↦ cell_in id 2 (lit≤ tt) b (omega arith)
            | yes c ↦ cell_in id 3 (lit≤ tt) c (omega arith)
          ]
        ]
      ]

  pub id_high : (dim n : ℕ) → dim ≤ 3 → n ≤ count space dim → cells_before space dim + n ≤ cell_count space
  id_high zero n small high = omega arith
  id_high (suc zero) n small high = omega arith
  id_high (suc (suc zero)) n small high = omega arith
  id_high (suc (suc (suc zero))) n small high = omega arith
  id_high (suc (suc (suc (suc dim)))) n small high = absurd (omega arith)

  pub length-all_faces : length (all_faces space) ≡ cell_count space
  length-all_faces = length-map (all_cells space) (λ cell. faces_of space cell.dim cell.number) ∙ length-all_cells

  -- the faces of the cell with an id
  abbrev pub faces_at : ℕ → List ℕ
  faces_at id = get_or (all_faces space) (id - 1) []

  pub faces_at-cell : (dim n : ℕ) → dim ≤ 3 → 1 ≤ n → n ≤ count space dim → faces_at (cells_before space dim + n) ≡ faces_of space dim n
  faces_at-cell dim n small low high =
      get_or-map (λ (cell : Cell). faces_of space cell.dim cell.number) (all_cells space) ((cells_before space dim + n) - 1) (cell_at dim n) [] (omega (arith, length-all_cells, id_high dim n small high))
      ∙ ap (λ (c : Cell). faces_of space c.dim c.number) (at_id dim n (cell_at dim n) small low high)

  -- ---- a face of a face is a face

  ids_within : (e m a : ℕ) (cells : List Cell) → Within (closure space e (m ∷ [])) cells → In a (faces_of space e m) → In a (map (id_of space) cells)
  ids_within zero m a cells w h = elim h [ ]
  ids_within (suc e) m a cells w h =
      let lower : List Cell = closure space e (facets_of_all space e (m ∷ [])) in
      let r = map-In (id_of space) lower h in
      subst (λ x. In x (map (id_of space) cells)) (sym r.2) (In-map (id_of space) (w r.0 (In-left (map (cell_at (suc e)) (m ∷ [])) r.1)))

  faces_of-closed : (dim n a b : ℕ) → dim ≤ 3 → In b (faces_of space dim n) → In a (faces_at b) → In a (faces_of space dim n)
  faces_of-closed zero n a b small h k = elim h [ ]
  faces_of-closed (suc dim) n a b small h k =
      let below : List Cell = closure space dim (facets_of_all space dim (n ∷ [])) in
      let r = map-In (id_of space) below h in
      let x : Cell = r.0 in
      let o = closure-of dim (facets_of_all space dim (n ∷ [])) x (facets_of_all-range dim (n ∷ [])) r.1 in
      let same : faces_at b ≡ faces_of space x.dim x.number = ap faces_at r.2 ∙ faces_at-cell x.dim x.number (omega (arith, o.1)) o.0.low o.0.high in
      ids_within x.dim x.number a below (closure-closed dim (facets_of_all space dim (n ∷ [])) x r.1) (subst (In a) same k)

  pub face_of_face : (a b c : ℕ) → 1 ≤ c → c ≤ cell_count space → In a (faces_at b) → In b (faces_at c) → In a (faces_at c)
  face_of_face a b c low high h k =
      let x = cell_with c low high in
      let same : faces_at c ≡ faces_of space x.dim x.number = ap faces_at x.is ∙ faces_at-cell x.dim x.number x.small x.low x.high in
      subst (In a) (sym same) (faces_of-closed x.dim x.number a b x.small (subst (In b) same k) h)

  -- the id of a face is smaller
  id_below : (dim e : ℕ) → dim < e → e ≤ 3 → (n : ℕ) → n ≤ count space dim → cells_before space dim + n ≤ cells_before space e
  id_below dim zero lt small n high = absurd (omega arith)
  id_below dim (suc e) lt small n high =
      elim (dec_lt dim e) [
        | yes l ↦ let r = id_below dim e l (omega arith) n high in omega (arith, r)
        | no g ↦ let same : dim ≡ e = omega arith in subst (λ d. cells_before space dim + n ≤ cells_before space (suc d)) same (omega arith)
      ]

  faces_of-below : (dim n a : ℕ) → dim ≤ 3 → 1 ≤ n → In a (faces_of space dim n) → (1 ≤ a) × (a < cells_before space dim + n)
  faces_of-below zero n a small low h = elim h [ ]
  faces_of-below (suc dim) n a small low h =
      let below : List Cell = closure space dim (facets_of_all space dim (n ∷ [])) in
      let r = map-In (id_of space) below h in
      let x : Cell = r.0 in
      let o = closure-of dim (facets_of_all space dim (n ∷ [])) x (facets_of_all-range dim (n ∷ [])) r.1 in
      let under : cells_before space x.dim + x.number ≤ cells_before space (suc dim) = id_below x.dim (suc dim) (omega (arith, o.1)) small x.number o.0.high in
      (omega (arith, r.2, o.0.low), omega (arith, r.2, under))

  pub face-below : (a b : ℕ) → 1 ≤ b → b ≤ cell_count space → In a (faces_at b) → (1 ≤ a) × (a < b)
  face-below a b low high h =
      let x = cell_with b low high in
      let same : faces_at b ≡ faces_of space x.dim x.number = ap faces_at x.is ∙ faces_at-cell x.dim x.number x.small x.low x.high in
      let r = faces_of-below x.dim x.number a x.small x.low (subst (In a) same h) in
      (r.0, omega (arith, r.1, x.is))

  -- ---- the list of a closed cell

  in_range : (dim n : ℕ) → 1 ≤ n → n ≤ count space dim → (m : ℕ) → In m (n ∷ []) → (1 ≤ m) × (m ≤ count space dim)
  in_range dim n low high m i = elim (In-cases i) [ inl e ↦ (omega arith, omega arith) | inr h ↦ elim h [ ] ]

  pub closed_cell-at : (dim n i : ℕ) (d : Cell) → 1 ≤ n → n ≤ count space dim → i < length (closed_cell space dim n) → IsOf (get_or (closed_cell space dim n) i d) × ((get_or (closed_cell space dim n) i d).dim ≤ dim)
  closed_cell-at dim n i d low high l = closure-of dim (n ∷ []) (get_or (closed_cell space dim n) i d) (in_range dim n low high) (at-In (closed_cell space dim n) i d l)

  -- without its last cell it is the list of the faces
  pub closed_cell-faces : (dim n : ℕ) → map (id_of space) (take (length (closed_cell space dim n) - 1) (closed_cell space dim n)) ≡ faces_of space dim n
  closed_cell-faces zero n = refl
  closed_cell-faces (suc dim) n =
      let lower : List Cell = closure space dim (facets_of_all space dim (n ∷ [])) in
      let e : length (lower ++ cell_at (suc dim) n ∷ []) - 1 ≡ length lower = omega (arith, length-append lower (cell_at (suc dim) n ∷ [])) in
      ap (λ k. map (id_of space) (take k (lower ++ cell_at (suc dim) n ∷ []))) e ∙ ap (map (id_of space)) (take_whole lower (cell_at (suc dim) n ∷ []))
    where
      take_whole : (xs ys : List Cell) → take (length xs) (xs ++ ys) ≡ xs
      take_whole [] ys = refl
      take_whole (x ∷ xs) ys = ap (λ zs. x ∷ zs) (take_whole xs ys)

  map_map : {A B C : Type 0} (g : B → C) (f : A → B) (xs : List A) → map g (map f xs) ≡ map (λ x. g (f x)) xs
  map_map g f [] = refl
  map_map g f (x ∷ xs) = ap (λ r. g (f x) ∷ r) (map_map g f xs)

  abbrev faces_in : ℕ → List (List ℕ)
  faces_in dim = map (faces_of space dim) (upto (count space dim))

  -- the lists of faces, dimension by dimension
  pub all_faces-parts : all_faces space ≡ [] ++ faces_in 0 ++ faces_in 1 ++ faces_in 2 ++ faces_in 3
  unfolding part
  all_faces-parts =
      let g : Cell → List ℕ = λ cell. faces_of space cell.dim cell.number in
      ap (map g) all_cells-parts
      ∙ map-append g (part 0) (part 1 ++ (part 2 ++ (part 3 ++ [])))
      ∙ ap (λ r. map g (part 0) ++ r) (map-append g (part 1) (part 2 ++ (part 3 ++ [])))
      ∙ ap (λ r. map g (part 0) ++ (map g (part 1) ++ r)) (map-append g (part 2) (part 3 ++ []))
      ∙ ap (λ r. map g (part 0) ++ (map g (part 1) ++ (map g (part 2) ++ r))) (map-append g (part 3) [] ∙ append-nil (map g (part 3)))
      ∙ sym (append_assoc (map g (part 0)) (map g (part 1)) (map g (part 2) ++ map g (part 3)))
      ∙ sym (append_assoc (map g (part 0) ++ map g (part 1)) (map g (part 2)) (map g (part 3)))
      ∙ rw (map_map g (cell_at 0) (upto (count space 0)), map_map g (cell_at 1) (upto (count space 1)), map_map g (cell_at 2) (upto (count space 2)), map_map g (cell_at 3) (upto (count space 3))) refl
