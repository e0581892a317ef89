-- Cells by their ids: dimensions, what is below a cell, and the flags of all ids.
use Rattle.std.proofs.Common.{◌≡◌, ◌⊎◌, inl, inr, ℕ, zero, suc, ◌+◌, ◌-◌, ◌<◌, ◌≤◌, List, [], ◌∷◌, Bool, true, leb, map, Contains, refl, ap, sym, ◌∙◌, subst, arith}
use Rattle.std.proofs.lemmas.Bool.{le-leb}
use native.Mathlib.Decide.{dec_lt}
use Prim.{yes, no}
use Rattle.number_lists.specs.Members.{In}
use Rattle.number_lists.proofs.CallerLemmas.{append-In, Contains-In, In-Contains, In-left, In-map, map-In, In-holds, holds-In}
use Rattle.face_poset.specs.declared.cells.Cell.{Cell}
use Rattle.face_poset.specs.Poset.{IsSpace, count, cell_count, facets_of}
use Rattle.face_poset.specs.Below.{cell_at, closed_cell, closure, facets_of_all, IsBelow, itself, facet}
use Rattle.face_poset.proofs.CallerLemmas.{closed_cell-least}
use Rattle.order_complex.specs.Chains.{cells_before, id_of, faces_of}
use Rattle.local_field.specs.Towers.{rest_of}
use Rattle.local_field.specs.Inside.{IsFull}
use Rattle.local_field.specs.Buildings.{dim_at, number_at, is_below, flag_of, flag_at}
use Rattle.local_field.proofs.FlagLaw.{dim-id, number-id, facet-range, full, level-0, level-4, not-le}

-- ---- what is below, by dimension and number

module _ (space : List (List (List ℕ))) where
  -- the cell itself, or a smaller dimension
  pub below-or : {d n e m : ℕ} → IsBelow space d n e m → ((e ≡ d) × (m ≡ n)) ⊎ (e < d)
  below-or itself = inl (refl, refl)
  below-or {d} (facet e c f b k) = inr (elim (below-or b) [ inl s ↦ omega (arith, s.0) | inr l ↦ omega (arith, l) ])

  -- a proper face is below a facet
  pub below-step : {d n e m : ℕ} → IsBelow space (suc d) n e m → e ≤ d → (f : ℕ) × In f (facets_of space (suc d) n) × IsBelow space d f e m
  below-step itself l = absurd (omega (arith, l))
  below-step {d} {n} (facet e c f b k) l = by_or (below-or b) k (λ (l : suc e ≤ d). below-step b l)
    where
      by_or : ((suc e ≡ suc d) × (c ≡ n)) ⊎ (suc e < suc d) → Contains (facets_of space (suc e) c) f → (suc e ≤ d → (g : ℕ) × In g (facets_of space (suc d) n) × IsBelow space d g (suc e) c)
          → (g : ℕ) × In g (facets_of space (suc d) n) × IsBelow space d g e f
      by_or (inl s) k again =
          let same : e ≡ d = omega (arith, s.0) in
          (f, subst (λ (x : ℕ). In f (facets_of space (suc d) x)) s.1 (subst (λ (x : ℕ). In f (facets_of space (suc x) c)) same (Contains-In k)), subst (λ (x : ℕ). IsBelow space x f e f) same itself)
      by_or (inr s) k again = let r = again (omega (arith, s)) in (r.0, r.1, facet e c f r.2 k)

  -- all cells of a closure of cells of a dimension have this dimension at most
  closure-low : (d : ℕ) (cells : List ℕ) (c : Cell) → In c (closure space d cells) → c.dim ≤ d
  closure-low zero cells c i =
      let r = map-In (cell_at 0) cells i in
      let e : c.dim ≡ 0 = ap (λ (x : Cell). x.dim) r.2 in
      omega (arith, e)
  closure-low (suc d) cells c i =
      elim (append-In (closure space d (facets_of_all space d cells)) (map (cell_at (suc d)) cells) i) [
        | inl a ↦ omega (arith, closure-low d (facets_of_all space d cells) c a)
        | inr b ↦
            let r = map-In (cell_at (suc d)) cells b in
            let e : c.dim ≡ suc d = ap (λ (x : Cell). x.dim) r.2 in
            omega (arith, e)
      ]

  -- ---- ids

  -- the id of a cell of a dimension above 0
  pub record IsHigh (id : ℕ) : Type 0 where
    pub under : ℕ
    pub number : ℕ
    pub small : suc under ≤ 3
    pub low : 1 ≤ number
    pub high : number ≤ count space (suc under)
    pub is : id ≡ id_of space (cell_at (suc under) number)

  high_at : (id d : ℕ) → suc d ≤ 3 → cells_before space (suc d) < id → id ≤ cells_before space (suc (suc d)) → IsHigh id
  high_at id d small low high =
      record { under = d; number = id - cells_before space (suc d); small = small; low = omega (arith, low); high = omega (arith, low, high); is = omega (arith, low) }

  -- each number is an id of a cell of a dimension above 0, or of dimension 0
  pub id-parts : (id : ℕ) → (dim_at space id ≡ 0) ⊎ IsHigh id
  id-parts id =
      let a : Bool = leb id (cells_before space 1) in
      let b : Bool = leb id (cells_before space 2) in
      let c : Bool = leb id (cells_before space 3) in
      let d : Bool = leb id (cells_before space 4) in
      elim (dec_lt (cells_before space 1) id) [
        | no k ↦ inl (level-0 a b c d (le-leb id (cells_before space 1) (omega arith)))
        | yes k ↦ elim (dec_lt (cells_before space 2) id) [
          | no l ↦ inr (high_at id 0 (omega arith) k (omega arith))
          | yes l ↦ elim (dec_lt (cells_before space 3) id) [
            | no m ↦ inr (high_at id 1 (omega arith) l (omega arith))
            | yes m ↦ elim (dec_lt (cells_before space 4) id) [
              | no n ↦ inr (high_at id 2 (omega arith) m (omega arith))
              | yes n ↦ inl (level-4 a b c d (not-le id (cells_before space 1) k) (not-le id (cells_before space 2) l) (not-le id (cells_before space 3) m) (not-le id (cells_before space 4) n))
            ]
          ]
        ]
      ]

  -- cells with one id are one cell
  pub id-same : (d n e m : ℕ) → d ≤ 3 → 1 ≤ n → n ≤ count space d → e ≤ 3 → 1 ≤ m → m ≤ count space e → id_of space (cell_at d n) ≡ id_of space (cell_at e m) → (d ≡ e) × (n ≡ m)
  id-same d n e m a b c f g h s =
      (sym (dim-id space d n a b c) ∙ (ap (dim_at space) s ∙ dim-id space e m f g h), sym (number-id space d n a b c) ∙ (ap (number_at space) s ∙ number-id space e m f g h))

  -- ids of cells that are there
  abbrev pub InRange : ℕ → Type 0
  InRange id = (1 ≤ id) × (id ≤ cell_count space)

  pub id-range : (d n : ℕ) → d ≤ 3 → 1 ≤ n → n ≤ count space d → InRange (id_of space (cell_at d n))
  id-range zero n small low high = (omega (arith, low), omega (arith, high))
  id-range (suc zero) n small low high = (omega (arith, low), omega (arith, high))
  id-range (suc (suc zero)) n small low high = (omega (arith, low), omega (arith, high))
  id-range (suc (suc (suc zero))) n small low high = (omega (arith, low), omega (arith, high))
  id-range (suc (suc (suc (suc d)))) n small low high = absurd (omega (arith, small))

  module _ (valid : IsSpace space) where
    -- what is below a cell is there
    pub below-range : {d n e m : ℕ} → 1 ≤ n → n ≤ count space d → IsBelow space d n e m → (1 ≤ m) × (m ≤ count space e)
    below-range low high itself = (low, high)
    below-range low high (facet e c f b k) = let w = below-range low high b in facet-range space valid e c f w.0 w.1 (Contains-In k)

    -- a face by ids, and its parts
    pub record IsFaceAt (x c : ℕ) : Type 0 where
      pub cell : IsHigh c
      pub dim : ℕ
      pub number : ℕ
      pub under : dim ≤ cell.under
      pub low : 1 ≤ number
      pub high : number ≤ count space dim
      pub is : x ≡ id_of space (cell_at dim number)
      pub below : IsBelow space (suc cell.under) cell.number dim number

    faces-at : (d n : ℕ) → suc d ≤ 3 → 1 ≤ n → n ≤ count space (suc d) → faces_of space (dim_at space (id_of space (cell_at (suc d) n))) (number_at space (id_of space (cell_at (suc d) n))) ≡ faces_of space (suc d) n
    faces-at d n small low high =
        ap (λ (k : ℕ). faces_of space k (number_at space (id_of space (cell_at (suc d) n)))) (dim-id space (suc d) n small low high) ∙ ap (λ (m : ℕ). faces_of space (suc d) m) (number-id space (suc d) n small low high)

    pub below-parts : (x c : ℕ) → is_below space x c ≡ true → IsFaceAt x c
    below-parts x c h = by_id (id-parts c)
      where
        nothing : (d n : ℕ) → d ≡ 0 → In x (faces_of space d n) → ⊥
        nothing zero n e i = elim i [ ]
        nothing (suc d) n e i = absurd (omega (arith, e))

        by_id : (dim_at space c ≡ 0) ⊎ IsHigh c → IsFaceAt x c
        by_id (inl e) = absurd (nothing (dim_at space c) (number_at space c) e (holds-In (faces_of space (dim_at space c) (number_at space c)) h))
        by_id (inr p) =
            let d : ℕ = p.under in
            let lower : List Cell = closure space d (facets_of_all space d (p.number ∷ [])) in
            let same : faces_of space (dim_at space c) (number_at space c) ≡ faces_of space (suc d) p.number =
            ap (λ (k : ℕ). faces_of space (dim_at space k) (number_at space k)) p.is ∙ faces-at d p.number p.small p.low p.high in
            let r = map-In (id_of space) lower (subst (In x) same (holds-In (faces_of space (dim_at space c) (number_at space c)) h)) in
            let b : IsBelow space (suc d) p.number r.0.dim r.0.number =
            (closed_cell-least space (suc d) p.number valid p.low p.high r.0.dim r.0.number).0 (In-Contains (In-left (cell_at (suc d) p.number ∷ []) r.1)) in
            let w = below-range p.low p.high b in
            record { cell = p; dim = r.0.dim; number = r.0.number; under = closure-low d (facets_of_all space d (p.number ∷ [])) r.0 r.1; low = w.0; high = w.1; is = r.2; below = b }

    -- a face and its cell are there
    pub face-range : (x c : ℕ) → is_below space x c ≡ true → InRange x × InRange c
    face-range x c h =
        let p = below-parts x c h in
        let u = p.under in
        let v = p.cell.small in
        (subst InRange (sym p.is) (id-range p.dim p.number (omega (arith, u, v)) p.low p.high), subst InRange (sym p.cell.is) (id-range (suc p.cell.under) p.cell.number p.cell.small p.cell.low p.cell.high))

    pub below-from : (d n e m : ℕ) → suc d ≤ 3 → 1 ≤ n → n ≤ count space (suc d) → e ≤ d → IsBelow space (suc d) n e m → is_below space (id_of space (cell_at e m)) (id_of space (cell_at (suc d) n)) ≡ true
    below-from d n e m small low high under b =
        let lower : List Cell = closure space d (facets_of_all space d (n ∷ [])) in
        let i : In (cell_at e m) (closed_cell space (suc d) n) = Contains-In ((closed_cell-least space (suc d) n valid low high e m).1 b) in
        In-holds (subst (In (id_of space (cell_at e m))) (sym (faces-at d n small low high))
        (elim (append-In lower (cell_at (suc d) n ∷ []) i) [ inl a ↦ In-map (id_of space) a | inr a ↦ absurd (not_top a) ]))
      where
        not_top : In (cell_at e m) (map (cell_at (suc d)) (n ∷ [])) → ⊥
        not_top a =
            let r = map-In (cell_at (suc d)) (n ∷ []) a in
            let s : e ≡ suc d = ap (λ (x : Cell). x.dim) r.2 in
            omega (arith, s, under)

    -- the same where the dimensions and numbers are known
    pub below-at : (d n e m : ℕ) → d ≤ 3 → 1 ≤ n → n ≤ count space d → e ≤ 3 → 1 ≤ m → m ≤ count space e → is_below space (id_of space (cell_at e m)) (id_of space (cell_at d n)) ≡ true → IsBelow space d n e m × (e < d)
    below-at d n e m a b c f g h t =
        let p = below-parts (id_of space (cell_at e m)) (id_of space (cell_at d n)) t in
        let s = id-same d n (suc p.cell.under) p.cell.number a b c p.cell.small p.cell.low p.cell.high p.cell.is in
        let u = p.under in
        let v = p.cell.small in
        let r = id-same e m p.dim p.number f g h (omega (arith, u, v)) p.low p.high p.is in
        (subst (λ (k : ℕ). IsBelow space d n k m) (sym r.0) (subst (IsBelow space d n p.dim) (sym r.1) (subst (λ (k : ℕ). IsBelow space k n p.dim p.number) (sym s.0) (subst (λ (k : ℕ). IsBelow space (suc p.cell.under) k p.dim p.number) (sym s.1) p.below))), omega (arith, u, r.0, s.0))

    -- ---- dimensions fall

    pub high-dim : (c : ℕ) (p : IsHigh c) → dim_at space c ≡ suc p.under
    high-dim c p = ap (dim_at space) p.is ∙ dim-id space (suc p.under) p.number p.small p.low p.high

    pub face-dim : (x c : ℕ) (p : IsFaceAt x c) → dim_at space x ≡ p.dim
    face-dim x c p = let u = p.under in let v = p.cell.small in ap (dim_at space) p.is ∙ dim-id space p.dim p.number (omega (arith, u, v)) p.low p.high

    pub falls : (x c : ℕ) → is_below space x c ≡ true → dim_at space x < dim_at space c
    falls x c h =
        let p = below-parts x c h in
        omega (arith, face-dim x c p, high-dim c p.cell, p.under)

    -- ---- through facets

    -- what is below a cell is one of its facets or below one
    pub under-facet : (d n c : ℕ) → suc d ≤ 3 → 1 ≤ n → n ≤ count space (suc d) → is_below space c (id_of space (cell_at (suc d) n)) ≡ true
        → (f : ℕ) × In f (facets_of space (suc d) n) × ((c ≡ id_of space (cell_at d f)) ⊎ (is_below space c (id_of space (cell_at d f)) ≡ true))
    under-facet d n c small low high h =
        let p = below-parts c (id_of space (cell_at (suc d) n)) h in
        let s = id-same (suc d) n (suc p.cell.under) p.cell.number small low high p.cell.small p.cell.low p.cell.high p.cell.is in
        let b : IsBelow space (suc d) n p.dim p.number =
        subst (λ (k : ℕ). IsBelow space k n p.dim p.number) (sym s.0) (subst (λ (k : ℕ). IsBelow space (suc p.cell.under) k p.dim p.number) (sym s.1) p.below) in
        let u = p.under in
        let r = below-step b (omega (arith, u, s.0)) in
        let w = facet-range space valid d n r.0 low high r.1 in
        (r.0, r.1, by_dim d r.0 p.dim p.number (omega (arith, small)) w.0 w.1 p.is r.2 (below-or r.2))
      where
        by_dim : (d f e m : ℕ) → d ≤ 3 → 1 ≤ f → f ≤ count space d → c ≡ id_of space (cell_at e m) → IsBelow space d f e m → ((e ≡ d) × (m ≡ f)) ⊎ (e < d)
            → (c ≡ id_of space (cell_at d f)) ⊎ (is_below space c (id_of space (cell_at d f)) ≡ true)
        by_dim d f e m a l g i b (inl s) = inl (i ∙ (ap (λ (k : ℕ). id_of space (cell_at k m)) s.0 ∙ ap (λ (k : ℕ). id_of space (cell_at d k)) s.1))
        by_dim zero f e m a l g i b (inr k) = absurd (omega (arith, k))
        by_dim (suc d) f e m a l g i b (inr k) = inr (ap (λ (x : ℕ). is_below space x (id_of space (cell_at (suc d) f))) i ∙ below-from d f e m a l g (omega (arith, k)) b)

    below-lift : {d n f e m : ℕ} → In f (facets_of space (suc d) n) → IsBelow space d f e m → IsBelow space (suc d) n e m
    below-lift {d} {n} {f} i itself = facet d n f itself (In-Contains i)
    below-lift i (facet e c g b k) = facet e c g (below-lift i b) k

    -- what is below a facet is below the cell
    pub over-facet : (d n f c : ℕ) → suc d ≤ 3 → 1 ≤ n → n ≤ count space (suc d) → In f (facets_of space (suc d) n) → is_below space c (id_of space (cell_at d f)) ≡ true → is_below space c (id_of space (cell_at (suc d) n)) ≡ true
    over-facet d n f c small low high i h =
        let w = facet-range space valid d n f low high i in
        let p = below-parts c (id_of space (cell_at d f)) h in
        let s = id-same d f (suc p.cell.under) p.cell.number (omega (arith, small)) w.0 w.1 p.cell.small p.cell.low p.cell.high p.cell.is in
        let b : IsBelow space d f p.dim p.number =
        subst (λ (k : ℕ). IsBelow space k f p.dim p.number) (sym s.0) (subst (λ (k : ℕ). IsBelow space (suc p.cell.under) k p.dim p.number) (sym s.1) p.below) in
        let u = p.under in
        ap (λ (x : ℕ). is_below space x (id_of space (cell_at (suc d) n))) p.is ∙ below-from d n p.dim p.number small low high (omega (arith, u, s.0)) (below-lift i b)

    below-trans : {d n e m a b : ℕ} → IsBelow space d n e m → IsBelow space e m a b → IsBelow space d n a b
    below-trans h itself = h
    below-trans h (facet a c b k i) = facet a c b (below-trans h k) i

    -- what is below a face of a cell is below the cell
    pub trans : (x c g : ℕ) → is_below space x c ≡ true → is_below space c g ≡ true → is_below space x g ≡ true
    trans x c g h k =
        let p = below-parts x c h in
        let q = below-parts c g k in
        let u = q.under in
        let v = q.cell.small in
        let s = id-same q.dim q.number (suc p.cell.under) p.cell.number (omega (arith, u, v)) q.low q.high p.cell.small p.cell.low p.cell.high (sym q.is ∙ p.cell.is) in
        let b : IsBelow space q.dim q.number p.dim p.number =
        subst (λ (k : ℕ). IsBelow space k q.number p.dim p.number) (sym s.0) (subst (λ (k : ℕ). IsBelow space (suc p.cell.under) k p.dim p.number) (sym s.1) p.below) in
        let w = p.under in
        subst (λ (y : ℕ). is_below space x y ≡ true) (sym q.cell.is) (subst (λ (y : ℕ). is_below space y (id_of space (cell_at (suc q.cell.under) q.cell.number)) ≡ true) (sym p.is)
        (below-from q.cell.under q.cell.number p.dim p.number q.cell.small q.cell.low q.cell.high (omega (arith, w, s.0, u)) (below-trans q.below b)))

    -- the id of a vertex is its number, and nothing is below it
    pub point-id : (v : ℕ) → id_of space (cell_at 0 v) ≡ v
    point-id v = omega arith

    pub point-dim : (v : ℕ) → 1 ≤ v → v ≤ count space 0 → dim_at space v ≡ 0
    point-dim v low high = ap (dim_at space) (sym (point-id v)) ∙ dim-id space 0 v (omega arith) low high

    pub nothing-below : (v c : ℕ) → dim_at space v ≡ 0 → is_below space c v ≡ true → ⊥
    nothing-below v c e h = omega (arith, falls c v h, e)

    -- ---- flags

    flag-head : (d n : ℕ) → flag_of space d n ≡ id_of space (cell_at d n) ∷ rest_of (flag_of space d n)
    flag-head zero n = refl
    flag-head (suc d) n = refl

    id-back : (c : ℕ) → id_of space (cell_at (dim_at space c) (number_at space c)) ≡ c
    id-back c = elim (id-parts c) [
      | inl e ↦ ap (λ (k : ℕ). cells_before space k + (c - cells_before space k)) e ∙ omega arith
      | inr p ↦ ap (λ (k : ℕ). cells_before space k + (c - cells_before space k)) (high-dim c p) ∙ (let i = p.is in omega (arith, i))
    ]

    pub tops : (c : ℕ) → flag_at space c ≡ c ∷ rest_of (flag_at space c)
    tops c = flag-head (dim_at space c) (number_at space c) ∙ ap (λ (k : ℕ). k ∷ rest_of (flag_of space (dim_at space c) (number_at space c))) (id-back c)

    pub fulls : (c : ℕ) → IsFull (is_below space) (dim_at space) (flag_at space c)
    fulls c = by_id (id-parts c)
      where
        point : (d : ℕ) → dim_at space c ≡ d → d ≡ 0 → IsFull (is_below space) (dim_at space) (flag_of space d (number_at space c))
        point zero s e = ap (dim_at space) (ap (λ (k : ℕ). id_of space (cell_at k (number_at space c))) (sym s) ∙ id-back c) ∙ s
        point (suc d) s e = absurd (omega (arith, e))

        by_id : (dim_at space c ≡ 0) ⊎ IsHigh c → IsFull (is_below space) (dim_at space) (flag_at space c)
        by_id (inl e) = point (dim_at space c) refl e
        by_id (inr p) =
            subst (λ (k : ℕ). IsFull (is_below space) (dim_at space) (flag_of space (dim_at space k) (number_at space k))) (sym p.is)
            (subst (λ (k : ℕ). IsFull (is_below space) (dim_at space) (flag_of space k (number_at space (id_of space (cell_at (suc p.under) p.number))))) (sym (dim-id space (suc p.under) p.number p.small p.low p.high))
            (subst (λ (k : ℕ). IsFull (is_below space) (dim_at space) (flag_of space (suc p.under) k)) (sym (number-id space (suc p.under) p.number p.small p.low p.high)) (full space valid (suc p.under) p.number p.small p.low p.high)))
