-- The boundary of a 3-cell without one 2-cell is built up by a collapse backward.
use Rattle.std.proofs.Common.{◌≡◌, ◌≢◌, ◌⊎◌, inl, inr, ℕ, suc, ◌<◌, ◌≤◌, List, [], ◌∷◌, ◌++◌, Bool, true, false, ◌||◌, ◌&&◌, not, eqb, map, reverse, get_or, refl, ap, sym, ◌∙◌, subst, arith}
use Rattle.std.specs.List.{AllByRecursion, list_all}
use Rattle.std.proofs.lemmas.Bool.{and_parts, eqb-true, false≢true}
use Rattle.std.proofs.lemmas.List.{reverse-append}
use Rattle.number_lists.specs.Members.{In, here, there}
use Rattle.number_lists.proofs.CallerLemmas.{In-cases, In-left, In-right, In-filter, filter-In, In-inside, Contains-In, In-Contains, any-some, all-In}
use Rattle.face_poset.specs.declared.cells.Cell.{Cell}
use Rattle.face_poset.specs.declared.cells.Pair.{Pair}
use Rattle.face_poset.specs.Poset.{IsSpace, count, facets_of}
use Rattle.face_poset.specs.Below.{cell_at, closed_cell, IsBelow, itself, facet}
use Rattle.face_poset.proofs.CallerLemmas.{closed_cell-least}
use Rattle.order_complex.specs.Chains.{id_of}
use Rattle.sphere_collapses.specs.Collapses.{same, lower_of, upper_of, is_free, without, is_point, collapses, boundary_less}
use Rattle.sphere_collapses.proofs.CallerLemmas.{IsFree, is-free, without-inside, without-not, In-without, same-cell, cell-same}
use Rattle.local_field.specs.Towers.{Pairwise}
use Rattle.local_field.specs.Inside.{IsAmong, FitsIn, NotAbove, IsBuilding}
use Rattle.local_field.specs.Buildings.{dim_at, is_below, left_over, solid_building}
use Rattle.local_field.proofs.FlagLaw.{dim-id, facet-range}
use Rattle.local_field.proofs.Cells.{IsFaceAt, below-or, below-range, below-parts, below-from, below-at, id-same, point-id, point-dim, falls}
use Rattle.local_field.proofs.InsideCells.{all_append, pairwise_append}
use Rattle.local_field.proofs.BuildingLemmas.{front, front-append, cells-front, among-front, among-last, In-of-all}
use Rattle.local_field.proofs.BuildingLemmas as lists

-- a list that is a vertex: its first cell is the vertex, and it has no other
point-first : (rest : List Cell) → is_point rest ≡ true → In (cell_at 0 (get_or (map (λ (c : Cell). c.number) rest) 0 0)) rest × ((c : Cell) → In c rest → c ≡ cell_at 0 (get_or (map (λ (c : Cell). c.number) rest) 0 0))
point-first [] e = absurd (false≢true e)
point-first (x ∷ rest) e =
    let s = any-some (λ (v : Cell). (eqb v.dim 0) && list_all (same v) (x ∷ rest)) (x ∷ rest) e in
    let r = and_parts (eqb s.0.dim 0) (list_all (same s.0) (x ∷ rest)) s.2 in
    let z : s.0.dim ≡ 0 = eqb-true s.0.dim 0 r.0 in
    let all : (c : Cell) → In c (x ∷ rest) → s.0 ≡ c = λ c i. same-cell s.0 c (all-In (same s.0) r.1 i) in
    let first : s.0 ≡ x = all x here in
    let point : x ≡ cell_at 0 x.number = ap (λ (k : ℕ). cell_at k x.number) (sym (ap (λ (c : Cell). c.dim) first) ∙ z) in
    (subst (λ (c : Cell). In c (x ∷ rest)) point here, λ c i. sym (all c i) ∙ (first ∙ point))

module _ (space : List (List (List ℕ))) (valid : IsSpace space) where
  abbrev below : ℕ → ℕ → Bool
  below = is_below space

  abbrev Apart : ℕ → ℕ → Type 0
  Apart = NotAbove (is_below space)

  abbrev id_pair : Pair → ℕ × ℕ
  id_pair p = (id_of space (lower_of p), id_of space (upper_of p))

  -- a cell that is there, no 3-cell
  pub record IsThere (c : Cell) : Type 0 where
    pub small : c.dim ≤ 2
    pub low : 1 ≤ c.number
    pub high : c.number ≤ count space c.dim

  -- a list of such cells that has the facets of its cells
  pub record IsLower (rest : List Cell) : Type 0 where
    pub there : (c : Cell) → In c rest → IsThere c
    pub facets : (d n f : ℕ) → In (cell_at (suc d) n) rest → In f (facets_of space (suc d) n) → In (cell_at d f) rest

  -- what is below a cell of such a list is in the list
  faces_in : (rest : List Cell) → IsLower rest → {d n e m : ℕ} → In (cell_at d n) rest → IsBelow space d n e m → In (cell_at e m) rest
  faces_in rest h i itself = i
  faces_in rest h i (facet e c f b k) = h.facets e c f (faces_in rest h i b) (Contains-In k)

  lower_stays : (rest : List Cell) (p : Pair) → IsLower rest → IsFree space rest p → IsLower (without rest p)
  lower_stays rest p h free = record { there = λ c i. h.there c (without-inside space rest p i); facets = λ d n f i j. stays d n f i j (without-not space rest p i) }
    where
      stays : (d n f : ℕ) → In (cell_at (suc d) n) (without rest p) → In f (facets_of space (suc d) n) → (lower_of p ≡ cell_at (suc d) n → ⊥) × (upper_of p ≡ cell_at (suc d) n → ⊥) → In (cell_at d f) (without rest p)
      stays d n f i j t =
          let k : In (cell_at (suc d) n) rest = without-inside space rest p i in
          In-without space rest p (h.facets d n f k j)
          (λ e.
          let s : p.dim ≡ d = ap (λ (c : Cell). c.dim) e in
          let l : p.lower ≡ f = ap (λ (c : Cell). c.number) e in
          let u : n ≡ p.upper = free.only n (subst (λ (x : ℕ). In (cell_at (suc x) n) rest) (sym s) k) (subst (λ (x : ℕ). In x (facets_of space (suc p.dim) n)) (sym l) (subst (λ (x : ℕ). In f (facets_of space (suc x) n)) (sym s) j)) in
          t.1 (ap (λ (x : ℕ). cell_at (suc x) p.upper) s ∙ ap (cell_at (suc d)) (sym u)))
          (λ e.
          let s : suc p.dim ≡ d = ap (λ (c : Cell). c.dim) e in
          let l : p.upper ≡ f = ap (λ (c : Cell). c.number) e in
          free.top n (subst (λ (x : ℕ). In (cell_at (suc x) n) rest) (sym s) k) (subst (λ (x : ℕ). In x (facets_of space (suc (suc p.dim)) n)) (sym l) (subst (λ (x : ℕ). In f (facets_of space (suc x) n)) (sym s) j)))

  -- neither of a free pair is below a cell that is left
  not_under : (rest : List Cell) (p : Pair) → IsLower (without rest p) → IsFree space rest p → (d n : ℕ) → In (cell_at d n) (without rest p) → (IsBelow space d n p.dim p.lower → p.dim < d → ⊥) × (IsBelow space d n (suc p.dim) p.upper → suc p.dim < d → ⊥)
  not_under rest p h free d n i = (low p.dim p.lower refl refl, high (suc p.dim) p.upper refl refl)
    where
      low : (e m : ℕ) → e ≡ p.dim → m ≡ p.lower → IsBelow space d n e m → e < d → ⊥
      low e m s t itself l = omega (arith, l)
      low e m s t (facet _ c _ b k) l =
          let j : In (cell_at (suc e) c) (without rest p) = faces_in (without rest p) h i b in
          let over : In (cell_at (suc p.dim) c) (without rest p) = subst (λ (x : ℕ). In (cell_at (suc x) c) (without rest p)) s j in
          let has : In p.lower (facets_of space (suc p.dim) c) = subst (λ (x : ℕ). In x (facets_of space (suc p.dim) c)) t (subst (λ (x : ℕ). In m (facets_of space (suc x) c)) s (Contains-In k)) in
          (without-not space rest p over).1 (ap (cell_at (suc p.dim)) (sym (free.only c (without-inside space rest p over) has)))

      high : (e m : ℕ) → e ≡ suc p.dim → m ≡ p.upper → IsBelow space d n e m → e < d → ⊥
      high e m s t itself l = omega (arith, l)
      high e m s t (facet _ c _ b k) l =
          let j : In (cell_at (suc e) c) (without rest p) = faces_in (without rest p) h i b in
          free.top c (without-inside space rest p (subst (λ (x : ℕ). In (cell_at (suc x) c) (without rest p)) s j))
          (subst (λ (x : ℕ). In x (facets_of space (suc (suc p.dim)) c)) t (subst (λ (x : ℕ). In m (facets_of space (suc x) c)) s (Contains-In k)))

  -- a cell and a cell of a list, neither the same nor above
  apart_from : (c x : Cell) → IsThere c → IsThere x → (x ≡ c → ⊥) → (IsBelow space c.dim c.number x.dim x.number → x.dim < c.dim → ⊥) → Apart (id_of space c) (id_of space x)
  apart_from c x hc hx differ under =
      let sc = hc.small in
      let sx = hx.small in (
        (λ e.
            let s = id-same space x.dim x.number c.dim c.number (omega (arith, sx)) hx.low hx.high (omega (arith, sc)) hc.low hc.high e in
            differ (ap (λ (k : ℕ). cell_at k x.number) s.0 ∙ ap (cell_at c.dim) s.1)),
        (λ t.
            let r = below-at space valid c.dim c.number x.dim x.number (omega (arith, sc)) hc.low hc.high (omega (arith, sx)) hx.low hx.high t in
            under r.0 r.1),
      )

  -- ---- pair after pair

  abbrev Some : List Cell → ℕ → Type 0
  Some rest x = (c : Cell) × In c rest × (x ≡ id_of space c)

  pub record IsBuilt (g : ℕ) (rest : List Cell) (pairs : List (ℕ × ℕ)) (root : ℕ) : Type 0 where
    pub inside : AllByRecursion (Some rest) (front pairs)
    pub order : Pairwise Apart (front pairs)
    pub rootless : AllByRecursion (λ x. x ≢ root) (front pairs)
    pub fit : AllByRecursion (FitsIn (is_below space) (dim_at space) g) pairs
    pub all : (c : Cell) → In c rest → (id_of space c ≡ root) ⊎ In (id_of space c) (front pairs)
    pub there : In (cell_at 0 root) rest

  abbrev root_of : List Cell → List Pair → ℕ
  root_of rest pairs = get_or (map (λ (c : Cell). c.number) (left_over rest pairs)) 0 0

  abbrev backward : List Pair → List (ℕ × ℕ)
  backward pairs = reverse (map id_pair pairs)

  dim-there : (c : Cell) → IsThere c → dim_at space (id_of space c) ≡ c.dim
  dim-there c h = let s = h.small in dim-id space c.dim c.number (omega (arith, s)) h.low h.high

  built-more : (g : ℕ) (rest : List Cell) (p : Pair) (later : List (ℕ × ℕ)) (root : ℕ) → IsLower rest → IsFree space rest p → ((c : Cell) → In c rest → is_below space (id_of space c) g ≡ true)
      → IsBuilt g (without rest p) later root → IsBuilt g rest (later ++ id_pair p ∷ []) root
  built-more g rest p later root lower free under b =
      let l : ℕ = id_of space (lower_of p) in
      let u : ℕ = id_of space (upper_of p) in
      let left : IsLower (without rest p) = lower_stays rest p lower free in
      let tl : IsThere (lower_of p) = lower.there (lower_of p) free.lower in
      let tu : IsThere (upper_of p) = lower.there (upper_of p) free.upper in
      let dl : dim_at space l ≡ p.dim = dim-there (lower_of p) tl in
      let du : dim_at space u ≡ suc p.dim = dim-there (upper_of p) tu in
      let apart : (x : ℕ) → Some (without rest p) x → AllByRecursion (Apart x) (l ∷ u ∷ []) =
      λ x s.
      let tc : IsThere s.0 = left.there s.0 s.1 in
      let q = without-not space rest p s.1 in
      let z = not_under rest p left free s.0.dim s.0.number s.1 in
      subst (λ (y : ℕ). AllByRecursion (Apart y) (l ∷ u ∷ [])) (sym s.2) (apart_from s.0 (lower_of p) tc tl q.0 z.0, (apart_from s.0 (upper_of p) tc tu q.1 z.1, tt)) in
      let more : (x : ℕ) → Some (without rest p) x → Some rest x = λ x s. (s.0, without-inside space rest p s.1, s.2) in
      let no_root : (c : Cell) → IsThere c → (c ≡ cell_at 0 root → ⊥) → id_of space c ≢ root =
      λ c t q e.
      let s = t.small in
      let tr = left.there (cell_at 0 root) b.there in
      let i = id-same space c.dim c.number 0 root (omega (arith, s)) t.low t.high (omega arith) tr.low tr.high (e ∙ sym (point-id space valid root)) in
      q (ap (λ (k : ℕ). cell_at k c.number) i.0 ∙ ap (cell_at 0) i.1) in
      let gone = without-not space rest p b.there in
      let last_up : below l u ≡ true = below-from space valid p.dim p.upper p.dim p.lower (let s = tu.small in omega (arith, s)) tu.low tu.high (omega arith) (facet p.dim p.upper p.lower itself (In-Contains free.facet)) in
      record {
        inside = subst (AllByRecursion (Some rest)) (sym (front-append later (id_pair p ∷ [])))
            (all_append (Some rest) (front later) (l ∷ u ∷ []) (lists.all-In (Some rest) (front later) (λ x i. more x (In-of-all (Some (without rest p)) (front later) x b.inside i))) ((lower_of p, free.lower, refl), ((upper_of p, free.upper, refl), tt)));
        order = subst (Pairwise Apart) (sym (front-append later (id_pair p ∷ [])))
            (pairwise_append Apart (front later) (l ∷ u ∷ []) b.order
            ((((λ e. omega (arith, dl, du, ap (dim_at space) e)), (λ t. omega (arith, dl, du, falls space valid u l t))), tt), (tt, tt))
            (lists.all-In (λ x. AllByRecursion (Apart x) (l ∷ u ∷ [])) (front later) (λ x i. apart x (In-of-all (Some (without rest p)) (front later) x b.inside i))));
        rootless = subst (AllByRecursion (λ x. x ≢ root)) (sym (front-append later (id_pair p ∷ [])))
            (all_append (λ x. x ≢ root) (front later) (l ∷ u ∷ []) b.rootless (no_root (lower_of p) tl gone.0, (no_root (upper_of p) tu gone.1, tt)));
        fit = all_append (FitsIn (is_below space) (dim_at space) g) later (id_pair p ∷ []) b.fit ((under (lower_of p) free.lower, under (upper_of p) free.upper, last_up, du ∙ sym (ap suc dl)), tt);
        all = λ c i. subst (λ (xs : List ℕ). (id_of space c ≡ root) ⊎ In (id_of space c) xs) (sym (front-append later (id_pair p ∷ []))) (by_same c i (same (lower_of p) c) refl (same (upper_of p) c) refl);
        there = without-inside space rest p b.there;
      }
    where
      by_same : (c : Cell) → In c rest → (x : Bool) → same (lower_of p) c ≡ x → (y : Bool) → same (upper_of p) c ≡ y
          → (id_of space c ≡ root) ⊎ In (id_of space c) (front later ++ id_of space (lower_of p) ∷ id_of space (upper_of p) ∷ [])
      by_same c i true e y k =
          inr (subst (λ (z : Cell). In (id_of space z) (front later ++ id_of space (lower_of p) ∷ id_of space (upper_of p) ∷ [])) (same-cell (lower_of p) c e) (In-right (front later) here))
      by_same c i false e true k =
          inr (subst (λ (z : Cell). In (id_of space z) (front later ++ id_of space (lower_of p) ∷ id_of space (upper_of p) ∷ [])) (same-cell (upper_of p) c k) (In-right (front later) (there here)))
      by_same c i false e false k =
          elim (b.all c (In-without space rest p i (λ q. false≢true (sym e ∙ cell-same (lower_of p) c q)) (λ q. false≢true (sym k ∙ cell-same (upper_of p) c q)))) [
            | inl z ↦ inl z
            | inr z ↦ inr (In-left (id_of space (lower_of p) ∷ id_of space (upper_of p) ∷ []) z)
          ]

  backward-more : (p : Pair) (pairs : List Pair) → backward (p ∷ pairs) ≡ backward pairs ++ id_pair p ∷ []
  backward-more p pairs = reverse-append (id_pair p ∷ []) (map id_pair pairs)

  built-along : (g : ℕ) (pairs : List Pair) (rest : List Cell) → IsLower rest → ((c : Cell) → In c rest → is_below space (id_of space c) g ≡ true) → collapses space rest pairs ≡ true → IsBuilt g rest (backward pairs) (root_of rest pairs)
  built-along g [] rest lower under e =
      let r = point-first rest e in
      record {
        inside = tt;
        order = tt;
        rootless = tt;
        fit = tt;
        all = λ c i. inl (ap (id_of space) (r.1 c i) ∙ point-id space valid (root_of rest []));
        there = r.0;
      }
  built-along g (p ∷ pairs) rest lower under e =
      let t = and_parts (is_free space rest p) (collapses space (without rest p) pairs) e in
      let free : IsFree space rest p = is-free space rest p t.0 in
      subst (λ (ps : List (ℕ × ℕ)). IsBuilt g rest ps (root_of (without rest p) pairs)) (sym (backward-more p pairs))
      (built-more g rest p (backward pairs) (root_of (without rest p) pairs) lower free under
      (built-along g pairs (without rest p) (lower_stays rest p lower free) (λ c i. under c (without-inside space rest p i)) t.1))

  -- the cells of the pairs are there
  pairs-there : (pairs : List Pair) (rest : List Cell) → IsLower rest → collapses space rest pairs ≡ true → (p : Pair) → In p pairs → IsThere (lower_of p) × IsThere (upper_of p)
  pairs-there [] rest lower e p i = elim i [ ]
  pairs-there (q ∷ pairs) rest lower e p i =
      let t = and_parts (is_free space rest q) (collapses space (without rest q) pairs) e in
      let free : IsFree space rest q = is-free space rest q t.0 in
      elim (In-cases i) [
        | inl s ↦ subst (λ (z : Pair). IsThere (lower_of z) × IsThere (upper_of z)) (sym s) (lower.there (lower_of q) free.lower, lower.there (upper_of q) free.upper)
        | inr j ↦ pairs-there pairs (without rest q) (lower_stays rest q lower free) t.1 p j
      ]

  -- ---- the boundary of a 3-cell without one 2-cell

  module _ (n m : ℕ) (low : 1 ≤ n) (high : n ≤ count space 3) (disk_in : In m (facets_of space 3 n)) where
    abbrev g : ℕ
    g = id_of space (cell_at 3 n)

    abbrev f : ℕ
    f = id_of space (cell_at 2 m)

    abbrev rest : List Cell
    rest = boundary_less space n m

    abbrev stays : Cell → Bool
    stays c = not (same (cell_at 3 n) c || same (cell_at 2 m) c)

    left_not : (a b : Bool) → not (a || b) ≡ true → (a ≡ true → ⊥) × (b ≡ true → ⊥)
    left_not true b e = absurd (false≢true e)
    left_not false true e = absurd (false≢true e)
    left_not false false e = ((λ q. false≢true q), (λ q. false≢true q))

    not_left : (a b : Bool) → (a ≡ true → ⊥) → (b ≡ true → ⊥) → not (a || b) ≡ true
    not_left true b p q = absurd (p refl)
    not_left false true p q = absurd (q refl)
    not_left false false p q = refl

    -- the cells that are left: below the 3-cell, and not the 2-cell
    rest-below : (c : Cell) → In c rest → IsBelow space 3 n c.dim c.number × (c.dim < 3) × (c ≡ cell_at 2 m → ⊥)
    rest-below c i =
        let b : IsBelow space 3 n c.dim c.number = (closed_cell-least space 3 n valid low high c.dim c.number).0 (In-Contains (In-inside stays (closed_cell space 3 n) i)) in
        let t = left_not (same (cell_at 3 n) c) (same (cell_at 2 m) c) (filter-In stays (closed_cell space 3 n) i) in
        (b, elim (below-or space b) [ inl s ↦ absurd (t.0 (cell-same (cell_at 3 n) c (ap (λ (k : ℕ). cell_at k n) (sym s.0) ∙ ap (cell_at c.dim) (sym s.1)))) | inr l ↦ l ], (λ e. t.1 (cell-same (cell_at 2 m) c (sym e))))

    below-rest : (c : Cell) → IsBelow space 3 n c.dim c.number → c.dim < 3 → (c ≡ cell_at 2 m → ⊥) → In c rest
    below-rest c b l q =
        In-filter stays (Contains-In ((closed_cell-least space 3 n valid low high c.dim c.number).1 b))
        (not_left (same (cell_at 3 n) c) (same (cell_at 2 m) c) (λ e. let s : 3 ≡ c.dim = ap (λ (x : Cell). x.dim) (same-cell (cell_at 3 n) c e) in omega (arith, s, l)) (λ e. q (sym (same-cell (cell_at 2 m) c e))))

    rest-lower : IsLower rest
    rest-lower =
        record {
          there = λ c i. (let r = rest-below c i in let w = below-range space valid low high r.0 in record { small = omega (arith, r.1); low = w.0; high = w.1 });
          facets = λ d k h i j. (let r = rest-below (cell_at (suc d) k) i in below-rest (cell_at d h) (facet d k h r.0 (In-Contains j)) (omega (arith, r.1)) (λ e. let s : d ≡ 2 = ap (λ (x : Cell). x.dim) e in omega (arith, s, r.1)));
        }

    pub solid-there : (pairs : List Pair) → collapses space rest pairs ≡ true → (p : Pair) → In p pairs → IsThere (lower_of p) × IsThere (upper_of p)
    solid-there pairs e p i = pairs-there pairs rest rest-lower e p i

    rest-under : (c : Cell) → In c rest → is_below space (id_of space c) g ≡ true
    rest-under c i = let r = rest-below c i in below-from space valid 2 n c.dim c.number (omega arith) low high (omega (arith, r.1)) r.0

    pub solid-built : (pairs : List Pair) → collapses space rest pairs ≡ true → IsBuilding (is_below space) (dim_at space) (id_of space (cell_at 3 n)) (id_of space (cell_at 2 m)) (solid_building space n m pairs)
    solid-built pairs e =
        let root : ℕ = root_of rest pairs in
        let b : IsBuilt g rest (backward pairs) root = built-along g pairs rest rest-lower rest-under e in
        let w = facet-range space valid 2 n m low high disk_in in
        let df : dim_at space f ≡ 2 = dim-id space 2 m (omega arith) w.0 w.1 in
        let tr : IsThere (cell_at 0 root) = rest-lower.there (cell_at 0 root) b.there in
        let point : dim_at space root ≡ 0 = point-dim space valid root tr.low tr.high in
        let unlike : f ≢ root = λ q. omega (arith, df, point, ap (dim_at space) q) in
        let last : (x : ℕ) → Some rest x → AllByRecursion (Apart x) (f ∷ []) =
        λ x s.
        let t : IsThere s.0 = rest-lower.there s.0 s.1 in
        let r = rest-below s.0 s.1 in
        subst (λ (y : ℕ). AllByRecursion (Apart y) (f ∷ [])) (sym s.2) (apart_from s.0 (cell_at 2 m) t (record { small = omega arith; low = w.0; high = w.1 }) (λ q. r.2 (sym q)) (λ z l. let q = t.small in omega (arith, l, q)), tt) in
        record {
          all = λ c h. faces b c (below-parts space valid c g h);
          point = point;
          rootless = subst (AllByRecursion (λ x. x ≢ root)) (sym (cells-front (backward pairs) f)) (all_append (λ x. x ≢ root) (front (backward pairs)) (f ∷ []) b.rootless (unlike, tt));
          rooted = subst (λ (k : ℕ). is_below space k g ≡ true) (point-id space valid root) (rest-under (cell_at 0 root) b.there);
          other = λ q. unlike (sym q);
          fit = b.fit;
          order = subst (Pairwise Apart) (sym (cells-front (backward pairs) f))
              (pairwise_append Apart (front (backward pairs)) (f ∷ []) b.order (tt, tt) (lists.all-In (λ x. AllByRecursion (Apart x) (f ∷ [])) (front (backward pairs)) (λ x i. last x (In-of-all (Some rest) (front (backward pairs)) x b.inside i))));
        }
      where
        faces : IsBuilt g rest (backward pairs) (root_of rest pairs) → (c : ℕ) → IsFaceAt space valid c g → (c ≡ root_of rest pairs) ⊎ IsAmong c (backward pairs) f
        faces b c p = by_disk (same (cell_at 2 m) (cell_at p.dim p.number)) refl
          where
            by_disk : (t : Bool) → same (cell_at 2 m) (cell_at p.dim p.number) ≡ t → (c ≡ root_of rest pairs) ⊎ IsAmong c (backward pairs) f
            by_disk true t = inr (among-last c (backward pairs) f (p.is ∙ ap (id_of space) (sym (same-cell (cell_at 2 m) (cell_at p.dim p.number) t))))
            by_disk false t =
                let s = id-same space 3 n (suc p.cell.under) p.cell.number (omega arith) low high p.cell.small p.cell.low p.cell.high p.cell.is in
                let under : IsBelow space 3 n p.dim p.number =
                subst (λ (k : ℕ). IsBelow space k n p.dim p.number) (sym s.0) (subst (λ (k : ℕ). IsBelow space (suc p.cell.under) k p.dim p.number) (sym s.1) p.below) in
                let u = p.under in
                let i : In (cell_at p.dim p.number) rest = below-rest (cell_at p.dim p.number) under (omega (arith, u, s.0)) (λ q. false≢true (sym t ∙ cell-same (cell_at 2 m) (cell_at p.dim p.number) (sym q))) in
                elim (b.all (cell_at p.dim p.number) i) [
                  | inl z ↦ inl (p.is ∙ z)
                  | inr z ↦ inr (among-front c (backward pairs) f (subst (λ (k : ℕ). In k (front (backward pairs))) (sym p.is) z))
                ]
