-- The faces of a 3-cell: which they are, and how many of each dimension.
use Rattle.std.proofs.Common.{◌≡◌, ◌⊎◌, inl, inr, ℕ, ◌+◌, ◌≤◌, List, [], ◌∷◌, ◌++◌, Bool, true, false, cond, ◌||◌, eqb, filter, map, length, refl, ap, sym, ◌∙◌, subst, arith}
use Rattle.std.specs.List.{list_any}
use Rattle.std.proofs.lemmas.List.{length-append}
use Rattle.std.proofs.lemmas.List.Elements.{filter-append}
use Rattle.number_lists.specs.Words.{holds}
use Rattle.number_lists.specs.Members.{In, here}
use Rattle.number_lists.proofs.CallerLemmas.{members_sorted, holds-In, In-at, In-map, map-In, In-left, In-right, append-In, In-cases}
use Rattle.face_poset.specs.declared.cells.Cell.{Cell}
use Rattle.face_poset.specs.Poset.{IsCell, IsSpace, count, facets_of}
use Rattle.face_poset.specs.Below.{cell_at, facets_of_all, closed_cell}
use Rattle.regular_check.specs.Rules.{faces_count}
use Rattle.sphere_collapses.specs.Spheres.{edges_below, vertices_below}
use Rattle.sphere_collapses.proofs.Kept.{facets_cell}

-- whether a face has the dimension
abbrev has : (dim : ℕ) → Cell → Bool
has dim face = eqb face.dim dim

-- of cells of one dimension all have it, or none
kept_at : (dim of : ℕ) (xs : List ℕ) → length (filter (has dim) (map (cell_at of) xs)) ≡ cond (eqb of dim) (length xs) 0
kept_at dim of xs = by_test (eqb of dim) refl xs
  where
    by_test : (b : Bool) → eqb of dim ≡ b → (ys : List ℕ) → length (filter (has dim) (map (cell_at of) ys)) ≡ cond b (length ys) 0
    by_test true e [] = refl
    by_test false e [] = refl
    by_test true e (y ∷ ys) = ap (λ (b : Bool). length (cond b (cell_at of y ∷ filter (has dim) (map (cell_at of) ys)) (filter (has dim) (map (cell_at of) ys)))) e ∙ omega (arith, by_test true e ys)
    by_test false e (y ∷ ys) = ap (λ (b : Bool). length (cond b (cell_at of y ∷ filter (has dim) (map (cell_at of) ys)) (filter (has dim) (map (cell_at of) ys)))) e ∙ by_test false e ys

kept-append : (dim : ℕ) (xs ys : List Cell) → length (filter (has dim) (xs ++ ys)) ≡ length (filter (has dim) xs) + length (filter (has dim) ys)
kept-append dim xs ys = ap length (filter-append (has dim) xs ys) ∙ length-append (filter (has dim) xs) (filter (has dim) ys)

layered : (dim : ℕ) (f0 f1 f2 f3 : List ℕ) → length (filter (has dim) (((map (cell_at 0) f0 ++ map (cell_at 1) f1) ++ map (cell_at 2) f2) ++ map (cell_at 3) f3))
    ≡ ((cond (eqb 0 dim) (length f0) 0 + cond (eqb 1 dim) (length f1) 0) + cond (eqb 2 dim) (length f2) 0) + cond (eqb 3 dim) (length f3) 0
layered dim f0 f1 f2 f3 =
    let a = kept-append dim ((map (cell_at 0) f0 ++ map (cell_at 1) f1) ++ map (cell_at 2) f2) (map (cell_at 3) f3) in
    let b = kept-append dim (map (cell_at 0) f0 ++ map (cell_at 1) f1) (map (cell_at 2) f2) in
    let c = kept-append dim (map (cell_at 0) f0) (map (cell_at 1) f1) in
    omega (arith, a, b, c, kept_at dim 0 f0, kept_at dim 1 f1, kept_at dim 2 f2, kept_at dim 3 f3)

module _ (space : List (List (List ℕ))) (cell : ℕ) (hs : IsSpace space) (low : 1 ≤ cell) (high : cell ≤ count space 3) where
  abbrev disks : List ℕ
  disks = facets_of space 3 cell

  -- the facets of one cell
  pub one_cell : facets_of_all space 2 (cell ∷ []) ≡ facets_of space 3 cell
  one_cell =
      let is : IsCell (count space 2) (facets_of space 3 cell) = facets_cell space hs 2 cell low high in
      sym (members_sorted (facets_of space 3 cell) (λ f. list_any (λ c. holds (facets_of space 3 c) f) (cell ∷ [])) (count space 2) is.rises
      (λ n. sym (or_false (holds (facets_of space 3 cell) n)))
      (λ n e.
      let a = In-at (holds-In (facets_of space 3 cell) (sym (or_false (holds (facets_of space 3 cell) n)) ∙ e)) in
      let w = is.within a.0 0 a.1 in
      (omega (arith, w.0, a.2), omega (arith, w.1, a.2))))
    where
      or_false : (b : Bool) → (b || false) ≡ b
      or_false true = refl
      or_false false = refl

  -- all faces, by dimension
  all_faces : closed_cell space 3 cell ≡ ((map (cell_at 0) (vertices_below space cell) ++ map (cell_at 1) (edges_below space cell)) ++ map (cell_at 2) (facets_of space 3 cell)) ++ map (cell_at 3) (cell ∷ [])
  all_faces =
      ap (λ (ds : List ℕ). ((map (cell_at 0) (facets_of_all space 0 (facets_of_all space 1 ds)) ++ map (cell_at 1) (facets_of_all space 1 ds)) ++ map (cell_at 2) ds) ++ map (cell_at 3) (cell ∷ [])) one_cell

  -- how many there are
  pub record HasFaces : Type 0 where
    pub vertices : faces_count space cell 0 ≡ length (vertices_below space cell)
    pub edges : faces_count space cell 1 ≡ length (edges_below space cell)
    pub disks_too : faces_count space cell 2 ≡ length (facets_of space 3 cell)

  pub has_faces : HasFaces
  has_faces =
      let f1 : List ℕ = edges_below space cell in
      let f0 : List ℕ = vertices_below space cell in
      record {
        vertices = ap (λ (cs : List Cell). length (filter (has 0) cs)) all_faces ∙ (layered 0 f0 f1 disks (cell ∷ []) ∙ add_none (length f0));
        edges = ap (λ (cs : List Cell). length (filter (has 1) cs)) all_faces ∙ (layered 1 f0 f1 disks (cell ∷ []) ∙ add_around (length f1));
        disks_too = ap (λ (cs : List Cell). length (filter (has 2) cs)) all_faces ∙ (layered 2 f0 f1 disks (cell ∷ []) ∙ add_before (length disks));
      }
    where
      add_none : (n : ℕ) → ((n + 0) + 0) + 0 ≡ n
      add_none n = omega arith

      add_around : (n : ℕ) → ((0 + n) + 0) + 0 ≡ n
      add_around n = omega arith

      add_before : (n : ℕ) → ((0 + 0) + n) + 0 ≡ n
      add_before n = omega arith

  -- which they are
  pub data IsFace : ℕ → ℕ → Type 0 where
    vertex : (n : ℕ) → In n (vertices_below space cell) → IsFace 0 n
    edge : (n : ℕ) → In n (edges_below space cell) → IsFace 1 n
    disk : (n : ℕ) → In n (facets_of space 3 cell) → IsFace 2 n
    whole : IsFace 3 cell

  mapped : (k d n : ℕ) (xs : List ℕ) → In (cell_at d n) (map (cell_at k) xs) → (d ≡ k) × In n xs
  mapped k d n xs i =
      let r = map-In (cell_at k) xs i in
      (ap (λ (c : Cell). c.dim) r.2, subst (λ (m : ℕ). In m xs) (sym (ap (λ (c : Cell). c.number) r.2)) r.1)

  pub face-In : (d n : ℕ) → In (cell_at d n) (closed_cell space 3 cell) → IsFace d n
  face-In d n i =
      let vs : List Cell = map (cell_at 0) (vertices_below space cell) in
      let es : List Cell = map (cell_at 1) (edges_below space cell) in
      let cs : List Cell = map (cell_at 2) (facets_of space 3 cell) in
      elim (append-In ((vs ++ es) ++ cs) (map (cell_at 3) (cell ∷ [])) (subst (In (cell_at d n)) all_faces i)) [
        | inl a ↦
            elim (append-In (vs ++ es) cs a) [
              | inl b ↦
                  elim (append-In vs es b) [
                    | inl c ↦ let r = mapped 0 d n (vertices_below space cell) c in subst (λ (k : ℕ). IsFace k n) (sym r.0) (vertex n r.1)
                    | inr c ↦ let r = mapped 1 d n (edges_below space cell) c in subst (λ (k : ℕ). IsFace k n) (sym r.0) (edge n r.1)
                  ]
              | inr b ↦ let r = mapped 2 d n (facets_of space 3 cell) b in subst (λ (k : ℕ). IsFace k n) (sym r.0) (disk n r.1)
            ]
        | inr a ↦ let r = mapped 3 d n (cell ∷ []) a in subst (λ (k : ℕ). IsFace k n) (sym r.0) (only n (In-cases r.1))
      ]
    where
      only : (n : ℕ) → (n ≡ cell) ⊎ In n [] → IsFace 3 n
      only n (inl e) = subst (λ (m : ℕ). IsFace 3 m) (sym e) whole
      only n (inr i) = elim i [ ]

  pub In-face : {d n : ℕ} → IsFace d n → In (cell_at d n) (closed_cell space 3 cell)
  In-face {d} {n} f = subst (In (cell_at d n)) (sym all_faces) (by_cases f)
    where
      by_cases : {d n : ℕ} → IsFace d n → In (cell_at d n) (((map (cell_at 0) (vertices_below space cell) ++ map (cell_at 1) (edges_below space cell)) ++ map (cell_at 2) (facets_of space 3 cell)) ++ map (cell_at 3) (cell ∷ []))
      by_cases (vertex n i) = In-left (map (cell_at 3) (cell ∷ [])) (In-left (map (cell_at 2) (facets_of space 3 cell)) (In-left (map (cell_at 1) (edges_below space cell)) (In-map (cell_at 0) i)))
      by_cases (edge n i) = In-left (map (cell_at 3) (cell ∷ [])) (In-left (map (cell_at 2) (facets_of space 3 cell)) (In-right (map (cell_at 0) (vertices_below space cell)) (In-map (cell_at 1) i)))
      by_cases (disk n i) = In-left (map (cell_at 3) (cell ∷ [])) (In-right (map (cell_at 0) (vertices_below space cell) ++ map (cell_at 1) (edges_below space cell)) (In-map (cell_at 2) i))
      by_cases whole = In-right ((map (cell_at 0) (vertices_below space cell) ++ map (cell_at 1) (edges_below space cell)) ++ map (cell_at 2) (facets_of space 3 cell)) here
