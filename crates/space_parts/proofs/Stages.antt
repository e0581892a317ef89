-- A part in the making.
use Rattle.std.proofs.Common.{◌≡◌, ℕ, zero, suc, ◌+◌, ◌-◌, ◌<◌, ◌≤◌, List, [], ◌∷◌, ◌++◌, map, take, length, get_or, set, refl, ap, sym, ◌∙◌, arith}
use Rattle.std.proofs.lemmas.List.{map_more, length-map, length-take-le, take_all}
use Rattle.face_poset.specs.Poset.{layer, count, cell_count}
use Rattle.space_parts.specs.Parts.{cells_in, facets_in, layer_in, part_of}
use Rattle.space_parts.specs.Making.{made, cells_made, stage}
use Rattle.space_parts.proofs.Places.{by_dim}
use Rattle.space_parts.proofs.PartSpaces.{cells_few}

module _ (whole : ℕ → List (List ℕ)) where
  -- another part stands there
  pub parts_differ : (part other : ℕ → List (List ℕ)) (dim : ℕ) → dim ≤ 3 → part dim ≡ other dim → made whole part dim ≡ made whole other dim
  parts_differ part other dim l e =
      by_dim (λ d. part d ≡ other d → made whole part d ≡ made whole other d)
      (λ q. ap (λ (cells : List (List ℕ)). cells ∷ [] ∷ [] ∷ [] ∷ []) q)
      (λ q. ap (λ (cells : List (List ℕ)). whole 0 ∷ cells ∷ [] ∷ [] ∷ []) q)
      (λ q. ap (λ (cells : List (List ℕ)). whole 0 ∷ whole 1 ∷ cells ∷ [] ∷ []) q)
      (λ q. ap (λ (cells : List (List ℕ)). whole 0 ∷ whole 1 ∷ whole 2 ∷ cells ∷ []) q) dim l e

  -- one cell more
  pub made-more : (part more : ℕ → List (List ℕ)) (dim : ℕ) (cell : List ℕ) → dim ≤ 3 → more dim ≡ part dim ++ cell ∷ [] → set (made whole part dim) dim (layer (made whole part dim) dim ++ cell ∷ []) ≡ made whole more dim
  made-more part more dim cell l e =
      let added : ℕ → List (List ℕ) = λ d. part d ++ cell ∷ [] in
      by_dim (λ d. set (made whole part d) d (layer (made whole part d) d ++ cell ∷ []) ≡ made whole added d) refl refl refl refl dim l ∙ parts_differ added more dim l (sym e)

  -- the next dimension
  pub made-end : (none : ℕ → List (List ℕ)) (dim : ℕ) → dim ≤ 3 → ((d : ℕ) → none d ≡ []) → made whole whole dim ≡ made whole none (dim + 1)
  made-end none dim l h =
      by_dim (λ d. made whole whole d ≡ made whole none (d + 1))
      (ap (λ (cells : List (List ℕ)). whole 0 ∷ cells ∷ [] ∷ [] ∷ []) (sym (h 1)))
      (ap (λ (cells : List (List ℕ)). whole 0 ∷ whole 1 ∷ cells ∷ [] ∷ []) (sym (h 2)))
      (ap (λ (cells : List (List ℕ)). whole 0 ∷ whole 1 ∷ whole 2 ∷ cells ∷ []) (sym (h 3))) refl dim l

  -- nothing stands above
  pub made-above : (part : ℕ → List (List ℕ)) (dim above : ℕ) → dim ≤ 3 → dim < above → count (made whole part dim) above ≡ 0
  made-above part dim above l m = by_dim (λ d. (a : ℕ) → d < a → count (made whole part d) a ≡ 0) over0 over1 over2 over3 dim l above m
    where
      over0 : (a : ℕ) → 0 < a → count (made whole part 0) a ≡ 0
      over0 zero h = absurd (omega arith)
      over0 (suc zero) h = refl
      over0 (suc (suc zero)) h = refl
      over0 (suc (suc (suc zero))) h = refl
      over0 (suc (suc (suc (suc a)))) h = refl

      over1 : (a : ℕ) → 1 < a → count (made whole part 1) a ≡ 0
      over1 zero h = absurd (omega arith)
      over1 (suc zero) h = absurd (omega arith)
      over1 (suc (suc zero)) h = refl
      over1 (suc (suc (suc zero))) h = refl
      over1 (suc (suc (suc (suc a)))) h = refl

      over2 : (a : ℕ) → 2 < a → count (made whole part 2) a ≡ 0
      over2 zero h = absurd (omega arith)
      over2 (suc zero) h = absurd (omega arith)
      over2 (suc (suc zero)) h = absurd (omega arith)
      over2 (suc (suc (suc zero))) h = refl
      over2 (suc (suc (suc (suc a)))) h = refl

      over3 : (a : ℕ) → 3 < a → count (made whole part 3) a ≡ 0
      over3 zero h = absurd (omega arith)
      over3 (suc zero) h = absurd (omega arith)
      over3 (suc (suc zero)) h = absurd (omega arith)
      over3 (suc (suc (suc zero))) h = absurd (omega arith)
      over3 (suc (suc (suc (suc a)))) h = refl

  -- all cells of the dimension below stand
  pub made-below : (part : ℕ → List (List ℕ)) (dim : ℕ) → dim ≤ 3 → 1 ≤ dim → count (made whole part dim) (dim - 1) ≡ length (whole (dim - 1))
  made-below part dim l m = by_dim (λ d. 1 ≤ d → count (made whole part d) (d - 1) ≡ length (whole (d - 1))) (λ h. absurd (omega arith)) (λ h. refl) (λ h. refl) (λ h. refl) dim l m

module _ (space : List (List (List ℕ))) (number : ℕ) where
  abbrev cells : ℕ → List ℕ
  cells dim = cells_in space number dim

  abbrev of : (dim : ℕ) → ℕ → List ℕ
  of dim = facets_in space number dim

  pub stage-more : (dim k : ℕ) → dim ≤ 3 → k < length (cells_in space number dim)
      → set (stage space number dim k) dim (layer (stage space number dim k) dim ++ facets_in space number dim (get_or (cells_in space number dim) k 0) ∷ []) ≡ stage space number dim (k + 1)
  stage-more dim k l lt = made-more (layer_in space number) (cells_made space number k) (cells_made space number (k + 1)) dim (of dim (get_or (cells dim) k 0)) l (map_more (of dim) (cells dim) k 0 lt)

  pub stage-end : (dim k : ℕ) → dim ≤ 3 → length (cells_in space number dim) ≤ k → stage space number dim k ≡ stage space number (dim + 1) 0
  stage-end dim k l le =
      parts_differ (layer_in space number) (cells_made space number k) (layer_in space number) dim l (ap (map (of dim)) (take_all k (cells dim) le))
      ∙ made-end (layer_in space number) (cells_made space number 0) dim l (λ d. refl)

  pub stage-above : (dim k above : ℕ) → dim ≤ 3 → dim < above → count (stage space number dim k) above ≡ 0
  stage-above dim k above l m = made-above (layer_in space number) (cells_made space number k) dim above l m

  pub stage-below : (dim k : ℕ) → dim ≤ 3 → 1 ≤ dim → count (stage space number dim k) (dim - 1) ≡ length (cells_in space number (dim - 1))
  stage-below dim k l m = made-below (layer_in space number) (cells_made space number k) dim l m ∙ length-map (cells (dim - 1)) (of (dim - 1))

  -- the part so far has fewer cells than the space
  pub stage-room : (dim k : ℕ) → dim ≤ 3 → k < length (cells_in space number dim) → cell_count (stage space number dim k) < cell_count space
  stage-room dim k l lt =
      by_dim (λ d. k < length (cells_in space number d) → cell_count (stage space number d k) < cell_count space)
      (λ h. omega (arith, h, some 0 h, cells_few space number 0))
      (λ h. omega (arith, h, some 1 h, cells_few space number 1, all 0, cells_few space number 0))
      (λ h. omega (arith, h, some 2 h, cells_few space number 2, all 0, cells_few space number 0, all 1, cells_few space number 1))
      (λ h. omega (arith, h, some 3 h, cells_few space number 3, all 0, cells_few space number 0, all 1, cells_few space number 1, all 2, cells_few space number 2)) dim l lt
    where
      some : (d : ℕ) → k < length (cells_in space number d) → length (cells_made space number k d) ≡ k
      some d h = length-map (take k (cells d)) (of d) ∙ length-take-le k (cells d) (omega (arith, h))

      all : (d : ℕ) → length (layer_in space number d) ≡ length (cells_in space number d)
      all d = length-map (cells d) (of d)

  pub stage-none : stage space number 0 0 ≡ [] ∷ [] ∷ [] ∷ [] ∷ []
  stage-none = refl

  pub stage-all : stage space number 4 0 ≡ part_of space number
  stage-all = refl
