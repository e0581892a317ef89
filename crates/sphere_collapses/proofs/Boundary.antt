-- The cells of the boundary of a 3-cell less one 2-cell.
use Rattle.std.proofs.Common.{◌≡◌, ◌⊎◌, inl, inr, ℕ, ◌≤◌, List, Bool, true, false, ◌||◌, not, refl, sym, arith}
use Rattle.std.proofs.lemmas.Bool.{false≢true, or_cases}
use Rattle.number_lists.specs.Members.{In}
use Rattle.number_lists.proofs.CallerLemmas.{In-filter, filter-In, In-inside}
use Rattle.face_poset.specs.declared.cells.Cell.{Cell}
use Rattle.face_poset.specs.Poset.{IsSpace, count, facets_of}
use Rattle.face_poset.specs.Below.{cell_at, closed_cell}
use Rattle.sphere_collapses.specs.Collapses.{same, boundary_less}
use Rattle.sphere_collapses.specs.Spheres.{edges_below, vertices_below}
use Rattle.sphere_collapses.proofs.Frees.{same-is, is-same, turned, not_yet}
use Rattle.sphere_collapses.proofs.FaceCounts.{IsFace, vertex, edge, disk, whole, face-In, In-face}

module _ (space : List (List (List ℕ))) (cell face : ℕ) (hs : IsSpace space) (low : 1 ≤ cell) (high : cell ≤ count space 3) where
  pub data IsLeft : ℕ → ℕ → Type 0 where
    left_vertex : (n : ℕ) → In n (vertices_below space cell) → IsLeft 0 n
    left_edge : (n : ℕ) → In n (edges_below space cell) → IsLeft 1 n
    left_disk : (n : ℕ) → In n (facets_of space 3 cell) → (n ≡ face → ⊥) → IsLeft 2 n

  abbrev stays : Cell → Bool
  stays c = not (same (cell_at 3 cell) c || same (cell_at 2 face) c)

  neither : (a b : Bool) → (a || b) ≡ false → (a ≡ true) ⊎ (b ≡ true) → ⊥
  neither true b e k = false≢true (sym e)
  neither false true e k = false≢true (sym e)
  neither false false e (inl k) = false≢true k
  neither false false e (inr k) = false≢true k

  pub left-In : (d n : ℕ) → In (cell_at d n) (boundary_less space cell face) → IsLeft d n
  left-In d n i =
      let t : (same (cell_at 3 cell) (cell_at d n) || same (cell_at 2 face) (cell_at d n)) ≡ false =
      turned (same (cell_at 3 cell) (cell_at d n) || same (cell_at 2 face) (cell_at d n)) (filter-In stays (closed_cell space 3 cell) i) in
      by_cases (face-In space cell hs low high d n (In-inside stays (closed_cell space 3 cell) i))
      (λ q. neither (same (cell_at 3 cell) (cell_at d n)) (same (cell_at 2 face) (cell_at d n)) t (inl (is-same (cell_at 3 cell) (cell_at d n) (sym q.0) (sym q.1))))
      (λ q. neither (same (cell_at 3 cell) (cell_at d n)) (same (cell_at 2 face) (cell_at d n)) t (inr (is-same (cell_at 2 face) (cell_at d n) (sym q.0) (sym q.1))))
    where
      by_cases : {d n : ℕ} → IsFace space cell hs low high d n → ((d ≡ 3) × (n ≡ cell) → ⊥) → ((d ≡ 2) × (n ≡ face) → ⊥) → IsLeft d n
      by_cases (vertex n j) a b = left_vertex n j
      by_cases (edge n j) a b = left_edge n j
      by_cases (disk n j) a b = left_disk n j (λ e. b (refl, e))
      by_cases whole a b = absurd (a (refl, refl))

  kept : (d n : ℕ) → In (cell_at d n) (closed_cell space 3 cell) → ((3 ≡ d) × (cell ≡ n) → ⊥) → ((2 ≡ d) × (face ≡ n) → ⊥) → In (cell_at d n) (boundary_less space cell face)
  kept d n i a b =
      In-filter stays i
      (not_yet (same (cell_at 3 cell) (cell_at d n) || same (cell_at 2 face) (cell_at d n))
      (λ t. elim (or_cases (same (cell_at 3 cell) (cell_at d n)) (same (cell_at 2 face) (cell_at d n)) t) [ inl q ↦ a (same-is (cell_at 3 cell) (cell_at d n) q) | inr q ↦ b (same-is (cell_at 2 face) (cell_at d n) q) ]))

  pub In-left : {d n : ℕ} → IsLeft d n → In (cell_at d n) (boundary_less space cell face)
  In-left (left_vertex n j) = kept 0 n (In-face space cell hs low high (vertex n j)) (λ e. absurd (omega (arith, e.0))) (λ e. absurd (omega (arith, e.0)))
  In-left (left_edge n j) = kept 1 n (In-face space cell hs low high (edge n j)) (λ e. absurd (omega (arith, e.0))) (λ e. absurd (omega (arith, e.0)))
  In-left (left_disk n j k) = kept 2 n (In-face space cell hs low high (disk n j)) (λ e. absurd (omega (arith, e.0))) (λ e. k (sym e.1))
