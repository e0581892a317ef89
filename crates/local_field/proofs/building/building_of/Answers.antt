use Rattle.std.proofs.Common.{◌≡◌, ℕ, ◌≤◌, List, length, get_or, ap, sym, ◌∙◌, subst, arith}
use Rattle.face_poset.specs.Poset.{IsSpace, count, cell_count, facets_of}
use Rattle.sphere_collapses.proofs.CallerLemmas.{two_ends_kept}
use Rattle.local_field.specs.Buildings.{dim_at, number_at, disk_building}
use Rattle.local_field.proofs.Cells.{face-range}
use Rattle.local_field.proofs.TowerParts.{full-two, cell-range, disk-chosen, fits-from, chosen-fits}
use Rattle.local_field.proofs.building.building_of.Goals as goal

pub cell_of-cell-requires-clause-last : goal.cell_of-cell-requires-clause-last
cell_of-cell-requires-clause-last c =
    subst (λ (s : List (List (List ℕ))). get_or c.args.tower.now 0 0 ≤ cell_count s) (sym c.space-space.ensures.same)
    (face-range c.args.regular.now (subst IsSpace c.space-space.ensures.same c.cells-edges.ensures.valid) (get_or c.args.tower.now 1 0) (get_or c.args.tower.now 0 0) (full-two c.args.regular.now c.args.tower.now c.requires.full (omega (arith, c.if-tower-lt2.false))).face).1.1

pub edge_building-requires-clause-first : goal.edge_building-requires-clause-first
edge_building-requires-clause-first c =
    let space : List (List (List ℕ)) = c.args.regular.now in
    let two = (full-two c.args.regular.now c.args.tower.now c.requires.full (omega (arith, c.if-tower-lt2.false))) in
    let dim : c.cell_of-cell.result.dim ≡ dim_at space (get_or c.args.tower.now 0 0) = c.cell_of-cell.ensures.dim ∙ ap (λ (s : List (List (List ℕ))). dim_at s (get_or c.args.tower.now 0 0)) c.space-space.ensures.same in
    let number : c.cell_of-cell.result.number ≡ number_at space (get_or c.args.tower.now 0 0) = c.cell_of-cell.ensures.number ∙ ap (λ (s : List (List (List ℕ))). number_at s (get_or c.args.tower.now 0 0)) c.space-space.ensures.same in
    let one : dim_at space (get_or c.args.tower.now 0 0) ≡ 1 = sym dim ∙ c.if-cell-eq1.true in
    let r = cell-range space (subst IsSpace c.space-space.ensures.same c.cells-edges.ensures.valid) (get_or c.args.tower.now 1 0) (get_or c.args.tower.now 0 0) 0 two.face one in
    omega (arith, r.0, number)

pub edge_building-requires-clause-last : goal.edge_building-requires-clause-last
edge_building-requires-clause-last c =
    let space : List (List (List ℕ)) = c.args.regular.now in
    let two = (full-two c.args.regular.now c.args.tower.now c.requires.full (omega (arith, c.if-tower-lt2.false))) in
    let dim : c.cell_of-cell.result.dim ≡ dim_at space (get_or c.args.tower.now 0 0) = c.cell_of-cell.ensures.dim ∙ ap (λ (s : List (List (List ℕ))). dim_at s (get_or c.args.tower.now 0 0)) c.space-space.ensures.same in
    let number : c.cell_of-cell.result.number ≡ number_at space (get_or c.args.tower.now 0 0) = c.cell_of-cell.ensures.number ∙ ap (λ (s : List (List (List ℕ))). number_at s (get_or c.args.tower.now 0 0)) c.space-space.ensures.same in
    let one : dim_at space (get_or c.args.tower.now 0 0) ≡ 1 = sym dim ∙ c.if-cell-eq1.true in
    let r = cell-range space (subst IsSpace c.space-space.ensures.same c.cells-edges.ensures.valid) (get_or c.args.tower.now 1 0) (get_or c.args.tower.now 0 0) 0 two.face one in
    subst (λ (s : List (List (List ℕ))). c.cell_of-cell.result.number ≤ count s 1) (sym c.space-space.ensures.same) (subst (λ (n : ℕ). n ≤ count space 1) (sym number) r.1)

pub edge_building-requires-clause-two : goal.edge_building-requires-clause-two
edge_building-requires-clause-two c =
    let space : List (List (List ℕ)) = c.args.regular.now in
    let two = (full-two c.args.regular.now c.args.tower.now c.requires.full (omega (arith, c.if-tower-lt2.false))) in
    let dim : c.cell_of-cell.result.dim ≡ dim_at space (get_or c.args.tower.now 0 0) = c.cell_of-cell.ensures.dim ∙ ap (λ (s : List (List (List ℕ))). dim_at s (get_or c.args.tower.now 0 0)) c.space-space.ensures.same in
    let number : c.cell_of-cell.result.number ≡ number_at space (get_or c.args.tower.now 0 0) = c.cell_of-cell.ensures.number ∙ ap (λ (s : List (List (List ℕ))). number_at s (get_or c.args.tower.now 0 0)) c.space-space.ensures.same in
    let one : dim_at space (get_or c.args.tower.now 0 0) ≡ 1 = sym dim ∙ c.if-cell-eq1.true in
    let r = cell-range space (subst IsSpace c.space-space.ensures.same c.cells-edges.ensures.valid) (get_or c.args.tower.now 1 0) (get_or c.args.tower.now 0 0) 0 two.face one in
    subst (λ (s : List (List (List ℕ))). length (facets_of s 1 c.cell_of-cell.result.number) ≡ 2) (sym c.space-space.ensures.same)
    (subst (λ (n : ℕ). length (facets_of space 1 n) ≡ 2) (sym number) (two_ends_kept space (subst IsSpace c.space-space.ensures.same c.cells-edges.ensures.valid) c.space-space.ensures.regular (number_at space (get_or c.args.tower.now 0 0)) r.0 r.1))

pub cell_of-edge-requires-clause-last : goal.cell_of-edge-requires-clause-last
cell_of-edge-requires-clause-last c =
    subst (λ (s : List (List (List ℕ))). get_or c.args.tower.now 1 0 ≤ cell_count s) (sym c.space-space.ensures.same)
    (face-range c.args.regular.now (subst IsSpace c.space-space.ensures.same c.cells-edges.ensures.valid) (get_or c.args.tower.now 1 0) (get_or c.args.tower.now 0 0) (full-two c.args.regular.now c.args.tower.now c.requires.full (omega (arith, c.if-tower-lt2.false))).face).0.1

pub disk_building-requires-clause-first : goal.disk_building-requires-clause-first
disk_building-requires-clause-first c =
    let space : List (List (List ℕ)) = c.args.regular.now in
    let two = (full-two c.args.regular.now c.args.tower.now c.requires.full (omega (arith, c.if-tower-lt2.false))) in
    let dim : c.cell_of-cell.result.dim ≡ dim_at space (get_or c.args.tower.now 0 0) = c.cell_of-cell.ensures.dim ∙ ap (λ (s : List (List (List ℕ))). dim_at s (get_or c.args.tower.now 0 0)) c.space-space.ensures.same in
    let number : c.cell_of-cell.result.number ≡ number_at space (get_or c.args.tower.now 0 0) = c.cell_of-cell.ensures.number ∙ ap (λ (s : List (List (List ℕ))). number_at s (get_or c.args.tower.now 0 0)) c.space-space.ensures.same in
    let one : dim_at space (get_or c.args.tower.now 0 0) ≡ 2 = omega (arith, two.dims, two.long, c.requires.low, c.if-cell-eq1.false, dim) in
    let r = cell-range space (subst IsSpace c.space-space.ensures.same c.cells-edges.ensures.valid) (get_or c.args.tower.now 1 0) (get_or c.args.tower.now 0 0) 1 two.face one in
    omega (arith, r.0, number)

pub disk_building-requires-clause-last : goal.disk_building-requires-clause-last
disk_building-requires-clause-last c =
    let space : List (List (List ℕ)) = c.args.regular.now in
    let two = (full-two c.args.regular.now c.args.tower.now c.requires.full (omega (arith, c.if-tower-lt2.false))) in
    let dim : c.cell_of-cell.result.dim ≡ dim_at space (get_or c.args.tower.now 0 0) = c.cell_of-cell.ensures.dim ∙ ap (λ (s : List (List (List ℕ))). dim_at s (get_or c.args.tower.now 0 0)) c.space-space.ensures.same in
    let number : c.cell_of-cell.result.number ≡ number_at space (get_or c.args.tower.now 0 0) = c.cell_of-cell.ensures.number ∙ ap (λ (s : List (List (List ℕ))). number_at s (get_or c.args.tower.now 0 0)) c.space-space.ensures.same in
    let one : dim_at space (get_or c.args.tower.now 0 0) ≡ 2 = omega (arith, two.dims, two.long, c.requires.low, c.if-cell-eq1.false, dim) in
    let r = cell-range space (subst IsSpace c.space-space.ensures.same c.cells-edges.ensures.valid) (get_or c.args.tower.now 1 0) (get_or c.args.tower.now 0 0) 1 two.face one in
    subst (λ (n : ℕ). n ≤ count space 2) (sym number) r.1

pub returns-in_ok-built-clause-fits : goal.returns-in_ok-built-clause-fits
returns-in_ok-built-clause-fits c =
    let space : List (List (List ℕ)) = c.args.regular.now in
    let two = (full-two c.args.regular.now c.args.tower.now c.requires.full (omega (arith, c.if-tower-lt2.false))) in
    let dim : c.cell_of-cell.result.dim ≡ dim_at space (get_or c.args.tower.now 0 0) = c.cell_of-cell.ensures.dim ∙ ap (λ (s : List (List (List ℕ))). dim_at s (get_or c.args.tower.now 0 0)) c.space-space.ensures.same in
    let number : c.cell_of-cell.result.number ≡ number_at space (get_or c.args.tower.now 0 0) = c.cell_of-cell.ensures.number ∙ ap (λ (s : List (List (List ℕ))). number_at s (get_or c.args.tower.now 0 0)) c.space-space.ensures.same in
    let one : dim_at space (get_or c.args.tower.now 0 0) ≡ 2 = omega (arith, two.dims, two.long, c.requires.low, c.if-cell-eq1.false, dim) in
    let r = cell-range space (subst IsSpace c.space-space.ensures.same c.cells-edges.ensures.valid) (get_or c.args.tower.now 1 0) (get_or c.args.tower.now 0 0) 1 two.face one in
    let edge : number_at space (get_or c.args.tower.now 1 0) ≡ c.cell_of-edge.result.number = sym (c.cell_of-edge.ensures.number ∙ ap (λ (s : List (List (List ℕ))). number_at s (get_or c.args.tower.now 1 0)) c.space-space.ensures.same) in
    fits-from space c.args.tower.now c.in_ok-built.built
    (chosen-fits space (subst IsSpace c.space-space.ensures.same c.cells-edges.ensures.valid) c.cycles_go_round.ensures c.boundaries_collapse.ensures c.space-space.ensures.regular (get_or c.args.tower.now 0 0) (get_or c.args.tower.now 1 0) c.in_ok-built.built two.face two.dims
    (λ collapse. disk-chosen space collapse (get_or c.args.tower.now 0 0) (get_or c.args.tower.now 1 0) one ∙ (ap (λ (n : ℕ). disk_building space n (get_or c.args.tower.now 1 0)) (sym number) ∙ sym (c.in_ok-built.ensures (get_or c.args.tower.now 1 0) edge))))
