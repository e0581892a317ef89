use Rattle.std.proofs.Common.{◌≡◌, ◌≤◌, ◌+◌, ℕ, List, Bool, true, length, ap, sym, subst, arith}
use Rattle.std.specs.List.{All}
use Rattle.face_poset.specs.Poset.{IsCell}
use Rattle.permutahedral_arrays.specs.Places.{cells_of, facets_of, shapes_in}
use Rattle.permutahedral_arrays.proofs.Climbing.{are_refined, shapes-climb, edges-refined, faces-refined, solids-refined, vertices-start}
use Rattle.permutahedral_arrays.proofs.Listed.{cells-fit, cells-bounded, some-cell}
use Rattle.permutahedral_arrays.proofs.permutahedra.space_with.Goals as goal

-- the points of listed cells
listed-fit : (depth dim slab row most : ℕ) (marks : List Bool) (cells : List (List ℕ)) → 2 ≤ depth → depth ≤ 3 → dim ≤ 3 → 1 ≤ slab → 1 ≤ row → length marks + slab + row + 1 ≤ most → cells ≡ cells_of slab row marks (shapes_in depth dim) → All (IsCell most) cells
listed-fit depth dim slab row most marks cells l m n a b h e = subst (λ (cs : List (List ℕ)). All (IsCell most) cs) (sym e) (cells-fit slab row most marks (shapes_in depth dim) a b h (shapes-climb depth dim l m n))

-- the facets of listed cells
listed-bounded : (slab row : ℕ) (marks : List Bool) (finer shapes above cells : List (List ℕ)) → are_refined finer shapes ≡ true → above ≡ cells_of slab row marks finer → cells ≡ cells_of slab row marks shapes → All (λ cell. 1 ≤ length (facets_of above cell)) cells
listed-bounded slab row marks finer shapes above cells h e f =
    subst (λ (cs : List (List ℕ)). All (λ cell. 1 ≤ length (facets_of above cell)) cs) (sym f)
    (subst (λ (cs : List (List ℕ)). All (λ cell. 1 ≤ length (facets_of cs cell)) (cells_of slab row marks shapes)) (sym e) (cells-bounded slab row marks finer shapes h))

pub build-requires-clause-some : goal.build-requires-clause-some
build-requires-clause-some c =
    omega (arith, ap length c.in_ok-vertices.ensures.cells, some-cell c.args.slab c.args.row c.args.marks.now (shapes_in c.args.depth 0) (vertices-start c.args.depth c.requires.shallow c.requires.deep) c.requires.one)

pub build-requires-clause-vertices : goal.build-requires-clause-vertices
build-requires-clause-vertices c =
    listed-fit c.args.depth 0 c.args.slab c.args.row (length c.args.marks.now + c.args.slab + c.args.row + 1) c.args.marks.now c.in_ok-vertices.vertices c.requires.shallow c.requires.deep (omega arith) c.requires.high c.requires.wide (omega arith) c.in_ok-vertices.ensures.cells

pub build-requires-clause-edges : goal.build-requires-clause-edges
build-requires-clause-edges c =
    listed-fit c.args.depth 1 c.args.slab c.args.row (length c.args.marks.now + c.args.slab + c.args.row + 1) c.args.marks.now c.in_ok-edges.edges c.requires.shallow c.requires.deep (omega arith) c.requires.high c.requires.wide (omega arith) c.in_ok-edges.ensures.cells

pub build-requires-clause-faces : goal.build-requires-clause-faces
build-requires-clause-faces c =
    listed-fit c.args.depth 2 c.args.slab c.args.row (length c.args.marks.now + c.args.slab + c.args.row + 1) c.args.marks.now c.in_ok-faces.faces c.requires.shallow c.requires.deep (omega arith) c.requires.high c.requires.wide (omega arith) c.in_ok-faces.ensures.cells

pub build-requires-clause-solids : goal.build-requires-clause-solids
build-requires-clause-solids c =
    listed-fit c.args.depth 3 c.args.slab c.args.row (length c.args.marks.now + c.args.slab + c.args.row + 1) c.args.marks.now c.in_ok-solids.solids c.requires.shallow c.requires.deep (omega arith) c.requires.high c.requires.wide (omega arith) c.in_ok-solids.ensures.cells

pub build-requires-clause-ends : goal.build-requires-clause-ends
build-requires-clause-ends c =
    listed-bounded c.args.slab c.args.row c.args.marks.now (shapes_in c.args.depth 0) (shapes_in c.args.depth 1) c.in_ok-vertices.vertices c.in_ok-edges.edges (edges-refined c.args.depth c.requires.shallow c.requires.deep) c.in_ok-vertices.ensures.cells c.in_ok-edges.ensures.cells

pub build-requires-clause-sides : goal.build-requires-clause-sides
build-requires-clause-sides c =
    listed-bounded c.args.slab c.args.row c.args.marks.now (shapes_in c.args.depth 1) (shapes_in c.args.depth 2) c.in_ok-edges.edges c.in_ok-faces.faces (faces-refined c.args.depth c.requires.shallow c.requires.deep) c.in_ok-edges.ensures.cells c.in_ok-faces.ensures.cells

pub build-requires-clause-walls : goal.build-requires-clause-walls
build-requires-clause-walls c =
    listed-bounded c.args.slab c.args.row c.args.marks.now (shapes_in c.args.depth 2) (shapes_in c.args.depth 3) c.in_ok-faces.faces c.in_ok-solids.solids (solids-refined c.args.depth c.requires.shallow c.requires.deep) c.in_ok-faces.ensures.cells c.in_ok-solids.ensures.cells
