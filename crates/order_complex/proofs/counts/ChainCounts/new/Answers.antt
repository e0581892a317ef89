use Rattle.std.proofs.Common.{◌≡◌, ℕ, List, [], ◌∷◌, length, refl, arith}
use Rattle.order_complex.specs.Chains.{chains_of}
use Rattle.order_complex.specs.Counting.{chain_counts}
use Rattle.order_complex.proofs.Endings.{all-counted}
use Rattle.order_complex.proofs.counts.ChainCounts.new.Goals as goal

four : (space : List (List (List ℕ))) (p e t u : ℕ) → p ≡ length (chains_of space 0) → e ≡ length (chains_of space 1) → t ≡ length (chains_of space 2) → u ≡ length (chains_of space 3) → ◌≡◌ {A = List ℕ} (p ∷ e ∷ t ∷ u ∷ []) (chain_counts space)
four space p e t u hp he ht hu = rw (hp, he, ht, hu) refl

pub overflow_add-total : goal.overflow_add-total
overflow_add-total c = let a = all-counted c.args.space.now c.in-Ok.tally.pairs.items c.in-Ok.tally.triples.items c.in-Ok.tally.edges c.in-Ok.tally.triangles c.in-Ok.tally.tetrahedra c.in-Ok.ensures.few c.in-Ok.ensures.tally in omega (arith, a.small, c.len-points.ensures)

pub overflow_add-total-2 : goal.overflow_add-total-2
overflow_add-total-2 c = let a = all-counted c.args.space.now c.in-Ok.tally.pairs.items c.in-Ok.tally.triples.items c.in-Ok.tally.edges c.in-Ok.tally.triangles c.in-Ok.tally.tetrahedra c.in-Ok.ensures.few c.in-Ok.ensures.tally in omega (arith, a.small, c.len-points.ensures)

pub overflow_add-total-3 : goal.overflow_add-total-3
overflow_add-total-3 c = let a = all-counted c.args.space.now c.in-Ok.tally.pairs.items c.in-Ok.tally.triples.items c.in-Ok.tally.edges c.in-Ok.tally.triangles c.in-Ok.tally.tetrahedra c.in-Ok.ensures.few c.in-Ok.ensures.tally in omega (arith, a.small, c.len-points.ensures)

pub returns-then-total-from-clause-refused : goal.returns-then-total-from-clause-refused
returns-then-total-from-clause-refused c =
    let a = all-counted c.args.space.now c.in-Ok.tally.pairs.items c.in-Ok.tally.triples.items c.in-Ok.tally.edges c.in-Ok.tally.triangles c.in-Ok.tally.tetrahedra c.in-Ok.ensures.few c.in-Ok.ensures.tally in
    (omega (arith, a.points, a.edges_are, a.triangles_are, a.tetrahedra_are, c.len-points.ensures), omega (arith, a.points, a.edges_are, a.triangles_are, a.tetrahedra_are, c.len-points.ensures, c.if-total-from.true, c.from.ensures))

pub returns-clause-counts : goal.returns-clause-counts
returns-clause-counts c =
    let a = all-counted c.args.space.now c.in-Ok.tally.pairs.items c.in-Ok.tally.triples.items c.in-Ok.tally.edges c.in-Ok.tally.triangles c.in-Ok.tally.tetrahedra c.in-Ok.ensures.few c.in-Ok.ensures.tally in
    four c.args.space.now c.len-points.result c.in-Ok.tally.edges c.in-Ok.tally.triangles c.in-Ok.tally.tetrahedra (omega (arith, c.len-points.ensures, a.points)) a.edges_are a.triangles_are a.tetrahedra_are

pub returns-clause-within : goal.returns-clause-within
returns-clause-within c =
    let a = all-counted c.args.space.now c.in-Ok.tally.pairs.items c.in-Ok.tally.triples.items c.in-Ok.tally.edges c.in-Ok.tally.triangles c.in-Ok.tally.tetrahedra c.in-Ok.ensures.few c.in-Ok.ensures.tally in
    omega (arith, a.points, a.edges_are, a.triangles_are, a.tetrahedra_are, c.len-points.ensures, c.if-total-from.false, c.from.ensures)
