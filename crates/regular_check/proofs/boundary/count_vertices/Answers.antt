use Rattle.std.proofs.Common.{◌≡◌, ◌≤◌, ℕ, List, [], length, take, ap, sym, ◌∙◌, arith}
use Rattle.std.specs.List.{flat_map}
use Rattle.std.proofs.lemmas.List.{take_all}
use Rattle.face_poset.specs.Poset.{IsCell, IsSpace, count, cell_count, facets_of}
use Rattle.face_poset.specs.Below.{facets_of_all}
use Rattle.face_poset.proofs.CallerLemmas.{facets_few}
use Rattle.number_lists.specs.Found.{inserted_all}
use Rattle.regular_check.proofs.Distinct.{facets-more, length-vertices}
use Rattle.regular_check.proofs.boundary.count_vertices.Goals as goal

-- the vertices of the edges of a 2-cell
abbrev vertices_of : List (List (List ℕ)) → ℕ → List ℕ
vertices_of space disk = flat_map (facets_of space 1) (facets_of space 2 disk)

pub loop-disk-preserved : goal.loop-disk-preserved
loop-disk-preserved c =
    let xs : List ℕ = c.args.disks.now in
    let i : ℕ = c.loop-disk.disk-index in
    let f : ℕ → List ℕ = vertices_of c.args.space.now in (
      c.insert_facets.ensures.most ∙ c.loop-disk.invariant.0,
      c.in_ok-insert_facets.ensures.numbers
          ∙ (ap (λ (ns : List ℕ). inserted_all ns (flat_map (facets_of c.args.space.now 1) c.facets.result.now)) c.loop-disk.invariant.1
          ∙ (ap (λ (es : List ℕ). inserted_all (inserted_all [] (flat_map f (take i xs))) (flat_map (facets_of c.args.space.now 1) es)) c.facets.ensures.facets
          ∙ sym (facets-more f [] xs i c.loop-disk-test.true))),
    )

-- the numbers found are as many as there are vertices
counted : (space : List (List (List ℕ))) (disks found : List ℕ) (i : ℕ) → IsSpace space → IsCell (count space 2) disks → length disks ≤ i → found ≡ inserted_all [] (flat_map (vertices_of space) (take i disks))
    → length found ≡ length (facets_of_all space 0 (facets_of_all space 1 disks))
counted space disks found i h is l e = ap length (e ∙ ap (λ (ds : List ℕ). inserted_all [] (flat_map (vertices_of space) ds)) (take_all i disks l)) ∙ length-vertices space disks h is

few : (space : List (List (List ℕ))) (edges : List ℕ) → IsSpace space → length (facets_of_all space 0 edges) ≤ 4294967295
few space edges h = let f : cell_count space ≤ 4294967295 = h.few in omega (arith, f, facets_few space 0 edges)

pub returns-clause-number : goal.returns-clause-number
returns-clause-number c = c.len.ensures.len ∙ counted c.args.space.now c.args.disks.now c.loop-disk.found.found c.loop-disk.disk-index c.requires.valid c.requires.disks c.loop-disk-test.false c.loop-disk.invariant.1

pub overflow_cast-result : goal.overflow_cast-result
overflow_cast-result c =
    let n : c.len.result ≡ length (facets_of_all c.args.space.now 0 (facets_of_all c.args.space.now 1 c.args.disks.now)) =
    c.len.ensures.len ∙ counted c.args.space.now c.args.disks.now c.loop-disk.found.found c.loop-disk.disk-index c.requires.valid c.requires.disks c.loop-disk-test.false c.loop-disk.invariant.1 in
    omega (arith, n, few c.args.space.now (facets_of_all c.args.space.now 1 c.args.disks.now) c.requires.valid)
