use Rattle.std.proofs.Common.{◌≡◌, ◌≤◌, ℕ, List, [], length, ap, ◌∙◌, arith}
use Rattle.std.specs.List.{flat_map}
use Rattle.face_poset.specs.Poset.{IsCell, IsSpace, count, cell_count, facets_of}
use Rattle.face_poset.specs.Below.{facets_of_all}
use Rattle.face_poset.proofs.CallerLemmas.{facets_few}
use Rattle.number_lists.specs.Found.{inserted_all}
use Rattle.regular_check.proofs.Distinct.{length-edges}
use Rattle.regular_check.proofs.boundary.count_edges.Goals as goal

-- the numbers found are as many as there are edges
counted : (space : List (List (List ℕ))) (disks before found : List ℕ) → IsSpace space → IsCell (count space 2) disks → before ≡ [] → found ≡ inserted_all before (flat_map (facets_of space 2) disks) → length found ≡ length (facets_of_all space 1 disks)
counted space disks before found h is none e = ap length (e ∙ ap (λ (ns : List ℕ). inserted_all ns (flat_map (facets_of space 2) disks)) none) ∙ length-edges space disks h is

few : (space : List (List (List ℕ))) (disks : List ℕ) → IsSpace space → length (facets_of_all space 1 disks) ≤ 4294967295
few space disks h = let f : cell_count space ≤ 4294967295 = h.few in omega (arith, f, facets_few space 1 disks)

pub returns-clause-number : goal.returns-clause-number
returns-clause-number c = c.len.ensures.len ∙ counted c.args.space.now c.args.disks.now c.clear.new.self.found c.insert_facets.new.found.found c.requires.valid c.requires.disks c.clear.ensures.found c.in_ok-insert_facets.ensures.numbers

pub overflow_cast-result : goal.overflow_cast-result
overflow_cast-result c =
    let n : c.len.result ≡ length (facets_of_all c.args.space.now 1 c.args.disks.now) =
    c.len.ensures.len ∙ counted c.args.space.now c.args.disks.now c.clear.new.self.found c.insert_facets.new.found.found c.requires.valid c.requires.disks c.clear.ensures.found c.in_ok-insert_facets.ensures.numbers in
    omega (arith, n, few c.args.space.now c.args.disks.now c.requires.valid)
