use Rattle.std.proofs.Common.{◌≡◌, ℕ, suc, ◌+◌, Contains, arith, subst}
use Rattle.face_poset.specs.Poset.{count, facets_of}
use Rattle.sheet_laws.specs.Permutations.{InRange}
use Rattle.cover_space.specs.Total.{least_vertex, sheet}
use Rattle.cover_space.proofs.Inside.{closed-In}
use Rattle.cover_space.proofs.Labelled.{is_labelled}
use Rattle.cover_space.proofs.Sheets.{is-sheet, facet-agrees}
use Rattle.cover_space.proofs.laws.sheet_is_along.Goals as goal

pub returns-clause-along : goal.returns-clause-along
returns-clause-along c X m u dim cell s w hs regular labelling r q k =
    is-sheet
    (record { cycles = c.cycles_go_round.ensures; trees = c.spheres_have_trees.ensures; boundaries = c.boundaries_collapse.ensures; walks = c.collapsed_walks_close.ensures })
    X hs regular m u (is_labelled X m u labelling) dim cell s r q w (closed-In X hs dim cell r k)

pub returns-clause-facets : goal.returns-clause-facets
returns-clause-facets c X m u dim cell s f w hs regular labelling r q i k =
    let e : suc dim ≡ dim + 1 = omega arith in
    subst (λ (n : ℕ). InRange (count X n) cell → Contains (facets_of X n cell) f → sheet X m u dim f (sheet X m u n cell s (least_vertex X dim f)) w ≡ sheet X m u n cell s w) e
    (λ r i.
    facet-agrees
    (record { cycles = c.cycles_go_round.ensures; trees = c.spheres_have_trees.ensures; boundaries = c.boundaries_collapse.ensures; walks = c.collapsed_walks_close.ensures })
    X hs regular m u (is_labelled X m u labelling) dim cell s f w r q i k) r i
