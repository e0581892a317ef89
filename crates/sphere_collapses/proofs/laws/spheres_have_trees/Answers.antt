use Rattle.number_lists.proofs.CallerLemmas.{Contains-In}
use Rattle.face_poset.specs.Poset.{facets_of}
use Rattle.pair_laws.proofs.CallerLemmas.{sphere_has_trees}
use Rattle.sphere_collapses.specs.Spheres.{edges_below, vertices_below, first_end, last_end, first_side, last_side, edges_of}
use Rattle.sphere_collapses.proofs.Spheres.{is_sphere}
use Rattle.sphere_collapses.proofs.laws.spheres_have_trees.Goals as goal

pub returns : goal.returns
returns c space cell face vertex hs regular f v =
    sphere_has_trees (vertices_below space cell) (edges_below space cell) (facets_of space 3 cell) (first_end space) (last_end space) (first_side space cell) (last_side space cell) (edges_of space cell) face vertex
    (is_sphere space hs regular cell f.first f.last c.cycles_go_round.ensures) (Contains-In f.facet) (Contains-In v)
