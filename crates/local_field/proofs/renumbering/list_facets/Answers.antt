use Rattle.std.proofs.Common.{ap, ◌∙◌}
use Rattle.face_poset.specs.Poset.{facets_of}
use Rattle.local_field.proofs.Renumbered.{facets-within, facets-sorted, place-range}
use Rattle.local_field.proofs.renumbering.list_facets.Goals as goal

pub place_facets-requires : goal.place_facets-requires
place_facets-requires g c =
    facets-within (g.G.Graded.space c.args.graded.now) c.facets.ensures.valid c.args.numbering.now c.requires.cells c.args.dim c.args.place c.requires.low c.requires.first
    (place-range (g.G.Graded.space c.args.graded.now) c.facets.ensures.valid c.args.numbering.now c.requires.cells c.args.dim c.args.place c.requires.last) c.facets.result.now
    (c.facets.ensures.facets ∙ ap (facets_of (g.G.Graded.space c.args.graded.now) c.args.dim) c.cell-cell.ensures.cell)

pub returns : goal.returns
returns g c =
    facets-sorted (g.G.Graded.space c.args.graded.now) c.facets.ensures.valid c.args.numbering.now c.requires.cells c.args.dim c.args.place c.facets.result.now c.in_ok-places.places.items c.sort_once.new.numbers.items
    (c.facets.ensures.facets ∙ ap (facets_of (g.G.Graded.space c.args.graded.now) c.args.dim) c.cell-cell.ensures.cell) c.in_ok-places.ensures c.sort_once.ensures.rises c.sort_once.ensures.keeps c.sort_once.ensures.adds_none
