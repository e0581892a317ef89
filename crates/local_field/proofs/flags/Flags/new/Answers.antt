use Rattle.std.proofs.Common.{ℕ, List, [], ◌∷◌, ap, sym, ◌∙◌, subst}
use Rattle.face_poset.specs.Poset.{IsSpace}
use Rattle.face_poset.specs.Signs.{SignsCancel}
use Rattle.local_field.specs.Flags.{renumbered, minus_of, negative_in, HaveCells, Rise, flags_of}
use Rattle.local_field.proofs.Renumbered.{counts-of, renumbered-valid, renumbered-parts, flags-same}
use Rattle.local_field.proofs.SignsByPlace.{cancel, minus-rises}
use Rattle.local_field.proofs.flags.Flags.new.Goals as goal

pub minus_layers-requires-clause-cells : goal.minus_layers-requires-clause-cells
minus_layers-requires-clause-cells g c = c.in_ok-numbering.ensures.all

pub minus_layers-requires-clause-facets : goal.minus_layers-requires-clause-facets
minus_layers-requires-clause-facets g c =
    renumbered-parts (g.S.Graded.space c.args.signed.now) c.ask_signs.ensures.valid c.in_ok-numbering.numbering c.in_ok-numbering.ensures.all c.in_ok-vertices.vertices c.in_ok-edges.edges c.in_ok-disks.disks c.in_ok-solids.solids c.cells.result c.cells.ensures.cells c.in_ok-vertices.ensures c.in_ok-edges.ensures c.in_ok-disks.ensures c.in_ok-solids.ensures

pub from_layers-requires-clause-valid : goal.from_layers-requires-clause-valid
from_layers-requires-clause-valid g c =
    subst IsSpace (sym (renumbered-parts (g.S.Graded.space c.args.signed.now) c.ask_signs.ensures.valid c.in_ok-numbering.numbering c.in_ok-numbering.ensures.all c.in_ok-vertices.vertices c.in_ok-edges.edges c.in_ok-disks.disks c.in_ok-solids.solids c.cells.result c.cells.ensures.cells c.in_ok-vertices.ensures c.in_ok-edges.ensures c.in_ok-disks.ensures c.in_ok-solids.ensures))
    (renumbered-valid (g.S.Graded.space c.args.signed.now) c.ask_signs.ensures.valid c.in_ok-numbering.numbering c.in_ok-numbering.ensures.all)

pub from_layers-requires-clause-counts : goal.from_layers-requires-clause-counts
from_layers-requires-clause-counts g c =
    subst (HaveCells c.in_ok-numbering.numbering) (sym (renumbered-parts (g.S.Graded.space c.args.signed.now) c.ask_signs.ensures.valid c.in_ok-numbering.numbering c.in_ok-numbering.ensures.all c.in_ok-vertices.vertices c.in_ok-edges.edges c.in_ok-disks.disks c.in_ok-solids.solids c.cells.result c.cells.ensures.cells c.in_ok-vertices.ensures c.in_ok-edges.ensures c.in_ok-disks.ensures c.in_ok-solids.ensures))
    (counts-of (g.S.Graded.space c.args.signed.now) c.ask_signs.ensures.valid c.in_ok-numbering.numbering c.in_ok-numbering.ensures.all)

pub from_layers-requires-clause-cancel : goal.from_layers-requires-clause-cancel
from_layers-requires-clause-cancel g c =
    subst (λ (m : List (List (List ℕ))). SignsCancel (c.in_ok-vertices.vertices ∷ c.in_ok-edges.edges ∷ c.in_ok-disks.disks ∷ c.in_ok-solids.solids ∷ []) (negative_in m)) (sym c.in_ok-minus.ensures)
    (subst (λ (s : List (List (List ℕ))). SignsCancel s (negative_in (minus_of (g.S.Graded.space c.args.signed.now) (g.S.Signed.negative c.args.signed.now) c.in_ok-numbering.numbering))) (sym (renumbered-parts (g.S.Graded.space c.args.signed.now) c.ask_signs.ensures.valid c.in_ok-numbering.numbering c.in_ok-numbering.ensures.all c.in_ok-vertices.vertices c.in_ok-edges.edges c.in_ok-disks.disks c.in_ok-solids.solids c.cells.result c.cells.ensures.cells c.in_ok-vertices.ensures c.in_ok-edges.ensures c.in_ok-disks.ensures c.in_ok-solids.ensures))
    (cancel (g.S.Graded.space c.args.signed.now) c.ask_signs.ensures.valid c.in_ok-numbering.numbering c.in_ok-numbering.ensures.all (g.S.Signed.negative c.args.signed.now) c.ask_signs.ensures.cancel))

pub from_layers-requires-clause-rise : goal.from_layers-requires-clause-rise
from_layers-requires-clause-rise g c =
    subst Rise (sym c.in_ok-minus.ensures)
    (minus-rises (g.S.Graded.space c.args.signed.now) c.ask_signs.ensures.valid c.in_ok-numbering.numbering c.in_ok-numbering.ensures.all (g.S.Signed.negative c.args.signed.now))

pub returns : goal.returns
returns g c =
    flags-same c.in_ok-flags.flags (flags_of (g.S.Graded.space c.args.signed.now) (g.S.Signed.negative c.args.signed.now)) (c.in_ok-flags.ensures.cells ∙ c.in_ok-numbering.ensures.cells)
    (c.in_ok-flags.ensures.space
    ∙ (renumbered-parts (g.S.Graded.space c.args.signed.now) c.ask_signs.ensures.valid c.in_ok-numbering.numbering c.in_ok-numbering.ensures.all c.in_ok-vertices.vertices c.in_ok-edges.edges c.in_ok-disks.disks c.in_ok-solids.solids c.cells.result c.cells.ensures.cells c.in_ok-vertices.ensures c.in_ok-edges.ensures c.in_ok-disks.ensures c.in_ok-solids.ensures
    ∙ ap (renumbered (g.S.Graded.space c.args.signed.now)) c.in_ok-numbering.ensures.cells))
    (c.in_ok-flags.ensures.minus ∙ (c.in_ok-minus.ensures ∙ ap (minus_of (g.S.Graded.space c.args.signed.now) (g.S.Signed.negative c.args.signed.now)) c.in_ok-numbering.ensures.cells))
