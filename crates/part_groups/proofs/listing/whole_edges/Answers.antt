use Rattle.std.proofs.Common.{◌≤◌, get_or, sym, subst}
use Rattle.face_poset.specs.Poset.{count}
use Rattle.space_parts.specs.Parts.{Piece}
use Rattle.part_groups.proofs.Made.{generator-at}
use Rattle.part_groups.proofs.listing.whole_edges.Goals as goal

pub whole_edge-requires-clause-first : goal.whole_edge-requires-clause-first
whole_edge-requires-clause-first c =
    (generator-at c.args.group.now.piece.space c.args.group.now.field c.presentation.result.now c.generators-edge-items.result.now c.loop-edge.edge-index
    c.presentation.ensures.words c.generators-edge-items.ensures.generators c.loop-edge-test.true).0

pub whole_edge-requires-clause-last : goal.whole_edge-requires-clause-last
whole_edge-requires-clause-last c =
    let range =
    generator-at c.args.group.now.piece.space c.args.group.now.field c.presentation.result.now c.generators-edge-items.result.now c.loop-edge.edge-index
    c.presentation.ensures.words c.generators-edge-items.ensures.generators c.loop-edge-test.true in
    subst (λ (p : Piece). get_or c.generators-edge-items.result.now c.loop-edge.edge-index 0 ≤ count p.space 1) (sym c.part.ensures) range.1
