use Rattle.local_field.proofs.Numberings.{four-placed, four-of}
use Rattle.local_field.proofs.numbering.Numbering.new.Goals as goal

pub invariant_of-result : goal.invariant_of-result
invariant_of-result g c =
    four-placed (g.G.Graded.space c.args.graded.now) c.push_order.new.cells c.push_order-2.new.cells c.push_order-3.new.cells c.push_order-4.new.cells c.new-cells.result c.new-places.result c.push_order.new.places c.push_order-2.new.places c.push_order-3.new.places c.push_order-4.new.places c.new-cells.ensures c.new-places.ensures
    c.in_ok-push_order.ensures.cells c.in_ok-push_order-2.ensures.cells c.in_ok-push_order-3.ensures.cells c.in_ok-push_order-4.ensures.cells c.in_ok-push_order.ensures.places c.in_ok-push_order-2.ensures.places c.in_ok-push_order-3.ensures.places c.in_ok-push_order-4.ensures.places

pub returns-clause-cells : goal.returns-clause-cells
returns-clause-cells g c =
    (four-of (g.G.Graded.space c.args.graded.now) c.cells-vertices.ensures.valid c.push_order.new.cells c.push_order-2.new.cells c.push_order-3.new.cells c.push_order-4.new.cells c.new-cells.result c.new-places.result c.push_order.new.places c.push_order-2.new.places c.push_order-3.new.places c.push_order-4.new.places c.new-cells.ensures c.new-places.ensures
    c.in_ok-push_order.ensures.cells c.in_ok-push_order-2.ensures.cells c.in_ok-push_order-3.ensures.cells c.in_ok-push_order-4.ensures.cells c.in_ok-push_order.ensures.places c.in_ok-push_order-2.ensures.places c.in_ok-push_order-3.ensures.places c.in_ok-push_order-4.ensures.places).0

pub returns-clause-all : goal.returns-clause-all
returns-clause-all g c =
    (four-of (g.G.Graded.space c.args.graded.now) c.cells-vertices.ensures.valid c.push_order.new.cells c.push_order-2.new.cells c.push_order-3.new.cells c.push_order-4.new.cells c.new-cells.result c.new-places.result c.push_order.new.places c.push_order-2.new.places c.push_order-3.new.places c.push_order-4.new.places c.new-cells.ensures c.new-places.ensures
    c.in_ok-push_order.ensures.cells c.in_ok-push_order-2.ensures.cells c.in_ok-push_order-3.ensures.cells c.in_ok-push_order-4.ensures.cells c.in_ok-push_order.ensures.places c.in_ok-push_order-2.ensures.places c.in_ok-push_order-3.ensures.places c.in_ok-push_order-4.ensures.places).1
