use Rattle.std.proofs.Common.{subst}
use Rattle.face_poset.specs.Poset.{IsSpace}
use Rattle.local_field.proofs.Layers.{all-listed}
use Rattle.local_field.proofs.field.list_pairs.Goals as goal

pub returns : goal.returns
returns c =
    all-listed c.args.regular.now (subst IsSpace c.space.ensures.same c.cells-solids.ensures.valid) c.boundaries_collapse.ensures c.space.ensures.regular c.new-pairs.result.items c.push_cells.new.pairs.items c.push_cells-2.new.pairs.items c.push_solids.new.pairs.items
    c.new-pairs.ensures.items c.in_ok-push_cells.ensures c.in_ok-push_cells-2.ensures c.in_ok-push_solids.ensures
