use Rattle.std.proofs.Common.{◌<◌, length, arith, ap}
use Rattle.std.proofs.lemmas.List.{length-map}
use Rattle.gap_text.specs.Nest.{view}
use Rattle.gap_text.proofs.Views.{slice_get-view}
use Rattle.gap_text.proofs.nest.Items.get.Goals as goal

pub index-requires : goal.index-requires
index-requires c = omega (arith, ap length c.self.view_is, length-map c.self.inside.nests.items view, c.requires)

pub returns : goal.returns
returns c =
    let within : c.args.index < length c.self.inside.nests.items =
    omega (arith, ap length c.self.view_is, length-map c.self.inside.nests.items view, c.requires) in
    rw (← c.self.view_is) (slice_get-view c.self.inside.nests.items c.args.index c.index.result.now within c.index.ensures)
