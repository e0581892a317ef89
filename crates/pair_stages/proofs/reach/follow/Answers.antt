use Rattle.std.proofs.Common.{get_or, sym, ◌∙◌}
use Rattle.pair_stages.specs.Units.{no_match}
use Rattle.pair_stages.proofs.Filling.{pair_small}
use Rattle.pair_stages.proofs.reach.follow.Goals as goal

pub insert_cofaces-requires-clause-place : goal.insert_cofaces-requires-clause-place
insert_cofaces-requires-clause-place g c =
    (pair_small g.F.Field.ops c.args.stage.now c.args.next.now c.requires.paired (get_or c.args.indexes.now c.args.place 0) c.pair-lower.result no_match
    ((c.requires.indexes.upper c.args.place c.requires.place (sym c.kind.ensures ∙ c.in-Upper.is)).within) c.pair-lower.ensures).0
