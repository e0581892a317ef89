use Rattle.std.proofs.Common.{refl}
use Rattle.pair_stages.proofs.Complexes.{is_complex}
use Rattle.pair_stages.proofs.Matching.{splitting, degrees_of}
use Rattle.pair_stages.proofs.stages.Stages.new.Goals as goal

pub invariant_of-result : goal.invariant_of-result
invariant_of-result g c =
    let s = splitting g.F.Field.ops g.met.F.Field.laws (g.G.Graded.space c.args.graded.now) (g.G.Signed.negative c.args.graded.now) c.args.field.now.pairs c.in_ok-stages.stages.items c.in_ok-stages.stages.items c.requires.valid c.in_ok-stages.ensures refl in
    (s, is_complex g.F.Field.ops g.met.F.Field.laws (g.G.Graded.space c.args.graded.now) (g.G.Signed.negative c.args.graded.now) c.ask_signs.ensures.valid c.ask_signs.ensures.cancel c.args.field.now.pairs c.in_ok-stages.stages.items c.in_ok-stages.ensures s)

pub returns-clause-splitting : goal.returns-clause-splitting
returns-clause-splitting g c =
    splitting g.F.Field.ops g.met.F.Field.laws (g.G.Graded.space c.args.graded.now) (g.G.Signed.negative c.args.graded.now) c.args.field.now.pairs c.in_ok-stages.stages.items c.in_ok-stages.stages.items c.requires.valid c.in_ok-stages.ensures refl

pub returns-clause-graded : goal.returns-clause-graded
returns-clause-graded g c =
    degrees_of g.F.Field.ops (g.G.Graded.space c.args.graded.now) (g.G.Signed.negative c.args.graded.now) c.args.field.now.pairs c.in_ok-stages.stages.items c.in_ok-stages.stages.items c.in_ok-stages.ensures refl

pub returns-clause-complex : goal.returns-clause-complex
returns-clause-complex g c =
    let s = splitting g.F.Field.ops g.met.F.Field.laws (g.G.Graded.space c.args.graded.now) (g.G.Signed.negative c.args.graded.now) c.args.field.now.pairs c.in_ok-stages.stages.items c.in_ok-stages.stages.items c.requires.valid c.in_ok-stages.ensures refl in
    is_complex g.F.Field.ops g.met.F.Field.laws (g.G.Graded.space c.args.graded.now) (g.G.Signed.negative c.args.graded.now) c.ask_signs.ensures.valid c.ask_signs.ensures.cancel c.args.field.now.pairs c.in_ok-stages.stages.items c.in_ok-stages.ensures s
