use Rattle.std.proofs.Common.{◌-◌, ◌∙◌, arith}
use Rattle.number_lists.proofs.CallerLemmas.{Contains-In}
use Rattle.local_field.proofs.Roots.{some-pair, last-is}
use Rattle.local_field.proofs.building.root_of.Goals as goal

pub returns-then-len-eq0 : goal.returns-then-len-eq0
returns-then-len-eq0 c =
    absurd (omega (
      arith,
      some-pair c.args.space.now c.requires.valid c.requires.regular c.args.solid c.args.face c.requires.face.first c.requires.face.last (Contains-In c.requires.face.facet) c.args.collapse.now c.requires.collapse,
      c.len.ensures,
      c.if-len-eq0.true,
    ))

pub returns-then-last-gt0 : goal.returns-then-last-gt0
returns-then-last-gt0 c =
    absurd (omega (
      arith,
      (last-is c.args.space.now c.requires.valid c.requires.regular c.args.solid c.args.face c.requires.face.first c.requires.face.last (Contains-In c.requires.face.facet) c.args.collapse.now c.requires.collapse c.get-last.result
          (c.len-2.result - 1) (omega (arith, c.len-2.ensures)) c.get-last.ensures).flat,
      c.if-last-gt0.true,
    ))

pub other_end-requires-clause-first : goal.other_end-requires-clause-first
other_end-requires-clause-first c =
    (last-is c.args.space.now c.requires.valid c.requires.regular c.args.solid c.args.face c.requires.face.first c.requires.face.last (Contains-In c.requires.face.facet) c.args.collapse.now c.requires.collapse c.get-last.result
    (c.len-2.result - 1) (omega (arith, c.len-2.ensures)) c.get-last.ensures).first

pub other_end-requires-clause-last : goal.other_end-requires-clause-last
other_end-requires-clause-last c =
    (last-is c.args.space.now c.requires.valid c.requires.regular c.args.solid c.args.face c.requires.face.first c.requires.face.last (Contains-In c.requires.face.facet) c.args.collapse.now c.requires.collapse c.get-last.result
    (c.len-2.result - 1) (omega (arith, c.len-2.ensures)) c.get-last.ensures).last

pub other_end-requires-clause-two : goal.other_end-requires-clause-two
other_end-requires-clause-two c =
    (last-is c.args.space.now c.requires.valid c.requires.regular c.args.solid c.args.face c.requires.face.first c.requires.face.last (Contains-In c.requires.face.facet) c.args.collapse.now c.requires.collapse c.get-last.result
    (c.len-2.result - 1) (omega (arith, c.len-2.ensures)) c.get-last.ensures).two

pub returns : goal.returns
returns c =
    c.other_end.ensures
    ∙ (last-is c.args.space.now c.requires.valid c.requires.regular c.args.solid c.args.face c.requires.face.first c.requires.face.last (Contains-In c.requires.face.facet) c.args.collapse.now c.requires.collapse c.get-last.result
    (c.len-2.result - 1) (omega (arith, c.len-2.ensures)) c.get-last.ensures).is
