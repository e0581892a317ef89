use Rattle.std.proofs.Common.{sym, ◌∙◌}
use Rattle.sphere_collapses.proofs.Trees.{taken_there, taken_new}
use Rattle.sphere_collapses.proofs.tree.take.Goals as goal

pub returns-then-holds-clause-taken : goal.returns-then-holds-clause-taken
returns-then-holds-clause-taken c = taken_there c.args.node c.args.link c.args.found.now.found c.args.tree.now.items (sym c.holds.ensures ∙ c.if-holds.true)

pub returns-clause-taken : goal.returns-clause-taken
returns-clause-taken c =
    taken_new c.args.node c.args.link c.args.found.now.found c.insert.new.self.found c.args.tree.now.items c.push.new.self.items (sym c.holds.ensures ∙ c.if-holds.false) c.in_ok-insert.ensures.found c.in_ok-push.ensures.items
