use Rattle.std.proofs.Common.{◌≡◌, arith, ap, ◌∙◌}
use Rattle.cover_search.proofs.Raising.{raised}
use Rattle.cover_search.proofs.walker.Walker.raise.Goals as goal

pub invariant_of-self : goal.invariant_of-self
invariant_of-self c =
    let e : c.self.inside.most ≡ c.args.self.now.room = ap (λ v. v.room) c.self.view_is in
    raised c.self.inside.columns c.self.inside.sheets c.self.inside.most c.self.inside.at c.args.sheets c.self.inside.cells.items c.self.inside.seen.items c.self.inside.forward.items c.self.inside.backward.items
    c.fill.new.columns.items c.fill-2.new.columns.items c.self.invariant c.requires.least (omega (arith, e, c.requires.most))
    (c.fill.ensures.long ∙ c.self.invariant.forwards) (c.fill-2.ensures.long ∙ c.self.invariant.backwards)
    (λ g l. c.fill.ensures.each g (omega (arith, l, c.self.invariant.forwards))) (λ g l. c.fill-2.ensures.each g (omega (arith, l, c.self.invariant.backwards)))
