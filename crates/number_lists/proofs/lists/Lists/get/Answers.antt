use Rattle.std.proofs.Common.{◌≡◌, length, arith, ap, ◌∙◌, sym}
use Rattle.number_lists.proofs.Cuts.{length-cut}
use Rattle.number_lists.proofs.lists.Lists.get.Goals as goal

pub part-requires-clause-index : goal.part-requires-clause-index
part-requires-clause-index c =
    let e : length c.args.self.now ≡ length c.self.inside.ends.items = sym (ap length c.self.view_is) ∙ length-cut 0 c.self.inside.ends.items c.self.inside.entries.items in
    omega (arith, ap length c.deref.ensures.value)
