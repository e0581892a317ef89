use Rattle.std.proofs.Common.{◌∙◌, sym, ap}
use Rattle.std.specs.List.{concat}
use Rattle.number_lists.proofs.Cuts.{concat-cut}
use Rattle.number_lists.proofs.lists.Lists.entries.Goals as goal

pub returns : goal.returns
returns c = c.deref.ensures.value ∙ (sym (concat-cut 0 c.self.inside.ends.items c.self.inside.entries.items c.self.invariant) ∙ ap concat c.self.view_is)
