use Rattle.std.proofs.Common.{ap, ◌∙◌, sym, length}
use Rattle.number_lists.proofs.Cuts.{length-cut}
use Rattle.number_lists.proofs.lists.Lists.len.Goals as goal

pub returns : goal.returns
returns c = c.len.ensures ∙ (c.self.inside.ends.ok.0 ∙ (sym (length-cut 0 c.self.inside.ends.items c.self.inside.entries.items) ∙ ap length c.self.view_is))
