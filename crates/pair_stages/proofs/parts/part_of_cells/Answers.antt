use Rattle.std.proofs.Common.{ℕ, get_or, ap, ◌∙◌, sym, ◌-◌, take, drop}
use Rattle.pair_stages.proofs.Cuts.{get_or-cut}
use Rattle.pair_stages.proofs.parts.part_of_cells.Goals as goal

pub returns : goal.returns
returns c =
    ap (λ (s : ℕ). take (get_or c.args.ends.now c.args.index 0 - s) (drop s c.args.cells.now)) c.begin_of_part-start.ensures.begin
    ∙ sym (get_or-cut 0 c.args.ends.now c.args.cells.now c.args.index c.requires.index)
