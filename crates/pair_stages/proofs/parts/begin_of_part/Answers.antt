use Rattle.std.proofs.Common.{◌≡◌, ◌≤◌, ◌<◌, ◌-◌, ℕ, length, get_or, arith, ap, ◌∙◌, sym, suc, zero, refl, List, ◌≢◌}
use Rattle.number_lists.specs.Cuts.{begin_of}
use Rattle.pair_stages.proofs.Cuts.{begin_first, begin_next, part_within}
use Rattle.pair_stages.proofs.parts.begin_of_part.Goals as goal

begin_after : (ends : List ℕ) (i : ℕ) → i ≢ 0 → i < length ends → get_or ends (i - 1) 0 ≡ begin_of 0 ends i
begin_after ends zero ne lt = absurd (ne refl)
begin_after ends (suc i) ne lt = ap (λ (j : ℕ). get_or ends j 0) (omega arith) ∙ sym (begin_next 0 ends i (omega arith))

pub returns-then-index-eq0 : goal.returns-then-index-eq0
returns-then-index-eq0 c =
    let w = part_within 0 c.args.ends.now c.args.total c.args.index c.requires.cut c.requires.index in
    record {
      begin = sym (ap (begin_of 0 c.args.ends.now) c.if-index-eq0.true ∙ begin_first 0 c.args.ends.now);
      low = omega arith;
      high = w.1;
    }

pub returns-else-index-eq0 : goal.returns-else-index-eq0
returns-else-index-eq0 c =
    let w : (begin_of 0 c.args.ends.now c.args.index ≤ get_or c.args.ends.now c.args.index 0) × (get_or c.args.ends.now c.args.index 0 ≤ c.args.total) = part_within 0 c.args.ends.now c.args.total c.args.index c.requires.cut c.requires.index in
    let e : get_or c.args.ends.now (c.args.index - 1) 0 ≡ begin_of 0 c.args.ends.now c.args.index = begin_after c.args.ends.now c.args.index c.if-index-eq0.false c.requires.index in
    record {
      begin = e;
      low = omega arith;
      high = w.1;
    }
