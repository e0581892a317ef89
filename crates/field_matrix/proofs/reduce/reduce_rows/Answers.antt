use Rattle.std.proofs.Common.{◌≡◌, ℕ, ◌+◌, ◌*◌, ◌<◌, ◌≤◌, List, length, arith, sym, ◌∙◌, subst}
use Rattle.linear_laws.specs.Echelon.{IsReducedTo}
use Rattle.field_matrix.specs.Rows.{cut}
use Rattle.field_matrix.specs.Steps.{IsCleared, IsBroughtUp, IsNextPivot}
use Rattle.field_matrix.proofs.Cut.{length-cut}
use Rattle.field_matrix.proofs.Reduced.{reduced_none, reduced_more, zero_before}
use Rattle.field_matrix.proofs.reduce.reduce_rows.Goals as goal

pub bring_up-requires : goal.bring_up-requires
bring_up-requires g c =
    let k = g.F.Field.ops in
    let f = g.met.F.Field.laws in
    let n : ℕ = c.args.shape.rows in
    let cols : ℕ = c.args.shape.cols in
    let rank : ℕ = c.loop-turn.rank in
    let now : List (List ℕ) = cut n cols c.loop-turn.entries in
    let long : length now ≡ n = length-cut n cols c.loop-turn.entries in
    let at : IsNextPivot now rank c.loop-turn.begin c.args.upto c.in-Some.at.row c.in-Some.at.col = c.in-Some.ensures.found in
    record {
      shape = c.loop-turn.auto.entries ∙ c.requires.shape;
      col = omega (arith, at.before, c.requires.upto);
      matrix = c.loop-turn.invariant.reduced.matrix;
      order = at.low;
      here = omega (arith, at.within, long);
      zero = zero_before k f cols rank c.loop-turn.begin c.in-Some.at.col (cut n cols c.args.entries.now) now at.zeros c.loop-turn.invariant.reduced;
      nonzero = at.nonzero;
      first = at.first;
    }

pub clear_column-requires : goal.clear_column-requires
clear_column-requires g c =
    let n : ℕ = c.args.shape.rows in
    let cols : ℕ = c.args.shape.cols in
    let rank : ℕ = c.loop-turn.rank in
    let now : List (List ℕ) = cut n cols c.loop-turn.entries in
    let long : length now ≡ n = length-cut n cols c.loop-turn.entries in
    let at : IsNextPivot now rank c.loop-turn.begin c.args.upto c.in-Some.at.row c.in-Some.at.col = c.in-Some.ensures.found in
    let up : IsBroughtUp g.F.Field.ops cols rank c.in-Some.at.col now (cut n cols c.bring_up.new.entries) = c.bring_up.ensures.up in
    let below : rank < length now = omega (arith, at.low, at.within) in
    record {
      shape = c.bring_up.auto.entries ∙ (c.loop-turn.auto.entries ∙ c.requires.shape);
      rank = omega (arith, below, long);
      col = omega (arith, at.before, c.requires.upto);
      matrix = up.matrix;
      pivot = record { one = up.one; first = λ j lt. up.below rank j (omega arith) below lt };
    }

pub loop-turn-preserved : goal.loop-turn-preserved
loop-turn-preserved g c =
    let k = g.F.Field.ops in
    let f = g.met.F.Field.laws in
    let n : ℕ = c.args.shape.rows in
    let cols : ℕ = c.args.shape.cols in
    let rank : ℕ = c.loop-turn.rank in
    let col : ℕ = c.in-Some.at.col in
    let before : List (List ℕ) = cut n cols c.args.entries.now in
    let now : List (List ℕ) = cut n cols c.loop-turn.entries in
    let up : List (List ℕ) = cut n cols c.bring_up.new.entries in
    let after : List (List ℕ) = cut n cols c.clear_column.new.entries in
    let many : length up ≡ n = length-cut n cols c.bring_up.new.entries in
    let at : IsNextPivot now rank c.loop-turn.begin c.args.upto c.in-Some.at.row col = c.in-Some.ensures.found in
    let cleared : IsCleared k cols rank col (length up) up after = subst (λ (m : ℕ). IsCleared k cols rank col m up after) (sym many) c.clear_column.ensures.cleared in
    let here : IsReducedTo k cols rank col before now = reduced_none k f cols rank c.loop-turn.begin col before now at.after at.zeros c.loop-turn.invariant.reduced in
    record {
      few = omega (arith, c.loop-turn.invariant.few);
      turns = omega (arith, at.after, c.loop-turn.invariant.turns);
      within = omega (arith, at.before);
      reduced = reduced_more k f cols rank col before now up after (omega (arith, at.low, at.within)) here c.bring_up.ensures.up cleared;
      steps =
          let cost : c.loop-turn.steps ≤ c.args.steps.now + n * rank = c.loop-turn.invariant.steps in
          let one : c.bring_up.new.steps ≤ c.loop-turn.steps + 1 = c.bring_up.ensures.steps in
          let more : c.clear_column.new.steps + 1 ≤ c.bring_up.new.steps + n = c.clear_column.ensures.steps in
          omega arith;
    }
