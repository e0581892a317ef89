use Rattle.std.proofs.Common.{◌≡◌, ◌+◌, ◌∙◌, ap, sym, ℕ, length, arith, get_or, set, length-set, true, get_or-set_other}
use Rattle.std.proofs.lemmas.List.{get_or_default}
use Rattle.array_values.specs.Arcs.{is_row}
use Rattle.number_lists.proofs.CallerLemmas.{all-In, at-In}
use Rattle.array_values.proofs.Rows.{IsPair, row-pair, count-small, count-more}
use Rattle.array_values.proofs.arcs.count_columns.Goals as goal

pub overflow_add-index_mut : goal.overflow_add-index_mut
overflow_add-index_mut c =
    let i : ℕ = c.loop-left.left-index in
    let p : ℕ × ℕ = get_or c.args.rows.now i (0, 0) in
    let row : is_row (length c.args.rows.now) p ≡ true = all-In (is_row (length c.args.rows.now)) c.requires.rows (at-In c.args.rows.now i (0, 0) c.loop-left-test.true) in
    let pair : IsPair (length c.args.rows.now) p.0 p.1 = row-pair (length c.args.rows.now) p row in
    let at : get_or c.loop-left.counts.items p.0 c.index_mut.result.now ≡ get_or c.loop-left.counts.items p.0 0 = get_or_default c.loop-left.counts.items p.0 c.index_mut.result.now 0 (omega (arith, pair.left, c.loop-left.invariant.long)) in
    omega (arith, c.index_mut.ensures.value, c.loop-left.invariant.counts p.0 pair.left, count-small c.args.rows.now p.0 i c.loop-left-test.true, c.requires.few)

pub overflow_add-index_mut-in-loop-left : goal.overflow_add-index_mut-in-loop-left
overflow_add-index_mut-in-loop-left c =
    let i : ℕ = c.loop-left.left-index in
    let p : ℕ × ℕ = get_or c.args.rows.now i (0, 0) in
    let row : is_row (length c.args.rows.now) p ≡ true = all-In (is_row (length c.args.rows.now)) c.requires.rows (at-In c.args.rows.now i (0, 0) c.loop-left-test.true) in
    let pair : IsPair (length c.args.rows.now) p.0 p.1 = row-pair (length c.args.rows.now) p row in
    let other : get_or (set c.loop-left.counts.items p.0 (c.index_mut.result.now + 1)) p.1 0 ≡ get_or c.loop-left.counts.items p.1 0 = get_or-set_other c.loop-left.counts.items p.0 p.1 (c.index_mut.result.now + 1) 0 (λ e. pair.differ (sym e)) in
    let x : ℕ = c.index_mut.result.now + 1 in
    let y : ℕ = c.index_mut-in-loop-left.result.now in
    let at : get_or (set c.loop-left.counts.items p.0 x) p.1 y ≡ get_or (set c.loop-left.counts.items p.0 x) p.1 0 = get_or_default (set c.loop-left.counts.items p.0 x) p.1 y 0 (omega (arith, pair.right, c.loop-left.invariant.long, length-set c.loop-left.counts.items p.0 x)) in
    omega (arith, c.index_mut-in-loop-left.ensures.value, c.loop-left.invariant.counts p.1 pair.right, count-small c.args.rows.now p.1 i c.loop-left-test.true, c.requires.few)

pub loop-left-preserved : goal.loop-left-preserved
loop-left-preserved c =
    let i : ℕ = c.loop-left.left-index in
    let p : ℕ × ℕ = get_or c.args.rows.now i (0, 0) in
    let row : is_row (length c.args.rows.now) p ≡ true = all-In (is_row (length c.args.rows.now)) c.requires.rows (at-In c.args.rows.now i (0, 0) c.loop-left-test.true) in
    let pair : IsPair (length c.args.rows.now) p.0 p.1 = row-pair (length c.args.rows.now) p row in
    let x : ℕ = c.index_mut.result.now + 1 in
    let y : ℕ = c.index_mut-in-loop-left.result.now + 1 in
    let other : get_or (set c.loop-left.counts.items p.0 x) p.1 0 ≡ get_or c.loop-left.counts.items p.1 0 = get_or-set_other c.loop-left.counts.items p.0 p.1 x 0 (λ e. pair.differ (sym e)) in
    let first : get_or c.loop-left.counts.items p.0 c.index_mut.result.now ≡ get_or c.loop-left.counts.items p.0 0 = get_or_default c.loop-left.counts.items p.0 c.index_mut.result.now 0 (omega (arith, pair.left, c.loop-left.invariant.long)) in
    let second : get_or (set c.loop-left.counts.items p.0 x) p.1 c.index_mut-in-loop-left.result.now ≡ get_or (set c.loop-left.counts.items p.0 x) p.1 0 = get_or_default (set c.loop-left.counts.items p.0 x) p.1 c.index_mut-in-loop-left.result.now 0 (omega (arith, pair.right, c.loop-left.invariant.long, length-set c.loop-left.counts.items p.0 x)) in
    record {
      long = length-set (set c.loop-left.counts.items p.0 x) p.1 y ∙ (length-set c.loop-left.counts.items p.0 x ∙ c.loop-left.invariant.long);
      counts = λ d small. count-more c.args.rows.now c.loop-left.counts.items i x y d c.loop-left-test.true row c.loop-left.invariant.long c.loop-left.invariant.counts
          (ap (λ (n : ℕ). n + 1) (c.index_mut.ensures.value ∙ first)) (ap (λ (n : ℕ). n + 1) (c.index_mut-in-loop-left.ensures.value ∙ (second ∙ other))) small;
    }
