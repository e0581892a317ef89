use Rattle.std.proofs.Common.{◌≡◌, ◌≤◌, ◌<◌, ◌+◌, ℕ, List, length, arith, ◌∙◌, sym, true, below_more, get_or, count_by}
use Rattle.std.proofs.lemmas.List.{get_or_default}
use Rattle.array_values.specs.Arcs.{is_twice, has_column}
use Rattle.array_values.proofs.Rows.{all_from, counted-none, counted-first, twice-is, twice-not}
use Rattle.array_values.proofs.arcs.check_columns.Goals as goal

-- what was read is how many rows have the column
read-is : (rows : List (ℕ × ℕ)) (counts : List ℕ) (c n : ℕ) → ((d : ℕ) → d ≤ length rows → get_or counts d 0 ≡ count_by (has_column d) rows) → length counts ≡ length rows + 1 → c < length counts → n ≡ get_or counts c n → count_by (has_column c) rows ≡ n
read-is rows counts c n h long l e = sym (e ∙ (get_or_default counts c n 0 l ∙ h c (omega arith)))

pub returns-then-index-ne2-clause-err : goal.returns-then-index-ne2-clause-err
returns-then-index-ne2-clause-err c =
    let i : ℕ = c.loop-column.column in
    let lt : i < length c.in_ok-counts.counts.items = omega (arith, c.len-column-end.ensures, c.loop-column-test.true) in
    let is : count_by (has_column i) c.args.rows.now ≡ c.index.result.now = read-is c.args.rows.now c.in_ok-counts.counts.items i c.index.result.now c.in_ok-counts.ensures.counts c.in_ok-counts.ensures.columns lt c.index.ensures in
    λ _. counted-first c.args.rows.now i c.loop-column.invariant c.loop-column.auto.column (omega (arith, c.in_ok-counts.ensures.columns)) (twice-not c.args.rows.now i c.index.result.now is c.if-index-ne2.true)

pub loop-column-preserved : goal.loop-column-preserved
loop-column-preserved c =
    let i : ℕ = c.loop-column.column in
    let lt : i < length c.in_ok-counts.counts.items = omega (arith, c.len-column-end.ensures, c.loop-column-test.true) in
    let is : count_by (has_column i) c.args.rows.now ≡ c.index.result.now = read-is c.args.rows.now c.in_ok-counts.counts.items i c.index.result.now c.in_ok-counts.ensures.counts c.in_ok-counts.ensures.columns lt c.index.ensures in
    let P : ℕ → Type 0 = λ d. 1 ≤ d → is_twice c.args.rows.now d ≡ true in
    let all : (d : ℕ) → d < i + 1 → P d = below_more P i (λ d high low. c.loop-column.invariant d low high) (λ _. twice-is c.args.rows.now i c.index.result.now is c.if-index-ne2.false) in
    λ d low high. all d high low

pub returns-clause-twice : goal.returns-clause-twice
returns-clause-twice c =
    all_from (is_twice c.args.rows.now) 1 (length c.args.rows.now) (λ d low high. c.loop-column.invariant d low (omega (arith, c.in_ok-counts.ensures.columns, c.len-column-end.ensures, c.loop-column-test.false)))

pub returns-clause-ok : goal.returns-clause-ok
returns-clause-ok c =
    counted-none c.args.rows.now (all_from (is_twice c.args.rows.now) 1 (length c.args.rows.now) (λ d low high. c.loop-column.invariant d low (omega (arith, c.in_ok-counts.ensures.columns, c.len-column-end.ensures, c.loop-column-test.false))))
