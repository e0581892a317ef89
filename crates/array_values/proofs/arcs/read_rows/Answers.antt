use Rattle.std.proofs.Common.{◌≡◌, ◌<◌, ◌+◌, ◌++◌, ◌∷◌, [], ◌∙◌, ap, sym, List, ℕ, length, arith, Ok, Bool, true, ◌&&◌}
use Rattle.std.proofs.lemmas.Result.{err_from_is_err_and}
use Rattle.gap_text.specs.Nest.{view}
use Rattle.gap_text.specs.Value.{Value}
use Rattle.array_values.specs.Arcs.{is_row, row_of}
use Rattle.std.specs.List.{list_all}
use Rattle.std.proofs.lemmas.List.Folds.{list_all-append}
use Rattle.array_values.proofs.Gather.{gather-more, gather-fault}
use Rattle.array_values.proofs.arcs.read_rows.Goals as goal

-- the row with the number i + 1
at_next : (k m i : ℕ) (v : Value) → m ≡ k → row_of k (1 + i) v ≡ row_of m (i + 1) v
at_next k m i v h = ap (λ (n : ℕ). row_of k n v) (let e : 1 + i ≡ i + 1 = omega arith in e) ∙ ap (λ (n : ℕ). row_of n (i + 1) v) (sym h)

pub returns-in_err-read_row-clause-err : goal.returns-in_err-read_row-clause-err
returns-in_err-read_row-clause-err c =
    let p = err_from_is_err_and c.from_residual.result c.from_residual.ensures.1 in
    let k : ℕ = length c.args.items.now in
    let i : ℕ = c.loop-index.index in
    let lt : i < k = omega (arith, c.len-index-end.ensures, c.loop-index-test.true) in
    rw (p.1, p.2) (λ _. gather-fault 1 (row_of k) c.args.items.now i (view c.get.result.now) c.loop-index.rows.items c.in_err-read_row.field-0.0 lt c.get.ensures c.loop-index.invariant.read
    (at_next k c.len.result i (view c.get.result.now) c.len.ensures ∙ c.in_err-read_row.ensures.err))

more_pairs : (k : ℕ) (rows new : List (ℕ × ℕ)) (p : ℕ × ℕ) → new ≡ rows ++ p ∷ [] → list_all (is_row k) rows ≡ true → is_row k p ≡ true → list_all (is_row k) new ≡ true
more_pairs k rows new p e h row =
    ap (list_all (is_row k)) e ∙ (list_all-append (is_row k) rows (p ∷ []) ∙ (ap (λ (b : Bool). b && (is_row k p && true)) h ∙ ap (λ (b : Bool). b && true) row))

pub loop-index-preserved : goal.loop-index-preserved
loop-index-preserved c =
    let k : ℕ = length c.args.items.now in
    let i : ℕ = c.loop-index.index in
    let p : ℕ × ℕ = c.in_ok-read_row.field-0 in
    let lt : i < k = omega (arith, c.len-index-end.ensures, c.loop-index-test.true) in
    record {
      read = gather-more 1 (row_of k) c.args.items.now i (view c.get.result.now) c.loop-index.rows.items (p ∷ []) lt c.get.ensures c.loop-index.invariant.read
          (at_next k c.len.result i (view c.get.result.now) c.len.ensures ∙ c.in_ok-read_row.ensures.ok)
          ∙ ap (λ (rows : List (ℕ × ℕ)). Ok rows) (sym c.in_ok-push.ensures.items);
      len = omega (arith, c.loop-index.invariant.len, c.in_ok-push.ensures.len);
      pairs = more_pairs k c.loop-index.rows.items c.push.new.self.items p c.in_ok-push.ensures.items c.loop-index.invariant.pairs (ap (λ (n : ℕ). is_row n p) (sym c.len.ensures) ∙ c.in_ok-read_row.ensures.pair);
    }
