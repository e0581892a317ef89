use Rattle.std.proofs.Common.{◌≡◌, ℕ, ◌<◌, ◌+◌, ◌++◌, ◌∷◌, [], List, length, length-set, set, take, get_or, sym, ap, ◌∙◌, arith}
use Rattle.std.proofs.lemmas.List.{take_more, length-take-le}
use Rattle.linear_laws.specs.Vectors.{row_at}
use Rattle.linear_laws.specs.ZeroRows.{put_rows}
use Rattle.linear_laws.proofs.CallerLemmas.{put_more}
use Rattle.field_matrix.proofs.zero_rows.put_rows.Goals as goal

one_more : (places : List ℕ) (rows old now new : List (List ℕ)) (i : ℕ) → length places ≡ length rows → i < length rows → now ≡ put_rows (take i places) (take i rows) old → new ≡ set now (get_or places i 0) (row_at rows i)
    → new ≡ put_rows (take (i + 1) places) (take (i + 1) rows) old
one_more places rows old now new i l lt h e =
    let p : ℕ = get_or places i 0 in
    let r : List ℕ = row_at rows i in
    let lp : length (take i places) ≡ i = length-take-le i places (omega arith) in
    let lr : length (take i rows) ≡ i = length-take-le i rows (omega arith) in
    e
    ∙ (ap (λ (ws : List (List ℕ)). set ws p r) h
    ∙ (sym (put_more (take i places) (take i rows) old p r (lp ∙ sym lr))
    ∙ (ap (λ (ps : List ℕ). put_rows ps (take i rows ++ r ∷ []) old) (sym (take_more places i 0 (omega arith))) ∙ ap (λ (ws : List (List ℕ)). put_rows (take (i + 1) places) ws old) (sym (take_more rows i [] lt)))))

pub loop-index-preserved : goal.loop-index-preserved
loop-index-preserved g c =
    let i : ℕ = c.loop-index.index in
    let lt : i < length c.args.from.now.rows = omega (arith, c.loop-index-test.true, c.rows-index-end.ensures.rows) in
    record {
      cols = c.put_row.ensures.cols ∙ c.loop-index.invariant.cols;
      long = ap (λ (ws : List (List ℕ)). length ws) c.put_row.ensures.rows ∙ (length-set c.loop-index.whole.rows (get_or c.args.places.now i 0) (row_at c.args.from.now.rows i) ∙ c.loop-index.invariant.long);
      rows = one_more c.args.places.now c.args.from.now.rows c.args.whole.now.rows c.loop-index.whole.rows c.put_row.new.self.rows i c.requires.each lt c.loop-index.invariant.rows c.put_row.ensures.rows;
    }
