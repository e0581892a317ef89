use Rattle.std.proofs.Common.{◌≡◌, ◌≢◌, ℕ, ◌+◌, ◌<◌, ◌≤◌, List, [], ◌∷◌, ◌++◌, length, length-append, get_or, ap, sym, ◌∙◌, arith, subst}
use Rattle.std.proofs.lemmas.List.{get_or_append_left}
use Rattle.std.proofs.Math.Seq.{get_or-append_seam}
use native.Mathlib.Decide.{dec_lt}
use Prim.{yes, no}
use Rattle.small_field.specs.Field.{Ops, IsField}
use Rattle.linear_laws.specs.Vectors.{entry}
use Rattle.linear_laws.specs.Echelon.{IsReducedTo, IsReducedBelow}
use Rattle.linear_laws.proofs.CallerLemmas.{same_span_trans}
use Rattle.field_matrix.specs.Steps.{IsBroughtUp, IsCleared, ZeroBelow, ZerosBetween}

module _ (k : Ops) (f : IsField k) where
  -- the rows from the rank on are zero at the columns that follow too
  pub reduced_none : (cols rank col upto : ℕ) (before after : List (List ℕ)) → col ≤ upto → ZerosBetween after rank col upto → IsReducedTo k cols rank col before after → IsReducedTo k cols rank upto before after
  reduced_none cols rank col upto before after le none h =
      let r : IsReducedBelow col after h.pivots = h.reduced in
      let is : length h.pivots ≡ rank = h.rank_is in
      record {
        matrix = h.matrix;
        long = h.long;
        span = h.span;
        pivots = h.pivots;
        rank_is = h.rank_is;
        reduced = record {
          few = r.few;
          within = λ i lt. let b : get_or h.pivots i 0 < col = r.within i lt in omega arith;
          rising = r.rising;
          one = r.one;
          alone = r.alone;
          first = r.first;
          zero = λ i j l li lj.
              elim (dec_lt j col) [
                | yes b ↦ r.zero i j l li b
                | no m ↦ none i j (omega arith) li (omega arith) lj
              ];
        };
      }

  pub reduced_more : (cols rank col : ℕ) (before now up after : List (List ℕ)) → rank < length now → IsReducedTo k cols rank col before now → IsBroughtUp k cols rank col now up → IsCleared k cols rank col (length up) up after → IsReducedTo k cols (rank + 1) (col + 1) before after
  reduced_more cols rank col before now up after lr h u c =
      let r : IsReducedBelow col now h.pivots = h.reduced in
      let is : length h.pivots ≡ rank = h.rank_is in
      let lu : length up ≡ length now = u.long in
      let la : length after ≡ length up = c.long in
      let ps : List ℕ = h.pivots ++ col ∷ [] in
      let many : length ps ≡ rank + 1 = length-append h.pivots (col ∷ []) ∙ omega arith in
      let old : (i : ℕ) → i < rank → get_or ps i 0 ≡ get_or h.pivots i 0 = λ i lt. get_or_append_left h.pivots (col ∷ []) 0 i (omega arith) in
      let last : get_or ps rank 0 ≡ col = ap (λ (i : ℕ). get_or ps i 0) (sym is) ∙ get_or-append_seam h.pivots col [] 0 in
      let low : (i : ℕ) → i < rank → get_or h.pivots i 0 < col = λ i lt. r.within i (omega arith) in
      let kept : (i j : ℕ) → i < rank → j < col → entry after i j ≡ entry now i j = λ i j lt lj. c.earlier i j lj ∙ ap (λ (v : List ℕ). get_or v j 0) (u.above i lt) in
      let gone : (i j : ℕ) → rank ≤ i → i < length now → j < col → entry after i j ≡ 0 = λ i j le lt lj. c.earlier i j lj ∙ u.below i j le lt lj in
      record {
        matrix = c.matrix;
        long = c.long ∙ (u.long ∙ h.long);
        span = same_span_trans k cols before up after (same_span_trans k cols before now up h.span u.span) c.span;
        pivots = ps;
        rank_is = many;
        reduced = record {
          few = omega arith;
          within = λ i lt.
              elim (dec_lt i rank) [
                | yes b ↦ let p : get_or h.pivots i 0 < col = low i b in let o : get_or ps i 0 ≡ get_or h.pivots i 0 = old i b in omega arith
                | no m ↦ let e : rank ≡ i = omega arith in subst (λ (z : ℕ). get_or ps z 0 < col + 1) e (omega arith)
              ];
          rising = λ i j l lt.
              elim (dec_lt j rank) [
                | yes b ↦
                    let lo : get_or h.pivots i 0 < get_or h.pivots j 0 = r.rising i j l (omega arith) in
                    let oi : get_or ps i 0 ≡ get_or h.pivots i 0 = old i (omega arith) in
                    let oj : get_or ps j 0 ≡ get_or h.pivots j 0 = old j b in
                    omega arith
                | no m ↦
                    let e : rank ≡ j = omega arith in
                    let p : get_or h.pivots i 0 < col = low i (omega arith) in
                    let oi : get_or ps i 0 ≡ get_or h.pivots i 0 = old i (omega arith) in
                    subst (λ (z : ℕ). get_or ps i 0 < get_or ps z 0) e (omega arith)
              ];
          one = λ i lt.
              elim (dec_lt i rank) [
                | yes b ↦ ap (entry after i) (old i b) ∙ (kept i (get_or h.pivots i 0) b (low i b) ∙ r.one i (omega arith))
                | no m ↦
                    let e : rank ≡ i = omega arith in
                    subst (λ (z : ℕ). entry after z (get_or ps z 0) ≡ 1) e (ap (entry after rank) last ∙ (ap (λ (v : List ℕ). get_or v col 0) c.kept ∙ u.one))
              ];
          alone = λ i j lt lj ne.
              elim (dec_lt i rank) [
                | yes b ↦
                    ap (entry after j) (old i b)
                    ∙ elim (dec_lt j rank) [
                      | yes d ↦ kept j (get_or h.pivots i 0) d (low i b) ∙ r.alone i j (omega arith) (omega arith) ne
                      | no d ↦ gone j (get_or h.pivots i 0) (omega arith) (omega arith) (low i b)
                    ]
                | no m ↦
                    let e : rank ≡ i = omega arith in
                    let nr : j ≢ rank = λ q. ne (q ∙ e) in
                    subst (λ (z : ℕ). entry after j (get_or ps z 0) ≡ 0) e (ap (entry after j) last ∙ c.clear j (omega arith) (omega arith) nr)
              ];
          first = λ i j lt l.
              elim (dec_lt i rank) [
                | yes b ↦
                    let o : get_or ps i 0 ≡ get_or h.pivots i 0 = old i b in
                    let p : get_or h.pivots i 0 < col = low i b in
                    kept i j b (omega arith) ∙ r.first i j (omega arith) (omega arith)
                | no m ↦
                    let e : i ≡ rank = omega arith in
                    let o : get_or ps i 0 ≡ col = ap (λ (z : ℕ). get_or ps z 0) e ∙ last in
                    gone i j (omega arith) (omega arith) (omega arith)
              ];
          zero = λ i j l li lj.
              elim (dec_lt j col) [
                | yes b ↦ gone i j (omega arith) (omega arith) b
                | no m ↦
                    let e : col ≡ j = omega arith in
                    let nr : i ≢ rank = omega arith in
                    subst (λ (z : ℕ). entry after i z ≡ 0) e (c.clear i (omega arith) (omega arith) nr)
              ];
        };
      }

  -- the rows from the rank on are zero before the next pivot
  pub zero_before : (cols rank begin col : ℕ) (before after : List (List ℕ)) → ZerosBetween after rank begin col → IsReducedTo k cols rank begin before after → ZeroBelow rank col after
  zero_before cols rank begin col before after none h i j le lt lj =
      let is : length h.pivots ≡ rank = h.rank_is in
      elim (dec_lt j begin) [
        | yes b ↦ h.reduced.zero i j (omega arith) lt b
        | no m ↦ none i j le lt (omega arith) lj
      ]
