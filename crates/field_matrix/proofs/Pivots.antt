-- The search for the next pivot.
use Rattle.std.proofs.Common.{◌≡◌, ◌≢◌, ℕ, ◌+◌, ◌<◌, ◌≤◌, List, length, arith, subst}
use native.Mathlib.Decide.{dec_lt}
use Prim.{yes, no}
use Rattle.linear_laws.specs.Vectors.{entry}
use Rattle.field_matrix.specs.Steps.{IsNextPivot, ZerosBetween}

-- the rows from `rank` on that were seen are zero before the column; it is `upto`, or the row is the first that is not zero there
pub record IsBest (rows : List (List ℕ)) (rank begin upto seen row col : ℕ) : Type 0 where
  pub low : begin ≤ col
  pub high : col ≤ upto
  pub zeros : (i j : ℕ) → rank ≤ i → i < seen → begin ≤ j → j < col → entry rows i j ≡ 0
  pub first : col < upto → (rank ≤ row) × (row < length rows) × (entry rows row col ≢ 0) × ((i : ℕ) → rank ≤ i → i < row → entry rows i col ≡ 0)

pub best_none : (rows : List (List ℕ)) (rank begin upto : ℕ) → begin ≤ upto → IsBest rows rank begin upto rank rank upto
best_none rows rank begin upto le = record {
  low = le;
  high = omega arith;
  zeros = λ i j low lt lj hj. absurd (omega (arith, low, lt));
  first = λ lt. absurd (omega (arith, lt));
}

module _ (rows : List (List ℕ)) (rank begin upto seen row col c : ℕ) (h : IsBest rows rank begin upto seen row col) (low : begin ≤ c) (z : (j : ℕ) → begin ≤ j → j < c → entry rows seen j ≡ 0) where
  at_row : (n : ℕ) → ((i j : ℕ) → rank ≤ i → i < seen → begin ≤ j → j < n → entry rows i j ≡ 0) → n ≤ c → (i j : ℕ) → rank ≤ i → i < seen + 1 → begin ≤ j → j < n → entry rows i j ≡ 0
  at_row n before le i j ri lt lj hj =
      elim (dec_lt i seen) [
        | yes l ↦ before i j ri l lj hj
        | no g ↦ let e : seen ≡ i = omega arith in subst (λ (a : ℕ). entry rows a j ≡ 0) e (z j lj (omega arith))
      ]

  -- a row that is zero up to the best column
  pub best_kept : c ≡ col → IsBest rows rank begin upto (seen + 1) row col
  best_kept e = record {
    low = h.low;
    high = h.high;
    zeros = at_row col h.zeros (omega (arith, e));
    first = h.first;
  }

  -- a row that is not zero before it
  pub best_new : rank ≤ seen → seen < length rows → c < col → entry rows seen c ≢ 0 → IsBest rows rank begin upto (seen + 1) seen c
  best_new le within lt ne = record {
    low = low;
    high = omega (arith, h.high);
    zeros = at_row c (λ i j ri li lj hj. h.zeros i j ri li lj (omega arith)) (omega arith);
    first = λ lu. (le, within, ne, λ i ri li. h.zeros i c ri li low lt);
  }

pub best_is : (rows : List (List ℕ)) (rank begin upto seen row col : ℕ) → length rows ≤ seen → IsBest rows rank begin upto seen row col → col < upto → IsNextPivot rows rank begin upto row col
best_is rows rank begin upto seen row col ge h lt =
    let f = h.first lt in
    record {
      low = f.0;
      within = f.1;
      after = h.low;
      before = lt;
      nonzero = f.2;
      first = f.3;
      zeros = λ i j ri li lj hj. h.zeros i j ri (omega arith) lj hj;
    }

pub best_was_none : (rows : List (List ℕ)) (rank begin upto seen row col : ℕ) → length rows ≤ seen → IsBest rows rank begin upto seen row col → upto ≤ col → ZerosBetween rows rank begin upto
best_was_none rows rank begin upto seen row col ge h le i j ri li lj hj = h.zeros i j ri (omega arith) lj (omega arith)
