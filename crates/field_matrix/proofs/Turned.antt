use Rattle.std.proofs.Common.{◌≡◌, ℕ, suc, ◌+◌, ◌-◌, ◌*◌, ◌<◌, ◌≤◌, true, false, List, [], ◌∷◌, ◌++◌, length, length-append, length-drop, take, drop, get_or, Some, append_assoc, append-nil, refl, ap, sym, ◌∙◌, arith, subst}
use Rattle.std.proofs.lemmas.List.{take_more, get_or-take, get_or-drop, get_or_append_left, get_or_default, length-take-le}
use Rattle.std.proofs.Math.Seq.{get_or-append_seam}
use native.Mathlib.Decide.{dec_lt}
use Prim.{yes, no}
use Rattle.lane_rows.specs.Lanes.{first_place}
use Rattle.small_field.specs.Field.{Ops, IsField}
use Rattle.std.proofs.lemmas.List.Elements.{recursion_from_All}
use Rattle.linear_laws.specs.Vectors.{IsVector, IsMatrix, column, row_at}
use Rattle.linear_laws.proofs.CallerLemmas.{nonzero_at, zero_row, all_append, length-column, column_below, one_is_not_zero}
use Rattle.linear_laws.specs.Echelon.{IsReducedBelow, is_nonzero}
use Rattle.field_matrix.specs.Rows.{cut}
use Rattle.field_matrix.specs.Solutions.{above}
use Rattle.field_matrix.proofs.Cut.{length-cut}
use Rattle.field_matrix.proofs.Built.{cut-pushed}
use Rattle.field_matrix.proofs.Chosen.{above_low, above_high, above-more}
use Rattle.field_matrix.proofs.Ranks.{First, first_is}

pub column-append : (j : ℕ) (xs ys : List (List ℕ)) → column j (xs ++ ys) ≡ column j xs ++ column j ys
column-append j [] ys = refl
column-append j (x ∷ xs) ys = ap (λ (w : List ℕ). get_or x j 0 ∷ w) (column-append j xs ys)

-- one more number of a list
pub number_more : (old xs : List ℕ) (i v : ℕ) → i < length xs → v ≡ get_or xs i 0 → (old ++ take i xs) ++ v ∷ [] ≡ old ++ take (i + 1) xs
number_more old xs i v lt is = append_assoc old (take i xs) (v ∷ []) ∙ ap (λ (w : List ℕ). old ++ w) (ap (λ (x : ℕ). take i xs ++ x ∷ []) is ∙ sym (take_more xs i 0 lt))

-- one more row of those that a function gives
pub row_more : (t c : ℕ) (old row : List ℕ) (g : ℕ → List ℕ) → length old ≡ t * c → length row ≡ c → row ≡ g t → ((j : ℕ) → j < t → row_at (cut t c old) j ≡ g j) → (length (old ++ row) ≡ (t + 1) * c) × ((j : ℕ) → j < t + 1 → row_at (cut (t + 1) c (old ++ row)) j ≡ g j)
row_more t c old row g lo lr is h =
    let e : cut (t + 1) c (old ++ row) ≡ cut t c old ++ row ∷ [] = ap (λ (n : ℕ). cut n c (old ++ row)) (let q : t + 1 ≡ suc t = omega arith in q) ∙ cut-pushed t c old row lo lr in
    let lc : length (cut t c old) ≡ t = length-cut t c old in (
      length-append old row ∙ omega arith,
      λ j lt.
          ap (λ (ws : List (List ℕ)). row_at ws j) e
          ∙ elim (dec_lt j t) [
            | yes l ↦ get_or_append_left (cut t c old) (row ∷ []) [] j (omega arith) ∙ h j l
            | no n ↦
                let q : t ≡ j = omega arith in
                subst (λ (i : ℕ). row_at (cut t c old ++ row ∷ []) i ≡ g i) q (subst (λ (i : ℕ). row_at (cut t c old ++ row ∷ []) i ≡ row) lc (get_or-append_seam (cut t c old) row [] []) ∙ is)
          ],
    )

-- the first entry of a row that is not zero
pub first_of_row : (width : ℕ) (rows : List (List ℕ)) (pivots row : List ℕ) (i : ℕ) → row ≡ row_at rows i → length row ≡ width → IsReducedBelow width rows pivots → i < length pivots → First row (get_or pivots i 0)
first_of_row width rows pivots row i is long h lt =
    let p : get_or pivots i 0 < width = h.within i lt in
    record {
      within = omega arith;
      before = λ j lj. ap (λ (w : List ℕ). get_or w j 0) is ∙ h.first i j lt lj;
      here = λ z. one_is_not_zero (sym (h.one i lt) ∙ (ap (λ (w : List ℕ). get_or w (get_or pivots i 0) 0) (sym is) ∙ z));
    }

module _ (begin p : ℕ) (row : List ℕ) (le : begin ≤ length row) (h : First row p) where
  -- it stands before `begin` where the part before that is not zero
  pub low_part : p < begin → is_nonzero (take begin row) ≡ true
  low_part lt = nonzero_at (take begin row) p (λ z. h.here (sym (get_or-take begin row p 0 lt) ∙ z))

  pub high_part : begin ≤ p → is_nonzero (take begin row) ≡ false
  high_part from =
      let l : length (take begin row) ≡ begin = length-take-le begin row le in
      zero_row (take begin row) (λ j lj. let lb : j < begin = omega arith in get_or-take begin row j 0 lb ∙ h.before j (omega arith))

  pub high_place : begin ≤ p → first_place (drop begin row) ≡ Some (p - begin)
  high_place from =
      let within : p < length row = h.within in
      let l : length (drop begin row) ≡ length row - begin = length-drop begin row in
      first_is (drop begin row) (p - begin)
      (record {
        within = omega arith;
        before = λ j lj. get_or-drop begin row j 0 ∙ h.before (begin + j) (omega arith);
        here = λ z. h.here (ap (λ (j : ℕ). get_or row j 0) (let q : p ≡ begin + (p - begin) = omega arith in q) ∙ (sym (get_or-drop begin row (p - begin) 0) ∙ z));
      })

  pub is_high : is_nonzero (take begin row) ≡ false → begin ≤ p
  is_high none =
      elim (dec_lt p begin) [
        | yes l ↦ let no : true ≡ false = sym (low_part l) ∙ none in cc
        | no n ↦ omega arith
      ]

  pub is_low : is_nonzero (take begin row) ≡ true → p < begin
  is_low some =
      elim (dec_lt p begin) [
        | yes l ↦ l
        | no n ↦ let no : true ≡ false = sym some ∙ high_part (omega arith) in cc
      ]

-- one more pivot
pub kept_more : (begin i p : ℕ) (pivots old : List ℕ) → i < length pivots → p ≡ get_or pivots i 0 → p < begin → old ≡ above begin (take i pivots) → old ≡ above begin (take (i + 1) pivots)
kept_more begin i p pivots old lt is low same =
    same ∙ (sym (append-nil (above begin (take i pivots))) ∙ (ap (λ (w : List ℕ). above begin (take i pivots) ++ w) (sym (above_low begin p [] low))
    ∙ (sym (above-more begin p (take i pivots)) ∙ ap (above begin) (ap (λ (x : ℕ). take i pivots ++ x ∷ []) is ∙ sym (take_more pivots i 0 lt)))))

pub pushed_more : (begin i p : ℕ) (pivots old : List ℕ) → i < length pivots → p ≡ get_or pivots i 0 → begin ≤ p → old ≡ above begin (take i pivots) → old ++ (p - begin) ∷ [] ≡ above begin (take (i + 1) pivots)
pushed_more begin i p pivots old lt is high same =
    ap (λ (w : List ℕ). w ++ (p - begin) ∷ []) same ∙ (ap (λ (w : List ℕ). above begin (take i pivots) ++ w) (sym (above_high begin p [] high))
    ∙ (sym (above-more begin p (take i pivots)) ∙ ap (above begin) (ap (λ (x : ℕ). take i pivots ++ x ∷ []) is ∙ sym (take_more pivots i 0 lt))))

module _ (k : Ops) (f : IsField k) where
  -- the columns are rows of elements
  pub turned_matrix : (m s r : ℕ) (sub rows ts : List (List ℕ)) → IsMatrix k m sub → IsMatrix k m rows → length sub ≡ s → length rows ≡ r → length ts ≡ m → ((j : ℕ) → j < m → row_at ts j ≡ column j (sub ++ rows)) → IsMatrix k (s + r) ts
  turned_matrix m s r sub rows ts asub arows ls lr lt columns =
      let a : IsMatrix k m (sub ++ rows) = all_append (IsVector k m) sub rows asub arows in
      recursion_from_All (IsVector k (s + r)) ts
      (λ i d li.
      let l : i < m = omega arith in
      subst (IsVector k (s + r)) (sym (get_or_default ts i d [] li ∙ columns i l))
      (record { long = length-column (sub ++ rows) i ∙ (length-append sub rows ∙ omega arith); elements = column_below k f m i (sub ++ rows) a }))
