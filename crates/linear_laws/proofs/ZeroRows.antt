-- Rows that are not zero, among rows of zeros.
use Rattle.std.proofs.Common.{◌≡◌, ◌≢◌, ℕ, zero, suc, ◌+◌, ◌-◌, ◌<◌, ◌≤◌, inl, inr, true, false, Bool, cond, List, [], ◌∷◌, ◌++◌, length, length-append, replicate, get_or, set, append_assoc, refl, ap, sym, ◌∙◌, arith, subst}
use Rattle.std.specs.List.{AllByRecursion}
use Rattle.std.proofs.lemmas.Bool.{cases_Bool}
use Rattle.std.proofs.lemmas.Bool.Decides.{nat_tests}
use Rattle.std.proofs.lemmas.List.{get_or_append_left}
use Rattle.std.proofs.Math.Seq.{set-append_seam}
use Rattle.std.proofs.lemmas.Simd.{length-replicate}
use native.Mathlib.Decide.{dec_lt}
use Prim.{yes, no}
use Rattle.small_field.specs.Field.{Ops, IsField}
use Rattle.linear_laws.specs.Vectors.{IsVector, IsMatrix, InSpan, SameSpan, entry}
use Rattle.linear_laws.specs.Echelon.{is_nonzero, IsReducedTo, IsReducedBelow}
use Rattle.linear_laws.specs.ZeroRows.{nonzero_rows, places_from, nonzero_places, put_rows, among_zeros, ZeroRowsLaws}
use Rattle.linear_laws.proofs.Alls.{all_append}
use Rattle.linear_laws.proofs.Span.{zeros-elements, span_zero, span_rows, same_span, same_span_trans}

-- ---- rows of zeros, and others

pub nonzero_at : (row : List ℕ) (j : ℕ) → get_or row j 0 ≢ 0 → is_nonzero row ≡ true
nonzero_at [] j ne = absurd (ne refl)
nonzero_at (x ∷ row) zero ne = grind (arith, nat_tests)
nonzero_at (x ∷ row) (suc j) ne = let r : is_nonzero row ≡ true = nonzero_at row j ne in grind (arith, nat_tests)

pub zero_row : (row : List ℕ) → ((j : ℕ) → j < length row → get_or row j 0 ≡ 0) → is_nonzero row ≡ false
zero_row [] z = refl
zero_row (x ∷ row) z =
    let x0 : x ≡ 0 = z 0 (omega arith) in
    let r : is_nonzero row ≡ false = zero_row row (λ j lt. z (suc j) (omega arith)) in
    grind (arith, nat_tests)

-- a row with no entry but 0
pub none_is_zeros : (row : List ℕ) → is_nonzero row ≡ false → row ≡ replicate (length row) 0
none_is_zeros [] h = refl
none_is_zeros (x ∷ row) h =
    let parts : (x ≡ 0) × (is_nonzero row ≡ false) = grind (arith, nat_tests) in
    ap (λ (y : ℕ). y ∷ row) parts.0 ∙ ap (λ (r : List ℕ). 0 ∷ r) (none_is_zeros row parts.1)

pub zeros_are_none : (n : ℕ) → is_nonzero (replicate n 0) ≡ false
zeros_are_none zero = refl
zeros_are_none (suc n) = let r : is_nonzero (replicate n 0) ≡ false = zeros_are_none n in grind (arith, nat_tests)

-- ---- one row more in front, and at the end

rows_with : (r : List ℕ) (rows : List (List ℕ)) → is_nonzero r ≡ true → nonzero_rows (r ∷ rows) ≡ r ∷ nonzero_rows rows
rows_with r rows e = ap (λ (b : Bool). cond b (r ∷ nonzero_rows rows) (nonzero_rows rows)) e

rows_without : (r : List ℕ) (rows : List (List ℕ)) → is_nonzero r ≡ false → nonzero_rows (r ∷ rows) ≡ nonzero_rows rows
rows_without r rows e = ap (λ (b : Bool). cond b (r ∷ nonzero_rows rows) (nonzero_rows rows)) e

places_with : (p : ℕ) (r : List ℕ) (rows : List (List ℕ)) → is_nonzero r ≡ true → places_from p (r ∷ rows) ≡ p ∷ places_from (p + 1) rows
places_with p r rows e = ap (λ (b : Bool). cond b (p ∷ []) [] ++ places_from (p + 1) rows) e

places_without : (p : ℕ) (r : List ℕ) (rows : List (List ℕ)) → is_nonzero r ≡ false → places_from p (r ∷ rows) ≡ places_from (p + 1) rows
places_without p r rows e = ap (λ (b : Bool). cond b (p ∷ []) [] ++ places_from (p + 1) rows) e

places_more : (p q : ℕ) (rows : List (List ℕ)) (r : List ℕ) → q ≡ p + length rows → places_from p (rows ++ r ∷ []) ≡ places_from p rows ++ places_from q (r ∷ [])
places_more p q [] r e = ap (λ (n : ℕ). places_from n (r ∷ [])) (let z : p ≡ q = omega arith in z)
places_more p q (s ∷ rows) r e =
    ap (λ (ps : List ℕ). cond (is_nonzero s) (p ∷ []) [] ++ ps) (places_more (p + 1) q rows r (omega arith))
    ∙ sym (append_assoc (cond (is_nonzero s) (p ∷ []) []) (places_from (p + 1) rows) (places_from q (r ∷ [])))

rows_more : (rows : List (List ℕ)) (r : List ℕ) → nonzero_rows (rows ++ r ∷ []) ≡ nonzero_rows rows ++ nonzero_rows (r ∷ [])
rows_more [] r = refl
rows_more (s ∷ rows) r =
    elim (cases_Bool (is_nonzero s)) [
      | inl e ↦ rows_with s (rows ++ r ∷ []) e ∙ (ap (λ (ws : List (List ℕ)). s ∷ ws) (rows_more rows r) ∙ ap (λ (ws : List (List ℕ)). ws ++ nonzero_rows (r ∷ [])) (sym (rows_with s rows e)))
      | inr e ↦ rows_without s (rows ++ r ∷ []) e ∙ (rows_more rows r ∙ ap (λ (ws : List (List ℕ)). ws ++ nonzero_rows (r ∷ [])) (sym (rows_without s rows e)))
    ]

append_none : {A : Type 0} (xs : List A) → xs ++ [] ≡ xs
append_none [] = refl
append_none (x ∷ xs) = ap (λ (ys : List _). x ∷ ys) (append_none xs)

-- a row that is not zero comes to the others, and a row of zeros changes nothing
pub nonzero_last : (rows : List (List ℕ)) (r : List ℕ) → is_nonzero r ≡ true
    → (nonzero_rows (rows ++ r ∷ []) ≡ nonzero_rows rows ++ r ∷ []) × (nonzero_places (rows ++ r ∷ []) ≡ nonzero_places rows ++ length rows ∷ [])
nonzero_last rows r e = (
  rows_more rows r ∙ ap (λ (ws : List (List ℕ)). nonzero_rows rows ++ ws) (rows_with r [] e),
  places_more 0 (length rows) rows r (omega arith) ∙ ap (λ (ps : List ℕ). places_from 0 rows ++ ps) (places_with (length rows) r [] e),
)

pub zeros_last : (rows : List (List ℕ)) (r : List ℕ) → is_nonzero r ≡ false → (nonzero_rows (rows ++ r ∷ []) ≡ nonzero_rows rows) × (nonzero_places (rows ++ r ∷ []) ≡ nonzero_places rows)
zeros_last rows r e = (
  rows_more rows r ∙ (ap (λ (ws : List (List ℕ)). nonzero_rows rows ++ ws) (rows_without r [] e) ∙ append_none (nonzero_rows rows)),
  places_more 0 (length rows) rows r (omega arith) ∙ (ap (λ (ps : List ℕ). places_from 0 rows ++ ps) (places_without (length rows) r [] e) ∙ append_none (places_from 0 rows)),
)

-- ---- how many, and where

pub nonzero_few : (rows : List (List ℕ)) → length (nonzero_rows rows) ≤ length rows
nonzero_few [] = omega arith
nonzero_few (r ∷ rows) =
    let few : length (nonzero_rows rows) ≤ length rows = nonzero_few rows in
    elim (cases_Bool (is_nonzero r)) [
      | inl e ↦ omega (arith, few, ap (λ (ws : List (List ℕ)). length ws) (rows_with r rows e))
      | inr e ↦ omega (arith, few, ap (λ (ws : List (List ℕ)). length ws) (rows_without r rows e))
    ]

places_many : (p : ℕ) (rows : List (List ℕ)) → length (places_from p rows) ≡ length (nonzero_rows rows)
places_many p [] = refl
places_many p (r ∷ rows) =
    elim (cases_Bool (is_nonzero r)) [
      | inl e ↦ ap (λ (ps : List ℕ). length ps) (places_with p r rows e) ∙ (ap suc (places_many (p + 1) rows) ∙ ap (λ (ws : List (List ℕ)). length ws) (sym (rows_with r rows e)))
      | inr e ↦ ap (λ (ps : List ℕ). length ps) (places_without p r rows e) ∙ (places_many (p + 1) rows ∙ ap (λ (ws : List (List ℕ)). length ws) (sym (rows_without r rows e)))
    ]

pub nonzero_many : (rows : List (List ℕ)) → length (nonzero_places rows) ≡ length (nonzero_rows rows)
nonzero_many rows = places_many 0 rows

places_within : (p q : ℕ) (rows : List (List ℕ)) → p + length rows ≤ q → AllByRecursion (λ i. i < q) (places_from p rows)
places_within p q [] le = tt
places_within p q (r ∷ rows) le =
    let rest : AllByRecursion (λ i. i < q) (places_from (p + 1) rows) = places_within (p + 1) q rows (omega arith) in
    elim (cases_Bool (is_nonzero r)) [
      | inl e ↦ subst (AllByRecursion (λ i. i < q)) (sym (places_with p r rows e)) (omega arith, rest)
      | inr e ↦ subst (AllByRecursion (λ i. i < q)) (sym (places_without p r rows e)) rest
    ]

pub nonzero_within : (rows : List (List ℕ)) → AllByRecursion (λ i. i < length rows) (nonzero_places rows)
nonzero_within rows = places_within 0 (length rows) rows (omega arith)

-- ---- rows that are put

pub put_more : (places : List ℕ) (rows old : List (List ℕ)) (p : ℕ) (r : List ℕ) → length places ≡ length rows → put_rows (places ++ p ∷ []) (rows ++ r ∷ []) old ≡ set (put_rows places rows old) p r
put_more [] [] old p r l = refl
put_more [] (s ∷ rows) old p r l = absurd (omega (arith, l))
put_more (q ∷ places) [] old p r l = absurd (omega (arith, l))
put_more (q ∷ places) (s ∷ rows) old p r l = put_more places rows (set old q s) p r (omega (arith, l))

module _ (k : Ops) (f : IsField k) where
  is_zeros : (n : ℕ) (r : List ℕ) → IsVector k n r → is_nonzero r ≡ false → r ≡ replicate n 0
  is_zeros n r v e = none_is_zeros r e ∙ ap (λ (m : ℕ). replicate {A = ℕ} m 0) v.long

  rows_again : (n : ℕ) (front rows : List (List ℕ)) → IsMatrix k n rows → put_rows (places_from (length front) rows) (nonzero_rows rows) (front ++ replicate (length rows) (replicate n 0)) ≡ front ++ rows
  rows_again n front [] a = refl
  rows_again n front (r ∷ rows) a =
      let z : List ℕ = replicate n 0 in
      let zs : List (List ℕ) = replicate (length rows) z in
      let p : ℕ = length front in
      let P : List ℕ = places_from (p + 1) rows in
      let N : List (List ℕ) = nonzero_rows rows in
      let more : length (front ++ r ∷ []) ≡ p + 1 = length-append front (r ∷ []) in
      let rest : put_rows P N (front ++ r ∷ zs) ≡ front ++ r ∷ rows =
      ap (put_rows P N) (sym (append_assoc front (r ∷ []) zs)) ∙ (ap (λ (m : ℕ). put_rows (places_from m rows) N ((front ++ r ∷ []) ++ zs)) (sym more)
      ∙ (rows_again n (front ++ r ∷ []) rows a.1 ∙ append_assoc front (r ∷ []) rows)) in
      elim (cases_Bool (is_nonzero r)) [
        | inl e ↦
            ap (λ (ps : List ℕ). put_rows ps (nonzero_rows (r ∷ rows)) (front ++ z ∷ zs)) (places_with p r rows e)
            ∙ (ap (λ (ws : List (List ℕ)). put_rows (p ∷ P) ws (front ++ z ∷ zs)) (rows_with r rows e) ∙ (ap (put_rows P N) (set-append_seam front z zs r) ∙ rest))
        | inr e ↦
            ap (λ (ps : List ℕ). put_rows ps (nonzero_rows (r ∷ rows)) (front ++ z ∷ zs)) (places_without p r rows e)
            ∙ (ap (λ (ws : List (List ℕ)). put_rows P ws (front ++ z ∷ zs)) (rows_without r rows e)
            ∙ (ap (λ (w : List ℕ). put_rows P N (front ++ w ∷ zs)) (sym (is_zeros n r a.0 e)) ∙ rest))
      ]

  -- the rows that are not zero, at their places among zeros, are all rows
  pub again : (n : ℕ) (rows : List (List ℕ)) → IsMatrix k n rows → among_zeros n (length rows) (nonzero_places rows) (nonzero_rows rows) ≡ rows
  again n rows a = rows_again n [] rows a

  -- ---- their span

  -- what holds of each row holds of those that are not zero
  pub all_nonzero : (P : List ℕ → Type 0) (rows : List (List ℕ)) → AllByRecursion P rows → AllByRecursion P (nonzero_rows rows)
  all_nonzero P [] h = tt
  all_nonzero P (r ∷ rows) h =
      elim (cases_Bool (is_nonzero r)) [
        | inl e ↦ subst (AllByRecursion P) (sym (rows_with r rows e)) (h.0, all_nonzero P rows h.1)
        | inr e ↦ subst (AllByRecursion P) (sym (rows_without r rows e)) (all_nonzero P rows h.1)
      ]

  -- what holds of zeros and of those that are not zero holds of each row
  all_again : (n : ℕ) (P : List ℕ → Type 0) (rows : List (List ℕ)) → IsMatrix k n rows → P (replicate n 0) → AllByRecursion P (nonzero_rows rows) → AllByRecursion P rows
  all_again n P [] a z h = tt
  all_again n P (r ∷ rows) a z h =
      elim (cases_Bool (is_nonzero r)) [
        | inl e ↦ let g : AllByRecursion P (r ∷ nonzero_rows rows) = subst (AllByRecursion P) (rows_with r rows e) h in (g.0, all_again n P rows a.1 z g.1)
        | inr e ↦ (subst P (sym (is_zeros n r a.0 e)) z, all_again n P rows a.1 z (subst (AllByRecursion P) (rows_without r rows e) h))
      ]

  nonzero_span : (n : ℕ) (rows : List (List ℕ)) → IsMatrix k n rows → SameSpan k n rows (nonzero_rows rows)
  nonzero_span n rows a =
      let b : IsMatrix k n (nonzero_rows rows) = all_nonzero (IsVector k n) rows a in
      same_span k f n rows (nonzero_rows rows) a b (all_again n (InSpan k n (nonzero_rows rows)) rows a (span_zero k f n (nonzero_rows rows) b) (span_rows k f n (nonzero_rows rows) b))
      (all_nonzero (InSpan k n rows) rows (span_rows k f n rows a))

  -- ---- rows of zeros at the end

  all_zeros : (n m : ℕ) (P : List ℕ → Type 0) → P (replicate n 0) → AllByRecursion P (replicate m (replicate n 0))
  all_zeros n zero P z = tt
  all_zeros n (suc m) P z = (z, all_zeros n m P z)

  zeros_entry : (n j : ℕ) → get_or (replicate {A = ℕ} n 0) j 0 ≡ 0
  zeros_entry zero j = refl
  zeros_entry (suc n) zero = refl
  zeros_entry (suc n) (suc j) = zeros_entry n j

  zero_entry : (n m i j : ℕ) → entry (replicate m (replicate n 0)) i j ≡ 0
  zero_entry n zero i j = refl
  zero_entry n (suc m) zero j = zeros_entry n j
  zero_entry n (suc m) (suc i) j = zero_entry n m i j

  back_entry : (n m i j : ℕ) (rows : List (List ℕ)) → length rows ≤ i → entry (rows ++ replicate m (replicate n 0)) i j ≡ 0
  back_entry n m i j [] le = zero_entry n m i j
  back_entry n m zero j (r ∷ rows) le = absurd (omega (arith, le))
  back_entry n m (suc i) j (r ∷ rows) le = back_entry n m i j rows (omega (arith, le))

  padded_span : (n m : ℕ) (rows : List (List ℕ)) → IsMatrix k n rows → IsMatrix k n (rows ++ replicate m (replicate n 0)) → SameSpan k n rows (rows ++ replicate m (replicate n 0))
  padded_span n m rows a b =
      same_span k f n rows (rows ++ replicate m (replicate n 0)) a b (all_front (InSpan k n (rows ++ replicate m (replicate n 0))) rows (replicate m (replicate n 0)) (span_rows k f n (rows ++ replicate m (replicate n 0)) b))
      (all_append (InSpan k n rows) rows (replicate m (replicate n 0)) (span_rows k f n rows a) (all_zeros n m (InSpan k n rows) (span_zero k f n rows a)))
    where
      all_front : (P : List ℕ → Type 0) (xs ys : List (List ℕ)) → AllByRecursion P (xs ++ ys) → AllByRecursion P xs
      all_front P [] ys h = tt
      all_front P (x ∷ xs) ys h = (h.0, all_front P xs ys h.1)

  padded : (n rank m : ℕ) (rows before after : List (List ℕ)) → SameSpan k n rows before → length rows ≡ length after + m → IsReducedTo k n rank n before after → IsReducedTo k n rank n rows (after ++ replicate m (replicate n 0))
  padded n rank m rows before after span many h =
      let zs : List (List ℕ) = replicate m (replicate n 0) in
      let all : List (List ℕ) = after ++ zs in
      let r : IsReducedBelow n after h.pivots = h.reduced in
      let few : length h.pivots ≤ length after = r.few in
      let lz : length zs ≡ m = length-replicate m (replicate n 0) in
      let long : length all ≡ length after + m = length-append after zs ∙ ap (λ (j : ℕ). length after + j) lz in
      let vz : IsVector k n (replicate n 0) = record { long = length-replicate n 0; elements = zeros-elements k f n } in
      let matrix : IsMatrix k n all = all_append (IsVector k n) after zs h.matrix (all_zeros n m (IsVector k n) vz) in
      let front : (i j : ℕ) → i < length after → entry all i j ≡ entry after i j = λ i j lt. ap (λ (w : List ℕ). get_or w j 0) (get_or_append_left after zs [] i lt) in
      record {
        matrix = matrix;
        long = long ∙ sym many;
        span = same_span_trans k n rows before all span (same_span_trans k n before after all h.span (padded_span n m after h.matrix matrix));
        pivots = h.pivots;
        rank_is = h.rank_is;
        reduced = record {
          few = omega arith;
          within = r.within;
          rising = r.rising;
          one = λ i lt. front i (get_or h.pivots i 0) (omega arith) ∙ r.one i lt;
          alone = λ i j lt lj ne.
              elim (dec_lt j (length after)) [
                | yes l ↦ front j (get_or h.pivots i 0) l ∙ r.alone i j lt l ne
                | no g ↦ back_entry n m j (get_or h.pivots i 0) after (omega arith)
              ];
          first = λ i j lt lj. front i j (omega arith) ∙ r.first i j lt lj;
          zero = λ i j le lt lj.
              elim (dec_lt i (length after)) [
                | yes l ↦ front i j l ∙ r.zero i j le l lj
                | no g ↦ back_entry n m i j after (omega arith)
              ];
        };
      }

  -- rows of zeros change no rank
  pub same_rank : (n rank : ℕ) (rows after : List (List ℕ)) → IsMatrix k n rows → IsReducedTo k n rank n (nonzero_rows rows) after → (form : List (List ℕ)) × IsReducedTo k n rank n rows form
  same_rank n rank rows after a h =
      let m : ℕ = length rows - length after in
      let few : length (nonzero_rows rows) ≤ length rows = nonzero_few rows in
      let same : length after ≡ length (nonzero_rows rows) = h.long in
      (after ++ replicate m (replicate n 0), padded n rank m rows (nonzero_rows rows) after (nonzero_span n rows a) (omega arith) h)

  pub zero_rows_laws : ZeroRowsLaws k
  zero_rows_laws = record { again = again; rank = same_rank }
