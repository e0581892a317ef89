-- Two steps of the coboundary of a signed set give zero: sums of signs that cancel in the integers cancel in each field.
use Rattle.std.proofs.Common.{◌≡◌, ℕ, zero, suc, ◌+◌, ◌-◌, ◌≤◌, ◌<◌, List, [], ◌∷◌, Bool, true, false, cond, length, map, replicate, get_or, refl, ap, sym, ◌∙◌, arith, subst, All}
use Rattle.std.specs.Prelude.{ℤ, pos, negsuc, ◌+ℤ◌, ◌*ℤ◌}
use Rattle.std.specs.List.{AllByRecursion}
use Rattle.std.proofs.Math.IntN.{suc_ℤ, +ℤ_comm, +ℤ_assoc, +ℤ_idl, +ℤ_one}
use Rattle.std.proofs.lemmas.List.FromFn.{length-map-range_with_len, get_or-map-range_with_len}
use Rattle.small_field.specs.Field.{Ops, IsField}
use Rattle.small_field.proofs.CallerLemmas.{add_zero, mul_zero, neg_add, neg_neg, mul_neg, neg_mul}
use Rattle.linear_laws.specs.Vectors.{combination, column, dot, IsMatrix}
use Rattle.linear_laws.proofs.CallerLemmas.{zeros_of_dots}
use Rattle.number_lists.proofs.CallerLemmas.{length-upto}
use Rattle.face_poset.specs.Words.{upto, holds}
use Rattle.face_poset.specs.Poset.{Layers, count, facets_of, IsSpace, IsCell}
use Rattle.face_poset.specs.Signs.{sign_of, sum_to, SignsCancel}
use Rattle.pair_stages.specs.Columns.{sum_on, rows_from, AreColumns}
use Rattle.pair_stages.specs.Signed.{sign_element, signed_entry, signed_rows}
use Rattle.pair_stages.proofs.ColumnLemmas.{dot_column, rows_matrix, sum_below}
use Rattle.pair_stages.proofs.SignedLemmas.{rows_signed, columns_signed, facet_cell}

all_map : (P : List ℕ → Type 0) (g : ℕ → List ℕ) → ((x : ℕ) → P (g x)) → (xs : List ℕ) → AllByRecursion P (map g xs)
all_map P g h [] = tt
all_map P g h (x ∷ xs) = (h x, all_map P g h xs)

module _ (F : Ops) (L : IsField F) where
  -- ---- an integer as an element

  times : ℕ → ℕ
  times zero = 0
  times (suc n) = F.add 1 (times n)

  image : ℤ → ℕ
  image (pos n) = times n
  image (negsuc n) = F.neg (F.add 1 (times n))

  back : (t : ℕ) → F.neg t ≡ F.add 1 (F.neg (F.add 1 t))
  back t =
      sym (L.zero_add (F.neg t) (L.neg_below t))
      ∙ (ap (λ z. F.add z (F.neg t)) (sym (L.add_neg 1)) ∙ (L.add_assoc 1 (F.neg 1) (F.neg t) ∙ ap (F.add 1) (sym (neg_add F L 1 t))))

  image_suc : (z : ℤ) → image (suc_ℤ z) ≡ F.add 1 (image z)
  unfolding times image
  image_suc (pos n) = refl
  image_suc (negsuc zero) = sym (L.add_neg 1) ∙ ap (λ z. F.add 1 (F.neg z)) (sym (add_zero F L 1 L.one_below))
  image_suc (negsuc (suc n)) = back (F.add 1 (times n))

  image_below : (z : ℤ) → image z < F.size
  unfolding times image
  image_below (pos zero) = let o : 1 < F.size = L.one_below in omega (arith, o)
  image_below (pos (suc n)) = L.add_below 1 (times n)
  image_below (negsuc n) = L.neg_below (F.add 1 (times n))

  plus_one : (z : ℤ) → image (pos 1 +ℤ z) ≡ F.add 1 (image z)
  plus_one z = ap image (+ℤ_comm (pos 1) z ∙ +ℤ_one z) ∙ image_suc z

  minus_one : (z : ℤ) → image (negsuc 0 +ℤ z) ≡ F.add (F.neg 1) (image z)
  minus_one z =
      let up : pos 1 +ℤ (negsuc 0 +ℤ z) ≡ z = sym (+ℤ_assoc (pos 1) (negsuc 0) z) ∙ +ℤ_idl z in
      let e : F.add 1 (image (negsuc 0 +ℤ z)) ≡ image z = sym (plus_one (negsuc 0 +ℤ z)) ∙ ap image up in
      sym (L.zero_add (image (negsuc 0 +ℤ z)) (image_below (negsuc 0 +ℤ z)))
      ∙ (ap (λ t. F.add t (image (negsuc 0 +ℤ z))) (sym (L.add_neg 1) ∙ L.add_comm 1 (F.neg 1)) ∙ (L.add_assoc (F.neg 1) 1 (image (negsuc 0 +ℤ z)) ∙ ap (F.add (F.neg 1)) e))

  -- a product of two signs, and something
  product_is : (a b : Bool) (z : ℤ) → image ((sign_of a *ℤ sign_of b) +ℤ z) ≡ F.add (F.mul (sign_element F a) (sign_element F b)) (image z)
  product_is true true z =
      plus_one z ∙ ap (λ t. F.add t (image z)) (sym (neg_mul F L 1 (F.neg 1) ∙ (ap F.neg (L.one_mul (F.neg 1) (L.neg_below 1)) ∙ neg_neg F L 1 L.one_below)))
  product_is true false z = minus_one z ∙ ap (λ t. F.add t (image z)) (sym (neg_mul F L 1 1 ∙ ap F.neg (L.one_mul 1 L.one_below)))
  product_is false true z = minus_one z ∙ ap (λ t. F.add t (image z)) (sym (L.one_mul (F.neg 1) (L.neg_below 1)))
  product_is false false z = plus_one z ∙ ap (λ t. F.add t (image z)) (sym (L.one_mul 1 L.one_below))

  module _ (space : Layers) (negative : ℕ → ℕ → ℕ → Bool) where
    -- the sum over some facets
    sum_is : (dim below cell target : ℕ) (y : List ℕ) → dim - 1 ≡ below → (fs : List ℕ)
        → ((i : ℕ) → i < length fs → get_or y (get_or fs i 0 - 1) 0 ≡ cond (holds (facets_of space below (get_or fs i 0)) target) (sign_element F (negative below (get_or fs i 0) target)) 0)
        → sum_on F fs (map (λ f. sign_element F (negative dim cell f)) fs) y ≡ image (sum_to space negative dim cell target fs)
    unfolding image times
    sum_is dim below cell target y e [] h = refl
    sum_is dim below cell target y e (f ∷ fs) h =
        let s : ℕ = sign_element F (negative dim cell f) in
        let rest : ℕ = sum_on F fs (map (λ g. sign_element F (negative dim cell g)) fs) y in
        let again : rest ≡ image (sum_to space negative dim cell target fs) = sum_is dim below cell target y e fs (λ i lt. h (suc i) (omega (arith, lt))) in
        ap (λ v. F.add (F.mul s v) rest) (h 0 (omega arith))
        ∙ (by (holds (facets_of space below f) target) (negative dim cell f) (negative below f target) rest (sum_to space negative dim cell target fs) again (sum_below F L fs (map (λ g. sign_element F (negative dim cell g)) fs) y)
        ∙ ap
        (λ d. image (cond (holds (facets_of space d f) target) ((sign_of (negative dim cell f) *ℤ sign_of (negative d f target)) +ℤ sum_to space negative dim cell target fs) (sum_to space negative dim cell target fs)))
        (sym e))
      where
        by : (b x y : Bool) (r : ℕ) (z : ℤ) → r ≡ image z → r < F.size → F.add (F.mul (sign_element F x) (cond b (sign_element F y) 0)) r ≡ image (cond b ((sign_of x *ℤ sign_of y) +ℤ z) z)
        by true x y r z q l = ap (F.add (F.mul (sign_element F x) (sign_element F y))) q ∙ sym (product_is x y z)
        by false x y r z q l = ap (λ t. F.add t r) (mul_zero F L (sign_element F x)) ∙ (L.zero_add r l ∙ q)

    module _ (S : IsSpace space) (C : SignsCancel space negative) (degree : ℕ) where
      abbrev n : ℕ
      n = count space (degree + 1)

      abbrev m : ℕ
      m = count space (degree + 1 + 1)

      abbrev css : List (List ℕ)
      css = map (facets_of space (degree + 1 + 1)) (upto m)

      abbrev vss : List (List ℕ)
      vss = map (λ cell. map (λ facet. sign_element F (negative (degree + 1 + 1) cell facet)) (facets_of space (degree + 1 + 1) cell)) (upto m)

      abbrev row : ℕ → List ℕ
      row lower = map (signed_entry F space negative degree lower) (upto n)

      are : AreColumns F n css vss
      are = columns_signed F L space negative (degree + 1) S

      many : length css ≡ m
      many = length-map-range_with_len (facets_of space (degree + 1 + 1)) 1 m

      at_column : (lower j : ℕ) → j < m → dot F (row lower) (column j (rows_from n css vss)) ≡ 0
      unfolding image times
      at_column lower j lt =
          let cell : ℕ = j + 1 in
          let fs : List ℕ = facets_of space (degree + 1 + 1) cell in
          let c : IsCell n fs = facet_cell F L space negative (degree + 1) S cell (omega arith) (omega arith) in
          let p : get_or css j [] ≡ fs = get_or-map-range_with_len (facets_of space (degree + 1 + 1)) 1 m j cell [] lt (omega arith) in
          let q : get_or vss j [] ≡ map (λ f. sign_element F (negative (degree + 1 + 1) cell f)) fs =
          get_or-map-range_with_len (λ b. map (λ facet. sign_element F (negative (degree + 1 + 1) b facet)) (facets_of space (degree + 1 + 1) b)) 1 m j cell [] lt (omega arith) in
          dot_column F L n css vss j (row lower) are (omega (arith, many, lt)) (length-map-range_with_len (signed_entry F space negative degree lower) 1 n)
          ∙ (ap (λ cs. sum_on F cs (get_or vss j []) (row lower)) p
          ∙ (ap (λ vs. sum_on F fs vs (row lower)) q
          ∙ (sum_is (degree + 1 + 1) (degree + 1) cell lower (row lower) (omega arith) fs
          (λ i li.
          let f : ℕ = get_or fs i 0 in
          let w : (1 ≤ f) × (f ≤ n) = c.within i 0 li in
          get_or-map-range_with_len (signed_entry F space negative degree lower) 1 n (f - 1) f 0 (omega (arith, w.0, w.1)) (omega (arith, w.0)))
          ∙ ap image (C (degree + 1 + 1) cell lower (omega arith) (omega arith) (omega arith)))))

      -- two steps give zero
      pub closed_at : AllByRecursion (λ r. combination F (count space (degree + 1 + 1)) r (signed_rows F space negative (degree + 1)) ≡ replicate (count space (degree + 1 + 1)) 0) (signed_rows F space negative degree)
      closed_at =
          let same : rows_from n css vss ≡ signed_rows F space negative (degree + 1) = rows_signed F L space negative (degree + 1) in
          let matrix : IsMatrix F m (rows_from n css vss) = subst (λ k. IsMatrix F k (rows_from n css vss)) many (rows_matrix F L n css vss are) in
          all_map (λ r. combination F m r (signed_rows F space negative (degree + 1)) ≡ replicate m 0) row
          (λ lower. ap (combination F m (row lower)) (sym same) ∙ zeros_of_dots F L m (row lower) (rows_from n css vss) matrix (λ j lt. at_column lower j lt))
          (upto (count space degree))
