use Rattle.std.proofs.Common.{◌≡◌, ℕ, zero, suc, ◌+◌, ◌-◌, ◌<◌, ◌≤◌, ◌⊎◌, inl, inr, List, [], ◌∷◌, length, take, drop, replicate, length-drop, refl, ap, sym, ◌∙◌, arith, subst}
use Rattle.std.specs.List.{AllByRecursion}
use Rattle.std.proofs.lemmas.List.{length-take-le, take-replicate, drop-replicate, nil_from_length}
use Rattle.small_field.specs.Field.{Ops, IsField}
use Rattle.linear_laws.specs.Marks.{lefts, rights}
use Rattle.linear_laws.specs.Vectors.{IsVector, IsMatrix, plus_scaled, combination, InSpan, IsIndependent}
use Rattle.linear_laws.proofs.Span.{combination-vector, span_rows, span_all_more, zeros_plus}
use Rattle.linear_laws.proofs.Dimension.{in_span_or_not, no_more}
use Rattle.linear_laws.proofs.Betti.{in_span_trans}
use Rattle.linear_laws.proofs.Alls.{all_weaker, all_take, all_drop}

pub drop_zeros : (m n : ℕ) → drop m (replicate {A = ℕ} (m + n) 0) ≡ replicate n 0
drop_zeros m n = drop-replicate m (m + n) 0 ∙ ap (λ (j : ℕ). replicate {A = ℕ} j 0) (let e : m + n - m ≡ n = omega arith in e)

module _ (k : Ops) (f : IsField k) where
  pub take-plus_scaled : (m s : ℕ) (xs ys : List ℕ) → take m (plus_scaled k s xs ys) ≡ plus_scaled k s (take m xs) (take m ys)
  take-plus_scaled zero s xs ys = refl
  take-plus_scaled (suc m) s [] ys = refl
  take-plus_scaled (suc m) s (x ∷ xs) [] = refl
  take-plus_scaled (suc m) s (x ∷ xs) (y ∷ ys) = ap (λ (r : List ℕ). k.add x (k.mul s y) ∷ r) (take-plus_scaled m s xs ys)

  pub drop-plus_scaled : (m s : ℕ) (xs ys : List ℕ) → length xs ≡ length ys → drop m (plus_scaled k s xs ys) ≡ plus_scaled k s (drop m xs) (drop m ys)
  drop-plus_scaled zero s xs ys same = refl
  drop-plus_scaled (suc m) s [] [] same = refl
  drop-plus_scaled (suc m) s [] (y ∷ ys) same = absurd (omega arith)
  drop-plus_scaled (suc m) s (x ∷ xs) [] same = absurd (omega arith)
  drop-plus_scaled (suc m) s (x ∷ xs) (y ∷ ys) same = drop-plus_scaled m s xs ys (omega arith)

  -- the halves of a combination are combinations of the halves
  pub take-combination : (m n : ℕ) (cs : List ℕ) (rows : List (List ℕ)) → take m (combination k (m + n) cs rows) ≡ combination k m cs (lefts m rows)
  take-combination m n [] rows = take-replicate m (m + n) 0 (omega arith)
  take-combination m n (c ∷ cs) [] = take-replicate m (m + n) 0 (omega arith)
  take-combination m n (c ∷ cs) (r ∷ rows) =
      take-plus_scaled m c (combination k (m + n) cs rows) r ∙ ap (λ (w : List ℕ). plus_scaled k c w (take m r)) (take-combination m n cs rows)

  pub drop-combination : (m n : ℕ) (cs : List ℕ) (rows : List (List ℕ)) → IsMatrix k (m + n) rows → drop m (combination k (m + n) cs rows) ≡ combination k n cs (rights m rows)
  drop-combination m n [] rows a = drop_zeros m n
  drop-combination m n (c ∷ cs) [] a = drop_zeros m n
  drop-combination m n (c ∷ cs) (r ∷ rows) a =
      let C : IsVector k (m + n) (combination k (m + n) cs rows) = combination-vector k f (m + n) cs rows a.1 in
      drop-plus_scaled m c (combination k (m + n) cs rows) r (C.long ∙ sym a.0.long) ∙ ap (λ (w : List ℕ). plus_scaled k c w (drop m r)) (drop-combination m n cs rows a.1)

  pub left_vector : (m n : ℕ) (v : List ℕ) → IsVector k (m + n) v → IsVector k m (take m v)
  left_vector m n v h = let l : length v ≡ m + n = h.long in record { long = length-take-le m v (omega arith); elements = all_take (λ x. x < k.size) m v h.elements }

  pub right_vector : (m n : ℕ) (v : List ℕ) → IsVector k (m + n) v → IsVector k n (drop m v)
  right_vector m n v h = let l : length v ≡ m + n = h.long in record { long = length-drop m v ∙ omega arith; elements = all_drop (λ x. x < k.size) m v h.elements }

  pub left_matrix : (m n : ℕ) (rows : List (List ℕ)) → IsMatrix k (m + n) rows → IsMatrix k m (lefts m rows)
  left_matrix m n [] a = tt
  left_matrix m n (r ∷ rows) a = (left_vector m n r a.0, left_matrix m n rows a.1)

  pub right_matrix : (m n : ℕ) (rows : List (List ℕ)) → IsMatrix k (m + n) rows → IsMatrix k n (rights m rows)
  right_matrix m n [] a = tt
  right_matrix m n (r ∷ rows) a = (right_vector m n r a.0, right_matrix m n rows a.1)

  -- a combination of rows that are zero
  pub combination_of_zeros : (m : ℕ) (cs : List ℕ) (rows : List (List ℕ)) → AllByRecursion (λ r. r ≡ replicate m 0) rows → combination k m cs rows ≡ replicate m 0
  combination_of_zeros m [] rows z = refl
  combination_of_zeros m (c ∷ cs) [] z = refl
  combination_of_zeros m (c ∷ cs) (r ∷ rows) z =
      ap (λ (w : List ℕ). plus_scaled k c w r) (combination_of_zeros m cs rows z.1) ∙ (ap (plus_scaled k c (replicate m 0)) z.0 ∙ zeros_plus k f m c)

  -- independent vectors among some, that span them all
  pub record Chosen (n : ℕ) (us : List (List ℕ)) : Type 0 where
    pub some : List (List ℕ)
    pub matrix : IsMatrix k n some
    pub independent : IsIndependent k n some
    pub spans : AllByRecursion (InSpan k n some) us
    pub inside : AllByRecursion (InSpan k n us) some
    pub fewer : (some ≡ us) ⊎ (length some < length us)

  pub choose : (n : ℕ) (us : List (List ℕ)) → IsMatrix k n us → Chosen n us
  choose n [] a = record { some = []; matrix = tt; independent = λ cs v e. nil_from_length cs v.long; spans = tt; inside = tt; fewer = inl refl }
  choose n (u ∷ us) a =
      let c : Chosen n us = choose n us a.1 in
      elim (in_span_or_not k f n c.some u c.matrix a.0 c.independent) [
        | inl p ↦ record {
          some = c.some;
          matrix = c.matrix;
          independent = c.independent;
          spans = (p, c.spans);
          inside = span_all_more k f n us u a.1 a.0 c.some c.inside;
          fewer = inr (elim c.fewer [ inl e ↦ subst (λ (j : ℕ). j < suc (length us)) (sym (ap length e)) (omega arith) | inr l ↦ omega arith ]);
        }
        | inr i ↦ record {
          some = u ∷ c.some;
          matrix = (a.0, c.matrix);
          independent = i;
          spans = ((span_rows k f n (u ∷ c.some) (a.0, c.matrix)).0, span_all_more k f n c.some u c.matrix a.0 us c.spans);
          inside = ((span_rows k f n (u ∷ us) a).0, span_all_more k f n us u a.1 a.0 c.some c.inside);
          fewer = elim c.fewer [ inl e ↦ inl (ap (λ (vs : List (List ℕ)). u ∷ vs) e) | inr l ↦ inr (omega arith) ];
        }
      ]

  -- no more vectors than independent ones that they span are independent
  pub as_few_are_independent : (n : ℕ) (us vs : List (List ℕ)) → IsMatrix k n us → IsIndependent k n vs → AllByRecursion (InSpan k n us) vs → length us ≤ length vs → IsIndependent k n us
  as_few_are_independent n us vs a ind h le =
      let c : Chosen n us = choose n us a in
      elim c.fewer [
        | inl e ↦ subst (IsIndependent k n) e c.independent
        | inr l ↦
            let more : length vs ≤ length c.some =
            no_more k f n vs c.some c.matrix ind (all_weaker (InSpan k n us) (InSpan k n c.some) (λ w p. in_span_trans k f n us c.some w c.matrix c.spans p) vs h) in
            absurd (omega arith)
      ]
