use Rattle.std.proofs.Common.{◌≡◌, ℕ, suc, ◌+◌, ◌<◌, inl, inr, List, [], ◌∷◌, length, replicate, get_or, refl, ap, sym, ◌∙◌, arith, subst}
use Rattle.std.specs.List.{AllByRecursion}
use Rattle.std.proofs.lemmas.Simd.{length-replicate}
use Rattle.std.proofs.lemmas.List.{nil_from_length}
use Rattle.linear_laws.specs.Marks.{shifted}
use Rattle.small_field.specs.Field.{Ops, IsField}
use Rattle.linear_laws.specs.Vectors.{IsVector, IsMatrix, plus_scaled, combination, InSpan, IsIndependent, IsInKernel}
use Rattle.small_field.specs.Values.{AreElements}
use Rattle.small_field.proofs.CallerLemmas.{zero_below, add_zero, mul_zero, mul_neg, neg_neg}
use Rattle.linear_laws.proofs.Solve.{rest}
use Rattle.linear_laws.proofs.Span.{combination-vector, combination-zeros, combination-plus, plus_scaled-vector, zero_times, zeros-elements, taken_back, span_rows, span_within, span_all_more}
use Rattle.linear_laws.proofs.Dimension.{in_span_or_not}

pub length-shifted : (zs : List (List ℕ)) → length (shifted zs) ≡ length zs
length-shifted [] = refl
length-shifted (z ∷ zs) = ap suc (length-shifted zs)

-- independent vectors with the span of the rows, and independent ones with the span of the kernel
pub record RankSplit (k : Ops) (n : ℕ) (rows : List (List ℕ)) : Type 0 where
  pub us : List (List ℕ)
  pub zs : List (List ℕ)
  pub us_matrix : IsMatrix k n us
  pub us_independent : IsIndependent k n us
  pub spans : AllByRecursion (InSpan k n us) rows
  pub inside : AllByRecursion (InSpan k n rows) us
  pub zs_matrix : IsMatrix k (length rows) zs
  pub zs_independent : IsIndependent k (length rows) zs
  pub kernel : AllByRecursion (λ z. combination k n z rows ≡ replicate n 0) zs
  pub complete : (x : List ℕ) → IsInKernel k n rows x → InSpan k (length rows) zs x
  pub count : length us + length zs ≡ length rows

module _ (k : Ops) (f : IsField k) where
  pub shifted_matrix : (n : ℕ) (zs : List (List ℕ)) → IsMatrix k n zs → IsMatrix k (suc n) (shifted zs)
  shifted_matrix n [] a = tt
  shifted_matrix n (z ∷ zs) a = (record { long = ap suc a.0.long; elements = (zero_below k f, a.0.elements) }, shifted_matrix n zs a.1)

  pub combination-shifted : (n : ℕ) (bs : List ℕ) (zs : List (List ℕ)) → combination k (suc n) bs (shifted zs) ≡ 0 ∷ combination k n bs zs
  combination-shifted n [] zs = refl
  combination-shifted n (b ∷ bs) [] = refl
  combination-shifted n (b ∷ bs) (z ∷ zs) =
      ap (λ (w : List ℕ). plus_scaled k b w (0 ∷ z)) (combination-shifted n bs zs)
      ∙ ap (λ (m : ℕ). m ∷ plus_scaled k b (combination k n bs zs) z) (ap (k.add 0) (mul_zero k f b) ∙ f.zero_add 0 (zero_below k f))

  kernel_shifted : (n : ℕ) (d : List ℕ) (rows zs : List (List ℕ)) → IsVector k n d → IsMatrix k n rows → AllByRecursion (λ z. combination k n z rows ≡ replicate n 0) zs → AllByRecursion (λ z. combination k n z (d ∷ rows) ≡ replicate n 0) (shifted zs)
  kernel_shifted n d rows [] b a h = tt
  kernel_shifted n d rows (z ∷ zs) b a h =
      let v : IsVector k n (combination k n z rows) = combination-vector k f n z rows a in
      (zero_times k f (combination k n z rows) d (v.long ∙ sym b.long) v.elements ∙ h.0, kernel_shifted n d rows zs b a h.1)

  -- y + x c, less x times c
  undone : (x : ℕ) (ys cs : List ℕ) → length ys ≡ length cs → AreElements k ys → plus_scaled k x (plus_scaled k x ys cs) (plus_scaled k (k.neg 1) (replicate (length cs) 0) cs) ≡ ys
  undone x [] cs l h = refl
  undone x (y ∷ ys) [] l h = absurd (omega arith)
  undone x (y ∷ ys) (c ∷ cs) l h =
      let neg_one : k.mul (k.neg 1) c ≡ k.neg (k.mul 1 c) = f.mul_comm (k.neg 1) c ∙ (mul_neg k f c 1 ∙ ap k.neg (f.mul_comm c 1)) in
      let inner : k.mul x (k.add 0 (k.mul (k.neg 1) c)) ≡ k.neg (k.mul x c) =
      ap (k.mul x) (f.zero_add (k.mul (k.neg 1) c) (f.mul_below (k.neg 1) c) ∙ neg_one)
      ∙ (mul_neg k f x (k.mul 1 c) ∙ ap k.neg (sym (f.mul_assoc x 1 c) ∙ (ap (λ (m : ℕ). k.mul m c) (f.mul_comm x 1) ∙ (f.mul_assoc 1 x c ∙ f.one_mul (k.mul x c) (f.mul_below x c))))) in
      let here : k.add (k.add y (k.mul x c)) (k.mul x (k.add 0 (k.mul (k.neg 1) c))) ≡ y =
      ap (k.add (k.add y (k.mul x c))) inner ∙ (f.add_assoc y (k.mul x c) (k.neg (k.mul x c)) ∙ (ap (k.add y) (f.add_neg (k.mul x c)) ∙ add_zero k f y h.0)) in
      ap (λ (m : ℕ). m ∷ plus_scaled k x (plus_scaled k x ys cs) (plus_scaled k (k.neg 1) (replicate (length cs) 0) cs)) here
      ∙ ap (λ (r : List ℕ). y ∷ r) (undone x ys cs (omega arith) h.1)

  head_one : (x : ℕ) → x < k.size → k.add 0 (k.mul x 1) ≡ x
  head_one x h = f.zero_add (k.mul x 1) (f.mul_below x 1) ∙ (f.mul_comm x 1 ∙ f.one_mul x h)

  -- one more row, in the span of the others
  module _ (n : ℕ) (d : List ℕ) (rows : List (List ℕ)) (b : IsVector k n d) (a : IsMatrix k n rows) (s : RankSplit k n rows) where
    shifted_independent : IsIndependent k (suc (length rows)) (shifted s.zs)
    shifted_independent cs v e =
        let long : length (shifted s.zs) ≡ length s.zs = length-shifted s.zs in
        let z : combination k (length rows) cs s.zs ≡ replicate (length rows) 0 = ap rest (sym (combination-shifted (length rows) cs s.zs) ∙ e) in
        s.zs_independent cs (subst (λ (m : ℕ). IsVector k m cs) long v) z ∙ ap (λ (m : ℕ). replicate m 0) (sym long)

    module _ (p : InSpan k n rows d) where
      abbrev relation : List ℕ
      relation = plus_scaled k (k.neg 1) (replicate (length p.coefficients) 0) p.coefficients

      relation_vector : IsVector k (length rows) relation
      relation_vector = plus_scaled-vector k f (length rows) (k.neg 1) (replicate (length p.coefficients) 0) p.coefficients (record { long = length-replicate (length p.coefficients) 0 ∙ p.vector.long; elements = zeros-elements k f (length p.coefficients) }) p.vector

      relation_zero : combination k n (1 ∷ relation) (d ∷ rows) ≡ replicate n 0
      relation_zero =
          let C : combination k n relation rows ≡ plus_scaled k (k.neg 1) (replicate n 0) d =
          sym (combination-plus k f n (k.neg 1) (replicate (length p.coefficients) 0) p.coefficients rows a (length-replicate (length p.coefficients) 0 ∙ p.vector.long) p.vector.long)
          ∙ (ap (λ (w : List ℕ). plus_scaled k (k.neg 1) w (combination k n p.coefficients rows)) (combination-zeros k f n (length p.coefficients) rows a) ∙ ap (plus_scaled k (k.neg 1) (replicate n 0)) p.is) in
          let one : 1 ≡ k.neg (k.neg 1) = sym (neg_neg k f 1 f.one_below) in
          ap (λ (w : List ℕ). plus_scaled k 1 w d) C
          ∙ (ap (λ (m : ℕ). plus_scaled k m (plus_scaled k (k.neg 1) (replicate n 0) d) d) one
          ∙ taken_back k f (k.neg 1) (replicate n 0) d (length-replicate n 0 ∙ sym b.long) (zeros-elements k f n))

      more_independent : IsIndependent k (suc (length rows)) ((1 ∷ relation) ∷ shifted s.zs)
      more_independent [] v e = absurd (omega (arith, v.long))
      more_independent (x ∷ cs) v e =
          let C : List ℕ = combination k (length rows) cs s.zs in
          let vC : IsVector k (length rows) C = combination-vector k f (length rows) cs s.zs s.zs_matrix in
          let sum : plus_scaled k x (0 ∷ C) (1 ∷ relation) ≡ replicate (suc (length rows)) 0 = ap (λ (w : List ℕ). plus_scaled k x w (1 ∷ relation)) (sym (combination-shifted (length rows) cs s.zs)) ∙ e in
          let x0 : x ≡ 0 = sym (head_one x v.elements.0) ∙ ap (λ (r : List ℕ). get_or r 0 0) sum in
          let C0 : C ≡ replicate (length rows) 0 =
          sym (zero_times k f C relation (vC.long ∙ sym relation_vector.long) vC.elements) ∙ (ap (λ (m : ℕ). plus_scaled k m C relation) (sym x0) ∙ ap rest sum) in
          let long : length (shifted s.zs) ≡ length s.zs = length-shifted s.zs in
          let lc : length cs ≡ length s.zs = let l : suc (length cs) ≡ suc (length (shifted s.zs)) = v.long in omega arith in
          let cs0 : cs ≡ replicate (length s.zs) 0 = s.zs_independent cs (record { long = lc; elements = v.elements.1 }) C0 in
          ap (λ (m : ℕ). m ∷ cs) x0 ∙ ap (λ (r : List ℕ). 0 ∷ r) (cs0 ∙ ap (λ (m : ℕ). replicate m 0) (sym long))

      more_complete : (xs : List ℕ) → IsInKernel k n (d ∷ rows) xs → InSpan k (suc (length rows)) ((1 ∷ relation) ∷ shifted s.zs) xs
      more_complete [] h = absurd (omega (arith, h.vector.long))
      more_complete (x ∷ ys) h =
          let ly : length ys ≡ length rows = let l : suc (length ys) ≡ suc (length rows) = h.vector.long in omega arith in
          let vy : IsVector k (length rows) ys = record { long = ly; elements = h.vector.elements.1 } in
          let w : List ℕ = plus_scaled k x ys p.coefficients in
          let wz : combination k n w rows ≡ replicate n 0 =
          sym (combination-plus k f n x ys p.coefficients rows a ly p.vector.long) ∙ (ap (plus_scaled k x (combination k n ys rows)) p.is ∙ h.zero) in
          let q : InSpan k (length rows) s.zs w = s.complete w (record { vector = plus_scaled-vector k f (length rows) x ys p.coefficients vy p.vector; zero = wz }) in
          record {
            coefficients = x ∷ q.coefficients;
            vector = record { long = ap suc (q.vector.long ∙ sym (length-shifted s.zs)); elements = (h.vector.elements.0, q.vector.elements) };
            is =
                ap (λ (u : List ℕ). plus_scaled k x u (1 ∷ relation)) (combination-shifted (length rows) q.coefficients s.zs ∙ ap (λ (r : List ℕ). 0 ∷ r) q.is)
                ∙ (ap (λ (m : ℕ). m ∷ plus_scaled k x w relation) (head_one x h.vector.elements.0) ∙ ap (λ (r : List ℕ). x ∷ r) (undone x ys p.coefficients (ly ∙ sym p.vector.long) h.vector.elements.1));
          }

    -- one more row, independent of the others
    other_complete : IsIndependent k n (d ∷ s.us) → (xs : List ℕ) → IsInKernel k n (d ∷ rows) xs → InSpan k (suc (length rows)) (shifted s.zs) xs
    other_complete ind [] h = absurd (omega (arith, h.vector.long))
    other_complete ind (x ∷ ys) h =
        let ly : length ys ≡ length rows = let l : suc (length ys) ≡ suc (length rows) = h.vector.long in omega arith in
        let C : List ℕ = combination k n ys rows in
        let vC : IsVector k n C = combination-vector k f n ys rows a in
        let g : InSpan k n s.us C = span_within k f n rows s.us s.us_matrix s.spans ys in
        let all : x ∷ g.coefficients ≡ replicate (suc (length s.us)) 0 =
        ind (x ∷ g.coefficients) (record { long = ap suc g.vector.long; elements = (h.vector.elements.0, g.vector.elements) }) (ap (λ (w : List ℕ). plus_scaled k x w d) g.is ∙ h.zero) in
        let x0 : x ≡ 0 = ap (λ (r : List ℕ). get_or r 0 0) all in
        let C0 : C ≡ replicate n 0 = sym (zero_times k f C d (vC.long ∙ sym b.long) vC.elements) ∙ (ap (λ (m : ℕ). plus_scaled k m C d) (sym x0) ∙ h.zero) in
        let q : InSpan k (length rows) s.zs ys = s.complete ys (record { vector = record { long = ly; elements = h.vector.elements.1 }; zero = C0 }) in
        record {
          coefficients = q.coefficients;
          vector = subst (λ (m : ℕ). IsVector k m q.coefficients) (sym (length-shifted s.zs)) q.vector;
          is = combination-shifted (length rows) q.coefficients s.zs ∙ (ap (λ (r : List ℕ). 0 ∷ r) q.is ∙ ap (λ (m : ℕ). m ∷ ys) (sym x0));
        }

  pub rank_split : (n : ℕ) (rows : List (List ℕ)) → IsMatrix k n rows → RankSplit k n rows
  rank_split n [] a = record {
    us = [];
    zs = [];
    us_matrix = tt;
    us_independent = λ cs v e. nil_from_length cs v.long;
    spans = tt;
    inside = tt;
    zs_matrix = tt;
    zs_independent = λ cs v e. nil_from_length cs v.long;
    kernel = tt;
    complete = λ x h. record { coefficients = []; vector = record { long = refl; elements = tt }; is = sym (nil_from_length x h.vector.long) };
    count = omega arith;
  }
  rank_split n (d ∷ rows) a =
      let s : RankSplit k n rows = rank_split n rows a.1 in
      let here : AllByRecursion (InSpan k n (d ∷ rows)) (d ∷ rows) = span_rows k f n (d ∷ rows) a in
      let c : length s.us + length s.zs ≡ length rows = s.count in
      let ls : length (shifted s.zs) ≡ length s.zs = length-shifted s.zs in
      elim (in_span_or_not k f n s.us d s.us_matrix a.0 s.us_independent) [
        | inl q ↦
            let p : InSpan k n rows d = subst (InSpan k n rows) q.is (span_within k f n s.us rows a.1 s.inside q.coefficients) in
            record {
              us = s.us;
              zs = (1 ∷ relation n d rows a.0 a.1 s p) ∷ shifted s.zs;
              us_matrix = s.us_matrix;
              us_independent = s.us_independent;
              spans = (q, s.spans);
              inside = span_all_more k f n rows d a.1 a.0 s.us s.inside;
              zs_matrix = (record { long = ap suc (relation_vector n d rows a.0 a.1 s p).long; elements = (f.one_below, (relation_vector n d rows a.0 a.1 s p).elements) }, shifted_matrix (length rows) s.zs s.zs_matrix);
              zs_independent = more_independent n d rows a.0 a.1 s p;
              kernel = (relation_zero n d rows a.0 a.1 s p, kernel_shifted n d rows s.zs a.0 a.1 s.kernel);
              complete = more_complete n d rows a.0 a.1 s p;
              count = omega arith;
            }
        | inr ind ↦
            record {
              us = d ∷ s.us;
              zs = shifted s.zs;
              us_matrix = (a.0, s.us_matrix);
              us_independent = ind;
              spans = ((span_rows k f n (d ∷ s.us) (a.0, s.us_matrix)).0, span_all_more k f n s.us d s.us_matrix a.0 rows s.spans);
              inside = (here.0, span_all_more k f n rows d a.1 a.0 s.us s.inside);
              zs_matrix = shifted_matrix (length rows) s.zs s.zs_matrix;
              zs_independent = shifted_independent n d rows a.0 a.1 s;
              kernel = kernel_shifted n d rows s.zs a.0 a.1 s.kernel;
              complete = other_complete n d rows a.0 a.1 s ind;
              count = omega arith;
            }
      ]
