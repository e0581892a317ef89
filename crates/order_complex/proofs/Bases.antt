-- A basis by linear algebra is a basis of cocycles modulo coboundaries.
use Rattle.std.proofs.Common.{◌≡◌, ℕ, zero, suc, ◌+◌, ◌<◌, List, [], ◌∷◌, map, length, replicate, refl, ap, sym, ◌∙◌, subst, arith}
use Rattle.std.specs.List.{AllByRecursion}
use Rattle.std.proofs.lemmas.List.{length-map}
use Rattle.small_field.specs.Field.{Ops, IsField}
use Rattle.small_field.proofs.CallerLemmas.{add_cancel, add_zero, add_swap, neg_mul}
use Rattle.linear_laws.specs.Vectors.{plus_scaled, combination, IsVector, IsMatrix, InSpan, IsInKernel}
use Rattle.small_field.specs.Values.{AreElements}
use Rattle.linear_laws.specs.Echelon.{IsReducedTo}
use Rattle.linear_laws.specs.Betti.{IsCohomologyBasis}
use Rattle.linear_laws.proofs.CallerLemmas.{combination-vector, combination-plus, span_plus, plus_scaled-vector, basis_by_ranks}
use Rattle.order_complex.specs.Chains.{chains_of}
use Rattle.order_complex.specs.Cochains.{coboundary, coboundary_on, mark}
use Rattle.order_complex.specs.Homology.{IsCocycle, IsCoboundary, IsClass, IsBasis, IsBetti}
use Rattle.order_complex.specs.Ranks.{rows_of, rows_into}
use Rattle.order_complex.proofs.Ordered.{ordered-chains_of}
use Rattle.order_complex.proofs.Evaluation.{rows_on-matrix, coboundary_on-combination}
use Rattle.order_complex.proofs.Classes.{coboundary-vector, coboundary_on-vector, bases_are_as_long}
use Rattle.order_complex.proofs.Twice.{coboundary-coboundary}

module _ (F : Ops) (L : IsField F) (space : List (List (List ℕ))) where
  pub length-rows_of : (degree : ℕ) → length (rows_of F space degree) ≡ length (chains_of space degree)
  length-rows_of degree = length-map (chains_of space degree) (λ b. coboundary_on F (chains_of space degree) (chains_of space (suc degree)) (mark (chains_of space degree) b))

  rows_into-matrix : (degree : ℕ) → IsMatrix F (length (chains_of space degree)) (rows_into F space degree)
  rows_into-matrix zero = tt
  rows_into-matrix (suc degree) = rows_on-matrix F L (chains_of space degree) (chains_of space (suc degree))

  pub coboundary-combination : (degree : ℕ) (x : List ℕ) → IsVector F (length (chains_of space degree)) x → coboundary F space degree x ≡ combination F (length (chains_of space (suc degree))) x (rows_of F space degree)
  coboundary-combination degree x v = coboundary_on-combination F L (chains_of space degree) (chains_of space (suc degree)) x (ordered-chains_of space degree) v

  coboundary-span : (degree : ℕ) (b : List ℕ) → IsCoboundary F space degree b → InSpan F (length (chains_of space degree)) (rows_into F space degree) b
  coboundary-span zero b h = record { coefficients = []; vector = record { long = refl; elements = tt }; is = sym h }
  coboundary-span (suc degree) b h = record {
    coefficients = h.0;
    vector = subst (λ n. IsVector F n h.0) (sym (length-rows_of degree)) h.1;
    is = sym (coboundary-combination degree h.0 h.1) ∙ h.2;
  }

  nothing_spanned : (n : ℕ) (cs b : List ℕ) → combination F n cs [] ≡ b → b ≡ replicate n 0
  nothing_spanned n [] b h = sym h
  nothing_spanned n (c ∷ cs) b h = sym h

  span-coboundary : (degree : ℕ) (b : List ℕ) → InSpan F (length (chains_of space degree)) (rows_into F space degree) b → IsCoboundary F space degree b
  span-coboundary zero b h = nothing_spanned (length (chains_of space 0)) h.coefficients b h.is
  span-coboundary (suc degree) b h =
      let v : IsVector F (length (chains_of space degree)) h.coefficients = subst (λ n. IsVector F n h.coefficients) (length-rows_of degree) h.vector in
      (h.coefficients, v, coboundary-combination degree h.coefficients v ∙ h.is)

  cocycle-kernel : (degree : ℕ) (z : List ℕ) → IsCocycle F space degree z → IsInKernel F (length (chains_of space (suc degree))) (rows_of F space degree) z
  cocycle-kernel degree z h = record {
    vector = subst (λ n. IsVector F n z) (sym (length-rows_of degree)) h.cochain;
    zero = sym (coboundary-combination degree z h.cochain) ∙ h.closed;
  }

  kernel-cocycle : (degree : ℕ) (z : List ℕ) → IsInKernel F (length (chains_of space (suc degree))) (rows_of F space degree) z → IsCocycle F space degree z
  kernel-cocycle degree z h =
      let v : IsVector F (length (chains_of space degree)) z = subst (λ n. IsVector F n z) (length-rows_of degree) h.vector in
      record { cochain = v; closed = coboundary-combination degree z v ∙ h.zero }

  kernels-cocycles : (degree : ℕ) (zs : List (List ℕ)) → AllByRecursion (IsInKernel F (length (chains_of space (suc degree))) (rows_of F space degree)) zs → AllByRecursion (IsCocycle F space degree) zs
  kernels-cocycles degree [] h = tt
  kernels-cocycles degree (z ∷ zs) h = (kernel-cocycle degree z h.0, kernels-cocycles degree zs h.1)

  -- ---- differences

  minus_one : (x : ℕ) → x < F.size → F.mul (F.neg 1) x ≡ F.neg x
  minus_one x h = neg_mul F L 1 x ∙ ap F.neg (L.one_mul x h)

  -- from a + p = b + q follows p - q = b - a
  entry_difference : (a p b q : ℕ) → a < F.size → p < F.size → b < F.size → q < F.size → F.add a (F.mul 1 p) ≡ F.add b (F.mul 1 q) → F.add p (F.mul (F.neg 1) q) ≡ F.add b (F.mul (F.neg 1) a)
  entry_difference a p b q ha hp hb hq e =
      let sum : F.add a p ≡ F.add b q = ap (F.add a) (sym (L.one_mul p hp)) ∙ e ∙ ap (F.add b) (L.one_mul q hq) in
      let left : F.add (F.add a q) (F.add p (F.neg q)) ≡ F.add a p =
      add_swap F L a q p (F.neg q) ∙ ap (F.add (F.add a p)) (L.add_neg q) ∙ add_zero F L (F.add a p) (L.add_below a p) in
      let right : F.add (F.add a q) (F.add b (F.neg a)) ≡ F.add b q =
      ap (λ x. F.add x (F.add b (F.neg a))) (L.add_comm a q) ∙ add_swap F L q a b (F.neg a) ∙ ap (F.add (F.add q b)) (L.add_neg a) ∙ add_zero F L (F.add q b) (L.add_below q b) ∙ L.add_comm q b in
      ap (F.add p) (minus_one q hq)
      ∙ add_cancel F L (F.add a q) (F.add p (F.neg q)) (F.add b (F.neg a)) (L.add_below p (F.neg q)) (L.add_below b (F.neg a)) (left ∙ sum ∙ sym right)
      ∙ ap (F.add b) (sym (minus_one a ha))

  difference : (a p b q : List ℕ) → length p ≡ length a → length b ≡ length a → length q ≡ length a → AreElements F a → AreElements F p → AreElements F b → AreElements F q
      → plus_scaled F 1 a p ≡ plus_scaled F 1 b q → plus_scaled F (F.neg 1) p q ≡ plus_scaled F (F.neg 1) b a
  difference [] [] [] [] lp lb lq ha hp hb hq e = refl
  difference [] (y ∷ p) b q lp lb lq ha hp hb hq e = absurd (omega arith)
  difference [] [] (z ∷ b) q lp lb lq ha hp hb hq e = absurd (omega arith)
  difference [] [] [] (w ∷ q) lp lb lq ha hp hb hq e = absurd (omega arith)
  difference (x ∷ a) [] b q lp lb lq ha hp hb hq e = absurd (omega arith)
  difference (x ∷ a) (y ∷ p) [] q lp lb lq ha hp hb hq e = absurd (omega arith)
  difference (x ∷ a) (y ∷ p) (z ∷ b) [] lp lb lq ha hp hb hq e = absurd (omega arith)
  difference (x ∷ a) (y ∷ p) (z ∷ b) (w ∷ q) lp lb lq ha hp hb hq e =
      rw (
        entry_difference x y z w ha.0 hp.0 hb.0 hq.0 (ap head e),
        difference a p b q (omega arith) (omega arith) (omega arith) ha.1 hp.1 hb.1 hq.1 (ap rest e),
      ) refl
    where
      head : List ℕ → ℕ
      head [] = 0
      head (t ∷ ts) = t

      rest : List ℕ → List ℕ
      rest [] = []
      rest (t ∷ ts) = ts

  entry_same : (c d : ℕ) → c < F.size → d < F.size → F.add c (F.mul (F.neg 1) d) ≡ 0 → c ≡ d
  entry_same c d hc hd e =
      let zero_sum : F.add (F.neg d) c ≡ 0 = L.add_comm (F.neg d) c ∙ ap (F.add c) (sym (minus_one d hd)) ∙ e in
      let other : F.add (F.neg d) d ≡ 0 = L.add_comm (F.neg d) d ∙ L.add_neg d in
      add_cancel F L (F.neg d) c d hc hd (zero_sum ∙ sym other)

  none_left : (cs ds : List ℕ) → length cs ≡ length ds → AreElements F cs → AreElements F ds → plus_scaled F (F.neg 1) cs ds ≡ replicate (length cs) 0 → cs ≡ ds
  none_left [] [] e hc hd z = refl
  none_left [] (d ∷ ds) e hc hd z = absurd (omega arith)
  none_left (c ∷ cs) [] e hc hd z = absurd (omega arith)
  none_left (c ∷ cs) (d ∷ ds) e hc hd z =
      rw (entry_same c d hc.0 hd.0 (ap head z), none_left cs ds (omega arith) hc.1 hd.1 (ap rest z)) refl
    where
      head : List ℕ → ℕ
      head [] = 0
      head (t ∷ ts) = t

      rest : List ℕ → List ℕ
      rest [] = []
      rest (t ∷ ts) = ts

  -- ---- the basis

  kernels-matrix : (degree : ℕ) (zs : List (List ℕ)) → AllByRecursion (IsInKernel F (length (chains_of space (suc degree))) (rows_of F space degree)) zs → IsMatrix F (length (chains_of space degree)) zs
  kernels-matrix degree [] h = tt
  kernels-matrix degree (z ∷ zs) h = (subst (λ n. IsVector F n z) (length-rows_of degree) h.0.vector, kernels-matrix degree zs h.1)

  coefficients_same : (degree : ℕ) (zs : List (List ℕ)) → IsCohomologyBasis F (length (chains_of space (suc degree))) (rows_into F space degree) (rows_of F space degree) zs
      → (z cs ds : List ℕ) → IsClass F space degree zs cs z → IsClass F space degree zs ds z → cs ≡ ds
  coefficients_same degree zs b z cs ds h k =
      let n : ℕ = length (chains_of space degree) in
      let m : IsMatrix F n zs = kernels-matrix degree zs b.cocycles in
      let va = coboundary-vector F L space degree h.rest h.coboundary in
      let vb = coboundary-vector F L space degree k.rest k.coboundary in
      let vp = combination-vector F L n cs zs m in
      let vq = combination-vector F L n ds zs m in
      let less : plus_scaled F (F.neg 1) (combination F n cs zs) (combination F n ds zs) ≡ plus_scaled F (F.neg 1) k.rest h.rest =
      difference h.rest (combination F n cs zs) k.rest (combination F n ds zs) (vp.long ∙ sym va.long) (vb.long ∙ sym va.long) (vq.long ∙ sym va.long) va.elements vp.elements vb.elements vq.elements (sym h.is_sum ∙ k.is_sum) in
      let spanned : InSpan F n (rows_into F space degree) (combination F n (plus_scaled F (F.neg 1) cs ds) zs) =
      subst (InSpan F n (rows_into F space degree)) (sym less ∙ combination-plus F L n (F.neg 1) cs ds zs m h.elements.long k.elements.long)
      (span_plus F L n (F.neg 1) (rows_into F space degree) k.rest h.rest (rows_into-matrix degree) (coboundary-span degree k.rest k.coboundary) (coboundary-span degree h.rest h.coboundary)) in
      let vd = plus_scaled-vector F L (length zs) (F.neg 1) cs ds h.elements k.elements in
      let none = b.unique (plus_scaled F (F.neg 1) cs ds) vd (subst (λ (l : ℕ). InSpan F l (rows_into F space degree) (combination F l (plus_scaled F (F.neg 1) cs ds) zs)) (sym (length-rows_of degree)) spanned) in
      none_left cs ds (h.elements.long ∙ sym k.elements.long) h.elements.elements k.elements.elements (none ∙ ap (λ l. replicate l 0) (sym h.elements.long))

  pub basis_of : (degree : ℕ) (zs : List (List ℕ)) → IsCohomologyBasis F (length (chains_of space (suc degree))) (rows_into F space degree) (rows_of F space degree) zs → IsBasis F space degree zs
  basis_of degree zs b = record {
    cocycles = kernels-cocycles degree zs b.cocycles;
    spans = λ z h.
        let r = b.spans z (cocycle-kernel degree z h) in
        let l = length-rows_of degree in (
          r.0,
          record {
            elements = r.2;
            rest = r.1;
            coboundary = span-coboundary degree r.1 (subst (λ (n : ℕ). InSpan F n (rows_into F space degree) r.1) l r.3);
            is_sum = r.4 ∙ ap (λ n. plus_scaled F 1 r.1 (combination F n r.0 zs)) l;
          },
        );
    unique = coefficients_same degree zs b;
  }

  -- ---- the Betti number by ranks

  twice_zero : (degree : ℕ) (bs : List (List ℕ))
      → AllByRecursion (λ r. combination F (length (chains_of space (suc (suc degree)))) r (rows_of F space (suc degree)) ≡ replicate (length (chains_of space (suc (suc degree)))) 0)
      (map (λ b. coboundary F space degree (mark (chains_of space degree) b)) bs)
  twice_zero degree [] = tt
  twice_zero degree (b ∷ bs) =
      let r : List ℕ = coboundary F space degree (mark (chains_of space degree) b) in (
        sym (coboundary-combination (suc degree) r (coboundary_on-vector F L (chains_of space degree) (chains_of space (suc degree)) (mark (chains_of space degree) b)))
            ∙ coboundary-coboundary F L space degree (mark (chains_of space degree) b),
        twice_zero degree bs,
      )

  pub composition_is_zero : (degree : ℕ) → AllByRecursion (λ r. combination F (length (chains_of space (suc degree))) r (rows_of F space degree) ≡ replicate (length (chains_of space (suc degree))) 0) (rows_into F space degree)
  composition_is_zero zero = tt
  composition_is_zero (suc degree) = twice_zero degree (chains_of space degree)

  -- the number of chains less the two ranks
  pub betti_by_ranks : (degree betti rank_last rank_next : ℕ) (last next : List (List ℕ))
      → IsReducedTo F (length (chains_of space degree)) rank_last (length (chains_of space degree)) (rows_into F space degree) last
      → IsReducedTo F (length (chains_of space (suc degree))) rank_next (length (chains_of space (suc degree))) (rows_of F space degree) next
      → betti + rank_last + rank_next ≡ length (chains_of space degree) → IsBetti F space degree betti
  betti_by_ranks degree betti rank_last rank_next last next h k e =
      let n : ℕ = length (chains_of space degree) in
      let m : ℕ = length (chains_of space (suc degree)) in
      let b = basis_by_ranks F L n m rank_last rank_next (rows_into F space degree) (rows_of F space degree) last next (rows_into-matrix degree) (rows_on-matrix F L (chains_of space degree) (chains_of space (suc degree))) (length-rows_of degree) (composition_is_zero degree) h k in
      (b.zs, basis_of degree b.zs b.basis, omega (arith, b.count, e, length-rows_of degree))

  pub betti_is_one_number : (degree b c : ℕ) → IsBetti F space degree b → IsBetti F space degree c → b ≡ c
  betti_is_one_number degree b c h k = sym h.2 ∙ bases_are_as_long F L space degree h.0 k.0 h.1 k.1 ∙ k.2
