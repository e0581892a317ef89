-- The coboundary on lists of chains as a linear map.
use Rattle.std.proofs.Common.{◌≡◌, ℕ, zero, suc, ◌<◌, List, [], ◌∷◌, Bool, true, false, cond, map, length, replicate, refl, ap, sym, ◌∙◌, arith}
use Rattle.std.specs.Str.{bytes_eq}
use Rattle.small_field.specs.Field.{Ops, IsField}
use Rattle.small_field.proofs.CallerLemmas.{zero_below, add_swap, neg_add, neg_zero, mul_zero, mul_neg}
use Rattle.linear_laws.specs.Vectors.{plus_scaled}
use Rattle.small_field.specs.Values.{AreElements}
use Rattle.linear_laws.specs.Linear.{IsLinear}
use Rattle.order_complex.specs.Cochains.{alternating, leave_out, value, coboundary_at}

module _ (F : Ops) (L : IsField F) where
  cond_plus : (b : Bool) (s x y p q r : ℕ) → r ≡ F.add p (F.mul s q) → cond b (F.add x (F.mul s y)) r ≡ F.add (cond b x p) (F.mul s (cond b y q))
  cond_plus true s x y p q r e = refl
  cond_plus false s x y p q r e = e

  pub value-plus_scaled : (s : ℕ) (chains : List (List ℕ)) (u v : List ℕ) → length u ≡ length chains → length v ≡ length chains → (c : List ℕ)
      → value chains (plus_scaled F s u v) c ≡ F.add (value chains u c) (F.mul s (value chains v c))
  value-plus_scaled s [] u v hu hv c = sym (rw (mul_zero F L s) (L.zero_add 0 (zero_below F L)))
  value-plus_scaled s (b ∷ chains) [] v hu hv c = absurd (omega arith)
  value-plus_scaled s (b ∷ chains) (x ∷ u) [] hu hv c = absurd (omega arith)
  value-plus_scaled s (b ∷ chains) (x ∷ u) (y ∷ v) hu hv c =
      cond_plus (bytes_eq b c) s x y (value chains u c) (value chains v c) _ (value-plus_scaled s chains u v (omega arith) (omega arith) c)

  cond_zero : (b : Bool) (r : ℕ) → r ≡ 0 → cond b 0 r ≡ 0
  cond_zero true r e = refl
  cond_zero false r e = e

  pub value-zeros : (chains : List (List ℕ)) (n : ℕ) (c : List ℕ) → value chains (replicate n 0) c ≡ 0
  value-zeros [] n c = refl
  value-zeros (b ∷ chains) zero c = refl
  value-zeros (b ∷ chains) (suc n) c = cond_zero (bytes_eq b c) _ (value-zeros chains n c)

  cond_below : (b : Bool) (x r : ℕ) → x < F.size → r < F.size → cond b x r < F.size
  cond_below true x r h k = h
  cond_below false x r h k = k

  pub value_below : (chains : List (List ℕ)) (u : List ℕ) (c : List ℕ) → AreElements F u → value chains u c < F.size
  value_below [] u c h = zero_below F L
  value_below (b ∷ chains) [] c h = zero_below F L
  value_below (b ∷ chains) (x ∷ u) c h = cond_below (bytes_eq b c) x (value chains u c) h.0 (value_below chains u c h.1)

  -- the alternating sum is linear
  alternating-plus : (s : ℕ) (g h : List ℕ → ℕ) (bs : List (List ℕ))
      → alternating F (map (λ b. F.add (g b) (F.mul s (h b))) bs) ≡ F.add (alternating F (map g bs)) (F.mul s (alternating F (map h bs)))
  alternating-plus s g h [] = sym (rw (mul_zero F L s) (L.zero_add 0 (zero_below F L)))
  alternating-plus s g h (b ∷ bs) =
      let A : ℕ = alternating F (map g bs) in
      let B : ℕ = alternating F (map h bs) in
      ap (λ n. F.add (F.add (g b) (F.mul s (h b))) (F.neg n)) (alternating-plus s g h bs)
      ∙ ap (λ n. F.add (F.add (g b) (F.mul s (h b))) n) (neg_add F L A (F.mul s B))
      ∙ add_swap F L (g b) (F.mul s (h b)) (F.neg A) (F.neg (F.mul s B))
      ∙ ap (λ n. F.add (F.add (g b) (F.neg A)) n) (ap (λ m. F.add (F.mul s (h b)) m) (sym (mul_neg F L s B)) ∙ sym (L.mul_add s (h b) (F.neg B)))

  alternating-zeros : (g : List ℕ → ℕ) → ((b : List ℕ) → g b ≡ 0) → (bs : List (List ℕ)) → alternating F (map g bs) ≡ 0
  alternating-zeros g e [] = refl
  alternating-zeros g e (b ∷ bs) = rw (e b, alternating-zeros g e bs, neg_zero F L) (L.zero_add 0 (zero_below F L))

  map_same : (g h : List ℕ → ℕ) → ((b : List ℕ) → g b ≡ h b) → (bs : List (List ℕ)) → map g bs ≡ map h bs
  map_same g h e [] = refl
  map_same g h e (b ∷ bs) = rw (e b, map_same g h e bs) refl

  pub coboundary_at_is_linear : (chains : List (List ℕ)) (c : List ℕ) → IsLinear F (length chains) (λ x. coboundary_at F chains x c)
  coboundary_at_is_linear chains c = record {
    zero = alternating-zeros (value chains (replicate (length chains) 0)) (value-zeros chains (length chains)) (leave_out c);
    plus = λ s u v hu hv.
        ap (alternating F) (map_same (value chains (plus_scaled F s u v)) (λ b. F.add (value chains u b) (F.mul s (value chains v b))) (λ b. value-plus_scaled s chains u v hu.long hv.long b) (leave_out c))
        ∙ alternating-plus s (value chains u) (value chains v) (leave_out c);
  }
