-- Sums of signs that cancel in the integers cancel in each field.
use Rattle.std.proofs.Common.{◌≡◌, ℕ, zero, suc, ◌-◌, ◌<◌, List, [], ◌∷◌, Bool, true, false, cond, refl, ap, sym, ◌∙◌, arith}
use Rattle.std.specs.Prelude.{ℤ, pos, negsuc, ◌+ℤ◌, ◌*ℤ◌}
use Rattle.std.proofs.Math.IntN.{suc_ℤ, +ℤ_comm, +ℤ_assoc, +ℤ_idl, +ℤ_one}
use Rattle.small_field.specs.Field.{Ops, IsField}
use Rattle.small_field.proofs.CallerLemmas.{add_zero, neg_add}
use Rattle.number_lists.specs.Words.{holds}
use Rattle.face_poset.specs.Poset.{Layers, facets_of}
use Rattle.face_poset.specs.Signs.{sign_of, sum_to}
use Rattle.cell_signs.specs.Oriented.{sum_over}
use Rattle.pair_stages.specs.Signed.{sign_element}
use Rattle.flag_laws.proofs.Sums.{summed, sign-times}

module _ (F : Ops) (L : IsField F) where
  times : ℕ → ℕ
  times zero = 0
  times (suc n) = F.add 1 (times n)

  image : ℤ → ℕ
  image (pos n) = times n
  image (negsuc n) = F.neg (F.add 1 (times n))

  image-zero : image (pos 0) ≡ 0
  unfolding image times
  image-zero = refl

  back : (t : ℕ) → F.neg t ≡ F.add 1 (F.neg (F.add 1 t))
  back t =
      sym (L.zero_add (F.neg t) (L.neg_below t))
      ∙ (ap (λ z. F.add z (F.neg t)) (sym (L.add_neg 1)) ∙ (L.add_assoc 1 (F.neg 1) (F.neg t) ∙ ap (F.add 1) (sym (neg_add F L 1 t))))

  image_suc : (z : ℤ) → image (suc_ℤ z) ≡ F.add 1 (image z)
  unfolding times image
  image_suc (pos n) = refl
  image_suc (negsuc zero) = sym (L.add_neg 1) ∙ ap (λ z. F.add 1 (F.neg z)) (sym (add_zero F L 1 L.one_below))
  image_suc (negsuc (suc n)) = back (F.add 1 (times n))

  image_below : (z : ℤ) → image z < F.size
  unfolding times image
  image_below (pos zero) = let o : 1 < F.size = L.one_below in omega (arith, o)
  image_below (pos (suc n)) = L.add_below 1 (times n)
  image_below (negsuc n) = L.neg_below (F.add 1 (times n))

  plus_one : (z : ℤ) → image (pos 1 +ℤ z) ≡ F.add 1 (image z)
  plus_one z = ap image (+ℤ_comm (pos 1) z ∙ +ℤ_one z) ∙ image_suc z

  minus_one : (z : ℤ) → image (negsuc 0 +ℤ z) ≡ F.add (F.neg 1) (image z)
  minus_one z =
      let up : pos 1 +ℤ (negsuc 0 +ℤ z) ≡ z = sym (+ℤ_assoc (pos 1) (negsuc 0) z) ∙ +ℤ_idl z in
      let e : F.add 1 (image (negsuc 0 +ℤ z)) ≡ image z = sym (plus_one (negsuc 0 +ℤ z)) ∙ ap image up in
      sym (L.zero_add (image (negsuc 0 +ℤ z)) (image_below (negsuc 0 +ℤ z)))
      ∙ (ap (λ t. F.add t (image (negsuc 0 +ℤ z))) (sym (L.add_neg 1) ∙ L.add_comm 1 (F.neg 1)) ∙ (L.add_assoc (F.neg 1) 1 (image (negsuc 0 +ℤ z)) ∙ ap (F.add (F.neg 1)) e))

  one_more : (a : Bool) (z : ℤ) → image (sign_of a +ℤ z) ≡ F.add (sign_element F a) (image z)
  one_more true z = minus_one z
  one_more false z = plus_one z

  two_more : (a b : Bool) (z : ℤ) → image ((sign_of a *ℤ sign_of b) +ℤ z) ≡ F.add (F.mul (sign_element F a) (sign_element F b)) (image z)
  two_more true true z = plus_one z ∙ ap (λ t. F.add t (image z)) (sym (sign-times F L true true))
  two_more true false z = minus_one z ∙ ap (λ t. F.add t (image z)) (sym (sign-times F L true false))
  two_more false true z = minus_one z ∙ ap (λ t. F.add t (image z)) (sym (sign-times F L false true))
  two_more false false z = plus_one z ∙ ap (λ t. F.add t (image z)) (sym (sign-times F L false false))

  signs-image : (s : ℕ → Bool) (xs : List ℕ) → summed F (λ x. sign_element F (s x)) xs ≡ image (sum_over (λ x. sign_of (s x)) xs)
  signs-image s [] = sym image-zero
  signs-image s (x ∷ xs) = ap (F.add (sign_element F (s x))) (signs-image s xs) ∙ sym (one_more (s x) (sum_over (λ x. sign_of (s x)) xs))

  -- signs with the sum 0
  pub signs-cancel : (s : ℕ → Bool) (xs : List ℕ) → sum_over (λ x. sign_of (s x)) xs ≡ pos 0 → summed F (λ x. sign_element F (s x)) xs ≡ 0
  signs-cancel s xs e = signs-image s xs ∙ (ap image e ∙ image-zero)

  module _ (space : Layers) (negative : ℕ → ℕ → ℕ → Bool) where
    -- one way down, over a facet
    abbrev pub way : (dim below cell target f : ℕ) → ℕ
    way dim below cell target f =
        cond (holds (facets_of space below f) target) (F.mul (sign_element F (negative dim cell f)) (sign_element F (negative below f target))) 0

    ways-image : (dim below cell target : ℕ) → dim - 1 ≡ below → (fs : List ℕ) → summed F (way dim below cell target) fs ≡ image (sum_to space negative dim cell target fs)
    ways-image dim below cell target e [] = sym image-zero
    ways-image dim below cell target e (f ∷ fs) =
        ap (F.add (way dim below cell target f)) (ways-image dim below cell target e fs)
        ∙ (by (holds (facets_of space below f) target) (negative dim cell f) (negative below f target) (sum_to space negative dim cell target fs)
        ∙ ap
        (λ d. image (cond (holds (facets_of space d f) target) ((sign_of (negative dim cell f) *ℤ sign_of (negative d f target)) +ℤ sum_to space negative dim cell target fs) (sum_to space negative dim cell target fs)))
        (sym e))
      where
        by : (b x y : Bool) (z : ℤ) → F.add (cond b (F.mul (sign_element F x) (sign_element F y)) 0) (image z) ≡ image (cond b ((sign_of x *ℤ sign_of y) +ℤ z) z)
        by true x y z = sym (two_more x y z)
        by false x y z = L.zero_add (image z) (image_below z)

    -- ways down whose signs have the sum 0
    pub ways-cancel : (dim below cell target : ℕ) → dim - 1 ≡ below → (fs : List ℕ) → sum_to space negative dim cell target fs ≡ pos 0 → summed F (way dim below cell target) fs ≡ 0
    ways-cancel dim below cell target e fs z = ways-image dim below cell target e fs ∙ (ap image z ∙ image-zero)
