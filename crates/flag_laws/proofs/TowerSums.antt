-- Sums over the full towers of a cell, each with the product of the signs of its steps, and what is left of them with
-- one cell left out.
use Rattle.std.proofs.Common.{◌≡◌, ◌≢◌, ℕ, zero, suc, ◌<◌, ◌≤◌, List, [], ◌∷◌, Bool, true, false, cond, length, filter, get_or, refl, ap, sym, ◌∙◌, subst, arith}
use Rattle.small_field.specs.Field.{Ops, IsField}
use Rattle.small_field.proofs.CallerLemmas.{mul_zero, zero_mul}
use Rattle.number_lists.specs.Words.{upto, holds}
use Rattle.number_lists.specs.Members.{In}
use Rattle.number_lists.proofs.CallerLemmas.{members_sorted, AreDistinct, distinct-filter, distinct-range, holds-In}
use Rattle.face_poset.specs.Poset.{Layers, IsSpace, IsCell, count, facets_of}
use Rattle.face_poset.specs.Below.{cell_at}
use Rattle.order_complex.specs.Chains.{id_of}
use Rattle.cell_signs.specs.Oriented.{IsOriented}
use Rattle.pair_stages.specs.Signed.{sign_element}
use Rattle.local_field.specs.Buildings.{flag_of}
use Rattle.local_field.specs.Flags.{is_odd, flag_negative}
use Rattle.local_field.proofs.CallerLemmas.{facets-cell, facet-range, first-In, id-same}
use Rattle.flag_laws.proofs.Sums.{summed, sum-below, sum-same, sum-zero, sum-plus, sum-times, sum-by, sum-swap, sum-filter, sum-one, mul_out, sign-times}
use Rattle.flag_laws.proofs.Integers.{signs-cancel, way, ways-cancel}

-- the sum of h over the full towers of a cell, with their signs
abbrev pub over : Ops → Layers → (negative : ℕ → ℕ → ℕ → Bool) → (d n : ℕ) → (h : List ℕ → ℕ) → ℕ
over F space negative zero n h = h (id_of space (cell_at 0 n) ∷ [])
over F space negative (suc d) n h =
    summed F (λ f. F.mul (sign_element F (negative (suc d) n f)) (over F space negative d f (λ t. h (id_of space (cell_at (suc d) n) ∷ t)))) (facets_of space (suc d) n)

-- the full towers of a cell
abbrev pub FullAt : Layers → (d n : ℕ) → List ℕ → Type 0
FullAt space zero n t = t ≡ id_of space (cell_at 0 n) ∷ []
FullAt space (suc d) n t = (f : ℕ) × (r : List ℕ) × In f (facets_of space (suc d) n) × FullAt space d f r × (t ≡ id_of space (cell_at (suc d) n) ∷ r)

-- the sum of u over a tower with one cell left out, with signs by how many cells stand below
abbrev pub left : Ops → (u : List ℕ → ℕ) → List ℕ → ℕ
left F u [] = 0
left F u (g ∷ t) = F.add (left F (λ s. u (g ∷ s)) t) (F.mul (sign_element F (is_odd (length t))) (u t))

pub full-long : (space : Layers) (d n : ℕ) (t : List ℕ) → FullAt space d n t → length t ≡ suc d
full-long space zero n t h = ap length h
full-long space (suc d) n t h = ap length h.4 ∙ ap suc (full-long space d h.0 h.1 h.3)

pub full-head : (space : Layers) (d n : ℕ) (t : List ℕ) → FullAt space d n t → (r : List ℕ) × (t ≡ id_of space (cell_at d n) ∷ r)
full-head space zero n t h = ([], h)
full-head space (suc d) n t h = (h.1, h.4)

module _ (F : Ops) (L : IsField F) (space : Layers) (negative : ℕ → ℕ → ℕ → Bool) where
  abbrev ov : (d n : ℕ) → (h : List ℕ → ℕ) → ℕ
  ov d n h = over F space negative d n h

  abbrev sg : (d n f : ℕ) → ℕ
  sg d n f = sign_element F (negative d n f)

  pub over-same : (d n : ℕ) (h g : List ℕ → ℕ) → ((t : List ℕ) → FullAt space d n t → h t ≡ g t) → ov d n h ≡ ov d n g
  over-same zero n h g e = e (id_of space (cell_at 0 n) ∷ []) refl
  over-same (suc d) n h g e =
      let c : ℕ = id_of space (cell_at (suc d) n) in
      sum-same F L (λ f. F.mul (sg (suc d) n f) (ov d f (λ t. h (c ∷ t)))) (λ f. F.mul (sg (suc d) n f) (ov d f (λ t. g (c ∷ t)))) (facets_of space (suc d) n)
      (λ f i. ap (F.mul (sg (suc d) n f)) (over-same d f (λ t. h (c ∷ t)) (λ t. g (c ∷ t)) (λ t k. e (c ∷ t) (f, t, i, k, refl))))

  zeros : (d n : ℕ) → ov d n (λ t. 0) ≡ 0
  zeros zero n = refl
  zeros (suc d) n =
      sum-zero F L (λ f. F.mul (sg (suc d) n f) (ov d f (λ t. 0))) (facets_of space (suc d) n)
      (λ f i. ap (F.mul (sg (suc d) n f)) (zeros d f) ∙ mul_zero F L (sg (suc d) n f))

  pub over-zero : (d n : ℕ) (h : List ℕ → ℕ) → ((t : List ℕ) → FullAt space d n t → h t ≡ 0) → ov d n h ≡ 0
  over-zero d n h e = over-same d n h (λ t. 0) e ∙ zeros d n

  pub over-below : (d n : ℕ) (h : List ℕ → ℕ) → ((t : List ℕ) → h t < F.size) → ov d n h < F.size
  over-below zero n h b = b (id_of space (cell_at 0 n) ∷ [])
  over-below (suc d) n h b = sum-below F L (λ f. F.mul (sg (suc d) n f) (ov d f (λ t. h (id_of space (cell_at (suc d) n) ∷ t)))) (facets_of space (suc d) n)

  pub over-plus : (d n : ℕ) (h g : List ℕ → ℕ) → ov d n (λ t. F.add (h t) (g t)) ≡ F.add (ov d n h) (ov d n g)
  over-plus zero n h g = refl
  over-plus (suc d) n h g =
      let c : ℕ = id_of space (cell_at (suc d) n) in
      let H : ℕ → ℕ = λ f. F.mul (sg (suc d) n f) (ov d f (λ t. h (c ∷ t))) in
      let G : ℕ → ℕ = λ f. F.mul (sg (suc d) n f) (ov d f (λ t. g (c ∷ t))) in
      sum-same F L (λ f. F.mul (sg (suc d) n f) (ov d f (λ t. F.add (h (c ∷ t)) (g (c ∷ t))))) (λ f. F.add (H f) (G f)) (facets_of space (suc d) n)
      (λ f i. ap (F.mul (sg (suc d) n f)) (over-plus d f (λ t. h (c ∷ t)) (λ t. g (c ∷ t))) ∙ L.mul_add (sg (suc d) n f) (ov d f (λ t. h (c ∷ t))) (ov d f (λ t. g (c ∷ t))))
      ∙ sum-plus F L H G (facets_of space (suc d) n)

  pub over-times : (a d n : ℕ) (h : List ℕ → ℕ) → ov d n (λ t. F.mul a (h t)) ≡ F.mul a (ov d n h)
  over-times a zero n h = refl
  over-times a (suc d) n h =
      let c : ℕ = id_of space (cell_at (suc d) n) in
      let H : ℕ → ℕ = λ f. F.mul (sg (suc d) n f) (ov d f (λ t. h (c ∷ t))) in
      sum-same F L (λ f. F.mul (sg (suc d) n f) (ov d f (λ t. F.mul a (h (c ∷ t))))) (λ f. F.mul a (H f)) (facets_of space (suc d) n)
      (λ f i. ap (F.mul (sg (suc d) n f)) (over-times a d f (λ t. h (c ∷ t))) ∙ mul_out F L (sg (suc d) n f) a (ov d f (λ t. h (c ∷ t))))
      ∙ sum-times F L a H (facets_of space (suc d) n)

  pub over-sum : {A : Type 0} (d n : ℕ) (h : A → List ℕ → ℕ) (xs : List A) → ov d n (λ t. summed F (λ x. h x t) xs) ≡ summed F (λ x. ov d n (h x)) xs
  over-sum d n h [] = zeros d n
  over-sum d n h (x ∷ xs) = over-plus d n (h x) (λ t. summed F (λ y. h y t) xs) ∙ ap (F.add (ov d n (h x))) (over-sum d n h xs)

  -- ---- one cell left out

  module _ (valid : IsSpace space) (oriented : IsOriented space negative) where
    facets-filter : (d n : ℕ) → 1 ≤ n → n ≤ count space (suc d) → facets_of space (suc d) n ≡ filter (holds (facets_of space (suc d) n)) (upto (count space d))
    facets-filter d n low high =
        let fs : List ℕ = facets_of space (suc d) n in
        let c : IsCell (count space d) fs = facets-cell space valid d n low high in
        members_sorted fs (holds fs) (count space d) c.rises (λ x. refl) (λ x h. facet-range space valid d n x low high (holds-In fs h))

    pub facets-distinct : (d n : ℕ) → 1 ≤ n → n ≤ count space (suc d) → AreDistinct (facets_of space (suc d) n)
    facets-distinct d n low high =
        subst (λ (xs : List ℕ). AreDistinct xs) (sym (facets-filter d n low high)) (distinct-filter (holds (facets_of space (suc d) n)) (distinct-range 1 (count space d)))

    -- two steps down cancel
    abbrev two : (d n f : ℕ) → (u : List ℕ → ℕ) → ℕ
    two d n f u = summed F (λ e. F.mul (sg (suc d) f e) (ov d e u)) (facets_of space (suc d) f)

    product_two : (b : Bool) (s r w : ℕ) → F.mul s (cond b (F.mul r w) 0) ≡ F.mul (cond b (F.mul s r) 0) w
    product_two true s r w = sym (L.mul_assoc s r w)
    product_two false s r w = mul_zero F L s ∙ sym (zero_mul F L w)

    steps-cancel : (d n : ℕ) (u : List ℕ → ℕ) → 1 ≤ n → n ≤ count space (suc (suc d)) → summed F (λ f. F.mul (sg (suc (suc d)) n f) (two d n f u)) (facets_of space (suc (suc d)) n) ≡ 0
    steps-cancel d n u low high =
        let fs : List ℕ = facets_of space (suc (suc d)) n in
        let es : List ℕ = upto (count space d) in
        let W : ℕ → ℕ = λ e. ov d e u in
        let test : ℕ → ℕ → Bool = λ f e. holds (facets_of space (suc d) f) e in
        let each : ℕ → ℕ → ℕ = λ f e. F.mul (way F L space negative (suc (suc d)) (suc d) n e f) (W e) in
        sum-same F L (λ f. F.mul (sg (suc (suc d)) n f) (two d n f u)) (λ f. summed F (λ e. each f e) es) fs
        (λ f i. (let w = facet-range space valid (suc d) n f low high i in
        ap (λ (xs : List ℕ). F.mul (sg (suc (suc d)) n f) (summed F (λ e. F.mul (sg (suc d) f e) (W e)) xs)) (facets-filter d f w.0 w.1)
        ∙ (ap (F.mul (sg (suc (suc d)) n f)) (sum-filter F L (λ e. F.mul (sg (suc d) f e) (W e)) (test f) es)
        ∙ (sym (sum-times F L (sg (suc (suc d)) n f) (λ e. cond (test f e) (F.mul (sg (suc d) f e) (W e)) 0) es)
        ∙ sum-same F L (λ e. F.mul (sg (suc (suc d)) n f) (cond (test f e) (F.mul (sg (suc d) f e) (W e)) 0)) (λ e. each f e) es
        (λ e j. product_two (test f e) (sg (suc (suc d)) n f) (sg (suc d) f e) (W e))))))
        ∙ (sum-swap F L each fs es
        ∙ sum-zero F L (λ e. summed F (λ f. each f e) fs) es
        (λ e j.
        sum-by F L (W e) (λ f. way F L space negative (suc (suc d)) (suc d) n e f) fs
        ∙ (ap (λ (v : ℕ). F.mul v (W e)) (ways-cancel F L space negative (suc (suc d)) (suc d) n e (omega arith) fs (oriented.cancel (suc (suc d)) n e (omega arith) low high)) ∙ zero_mul F L (W e))))

    -- what the facets of a cell give
    abbrev pub below : (d n : ℕ) → (u : List ℕ → ℕ) → ℕ
    below d n u = summed F (λ a. F.mul (sg (suc d) n a) (ov d a u)) (facets_of space (suc d) n)

    kept-vertex : (n : ℕ) (v : List ℕ → ℕ) → 1 ≤ n → n ≤ count space 1 → summed F (λ f. F.mul (sg 1 n f) (ov 0 f (left F v))) (facets_of space 1 n) ≡ 0
    kept-vertex n v low high =
        let fs : List ℕ = facets_of space 1 n in
        let c : ℕ = F.add 0 (F.mul 1 (v [])) in
        sum-by F L c (λ f. sg 1 n f) fs ∙ (ap (λ (x : ℕ). F.mul x c) (signs-cancel F L (λ f. negative 1 n f) fs (oriented.balance n low high)) ∙ zero_mul F L c)

    kept-facets : (d n : ℕ) (v : List ℕ → ℕ) → 1 ≤ n → n ≤ count space (suc (suc d))
        → ((f : ℕ) → 1 ≤ f → f ≤ count space (suc d) → ov (suc d) f (left F v) ≡ F.mul (sign_element F (is_odd (suc d))) (below d f v))
        → summed F (λ f. F.mul (sg (suc (suc d)) n f) (ov (suc d) f (left F v))) (facets_of space (suc (suc d)) n) ≡ 0
    kept-facets d n v low high again =
        let fs : List ℕ = facets_of space (suc (suc d)) n in
        let o : ℕ = sign_element F (is_odd (suc d)) in
        sum-same F L (λ f. F.mul (sg (suc (suc d)) n f) (ov (suc d) f (left F v))) (λ f. F.mul o (F.mul (sg (suc (suc d)) n f) (two d n f v))) fs
        (λ f i. (let w = facet-range space valid (suc d) n f low high i in
        ap (F.mul (sg (suc (suc d)) n f)) (again f w.0 w.1) ∙ mul_out F L (sg (suc (suc d)) n f) o (two d n f v)))
        ∙ (sum-times F L o (λ f. F.mul (sg (suc (suc d)) n f) (two d n f v)) fs ∙ (ap (F.mul o) (steps-cancel d n v low high) ∙ mul_zero F L o))

    left-step : (d n : ℕ) (u : List ℕ → ℕ) → summed F (λ f. F.mul (sg (suc d) n f) (ov d f (left F (λ s. u (id_of space (cell_at (suc d) n) ∷ s))))) (facets_of space (suc d) n) ≡ 0
        → ov (suc d) n (left F u) ≡ F.mul (sign_element F (is_odd (suc d))) (below d n u)
    left-step d n u kept =
        let fs : List ℕ = facets_of space (suc d) n in
        let c : ℕ = id_of space (cell_at (suc d) n) in
        let v : List ℕ → ℕ = λ s. u (c ∷ s) in
        let o : ℕ = sign_element F (is_odd (suc d)) in
        let A : ℕ → ℕ = λ f. F.mul (sg (suc d) n f) (ov d f (left F v)) in
        let B : ℕ → ℕ = λ f. F.mul (sg (suc d) n f) (ov d f u) in
        sum-same F L (λ f. F.mul (sg (suc d) n f) (ov d f (λ t. left F u (c ∷ t)))) (λ f. F.add (A f) (F.mul o (B f))) fs
        (λ f i.
        ap (F.mul (sg (suc d) n f))
        (over-same d f (λ t. left F u (c ∷ t)) (λ t. F.add (left F v t) (F.mul o (u t))) (λ t k. ap (λ (l : ℕ). F.add (left F v t) (F.mul (sign_element F (is_odd l)) (u t))) (full-long space d f t k))
        ∙ (over-plus d f (left F v) (λ t. F.mul o (u t)) ∙ ap (F.add (ov d f (left F v))) (over-times o d f u)))
        ∙ (L.mul_add (sg (suc d) n f) (ov d f (left F v)) (F.mul o (ov d f u)) ∙ ap (F.add (A f)) (mul_out F L (sg (suc d) n f) o (ov d f u))))
        ∙ (sum-plus F L A (λ f. F.mul o (B f)) fs
        ∙ (ap (λ (x : ℕ). F.add x (summed F (λ f. F.mul o (B f)) fs)) kept
        ∙ (L.zero_add (summed F (λ f. F.mul o (B f)) fs) (sum-below F L (λ f. F.mul o (B f)) fs) ∙ sum-times F L o B fs)))

    -- the sum over the towers of a cell with one cell left out is, up to sign, what its facets give
    pub left-out : (d n : ℕ) (u : List ℕ → ℕ) → 1 ≤ n → n ≤ count space (suc d) → ov (suc d) n (left F u) ≡ F.mul (sign_element F (is_odd (suc d))) (below d n u)
    left-out zero n u low high = left-step 0 n u (kept-vertex n (λ s. u (id_of space (cell_at 1 n) ∷ s)) low high)
    left-out (suc d) n u low high =
        left-step (suc d) n u
        (kept-facets d n (λ s. u (id_of space (cell_at (suc (suc d)) n) ∷ s)) low high (λ f l h. left-out d f (λ s. u (id_of space (cell_at (suc (suc d)) n) ∷ s)) l h))

    -- ---- flags among the full towers

    -- where a function is zero but at the flag of another cell, or of the cell itself
    pub flag-away : (d n m : ℕ) (u : List ℕ → ℕ) → d ≤ 3 → 1 ≤ n → n ≤ count space d → 1 ≤ m → m ≤ count space d → n ≢ m → ((t : List ℕ) → FullAt space d n t → t ≢ flag_of space d m → u t ≡ 0) → ov d n u ≡ 0
    flag-away d n m u small a b e f apart h =
        over-zero d n u (λ t k. h t k (λ q. (let r = full-head space d n t k in apart (id-same space d n d m small a b small e f (ids (sym r.1 ∙ (q ∙ head d m)))).1)))
      where
        ids : {x y : ℕ} {xs ys : List ℕ} → x ∷ xs ≡ y ∷ ys → x ≡ y
        ids {x} {y} {xs} {ys} e = ap (λ (zs : List ℕ). get_or zs 0 0) e

        tail : ℕ → ℕ → List ℕ
        tail zero m = []
        tail (suc d) m = flag_of space d (get_or (facets_of space (suc d) m) 0 0)

        head : (d m : ℕ) → flag_of space d m ≡ id_of space (cell_at d m) ∷ tail d m
        head zero m = refl
        head (suc d) m = refl

    pub flag-at : (d n : ℕ) (u : List ℕ → ℕ) → d ≤ 3 → 1 ≤ n → n ≤ count space d → ((t : List ℕ) → u t < F.size) → ((t : List ℕ) → FullAt space d n t → t ≢ flag_of space d n → u t ≡ 0)
        → ov d n u ≡ F.mul (sign_element F (flag_negative space negative d n)) (u (flag_of space d n))
    flag-at zero n u small a b lt h = sym (L.one_mul (u (id_of space (cell_at 0 n) ∷ [])) (lt (id_of space (cell_at 0 n) ∷ [])))
    flag-at (suc d) n u small a b lt h =
        let c : ℕ = id_of space (cell_at (suc d) n) in
        let fs : List ℕ = facets_of space (suc d) n in
        let first : ℕ = get_or fs 0 0 in
        let i = first-In space valid d n a b in
        let w = facet-range space valid d n first a b i in
        let H : ℕ → ℕ = λ f. F.mul (sg (suc d) n f) (ov d f (λ t. u (c ∷ t))) in
        sum-one F L H fs first (facets-distinct d n a b) i (L.mul_below (sg (suc d) n first) (ov d first (λ t. u (c ∷ t))))
        (λ f j ne. (let v = facet-range space valid d n f a b j in
        ap (F.mul (sg (suc d) n f)) (flag-away d f first (λ t. u (c ∷ t)) (omega (arith, small)) v.0 v.1 w.0 w.1 ne (λ t k q. h (c ∷ t) (f, t, j, k, refl) (λ e. q (rest e))))
        ∙ mul_zero F L (sg (suc d) n f)))
        ∙ (ap (F.mul (sg (suc d) n first)) (flag-at d first (λ t. u (c ∷ t)) (omega (arith, small)) w.0 w.1 (λ t. lt (c ∷ t)) (λ t k q. h (c ∷ t) (first, t, i, k, refl) (λ e. q (rest e))))
        ∙ (sym (L.mul_assoc (sg (suc d) n first) (sign_element F (flag_negative space negative d first)) (u (c ∷ flag_of space d first)))
        ∙ ap (λ (v : ℕ). F.mul v (u (c ∷ flag_of space d first))) (sign-times F L (negative (suc d) n first) (flag_negative space negative d first))))
      where
        rest : {x y : ℕ} {xs ys : List ℕ} → x ∷ xs ≡ y ∷ ys → xs ≡ ys
        rest {x} {y} {xs} {ys} e = ap tail_of e
          where
            tail_of : List ℕ → List ℕ
            tail_of [] = []
            tail_of (z ∷ zs) = zs
