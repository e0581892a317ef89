-- Loops over the places of a row, and over the pivots of a reduced form.
use Rattle.std.proofs.Common.{◌≡◌, ℕ, suc, ◌+◌, ◌<◌, ◌≤◌, inl, inr, List, [], ◌∷◌, ◌++◌, length, length-set, take, set, get_or, replicate, refl, ap, sym, ◌∙◌, subst, arith}
use Rattle.std.proofs.lemmas.Grind.{same_number_lists}
use Rattle.std.proofs.lemmas.List.{get_or-set_other, get_or-set_same, take_more}
use Rattle.std.proofs.lemmas.Simd.{length-replicate}
use Rattle.small_field.specs.Field.{Ops, IsField}
use Rattle.linear_laws.specs.Echelon.{IsReducedTo, rank_of}
use Rattle.linear_laws.specs.Marks.{mark}
use Rattle.linear_laws.specs.Vectors.{bump, plus_scaled, row_at, IsVector}
use Rattle.linear_laws.proofs.CallerLemmas.{plus_scaled-long, same_or_not}
use Rattle.cohomology.specs.Swept.{front, ArePivots, AreSwept, IsDual, IsForm, IsSwept}
use Rattle.cohomology.proofs.Duals.{dual_begun, dual_more}
use Rattle.cohomology.proofs.Sweeping.{not_swept, one_more_swept, plus_at, swept_more}

-- what a sum of two numbers is, by what they are
pub sum_of : (F : Ops) (s a b x y : ℕ) → s ≡ F.add a b → a ≡ x → b ≡ y → s ≡ F.add x y
sum_of F s a b x y e f g = e ∙ ap (λ k. F.add k b) f ∙ ap (F.add x) g

pub value_of : (f : ℕ → ℕ) (s a x : ℕ) → s ≡ f a → a ≡ x → s ≡ f x
value_of f s a x e g = e ∙ ap f g

-- ---- a row copied place by place

pub record IsCopiedUpto (cols col : ℕ) (source row : List ℕ) : Type 0 where
  pub long : length row ≡ cols
  pub done : (j : ℕ) → j < col → get_or row j 0 ≡ get_or source j 0

pub not_copied : (cols : ℕ) (source row : List ℕ) → row ≡ replicate cols 0 → IsCopiedUpto cols 0 source row
not_copied cols source row e = record { long = ap (λ (xs : List ℕ). length xs) e ∙ length-replicate cols 0; done = λ j l. absurd (omega (arith, l)) }

pub copied_more : (cols col x : ℕ) (source row next : List ℕ) → col < cols → IsCopiedUpto cols col source row → next ≡ set row col x → x ≡ get_or source col 0 → IsCopiedUpto cols (col + 1) source next
copied_more cols col x source row next l c e is = record {
  long = ap (λ (xs : List ℕ). length xs) e ∙ length-set row col x ∙ c.long;
  done = λ j lj.
      ap (λ xs. get_or xs j 0) e
      ∙ elim (same_or_not j col) [
        | inl here ↦ ap (λ k. get_or (set row col x) k 0) here ∙ get_or-set_same row col x 0 (omega (arith, l, c.long)) ∙ is ∙ ap (λ k. get_or source k 0) (sym here)
        | inr apart ↦ get_or-set_other row col j x 0 apart ∙ c.done j (omega (arith, lj, apart))
      ];
}

pub copied : (cols col : ℕ) (source row : List ℕ) → IsCopiedUpto cols col source row → cols ≤ col → length source ≡ cols → row ≡ source
copied cols col source row c le l = same_number_lists row source (c.long ∙ sym l) (λ j lj. c.done j (omega (arith, lj, le, c.long)))

-- ---- a multiple of a row added place by place

pub record IsAddedUpto (F : Ops) (s col : ℕ) (old source row : List ℕ) : Type 0 where
  pub long : length row ≡ length old
  pub done : (j : ℕ) → j < col → get_or row j 0 ≡ F.add (get_or old j 0) (F.mul s (get_or source j 0))
  pub left : (j : ℕ) → col ≤ j → get_or row j 0 ≡ get_or old j 0

pub not_added : (F : Ops) (s : ℕ) (old source : List ℕ) → IsAddedUpto F s 0 old source old
not_added F s old source = record { long = refl; done = λ j l. absurd (omega (arith, l)); left = λ j l. refl }

pub added_more : (F : Ops) (s col x : ℕ) (old source row next : List ℕ) → col < length row → IsAddedUpto F s col old source row → next ≡ set row col x → x ≡ F.add (get_or row col 0) (F.mul s (get_or source col 0)) → IsAddedUpto F s (col + 1) old source next
added_more F s col x old source row next l a e is = record {
  long = ap (λ (xs : List ℕ). length xs) e ∙ length-set row col x ∙ a.long;
  done = λ j lj.
      ap (λ xs. get_or xs j 0) e
      ∙ elim (same_or_not j col) [
        | inl here ↦
            ap (λ k. get_or (set row col x) k 0) here
            ∙ get_or-set_same row col x 0 l
            ∙ is
            ∙ ap (λ y. F.add y (F.mul s (get_or source col 0))) (a.left col (omega arith))
            ∙ ap (λ k. F.add (get_or old k 0) (F.mul s (get_or source k 0))) (sym here)
        | inr apart ↦ get_or-set_other row col j x 0 apart ∙ a.done j (omega (arith, lj, apart))
      ];
  left = λ j lj. ap (λ xs. get_or xs j 0) e ∙ get_or-set_other row col j x 0 (λ k. omega (arith, k, lj)) ∙ a.left j (omega (arith, lj));
}

module _ (F : Ops) (L : IsField F) where
  pub added : (s cols col : ℕ) (old source row : List ℕ) → IsAddedUpto F s col old source row → cols ≤ col → length old ≡ cols → length source ≡ cols → row ≡ plus_scaled F s old source
  added s cols col old source row a le lo ls =
      let same : length old ≡ length source = lo ∙ sym ls in
      same_number_lists row (plus_scaled F s old source) (a.long ∙ sym (plus_scaled-long F L s old source same))
      (λ j lj. a.done j (omega (arith, lj, le, a.long, lo)) ∙ sym (plus_at F L s old source j same (omega (arith, lj, a.long))))

  -- ---- along the pivots

  module _ (n : ℕ) (form : List (List ℕ)) (f : IsForm F n form) (pivots : List ℕ) (p : ArePivots n form pivots) where
    pub reduced : IsReducedTo F n (rank_of form) n f.before form
    reduced = record { matrix = f.is.matrix; long = f.is.long; span = f.is.span; pivots = pivots; rank_is = p.many; reduced = p.reduced }

    pub nothing_swept : (w : List ℕ) → IsVector F n w → IsSwept F n (front form) pivots 0 w w
    unfolding reduced
    nothing_swept w v = not_swept F L n (rank_of form) f.before form reduced w v

    pub one_more_pivot : (i s x place : ℕ) (w v next : List ℕ) → i < rank_of form → IsSwept F n (front form) pivots i w v → next ≡ plus_scaled F s v (row_at form i) → s ≡ F.neg x → x ≡ get_or v place 0 → get_or pivots i 0 ≡ place
        → IsSwept F n (front form) pivots (i + 1) w next
    unfolding reduced
    one_more_pivot i s x place w v next l sw e is value at =
        let up : suc i ≡ i + 1 = omega arith in
        let factor : s ≡ F.neg (get_or v (get_or pivots i 0) 0) = is ∙ ap F.neg (value ∙ ap (λ k. get_or v k 0) (sym at)) in
        subst (λ k. IsSwept F n (front form) pivots k w next) up
        (swept_more F L n (rank_of form) f.before form reduced i w v next l sw (e ∙ ap (λ k. plus_scaled F k v (row_at form i)) factor))

    pub one_more_row : (i : ℕ) (ws vs : List (List ℕ)) (v : List ℕ) (next : List (List ℕ)) → i < length ws → AreSwept F n (front form) pivots (take i ws) vs → IsSwept F n (front form) pivots (length pivots) (row_at ws i) v → next ≡ vs ++ v ∷ []
        → AreSwept F n (front form) pivots (take (i + 1) ws) next
    unfolding reduced
    one_more_row i ws vs v next l a s e =
        subst (λ us. AreSwept F n (front form) pivots us next) (sym (take_more ws i [] l))
        (subst (AreSwept F n (front form) pivots (take i ws ++ row_at ws i ∷ [])) (sym e) (one_more_swept F L n (rank_of form) f.before form reduced (take i ws) vs (row_at ws i) v a s))

    pub pivot_below : (i : ℕ) → i < rank_of form → get_or pivots i 0 < n
    pivot_below i l = p.reduced.within i (omega (arith, l, p.many))

    module _ (others : List (List ℕ)) (g : IsForm F n others) (places : List ℕ) (q : ArePivots n others places)
        (clear : (i j : ℕ) → i < rank_of others → j < length pivots → get_or (row_at others i) (get_or pivots j 0) 0 ≡ 0) where
      reduced_others : IsReducedTo F n (rank_of others) n g.before others
      reduced_others = record { matrix = g.is.matrix; long = g.is.long; span = g.is.span; pivots = places; rank_is = q.many; reduced = q.reduced }

      pub no_pivot_yet : (place own cols : ℕ) (v : List ℕ) → place < rank_of others → get_or places place 0 ≡ own → cols ≡ n → v ≡ mark cols own → IsDual F n form pivots others places 0 place v
      unfolding reduced reduced_others
      no_pivot_yet place own cols v l at e is =
          subst (IsDual F n form pivots others places 0 place) (ap (λ k. mark k (get_or places place 0)) (sym e) ∙ ap (mark cols) at ∙ sym is)
          (dual_begun F L n (rank_of form) f.before form reduced (rank_of others) g.before others reduced_others (λ i j li lj. clear i j li (omega (arith, lj, p.many))) place l)

      pub one_more_dual : (i place own pivot x : ℕ) (v next : List ℕ) → i < rank_of form → place < rank_of others → IsDual F n form pivots others places i place v → get_or places place 0 ≡ own → get_or pivots i 0 ≡ pivot
          → next ≡ set v pivot x → x ≡ F.add (get_or v pivot 0) (F.neg (get_or (row_at form i) own 0)) → IsDual F n form pivots others places (i + 1) place next
      unfolding reduced reduced_others
      one_more_dual i place own pivot x v next l lp d at pi e value =
          let up : suc i ≡ i + 1 = omega arith in
          let is : next ≡ bump F v (get_or pivots i 0) (F.neg (get_or (row_at form i) (get_or places place 0) 0)) =
          e ∙ ap (set v pivot) value ∙ ap (λ k. set v k (F.add (get_or v k 0) (F.neg (get_or (row_at form i) own 0)))) (sym pi)
          ∙ ap (λ k. bump F v (get_or pivots i 0) (F.neg (get_or (row_at form i) k 0))) (sym at) in
          subst (λ k. IsDual F n form pivots others places k place next) up
          (dual_more F L n (rank_of form) f.before form reduced (rank_of others) g.before others reduced_others (λ i j li lj. clear i j li (omega (arith, lj, p.many))) i place v next l lp d is)
