-- Vectors that are dual to the rows of a reduced form, and on which the rows of another are zero.
use Rattle.std.proofs.Common.{◌≡◌, ◌≢◌, ℕ, suc, ◌<◌, ◌≤◌, inl, inr, List, [], ◌∷◌, length, length-set, get_or, replicate, refl, ap, sym, ◌∙◌, subst, arith}
use Rattle.std.specs.List.{AllByRecursion}
use Rattle.small_field.specs.Field.{Ops, IsField}
use Rattle.small_field.proofs.CallerLemmas.{add_zero, mul_zero, zero_below}
use Rattle.linear_laws.specs.Echelon.{IsReducedTo}
use Rattle.linear_laws.specs.Marks.{mark}
use Rattle.linear_laws.specs.Vectors.{boundary, bump, dot, row_at, InSpan, IsVector}
use Rattle.linear_laws.proofs.CallerLemmas.{all_set, dot_below, dot_bumped, dot_comm, dot_of_none, mark_vector, same_or_not}
use Rattle.cohomology.specs.Swept.{IsDual}
use Rattle.cohomology.proofs.Sweeping.{front, front_matrix, form_own, form_other, form_vector, pivot}
use Rattle.cohomology.proofs.Triangles.{at_mark}
use Rattle.std.proofs.lemmas.List.{get_or-take, length-take-le}

module _ (F : Ops) (L : IsField F) (n r : ℕ) (before form : List (List ℕ)) (h : IsReducedTo F n r n before form) (b : ℕ) (vs zform : List (List ℕ)) (g : IsReducedTo F n b n vs zform)
    (clear : (i j : ℕ) → i < b → j < r → get_or (row_at zform i) (pivot F L n r before form h j) 0 ≡ 0) where
  abbrev pub p : ℕ → ℕ
  p j = pivot F L n r before form h j

  abbrev pub q : ℕ → ℕ
  q a = pivot F L n b vs zform g a

  -- 1 at the pivot of row a, and at the first pivots of the other form the negatives of its entries there
  abbrev IsDualUpto : (upto a : ℕ) → (v : List ℕ) → Type 0
  IsDualUpto upto a v = IsDual F n form h.pivots zform g.pivots upto a v

  q_within : (a : ℕ) → a < b → q a < n
  q_within a l = g.reduced.within a (omega (arith, l, g.rank_is))

  p_within : (j : ℕ) → j < r → p j < n
  p_within j l = h.reduced.within j (omega (arith, l, h.rank_is))

  pub dual_begun : (a : ℕ) → a < b → IsDualUpto 0 a (mark n (q a))
  dual_begun a l = record {
    vector = mark_vector F L n (q a);
    done = λ j lj. absurd (omega (arith, lj));
    left = λ j low lj. at_mark F L n (q a) (row_at form j) (form_vector F L n r before form h j (omega (arith, lj, h.rank_is))) (q_within a l);
    own = at_mark F L n (q a) (row_at zform a) (form_vector F L n b vs zform g a l) (q_within a l) ∙ form_own F L n b vs zform g a l;
    apart = λ c lc ne. let lb : c < b = omega (arith, lc, g.rank_is) in at_mark F L n (q a) (row_at zform c) (form_vector F L n b vs zform g c lb) (q_within a l) ∙ form_other F L n b vs zform g a c l lb (λ e. ne (sym e));
  }

  -- a product after something is added at a place
  after : (i x : ℕ) (v w : List ℕ) → i < n → IsVector F n v → IsVector F n w → dot F w (bump F v i x) ≡ F.add (dot F w v) (F.mul x (get_or w i 0))
  after i x v w l vv vw =
      dot_comm F L w (bump F v i x)
      ∙ dot_bumped F L v w i x (omega (arith, l, vv.long)) (vw.long ∙ sym vv.long)
      ∙ ap (λ y. F.add y (F.mul x (get_or w i 0))) (dot_comm F L v w)

  unmoved : (i x : ℕ) (v w : List ℕ) → i < n → IsVector F n v → IsVector F n w → get_or w i 0 ≡ 0 → (y : ℕ) → y < F.size → dot F w v ≡ y → dot F w (bump F v i x) ≡ y
  unmoved i x v w l vv vw z y ly e =
      after i x v w l vv vw ∙ ap (λ t. F.add (dot F w v) (F.mul x t)) z ∙ ap (F.add (dot F w v)) (mul_zero F L x) ∙ ap (λ t. F.add t 0) e ∙ add_zero F L y ly

  bumped_vector : (i x : ℕ) (v : List ℕ) → IsVector F n v → IsVector F n (bump F v i x)
  bumped_vector i x v w = record {
    long = length-set v i (F.add (get_or v i 0) x) ∙ w.long;
    elements = all_set (λ y. y < F.size) v i (F.add (get_or v i 0) x) (L.add_below (get_or v i 0) x) w.elements;
  }

  entry_below : (w : List ℕ) (i : ℕ) → IsVector F n w → i < n → get_or w i 0 < F.size
  entry_below w i v l = subst (λ y. y < F.size) (at_mark F L n i w v l) (dot_below F L w (mark n i))

  pub dual_more : (i a : ℕ) (v next : List ℕ) → i < r → a < b → IsDualUpto i a v → next ≡ bump F v (p i) (F.neg (get_or (row_at form i) (q a) 0)) → IsDualUpto (suc i) a next
  dual_more i a v next l la d e =
      let x : ℕ = F.neg (get_or (row_at form i) (q a) 0) in
      let li : p i < n = p_within i l in
      let row : (j : ℕ) → j < r → IsVector F n (row_at form j) = form_vector F L n r before form h in
      let new : (c : ℕ) → c < b → IsVector F n (row_at zform c) = form_vector F L n b vs zform g in
      subst (IsDualUpto (suc i) a) (sym e)
      (record {
        vector = bumped_vector (p i) x v d.vector;
        done = λ j lj. elim (same_or_not i j) [
          | inl same ↦
              ap (λ k. dot F (row_at form k) (bump F v (p i) x)) (sym same)
              ∙ after (p i) x v (row_at form i) li d.vector (row i l)
              ∙ ap (λ y. F.add y (F.mul x (get_or (row_at form i) (p i) 0))) (d.left i (omega arith) (omega (arith, l, h.rank_is)))
              ∙ ap (λ y. F.add (get_or (row_at form i) (q a) 0) (F.mul x y)) (form_own F L n r before form h i l)
              ∙ ap (F.add (get_or (row_at form i) (q a) 0)) (L.mul_comm x 1 ∙ L.one_mul x (L.neg_below (get_or (row_at form i) (q a) 0)))
              ∙ L.add_neg (get_or (row_at form i) (q a) 0)
          | inr apart ↦
              let lower : j < i = omega (arith, lj, apart) in
              let lr : j < r = omega (arith, lower, l) in
              unmoved (p i) x v (row_at form j) li d.vector (row j lr) (form_other F L n r before form h i j l lr apart) 0 (zero_below F L) (d.done j lower)
        ];
        left = λ j low lj.
            let lr : j < r = omega (arith, lj, h.rank_is) in
            let apart : i ≢ j = λ s. omega (arith, s, low) in
            unmoved (p i) x v (row_at form j) li d.vector (row j lr) (form_other F L n r before form h i j l lr apart) (get_or (row_at form j) (q a) 0) (entry_below (row_at form j) (q a) (row j lr) (q_within a la)) (d.left j (omega (arith, low)) lj);
        own = unmoved (p i) x v (row_at zform a) li d.vector (new a la) (clear a i la l) 1 L.one_below d.own;
        apart = λ c lc ne. let lb : c < b = omega (arith, lc, g.rank_is) in unmoved (p i) x v (row_at zform c) li d.vector (new c lb) (clear c i lb l) 0 (zero_below F L) (d.apart c lc ne);
      })

  -- ---- zero on all that the form spans

  dual_on_front : (a : ℕ) (v : List ℕ) → IsDualUpto r a v → (rows : List (List ℕ)) → ((j : ℕ) → j < length rows → dot F (row_at rows j) v ≡ 0) → AllByRecursion (λ w. dot F w v ≡ 0) rows
  dual_on_front a v d [] z = tt
  dual_on_front a v d (w ∷ rows) z = (z 0 (omega arith), dual_on_front a v d rows (λ j l. z (suc j) (omega (arith, l))))

  front_few : r ≤ length form
  front_few = let x : length h.pivots ≤ length form = h.reduced.few in omega (arith, x, h.rank_is)

  pub dual_is_cycle : (a : ℕ) (v : List ℕ) → IsDualUpto r a v → (last : List (List ℕ)) → AllByRecursion (InSpan F n (front F L n r before form h)) last → boundary F last v ≡ replicate (length last) 0
  dual_is_cycle a v d [] s = refl
  dual_is_cycle a v d (w ∷ last) s =
      let rows : List (List ℕ) = front F L n r before form h in
      let none : AllByRecursion (λ u. dot F u v ≡ 0) rows =
      dual_on_front a v d rows (λ j l. let lj : j < r = omega (arith, l, length-take-le r form front_few) in ap (λ u. dot F u v) (get_or-take r form j [] lj) ∙ d.done j lj) in
      let one : dot F w v ≡ 0 = ap (λ u. dot F u v) (sym s.0.is) ∙ dot_of_none F L n s.0.coefficients v rows (front_matrix F L n r before form h) d.vector.long none in
      ap (λ x. x ∷ boundary F last v) one ∙ ap (λ xs. 0 ∷ xs) (dual_is_cycle a v d last s.1)
