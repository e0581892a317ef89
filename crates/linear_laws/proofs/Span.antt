use Rattle.std.proofs.Common.{◌≡◌, ◌≢◌, ℕ, zero, suc, ◌<◌, List, [], ◌∷◌, length, replicate, get_or, set, refl, ap, sym, ◌∙◌, arith, subst, length-set, get_or-set_same, get_or-set_other}
use Rattle.std.specs.List.{AllByRecursion}
use Rattle.std.proofs.lemmas.Simd.{length-zip2, length-replicate}
use Rattle.std.proofs.lemmas.List.{set-set, set-get_or}
use Rattle.small_field.specs.Field.{Ops, IsField}
use Rattle.linear_laws.specs.Vectors.{IsVector, IsMatrix, plus_scaled, combination, InSpan, SameSpan, entry}
use Rattle.small_field.specs.Values.{AreElements}
use Rattle.small_field.proofs.CallerLemmas.{zero_below, add_zero, mul_zero, zero_mul, mul_neg, add_swap, add_mul}
use Rattle.linear_laws.proofs.Alls.{all_set, all_at}

pub same_span_trans : (k : Ops) (n : ℕ) (a b c : List (List ℕ)) → SameSpan k n a b → SameSpan k n b c → SameSpan k n a c
same_span_trans k n a b c p q = record { there = λ v h. q.there v (p.there v h); back = λ v h. p.back v (q.back v h) }

module _ (k : Ops) (f : IsField k) where
  -- laws at one place
  -- (x + c z) + s (y + d z) is (x + s y) + (c + s d) z
  place_mix : (s x y c d z : ℕ) → k.add (k.add x (k.mul c z)) (k.mul s (k.add y (k.mul d z))) ≡ k.add (k.add x (k.mul s y)) (k.mul (k.add c (k.mul s d)) z)
  place_mix s x y c d z =
      ap (λ n. k.add (k.add x (k.mul c z)) n) (f.mul_add s y (k.mul d z) ∙ ap (λ n. k.add (k.mul s y) n) (sym (f.mul_assoc s d z)))
      ∙ (add_swap k f x (k.mul c z) (k.mul s y) (k.mul (k.mul s d) z)
      ∙ ap (λ n. k.add (k.add x (k.mul s y)) n) (sym (add_mul k f c (k.mul s d) z)))

  place_zero : (x y : ℕ) → x < k.size → k.add x (k.mul 0 y) ≡ x
  place_zero x y h = ap (λ n. k.add x n) (zero_mul k f y) ∙ add_zero k f x h

  place_one : (x : ℕ) → x < k.size → k.add 0 (k.mul 1 x) ≡ x
  place_one x h = f.zero_add (k.mul 1 x) (f.mul_below 1 x) ∙ f.one_mul x h

  -- (x + s y) - s y is x
  place_back : (s x y : ℕ) → x < k.size → k.add (k.add x (k.mul s y)) (k.mul (k.neg s) y) ≡ x
  place_back s x y h =
      let e : k.mul (k.neg s) y ≡ k.neg (k.mul s y) = f.mul_comm (k.neg s) y ∙ (mul_neg k f y s ∙ ap k.neg (f.mul_comm y s)) in
      ap (λ n. k.add (k.add x (k.mul s y)) n) e ∙ (f.add_assoc x (k.mul s y) (k.neg (k.mul s y)) ∙ (ap (λ n. k.add x n) (f.add_neg (k.mul s y)) ∙ add_zero k f x h))

  -- laws of rows
  pub plus_scaled-long : (s : ℕ) (xs ys : List ℕ) → length xs ≡ length ys → length (plus_scaled k s xs ys) ≡ length xs
  plus_scaled-long s xs ys h = length-zip2 (λ x y. k.add x (k.mul s y)) xs ys h

  pub plus_scaled-elements : (s : ℕ) (xs ys : List ℕ) → AreElements k (plus_scaled k s xs ys)
  plus_scaled-elements s [] ys = tt
  plus_scaled-elements s (x ∷ xs) [] = tt
  plus_scaled-elements s (x ∷ xs) (y ∷ ys) = (f.add_below x (k.mul s y), plus_scaled-elements s xs ys)

  pub plus_scaled-vector : (n s : ℕ) (xs ys : List ℕ) → IsVector k n xs → IsVector k n ys → IsVector k n (plus_scaled k s xs ys)
  plus_scaled-vector n s xs ys a b = record { long = plus_scaled-long s xs ys (a.long ∙ sym b.long) ∙ a.long; elements = plus_scaled-elements s xs ys }

  mix : (s c d : ℕ) (xs ys zs : List ℕ) → length xs ≡ length zs → length ys ≡ length zs → plus_scaled k s (plus_scaled k c xs zs) (plus_scaled k d ys zs) ≡ plus_scaled k (k.add c (k.mul s d)) (plus_scaled k s xs ys) zs
  mix s c d [] ys zs a b = refl
  mix s c d (x ∷ xs) ys [] a b = absurd (omega arith)
  mix s c d (x ∷ xs) [] (z ∷ zs) a b = absurd (omega arith)
  mix s c d (x ∷ xs) (y ∷ ys) (z ∷ zs) a b =
      ap (λ n. n ∷ plus_scaled k s (plus_scaled k c xs zs) (plus_scaled k d ys zs)) (place_mix s x y c d z)
      ∙ ap (λ r. k.add (k.add x (k.mul s y)) (k.mul (k.add c (k.mul s d)) z) ∷ r) (mix s c d xs ys zs (omega arith) (omega arith))

  pub zero_times : (xs ys : List ℕ) → length xs ≡ length ys → AreElements k xs → plus_scaled k 0 xs ys ≡ xs
  zero_times [] ys a h = refl
  zero_times (x ∷ xs) [] a h = absurd (omega arith)
  zero_times (x ∷ xs) (y ∷ ys) a h = ap (λ n. n ∷ plus_scaled k 0 xs ys) (place_zero x y h.0) ∙ ap (λ r. x ∷ r) (zero_times xs ys (omega arith) h.1)

  pub one_times : (n : ℕ) (xs : List ℕ) → length xs ≡ n → AreElements k xs → plus_scaled k 1 (replicate n 0) xs ≡ xs
  one_times zero [] a h = refl
  one_times zero (x ∷ xs) a h = absurd (omega arith)
  one_times (suc n) [] a h = absurd (omega arith)
  one_times (suc n) (x ∷ xs) a h = ap (λ m. m ∷ plus_scaled k 1 (replicate n 0) xs) (place_one x h.0) ∙ ap (λ r. x ∷ r) (one_times n xs (omega arith) h.1)

  pub taken_back : (s : ℕ) (xs ys : List ℕ) → length xs ≡ length ys → AreElements k xs → plus_scaled k (k.neg s) (plus_scaled k s xs ys) ys ≡ xs
  taken_back s [] ys a h = refl
  taken_back s (x ∷ xs) [] a h = absurd (omega arith)
  taken_back s (x ∷ xs) (y ∷ ys) a h = ap (λ n. n ∷ plus_scaled k (k.neg s) (plus_scaled k s xs ys) ys) (place_back s x y h.0) ∙ ap (λ r. x ∷ r) (taken_back s xs ys (omega arith) h.1)

  pub zeros-elements : (n : ℕ) → AreElements k (replicate n 0)
  zeros-elements zero = tt
  zeros-elements (suc n) = (zero_below k f, zeros-elements n)

  -- combinations
  pub combination-vector : (n : ℕ) (cs : List ℕ) (rows : List (List ℕ)) → IsMatrix k n rows → IsVector k n (combination k n cs rows)
  combination-vector n [] rows a = record { long = length-replicate n 0; elements = zeros-elements n }
  combination-vector n (c ∷ cs) [] a = record { long = length-replicate n 0; elements = zeros-elements n }
  combination-vector n (c ∷ cs) (r ∷ rows) a = plus_scaled-vector n c (combination k n cs rows) r (combination-vector n cs rows a.1) a.0

  pub zeros_plus : (n s : ℕ) → plus_scaled k s (replicate n 0) (replicate n 0) ≡ replicate n 0
  zeros_plus zero s = refl
  zeros_plus (suc n) s = ap (λ m. m ∷ plus_scaled k s (replicate n 0) (replicate n 0)) (ap (λ m. k.add 0 m) (mul_zero k f s) ∙ f.zero_add 0 (zero_below k f)) ∙ ap (λ r. 0 ∷ r) (zeros_plus n s)

  -- a sum of two combinations
  pub combination-plus : (n s : ℕ) (cs ds : List ℕ) (rows : List (List ℕ)) → IsMatrix k n rows → length cs ≡ length rows → length ds ≡ length rows → plus_scaled k s (combination k n cs rows) (combination k n ds rows) ≡ combination k n (plus_scaled k s cs ds) rows
  combination-plus n s [] [] [] a p q = zeros_plus n s
  combination-plus n s [] [] (r ∷ rows) a p q = absurd (omega arith)
  combination-plus n s [] (d ∷ ds) [] a p q = absurd (omega arith)
  combination-plus n s [] (d ∷ ds) (r ∷ rows) a p q = absurd (omega arith)
  combination-plus n s (c ∷ cs) ds [] a p q = absurd (omega arith)
  combination-plus n s (c ∷ cs) [] (r ∷ rows) a p q = absurd (omega arith)
  combination-plus n s (c ∷ cs) (d ∷ ds) (r ∷ rows) a p q =
      let C : List ℕ = combination k n cs rows in
      let D : List ℕ = combination k n ds rows in
      let longC : length C ≡ length r = (combination-vector n cs rows a.1).long ∙ sym a.0.long in
      let longD : length D ≡ length r = (combination-vector n ds rows a.1).long ∙ sym a.0.long in
      mix s c d C D r longC longD
      ∙ ap (λ v. plus_scaled k (k.add c (k.mul s d)) v r) (combination-plus n s cs ds rows a.1 (omega arith) (omega arith))

  pub combination-zeros : (n m : ℕ) (rows : List (List ℕ)) → IsMatrix k n rows → combination k n (replicate m 0) rows ≡ replicate n 0
  combination-zeros n zero rows a = refl
  combination-zeros n (suc m) [] a = refl
  combination-zeros n (suc m) (r ∷ rows) a =
      ap (λ v. plus_scaled k 0 v r) (combination-zeros n m rows a.1) ∙ zero_times (replicate n 0) r (length-replicate n 0 ∙ sym a.0.long) (zeros-elements n)

  -- spans
  pub span_zero : (n : ℕ) (rows : List (List ℕ)) → IsMatrix k n rows → InSpan k n rows (replicate n 0)
  span_zero n rows a = record { coefficients = replicate (length rows) 0; vector = record { long = length-replicate (length rows) 0; elements = zeros-elements (length rows) }; is = combination-zeros n (length rows) rows a }

  pub span_plus : (n s : ℕ) (rows : List (List ℕ)) (v w : List ℕ) → IsMatrix k n rows → InSpan k n rows v → InSpan k n rows w → InSpan k n rows (plus_scaled k s v w)
  span_plus n s rows v w a p q = record {
    coefficients = plus_scaled k s p.coefficients q.coefficients;
    vector = plus_scaled-vector (length rows) s p.coefficients q.coefficients p.vector q.vector;
    is =
        sym (combination-plus n s p.coefficients q.coefficients rows a p.vector.long q.vector.long)
        ∙ (ap (λ x. plus_scaled k s x (combination k n q.coefficients rows)) p.is ∙ ap (λ y. plus_scaled k s v y) q.is);
  }

  -- one more row
  pub span_more : (n : ℕ) (rows : List (List ℕ)) (r v : List ℕ) → IsMatrix k n rows → IsVector k n r → InSpan k n rows v → InSpan k n (r ∷ rows) v
  span_more n rows r v a b p = record {
    coefficients = 0 ∷ p.coefficients;
    vector = record { long = ap suc p.vector.long; elements = (zero_below k f, p.vector.elements) };
    is =
        let c : IsVector k n (combination k n p.coefficients rows) = combination-vector n p.coefficients rows a in
        zero_times (combination k n p.coefficients rows) r (c.long ∙ sym b.long) c.elements ∙ p.is;
  }

  pub span_all_more : (n : ℕ) (rows : List (List ℕ)) (r : List ℕ) → IsMatrix k n rows → IsVector k n r → (vs : List (List ℕ)) → AllByRecursion (InSpan k n rows) vs → AllByRecursion (InSpan k n (r ∷ rows)) vs
  span_all_more n rows r a b [] h = tt
  span_all_more n rows r a b (v ∷ vs) h = (span_more n rows r v a b h.0, span_all_more n rows r a b vs h.1)

  -- each row is in the span
  pub span_rows : (n : ℕ) (rows : List (List ℕ)) → IsMatrix k n rows → AllByRecursion (InSpan k n rows) rows
  span_rows n [] a = tt
  span_rows n (r ∷ rows) a = (
    record {
      coefficients = 1 ∷ replicate (length rows) 0;
      vector = record { long = ap suc (length-replicate (length rows) 0); elements = (f.one_below, zeros-elements (length rows)) };
      is = ap (λ v. plus_scaled k 1 v r) (combination-zeros n (length rows) rows a.1) ∙ one_times n r a.0.long a.0.elements;
    },
    span_all_more n rows r a.1 a.0 rows (span_rows n rows a.1),
  )

  -- what is in the span of rows that are in a span
  pub span_within : (n : ℕ) (rows others : List (List ℕ)) → IsMatrix k n others → AllByRecursion (InSpan k n others) rows → (cs : List ℕ) → InSpan k n others (combination k n cs rows)
  span_within n rows others a h [] = span_zero n others a
  span_within n [] others a h (c ∷ cs) = span_zero n others a
  span_within n (r ∷ rows) others a h (c ∷ cs) = span_plus n c others (combination k n cs rows) r a (span_within n rows others a h.1 cs) h.0

  pub same_span : (n : ℕ) (rows others : List (List ℕ)) → IsMatrix k n rows → IsMatrix k n others → AllByRecursion (InSpan k n others) rows → AllByRecursion (InSpan k n rows) others → SameSpan k n rows others
  same_span n rows others a b h i = record {
    there = λ v p. subst (InSpan k n others) p.is (span_within n rows others b h p.coefficients);
    back = λ v p. subst (InSpan k n rows) p.is (span_within n others rows a i p.coefficients);
  }

  -- one row addition
  pub addition_keeps_span : (n s i j : ℕ) (rows : List (List ℕ)) → IsMatrix k n rows → i < length rows → j < length rows → i ≢ j → SameSpan k n rows (set rows i (plus_scaled k s (get_or rows i []) (get_or rows j [])))
  addition_keeps_span n s i j rows a li lj ne =
      let x : List ℕ = get_or rows i [] in
      let y : List ℕ = get_or rows j [] in
      let w : List ℕ = plus_scaled k s x y in
      let vx : IsVector k n x = all_at (IsVector k n) rows i [] li a in
      let vy : IsVector k n y = all_at (IsVector k n) rows j [] lj a in
      let b : IsMatrix k n (set rows i w) = all_set (IsVector k n) rows i w (plus_scaled-vector n s x y vx vy) a in
      let mine : AllByRecursion (InSpan k n rows) rows = span_rows n rows a in
      let new : AllByRecursion (InSpan k n rows) (set rows i w) = all_set (InSpan k n rows) rows i w (span_plus n s rows x y a (all_at (InSpan k n rows) rows i [] li mine) (all_at (InSpan k n rows) rows j [] lj mine)) mine in
      let theirs : AllByRecursion (InSpan k n (set rows i w)) (set rows i w) = span_rows n (set rows i w) b in
      let long : length (set rows i w) ≡ length rows = length-set rows i w in
      let w_in : InSpan k n (set rows i w) w = subst (InSpan k n (set rows i w)) (get_or-set_same rows i w [] li) (all_at (InSpan k n (set rows i w)) (set rows i w) i [] (omega arith) theirs) in
      let y_in : InSpan k n (set rows i w) y = subst (InSpan k n (set rows i w)) (get_or-set_other rows i j w [] (λ e. ne (sym e))) (all_at (InSpan k n (set rows i w)) (set rows i w) j [] (omega arith) theirs) in
      let x_in : InSpan k n (set rows i w) x = subst (InSpan k n (set rows i w)) (taken_back s x y (vx.long ∙ sym vy.long) vx.elements) (span_plus n (k.neg s) (set rows i w) w y b w_in y_in) in
      let old : AllByRecursion (InSpan k n (set rows i w)) rows = subst (AllByRecursion (InSpan k n (set rows i w))) (set-set rows i w (get_or rows i []) ∙ set-get_or rows i []) (all_set (InSpan k n (set rows i w)) (set rows i w) i x x_in theirs) in
      same_span n rows (set rows i w) a b old new

  -- entries are elements
  pub list_below : (xs : List ℕ) (j : ℕ) → AreElements k xs → get_or xs j 0 < k.size
  list_below [] j h = zero_below k f
  list_below (x ∷ xs) zero h = h.0
  list_below (x ∷ xs) (suc j) h = list_below xs j h.1

  pub row_entry_below : (n : ℕ) (rows : List (List ℕ)) (i j : ℕ) → IsMatrix k n rows → entry rows i j < k.size
  row_entry_below n [] i j a = zero_below k f
  row_entry_below n (r ∷ rows) zero j a = list_below r j a.0.elements
  row_entry_below n (r ∷ rows) (suc i) j a = row_entry_below n rows i j a.1
