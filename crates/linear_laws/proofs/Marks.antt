use Rattle.std.proofs.Common.{◌≡◌, ℕ, zero, suc, ◌+◌, ◌<◌, List, [], ◌∷◌, ◌++◌, length, length-append, length-set, replicate, get_or, refl, ap, sym, ◌∙◌, arith}
use Rattle.std.proofs.lemmas.Simd.{length-replicate}
use Rattle.std.proofs.lemmas.List.{replicate-append-replicate}
use Rattle.small_field.specs.Field.{Ops, IsField}
use Rattle.linear_laws.specs.Marks.{mark, shifted, identity, beside}
use Rattle.linear_laws.specs.Vectors.{dot, IsVector, IsMatrix, plus_scaled, combination, row_at}
use Rattle.linear_laws.proofs.Dot.{dot_zeros, dot_comm, dot_below}
use Rattle.small_field.proofs.CallerLemmas.{add_zero, mul_zero, zero_mul}
use Rattle.linear_laws.proofs.Span.{combination-vector, combination-zeros, zeros-elements, one_times, zero_times}
use Rattle.linear_laws.proofs.RankSplit.{length-shifted, shifted_matrix, combination-shifted}
use Rattle.linear_laws.proofs.Alls.{all_append, all_set}

pub length-identity : (n : ℕ) → length (identity n) ≡ n
length-identity zero = refl
length-identity (suc n) = ap suc (length-shifted (identity n) ∙ length-identity n)

row_at-shifted : (rows : List (List ℕ)) (i : ℕ) → i < length rows → row_at (shifted rows) i ≡ 0 ∷ row_at rows i
row_at-shifted [] i lt = absurd (omega arith)
row_at-shifted (r ∷ rows) zero lt = refl
row_at-shifted (r ∷ rows) (suc i) lt = row_at-shifted rows i (omega arith)

-- row i of the identity is the mark of i
pub identity_row : (n i : ℕ) → i < n → row_at (identity n) i ≡ mark n i
identity_row zero i lt = absurd (omega arith)
identity_row (suc n) zero lt = refl
identity_row (suc n) (suc i) lt = row_at-shifted (identity n) i (omega (arith, length-identity n)) ∙ ap (λ (r : List ℕ). 0 ∷ r) (identity_row n i (omega arith))

pub length-mark : (n i : ℕ) → length (mark n i) ≡ n
length-mark n i = length-set (replicate n 0) i 1 ∙ length-replicate n 0

pub length-beside : (rows others : List (List ℕ)) → length rows ≡ length others → length (beside rows others) ≡ length rows
length-beside [] others same = refl
length-beside (r ∷ rows) [] same = absurd (omega arith)
length-beside (r ∷ rows) (s ∷ others) same = ap suc (length-beside rows others (omega arith))

pub beside_row : (rows others : List (List ℕ)) (i : ℕ) → length rows ≡ length others → i < length rows → row_at (beside rows others) i ≡ row_at rows i ++ row_at others i
beside_row [] others i same lt = absurd (omega arith)
beside_row (r ∷ rows) [] i same lt = absurd (omega arith)
beside_row (r ∷ rows) (s ∷ others) zero same lt = refl
beside_row (r ∷ rows) (s ∷ others) (suc i) same lt = beside_row rows others i (omega arith) (omega arith)

module _ (k : Ops) (f : IsField k) where
  ones_row : (n : ℕ) → IsVector k (suc n) (1 ∷ replicate n 0)
  ones_row n = record { long = ap suc (length-replicate n 0); elements = (f.one_below, zeros-elements k f n) }

  pub identity_matrix : (n : ℕ) → IsMatrix k n (identity n)
  identity_matrix zero = tt
  identity_matrix (suc n) = (ones_row n, shifted_matrix k f n (identity n) (identity_matrix n))

  -- multiples of zeros added
  zeros_added : (n c : ℕ) (xs : List ℕ) → IsVector k n xs → plus_scaled k c xs (replicate n 0) ≡ xs
  zeros_added zero c [] v = refl
  zeros_added zero c (x ∷ xs) v = absurd (omega (arith, v.long))
  zeros_added (suc n) c [] v = absurd (omega (arith, v.long))
  zeros_added (suc n) c (x ∷ xs) v =
      let l : length xs ≡ n = let h : length (x ∷ xs) ≡ suc n = v.long in omega arith in
      ap (λ (m : ℕ). m ∷ plus_scaled k c xs (replicate n 0)) (ap (k.add x) (mul_zero k f c) ∙ add_zero k f x v.elements.0)
      ∙ ap (λ (r : List ℕ). x ∷ r) (zeros_added n c xs (record { long = l; elements = v.elements.1 }))

  -- c at the front, added to a row that begins with 0
  front_added : (n c : ℕ) (xs : List ℕ) → c < k.size → IsVector k n xs → plus_scaled k c (0 ∷ xs) (1 ∷ replicate n 0) ≡ c ∷ xs
  front_added n c xs lc v =
      ap (λ (m : ℕ). m ∷ plus_scaled k c xs (replicate n 0)) (f.zero_add (k.mul c 1) (f.mul_below c 1) ∙ (f.mul_comm c 1 ∙ f.one_mul c lc))
      ∙ ap (λ (r : List ℕ). c ∷ r) (zeros_added n c xs v)

  -- a vector is the combination of the marks by its coordinates
  pub combination-identity : (n : ℕ) (xs : List ℕ) → IsVector k n xs → combination k n xs (identity n) ≡ xs
  combination-identity zero [] v = refl
  combination-identity zero (x ∷ xs) v = absurd (omega (arith, v.long))
  combination-identity (suc n) [] v = absurd (omega (arith, v.long))
  combination-identity (suc n) (x ∷ xs) v =
      let l : length xs ≡ n = let h : length (x ∷ xs) ≡ suc n = v.long in omega arith in
      let w : IsVector k n xs = record { long = l; elements = v.elements.1 } in
      ap (λ (r : List ℕ). plus_scaled k x r (1 ∷ replicate n 0)) (combination-shifted k f n xs (identity n) ∙ ap (λ (r : List ℕ). 0 ∷ r) (combination-identity n xs w))
      ∙ front_added n x xs v.elements.0 w

  -- sums of rows that are put together
  plus_scaled-append : (s : ℕ) (xs ys us vs : List ℕ) → length xs ≡ length us → plus_scaled k s (xs ++ ys) (us ++ vs) ≡ plus_scaled k s xs us ++ plus_scaled k s ys vs
  plus_scaled-append s [] ys [] vs same = refl
  plus_scaled-append s [] ys (u ∷ us) vs same = absurd (omega arith)
  plus_scaled-append s (x ∷ xs) ys [] vs same = absurd (omega arith)
  plus_scaled-append s (x ∷ xs) ys (u ∷ us) vs same = ap (λ (r : List ℕ). k.add x (k.mul s u) ∷ r) (plus_scaled-append s xs ys us vs (omega arith))

  pub beside_matrix : (m n : ℕ) (rows others : List (List ℕ)) → IsMatrix k m rows → IsMatrix k n others → IsMatrix k (m + n) (beside rows others)
  beside_matrix m n [] others a b = tt
  beside_matrix m n (r ∷ rows) [] a b = tt
  beside_matrix m n (r ∷ rows) (s ∷ others) a b =
      let lr : length r ≡ m = a.0.long in
      let ls : length s ≡ n = b.0.long in
      (record { long = length-append r s ∙ omega arith; elements = all_append (λ x. x < k.size) r s a.0.elements b.0.elements }, beside_matrix m n rows others a.1 b.1)

  pub combination-beside : (m n : ℕ) (cs : List ℕ) (rows others : List (List ℕ)) → IsMatrix k m rows → IsMatrix k n others → length rows ≡ length others → combination k (m + n) cs (beside rows others) ≡ combination k m cs rows ++ combination k n cs others
  combination-beside m n [] rows others a b same = sym (replicate-append-replicate {A = ℕ} m n 0)
  combination-beside m n (c ∷ cs) [] [] a b same = sym (replicate-append-replicate {A = ℕ} m n 0)
  combination-beside m n (c ∷ cs) [] (s ∷ others) a b same = absurd (omega arith)
  combination-beside m n (c ∷ cs) (r ∷ rows) [] a b same = absurd (omega arith)
  combination-beside m n (c ∷ cs) (r ∷ rows) (s ∷ others) a b same =
      let C : IsVector k m (combination k m cs rows) = combination-vector k f m cs rows a.1 in
      ap (λ (w : List ℕ). plus_scaled k c w (r ++ s)) (combination-beside m n cs rows others a.1 b.1 (omega arith))
      ∙ plus_scaled-append c (combination k m cs rows) (combination k n cs others) r s (C.long ∙ sym a.0.long)

  -- the combination by a mark is the row there
  pub combination-mark : (m n p : ℕ) (rows : List (List ℕ)) → IsMatrix k m rows → length rows ≡ n → p < n → combination k m (mark n p) rows ≡ row_at rows p
  combination-mark m zero p rows a long lt = absurd (omega arith)
  combination-mark m (suc n) p [] a long lt = absurd (omega arith)
  combination-mark m (suc n) zero (r ∷ rows) a long lt =
      ap (λ (w : List ℕ). plus_scaled k 1 w r) (combination-zeros k f m n rows a.1) ∙ one_times k f m r a.0.long a.0.elements
  combination-mark m (suc n) (suc p) (r ∷ rows) a long lt =
      let C : IsVector k m (combination k m (mark n p) rows) = combination-vector k f m (mark n p) rows a.1 in
      zero_times k f (combination k m (mark n p) rows) r (C.long ∙ sym a.0.long) C.elements ∙ combination-mark m n p rows a.1 (omega arith) (omega arith)

  pub mark_vector : (n p : ℕ) → IsVector k n (mark n p)
  mark_vector n p = record { long = length-mark n p; elements = all_set (λ x. x < k.size) (replicate n 0) p 1 f.one_below (zeros-elements k f n) }

  -- a mark reads the number there
  pub dot_mark : (n p : ℕ) (us : List ℕ) → IsVector k n us → p < n → dot k (mark n p) us ≡ get_or us p 0
  dot_mark zero p us v lt = absurd (omega arith)
  dot_mark (suc n) p [] v lt = absurd (omega (arith, v.long))
  dot_mark (suc n) zero (u ∷ us) v lt =
      ap (k.add (k.mul 1 u)) (dot_comm k f (replicate n 0) us ∙ dot_zeros k f us n) ∙ (add_zero k f (k.mul 1 u) (f.mul_below 1 u) ∙ f.one_mul u v.elements.0)
  dot_mark (suc n) (suc p) (u ∷ us) v lt =
      let l : length us ≡ n = let h : length (u ∷ us) ≡ suc n = v.long in omega arith in
      ap (λ (x : ℕ). k.add x (dot k (mark n p) us)) (zero_mul k f u)
      ∙ (f.zero_add (dot k (mark n p) us) (dot_below k f (mark n p) us) ∙ dot_mark n p us (record { long = l; elements = v.elements.1 }) (omega arith))

  pub dot-append : (xs ys us vs : List ℕ) → length xs ≡ length us → dot k (xs ++ ys) (us ++ vs) ≡ k.add (dot k xs us) (dot k ys vs)
  dot-append [] ys [] vs same = sym (f.zero_add (dot k ys vs) (dot_below k f ys vs))
  dot-append [] ys (u ∷ us) vs same = absurd (omega arith)
  dot-append (x ∷ xs) ys [] vs same = absurd (omega arith)
  dot-append (x ∷ xs) ys (u ∷ us) vs same = ap (k.add (k.mul x u)) (dot-append xs ys us vs (omega arith)) ∙ sym (f.add_assoc (k.mul x u) (dot k xs us) (dot k ys vs))
