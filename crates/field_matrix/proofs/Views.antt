use Rattle.std.proofs.Common.{◌≡◌, ℕ, zero, suc, ◌+◌, ◌*◌, ◌<◌, List, ◌∷◌, ◌++◌, length, replicate, take, drop, refl, ap, sym, ◌∙◌, arith, subst}
use Rattle.std.proofs.lemmas.List.{take_at, replicate-append-replicate}
use Rattle.std.proofs.Math.Seq.{drop-append_seam}
use Rattle.std.proofs.lemmas.Simd.{length-replicate}
use Rattle.small_field.specs.Field.{Ops, IsField}
use Rattle.linear_laws.specs.Vectors.{IsMatrix, row_at, entry}
use Rattle.linear_laws.proofs.CallerLemmas.{row_entry_below}
use Rattle.field_matrix.specs.Rows.{cut, Rows, IsFilled}
use Rattle.field_matrix.proofs.Cut.{length-cut, cut-matrix}

module _ (n c : ℕ) (xs : List ℕ) (v : Rows) (is : record { cols = c; rows = cut n c xs } ≡ v) where
  pub row_within : (row : ℕ) → row < length v.rows → row < n
  row_within row lt = let l : row < length (cut n c xs) = subst (λ (w : Rows). row < length w.rows) (sym is) lt in omega (arith, length-cut n c xs)

  pub rows_are : length v.rows ≡ n
  rows_are = ap (λ (w : Rows). length w.rows) (sym is) ∙ length-cut n c xs

  pub seen_matrix : (k : Ops) → IsFilled k n c xs → IsMatrix k v.cols v.rows
  seen_matrix k h = subst (λ (w : Rows). IsMatrix k w.cols w.rows) is (cut-matrix k n c xs h.long h.elements)

pub cut-zeros : (n c m : ℕ) → m ≡ n * c → cut n c (replicate m 0) ≡ replicate n (replicate c 0)
cut-zeros zero c m e = refl
cut-zeros (suc n) c m e =
    let parts : replicate {A = ℕ} m 0 ≡ replicate c 0 ++ replicate (n * c) 0 = ap (λ (j : ℕ). replicate {A = ℕ} j 0) (let s : m ≡ c + n * c = omega arith in s) ∙ sym (replicate-append-replicate {A = ℕ} c (n * c) 0) in
    let long : length (replicate {A = ℕ} c 0) ≡ c = length-replicate c 0 in
    let front : take {A = ℕ} c (replicate m 0) ≡ replicate c 0 = ap (take c) parts ∙ take_at (replicate c 0) (replicate (n * c) 0) c long in
    let back : drop {A = ℕ} c (replicate m 0) ≡ replicate (n * c) 0 =
    ap (drop c) parts ∙ subst (λ (j : ℕ). drop {A = ℕ} j (replicate c 0 ++ replicate (n * c) 0) ≡ replicate (n * c) 0) long (drop-append_seam (replicate c 0) (replicate (n * c) 0)) in
    ap (λ (r : List ℕ). r ∷ cut n c (drop c (replicate m 0))) front ∙ ap (λ (rs : List (List ℕ)). replicate c 0 ∷ rs) (ap (cut n c) back ∙ cut-zeros n c (n * c) refl)

module _ (k : Ops) (f : IsField k) where
  pub entry_small : (size n c i j : ℕ) (xs : List ℕ) → k.size ≡ size → IsFilled k n c xs → entry (cut n c xs) i j < size
  entry_small size n c i j xs e h = subst (λ (b : ℕ). entry (cut n c xs) i j < b) e (row_entry_below k f c (cut n c xs) i j (cut-matrix k n c xs h.long h.elements))

-- a row that is read from the entries
pub row_seen : (n c i : ℕ) (xs row : List ℕ) (v : Rows) → n ≡ length v.rows → c ≡ v.cols → cut (length v.rows) v.cols xs ≡ v.rows → row ≡ row_at (cut n c xs) i → row ≡ row_at v.rows i
row_seen n c i xs row v en ec is e =
    e ∙ (ap (λ (j : ℕ). row_at (cut j c xs) i) en ∙ (ap (λ (j : ℕ). row_at (cut (length v.rows) j xs) i) ec ∙ ap (λ (rows : List (List ℕ)). row_at rows i) is))
