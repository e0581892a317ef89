-- Columns as contracts see them.
use Rattle.std.proofs.Common.{◌≡◌, ℕ, ◌+◌, ◌<◌, List, [], length, get_or, ap, sym, ◌∙◌, subst}
use Rattle.small_field.specs.Field.{Ops, IsField}
use Rattle.linear_laws.specs.Vectors.{dot, column, entry, IsMatrix}
use Rattle.field_matrix.specs.Rows.{Rows}
use Rattle.pair_stages.specs.Columns.{coefficient, rows_from, sum_on, IsColumn, AreColumns}
use Rattle.pair_stages.proofs.ColumnLemmas.{column_long, columns_long, column_at, entry_is, rows_long, rows_matrix, coefficient_below, dot_column}

abbrev pub seen : (below : ℕ) → (css vss : List (List ℕ)) → Rows
seen below css vss = record { cols = length css; rows = rows_from below css vss }

module _ (F : Ops) (below : ℕ) (css vss : List (List ℕ)) (s : Rows) (e : seen below css vss ≡ s) (h : AreColumns F below css vss) where
  pub rows_are : rows_from below css vss ≡ s.rows
  rows_are = ap (λ (r : Rows). r.rows) e

  pub cols_are : length css ≡ s.cols
  cols_are = ap (λ (r : Rows). r.cols) e

  pub long_are : length s.rows ≡ below
  long_are = ap (λ (r : List (List ℕ)). length r) (sym rows_are) ∙ rows_long F below css vss

  pub place_in : (j : ℕ) → j < s.cols → j < length vss
  place_in j lt = subst (λ (n : ℕ). j < n) (sym (columns_long F below css vss h ∙ cols_are)) lt

  at : (j : ℕ) → j < s.cols → j < length css
  at j lt = subst (λ (n : ℕ). j < n) (sym cols_are) lt

  pub column_of : (j : ℕ) (cs vs : List ℕ) → j < s.cols → cs ≡ get_or css j [] → vs ≡ get_or vss j [] → IsColumn F below cs vs
  column_of j cs vs lt p q = subst (λ (x : List ℕ). IsColumn F below x vs) (sym p) (subst (IsColumn F below (get_or css j [])) (sym q) (column_at F below css vss j h (at j lt)))

  pub column_for : (n j : ℕ) (cs vs : List ℕ) → n ≡ length s.rows → j < s.cols → cs ≡ get_or css j [] → vs ≡ get_or vss j [] → IsColumn F n cs vs
  column_for n j cs vs l lt p q = subst (λ (x : ℕ). IsColumn F x cs vs) (sym (l ∙ long_are)) (column_of j cs vs lt p q)

  pub lengths_of : (j : ℕ) (cs vs : List ℕ) → j < s.cols → cs ≡ get_or css j [] → vs ≡ get_or vss j [] → length vs ≡ length cs
  lengths_of j cs vs lt p q = column_long F below cs vs (column_of j cs vs lt p q)

  pub matrix_of : (L : IsField F) → IsMatrix F s.cols s.rows
  matrix_of L = subst (λ (r : Rows). IsMatrix F r.cols r.rows) e (rows_matrix F L below css vss h)

  pub sum_is : (L : IsField F) (j x : ℕ) (cs vs y : List ℕ) → length y ≡ length s.rows → j < s.cols → cs ≡ get_or css j [] → vs ≡ get_or vss j [] → x ≡ sum_on F cs vs y → x ≡ dot F y (column j s.rows)
  sum_is L j x cs vs y l lt p q r =
      r ∙ (ap (λ (z : List ℕ). sum_on F z vs y) p ∙ (ap (λ (z : List ℕ). sum_on F (get_or css j []) z y) q
      ∙ (sym (dot_column F L below css vss j y h (at j lt) (l ∙ long_are)) ∙ ap (λ (z : List (List ℕ)). dot F y (column j z)) rows_are)))

  pub coefficient_is : (i j x y : ℕ) (cs vs : List ℕ) → i < length s.rows → j < s.cols → cs ≡ get_or css j [] → vs ≡ get_or vss j [] → y ≡ x → x ≡ coefficient cs vs (i + 1) → y ≡ entry s.rows i j
  coefficient_is i j x y cs vs li lj p q r t =
      r ∙ (t ∙ (ap (λ (z : List ℕ). coefficient z vs (i + 1)) p ∙ (ap (λ (z : List ℕ). coefficient (get_or css j []) z (i + 1)) q
      ∙ (sym (entry_is F below css vss i j h (subst (λ (n : ℕ). i < n) long_are li) (at j lj)) ∙ ap (λ (z : List (List ℕ)). entry z i j) rows_are))))

  pub small_of : (L : IsField F) (size i j x : ℕ) (cs vs : List ℕ) → F.size ≡ size → j < s.cols → cs ≡ get_or css j [] → vs ≡ get_or vss j [] → x ≡ coefficient cs vs (i + 1) → x < size
  small_of L size i j x cs vs z lj p q t =
      let small : x < F.size = subst (λ (n : ℕ). n < F.size) (sym t) (coefficient_below F L below cs vs (i + 1) (column_of j cs vs lj p q)) in
      subst (λ (n : ℕ). x < n) z small
