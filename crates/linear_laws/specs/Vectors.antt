-- Vectors and matrices as lists of numbers. k is the arithmetic of a field; a matrix is the list of its rows, all of one length.
-- Places of rows and of coordinates count from 0. (Linear algebra; textbook.)
--   dot k xs ys                        the sum of the products of the coordinates
--   column j rows                      the entries at place j of the rows
--   row_at rows i                      the row at place i
--   entry rows i j                     its entry at place j
--   bump k xs i c                      c is added at place i
--   plus_scaled k s xs ys              the row xs and s times the row ys
--   combination k n cs rows            the sum of the rows of n coordinates, each times its coefficient of cs
--   boundary k rows c                  the products of c with each row: where the rows are those of a coboundary, the boundary of c
--   IsVector k n v                     v is a list of n elements
--   IsMatrix k n rows                  each row is a vector of n coordinates
--   IsNonzero xs                       some entry is not zero
--   InSpan k n rows v                  v is a combination of the rows
--   SameSpan k n rows others           what is a combination of the rows is one of the others, and back
--   IsIndependent k n vs               only the zero coefficients give the zero vector
--   IsBasis k n rows basis             independent vectors with the span of the rows
--   IsDependent k n rows               a combination of the rows, not all of its coefficients zero, is zero at each of n coordinates
--   IsInKernel k m rows x              x are coefficients of the rows that give zero
--   IsKernelBasis k m rows zs          zs is a basis of all such coefficients
--   IsHistory k n rows after history   independent coefficients that give each of the rows `after` as a combination of `rows`
use Rattle.std.specs.Prelude.{◌≡◌, ◌≢◌, ℕ, ◌<◌, List, [], ◌∷◌, length, map, replicate, set, slice_index, slice_index_or}
use Rattle.std.specs.List.{AllByRecursion}
use Rattle.small_field.specs.Lanes.{zip2}
use Rattle.small_field.specs.Field.{Ops}
use Rattle.small_field.specs.Values.{AreElements}

abbrev pub dot : Ops → List ℕ → List ℕ → ℕ
dot k [] ys = 0
dot k (x ∷ xs) [] = 0
dot k (x ∷ xs) (y ∷ ys) = k.add (k.mul x y) (dot k xs ys)

abbrev pub column : ℕ → List (List ℕ) → List ℕ
column j [] = []
column j (r ∷ rows) = slice_index r j ∷ column j rows

pub record IsVector (k : Ops) (n : ℕ) (v : List ℕ) : Type 0 where
  pub long : length v ≡ n
  pub elements : AreElements k v

abbrev pub IsMatrix : Ops → ℕ → List (List ℕ) → Type 0
IsMatrix k n rows = AllByRecursion (IsVector k n) rows

abbrev pub boundary : Ops → List (List ℕ) → List ℕ → List ℕ
boundary k rows c = map (λ r. dot k r c) rows

abbrev pub IsNonzero : List ℕ → Type 0
IsNonzero xs = (i : ℕ) × (slice_index xs i ≢ 0)

abbrev pub plus_scaled : Ops → ℕ → List ℕ → List ℕ → List ℕ
plus_scaled k s xs ys = zip2 (λ x y. k.add x (k.mul s y)) xs ys

abbrev pub combination : Ops → ℕ → List ℕ → List (List ℕ) → List ℕ
combination k n [] rows = replicate n 0
combination k n (c ∷ cs) [] = replicate n 0
combination k n (c ∷ cs) (r ∷ rows) = plus_scaled k c (combination k n cs rows) r

pub record InSpan (k : Ops) (n : ℕ) (rows : List (List ℕ)) (v : List ℕ) : Type 0 where
  pub coefficients : List ℕ
  pub vector : IsVector k (length rows) coefficients
  pub is : combination k n coefficients rows ≡ v

pub record SameSpan (k : Ops) (n : ℕ) (rows others : List (List ℕ)) : Type 0 where
  pub there : (v : List ℕ) → InSpan k n rows v → InSpan k n others v
  pub back : (v : List ℕ) → InSpan k n others v → InSpan k n rows v

abbrev pub row_at : List (List ℕ) → ℕ → List ℕ
row_at rows i = slice_index_or rows i []

abbrev pub entry : List (List ℕ) → ℕ → ℕ → ℕ
entry rows i j = slice_index (row_at rows i) j

abbrev pub bump : Ops → List ℕ → ℕ → ℕ → List ℕ
bump k xs i c = set xs i (k.add (slice_index xs i) c)

abbrev pub IsIndependent : Ops → ℕ → List (List ℕ) → Type 0
IsIndependent k n vs = (cs : List ℕ) → IsVector k (length vs) cs → combination k n cs vs ≡ replicate n 0 → cs ≡ replicate (length vs) 0

pub record IsBasis (k : Ops) (n : ℕ) (rows basis : List (List ℕ)) : Type 0 where
  pub matrix : IsMatrix k n basis
  pub independent : IsIndependent k n basis
  pub span : SameSpan k n rows basis

pub record IsInKernel (k : Ops) (m : ℕ) (rows : List (List ℕ)) (x : List ℕ) : Type 0 where
  pub vector : IsVector k (length rows) x
  pub zero : combination k m x rows ≡ replicate m 0

pub record IsDependent (k : Ops) (n : ℕ) (rows : List (List ℕ)) : Type 0 where
  pub coefficients : List ℕ
  pub vector : IsVector k (length rows) coefficients
  pub nonzero : IsNonzero coefficients
  pub zero : (j : ℕ) → j < n → dot k coefficients (column j rows) ≡ 0

pub record IsKernelBasis (k : Ops) (m : ℕ) (rows zs : List (List ℕ)) : Type 0 where
  pub matrix : IsMatrix k (length rows) zs
  pub inside : AllByRecursion (IsInKernel k m rows) zs
  pub independent : IsIndependent k (length rows) zs
  pub complete : (x : List ℕ) → IsInKernel k m rows x → InSpan k (length rows) zs x

pub record IsHistory (k : Ops) (n : ℕ) (rows after history : List (List ℕ)) : Type 0 where
  pub matrix : IsMatrix k (length rows) history
  pub gives : map (λ cs. combination k n cs rows) history ≡ after
  pub independent : IsIndependent k (length rows) history
