-- The laws of linear algebra over a field with the arithmetic k. (Textbook.)
--   MoreAreDependent k          more than n vectors of n coordinates are dependent
--   BasesAreAsLong k            two bases of the same rows have the same length
--   RowsHaveABasis k            some independent vectors span what the rows span
--   RankIsDimension k           the rank of a reduced form is the length of each basis of the rows
--   BasisByRanks k              the ranks of two maps that follow one another, whose composition is zero, give the length of a
--                               basis modulo coboundaries
--   TrianglesAreIndependent k   vectors with a triangle of tests are independent
--   HistoryGivesKernel k        the history of a reduced form gives a basis of the kernel: its rows from the rank on
--   KernelsComplete k           where a basis of the coboundaries is completed by more vectors to one of coboundaries and kernel, those are
--                               a basis of the kernel modulo coboundaries
--   IndependentSpan k           n independent vectors of n coordinates span
--   TrianglesCertify k          where n vectors have a triangle of tests and the tests of the first of them are zero on a vector, this is a
--                               combination of the others
--   CombinationLaws k           how combinations compute: their coordinates, sums, and combinations of combinations
use Rattle.std.specs.Prelude.{◌≡◌, ℕ, ◌<◌, List, ◌++◌, length, map, drop, replicate, slice_index}
use Rattle.std.specs.List.{AllByRecursion}
use Rattle.small_field.specs.Field.{Ops}
use Rattle.linear_laws.specs.Vectors.{dot, column, boundary, bump, IsVector, IsMatrix, IsDependent, IsIndependent, IsBasis, IsHistory, IsKernelBasis, InSpan, plus_scaled, combination}
use Rattle.linear_laws.specs.Echelon.{IsReducedTo}
use Rattle.linear_laws.specs.Triangle.{Triangle, TriangleOver}
use Rattle.linear_laws.specs.Linear.{IsLinear}
use Rattle.linear_laws.specs.Betti.{HasBasis, IsCohomologyBasis}

abbrev pub MoreAreDependent : Ops → Type 0
MoreAreDependent k = (n : ℕ) (rows : List (List ℕ)) → IsMatrix k n rows → n < length rows → IsDependent k n rows

abbrev pub BasesAreAsLong : Ops → Type 0
BasesAreAsLong k = (n : ℕ) (rows us vs : List (List ℕ)) → IsBasis k n rows us → IsBasis k n rows vs → length us ≡ length vs

abbrev pub RowsHaveABasis : Ops → Type 0
RowsHaveABasis k = (n : ℕ) (rows : List (List ℕ)) → IsMatrix k n rows → (basis : List (List ℕ)) × IsBasis k n rows basis

abbrev pub RankIsDimension : Ops → Type 0
RankIsDimension k = (n rank : ℕ) (rows reduced basis : List (List ℕ)) → IsMatrix k n rows → IsReducedTo k n rank n rows reduced → IsBasis k n rows basis → length basis ≡ rank

abbrev pub BasisByRanks : Ops → Type 0
BasisByRanks k = (n m rank_last rank_next : ℕ) (last next last_reduced next_reduced : List (List ℕ)) → IsMatrix k n last → IsMatrix k m next → length next ≡ n → AllByRecursion (λ b. combination k m b next ≡ replicate m 0) last → IsReducedTo k n rank_last n last last_reduced → IsReducedTo k m rank_next m next next_reduced → HasBasis k m last next rank_last rank_next

abbrev pub TrianglesAreIndependent : Ops → Type 0
TrianglesAreIndependent k = (n : ℕ) (ds ts : List (List ℕ)) → IsMatrix k n ds → IsMatrix k n ts → Triangle k ds ts → IsIndependent k n ds

abbrev pub HistoryGivesKernel : Ops → Type 0
HistoryGivesKernel k = (n rank : ℕ) (rows after history : List (List ℕ)) → IsMatrix k n rows → IsReducedTo k n rank n rows after → IsHistory k n rows after history → IsKernelBasis k n rows (drop rank history)

abbrev pub KernelsComplete : Ops → Type 0
KernelsComplete k =
    (m : ℕ) (last next zs bs ws : List (List ℕ)) → IsMatrix k (length next) last → IsMatrix k m next → AllByRecursion (λ b. combination k m b next ≡ replicate m 0) last
    → IsKernelBasis k m next zs → IsBasis k (length next) last bs → IsBasis k (length next) (last ++ zs) (bs ++ ws) → IsCohomologyBasis k m last next ws

abbrev pub IndependentSpan : Ops → Type 0
IndependentSpan k = (n : ℕ) (ds : List (List ℕ)) (z : List ℕ) → IsMatrix k n ds → IsVector k n z → IsIndependent k n ds → length ds ≡ n → InSpan k n ds z

abbrev pub TrianglesCertify : Ops → Type 0
TrianglesCertify k =
    (n : ℕ) (xs ws es us : List (List ℕ)) (z : List ℕ) → IsMatrix k n (xs ++ es) → IsMatrix k n (ws ++ us) → TriangleOver k es xs ws → Triangle k es us → length (xs ++ es) ≡ n
    → IsVector k n z → AllByRecursion (λ w. dot k z w ≡ 0) ws → (cs : List ℕ) × IsVector k (length es) cs × (z ≡ combination k n cs es)

pub record CombinationLaws (k : Ops) : Type 0 where
  pub vector : (n : ℕ) (cs : List ℕ) (rows : List (List ℕ)) → IsMatrix k n rows → IsVector k n (combination k n cs rows)
  pub coordinate : (n j : ℕ) (cs : List ℕ) (rows : List (List ℕ)) → IsMatrix k n rows → j < n → slice_index (combination k n cs rows) j ≡ dot k cs (column j rows)
  pub zeros : (n m : ℕ) (rows : List (List ℕ)) → IsMatrix k n rows → combination k n (replicate m 0) rows ≡ replicate n 0
  pub plus : (n s : ℕ) (cs ds : List ℕ) (rows : List (List ℕ)) → IsMatrix k n rows → length cs ≡ length rows → length ds ≡ length rows → plus_scaled k s (combination k n cs rows) (combination k n ds rows) ≡ combination k n (plus_scaled k s cs ds) rows
  pub twice : (n : ℕ) (cs : List ℕ) (rows vs : List (List ℕ)) → IsMatrix k n vs → IsMatrix k (length vs) rows → combination k n cs (map (λ ds. combination k n ds vs) rows) ≡ combination k n (combination k (length vs) cs rows) vs
  pub append : (n : ℕ) (cs gs : List ℕ) (vs ws : List (List ℕ)) → IsMatrix k n vs → IsMatrix k n ws → length cs ≡ length vs → combination k n (cs ++ gs) (vs ++ ws) ≡ plus_scaled k 1 (combination k n gs ws) (combination k n cs vs)
  pub functional : (n : ℕ) (g : List ℕ → ℕ) (cs : List ℕ) (rows : List (List ℕ)) → IsLinear k n g → IsMatrix k n rows → length cs ≡ length rows → g (combination k n cs rows) ≡ dot k cs (map g rows)
  pub adjoint : (n : ℕ) (xs cs : List ℕ) (rows : List (List ℕ)) → IsMatrix k n rows → length xs ≡ length rows → length cs ≡ n → dot k (combination k n xs rows) cs ≡ dot k xs (boundary k rows cs)
  pub bumped : (xs ys : List ℕ) (i c : ℕ) → i < length xs → length ys ≡ length xs → dot k (bump k xs i c) ys ≡ k.add (dot k xs ys) (k.mul c (slice_index ys i))
  pub span_is_transitive : (n : ℕ) (rows others : List (List ℕ)) (v : List ℕ) → IsMatrix k n others → AllByRecursion (InSpan k n others) rows → InSpan k n rows v → InSpan k n others v
