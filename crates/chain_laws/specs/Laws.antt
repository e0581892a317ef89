-- The laws of a certificate's lines. F is the arithmetic of a field.
--   EntriesAreCochains F        sparse entries and cochains are the same, both ways round
--   ClassLinesAreCocycles F     the left side of a class line is a cocycle
--   ProductLinesAreProducts F   a product line gives an entry of the cup table
--   TestsAreEquations F         the test of each line holds exactly where its equations hold
--   ValuesFitEntries F          coboundaries, boundaries and values of what has given entries, by the rows of the coboundaries
--   EquationsAreTests F         the tests of all lines hold exactly where their equations by rows hold
--   ClassTestsAreClasses F      a cochain that passes the test is a combination of the left sides plus a coboundary
use Rattle.std.specs.Prelude.{◌≡◌, ◌≢◌, ◌↔◌, ℕ, suc, ◌+◌, List, true, length, map, replicate}
use Rattle.std.specs.List.{AllByRecursion}
use Rattle.face_poset.specs.Poset.{Layers}
use Rattle.small_field.specs.Field.{Ops}
use Rattle.linear_laws.specs.Marks.{mark}
use Rattle.linear_laws.specs.Vectors.{IsVector, combination, dot, plus_scaled}
use Rattle.linear_laws.specs.Vectors.{boundary as boundary_by}
use Rattle.order_complex.specs.Chains.{chains_of}
use Rattle.order_complex.specs.Cochains.{boundary_on, coboundary, coboundary_on}
use Rattle.order_complex.specs.Cup.{IsProduct, cup_at}
use Rattle.order_complex.specs.Homology.{IsCocycle, IsClass}
use Rattle.order_complex.specs.Ranks.{rows_into, rows_of}
use Rattle.chain_laws.specs.Lines.{AreEntries, chains_below, cochain_of, cochain_in, value_on, rank_holds, cocycle_holds, cycle_holds, pairing_holds, product_holds, class_holds}
use Rattle.chain_laws.specs.AllLines.{Line, homology_holds, coboundary_in, HaveEntries, AreHomology}
use Rattle.small_field.specs.Sparse.{IsSparse}
use Rattle.small_field.specs.Values.{AreElements, entries_from}

-- the entries of a cochain, read back, are the cochain, and the other way round
pub record EntriesAreCochains (F : Ops) : Type 0 where
  pub there : (xs : List ℕ) → cochain_of (length xs) (entries_from 1 xs) ≡ xs
  pub back : (count : ℕ) (entries : List (ℕ × ℕ)) → AreEntries F count entries → entries_from 1 (cochain_of count entries) ≡ entries
  pub vector : (count : ℕ) (entries : List (ℕ × ℕ)) → AreEntries F count entries → IsVector F count (cochain_of count entries)

-- the left side of a class line is a cocycle
abbrev pub ClassLinesAreCocycles : Ops → Type 0
ClassLinesAreCocycles F =
    (space : Layers) (degree : ℕ) (left : List (ℕ × ℕ)) → AreEntries F (length (chains_of space degree)) left
    → cocycle_holds F (chains_of space degree) (chains_of space (suc degree)) left ≡ true → IsCocycle F space degree (cochain_in space degree left)

-- a product line gives the entry of the cup table
abbrev pub ProductLinesAreProducts : Ops → Type 0
ProductLinesAreProducts F =
    (space : Layers) (i j degree : ℕ) (a b coefficients bound : List (ℕ × ℕ)) (lefts : List (List (ℕ × ℕ))) → i + j ≡ suc degree
    → AreEntries F (length lefts) coefficients → AreEntries F (length (chains_of space degree)) bound
    → product_holds F i (chains_of space i) a (chains_of space j) b (chains_of space degree) (chains_of space (suc degree)) lefts coefficients bound ≡ true
    → IsProduct F space i (cochain_in space i a) j (cochain_in space j b) (map (cochain_in space (suc degree)) lefts) (cochain_of (length lefts) coefficients)

-- the test of each line holds exactly where its equations hold
pub record TestsAreEquations (F : Ops) : Type 0 where
  -- the coboundary of a left side is not zero on its own right side, and zero on those of the lines before
  pub rank : (chains next : List (List ℕ)) (before : List (List (ℕ × ℕ))) (left right : List (ℕ × ℕ))
      → (rank_holds F chains next before left right ≡ true)
      ↔ ((value_on F (coboundary_on F chains next (cochain_of (length chains) left)) right ≢ 0)
      × AllByRecursion (λ earlier. value_on F (coboundary_on F chains next (cochain_of (length chains) left)) earlier ≡ 0) before)
  -- the coboundary is zero
  pub cocycle : (chains next : List (List ℕ)) (left : List (ℕ × ℕ))
      → (cocycle_holds F chains next left ≡ true) ↔ (coboundary_on F chains next (cochain_of (length chains) left) ≡ replicate (length next) 0)
  -- the boundary is zero
  pub cycle : (below chains : List (List ℕ)) (right : List (ℕ × ℕ))
      → (cycle_holds F below chains right ≡ true) ↔ (boundary_on F below chains (cochain_of (length chains) right) ≡ replicate (length below) 0)
  -- a left side is 1 on the right side of its own line, and 0 on each other
  pub pairing : (chains : List (List ℕ)) (rights : List (List (ℕ × ℕ))) (place : ℕ) (left : List (ℕ × ℕ))
      → (pairing_holds F chains rights place left ≡ true) ↔ (map (value_on F (cochain_of (length chains) left)) rights ≡ mark (length rights) place)
  -- a product is a combination of left sides plus a coboundary
  pub product : (i : ℕ) (chains_i : List (List ℕ)) (a : List (ℕ × ℕ)) (chains_j : List (List ℕ)) (b : List (ℕ × ℕ)) (below chains : List (List ℕ)) (lefts : List (List (ℕ × ℕ))) (coefficients bound : List (ℕ × ℕ))
      → (product_holds F i chains_i a chains_j b below chains lefts coefficients bound ≡ true)
      ↔ (map (cup_at F i chains_i (cochain_of (length chains_i) a) chains_j (cochain_of (length chains_j) b)) chains
      ≡ plus_scaled F 1 (coboundary_on F below chains (cochain_of (length below) bound))
      (combination F (length chains) (cochain_of (length lefts) coefficients) (map (cochain_of (length chains)) lefts)))

-- coboundaries, boundaries and values by rows
pub record ValuesFitEntries (F : Ops) : Type 0 where
  -- the entries of a list of elements stand at its places
  pub entries_of : (xs : List ℕ) → AreElements F xs → IsSparse (entries_from 1 xs) → AreEntries F (length xs) (entries_from 1 xs)
  -- the coboundary of a cochain, by rows
  pub coboundary_by : (space : Layers) (degree : ℕ) (x : List ℕ) → IsVector F (length (chains_of space degree)) x → coboundary F space degree x ≡ combination F (length (chains_of space (suc degree))) x (rows_of F space degree)
  -- the coboundary of a cochain of the degree
  pub coboundary_of : (space : Layers) (degree : ℕ) (entries : List (ℕ × ℕ)) → AreEntries F (length (chains_of space degree)) entries → coboundary F space degree (cochain_in space degree entries) ≡ coboundary_in F space degree entries
  -- the coboundary, into the degree, of a cochain of one degree less; zero in degree 0
  pub coboundary_into : (space : Layers) (degree : ℕ) (entries : List (ℕ × ℕ)) → AreEntries F (length (chains_below space degree)) entries
      → coboundary_on F (chains_below space degree) (chains_of space degree) (cochain_of (length (chains_below space degree)) entries)
      ≡ combination F (length (chains_of space degree)) (cochain_of (length (chains_below space degree)) entries) (rows_into F space degree)
  -- the boundary of a chain with coefficients
  pub boundary_of : (space : Layers) (degree : ℕ) (c : List ℕ) → boundary_on F (chains_below space degree) (chains_of space degree) c ≡ boundary_by F (rows_into F space degree) c
  -- the value of a cochain on as many chains
  pub value_of : (count : ℕ) (x : List ℕ) (entries : List (ℕ × ℕ)) → length x ≡ count → value_on F x entries ≡ dot F x (cochain_of count entries)

-- the tests of all lines, and of a class, hold exactly where their equations hold
pub record EquationsAreTests (F : Ops) : Type 0 where
  pub homology : (space : Layers) (ranks classes : List (List Line)) → HaveEntries F space ranks classes → (homology_holds F space ranks classes ≡ true) ↔ AreHomology F space ranks classes
  pub class : (below chains : List (List ℕ)) (lefts : List (List (ℕ × ℕ))) (coefficients bound : List (ℕ × ℕ)) (x : List ℕ)
      → (class_holds F below chains lefts coefficients bound x ≡ true)
      ↔ (x ≡ plus_scaled F 1 (coboundary_on F below chains (cochain_of (length below) bound)) (combination F (length chains) (cochain_of (length lefts) coefficients) (map (cochain_of (length chains)) lefts)))

-- what passes the test of a class is a combination of the left sides plus a coboundary
abbrev pub ClassTestsAreClasses : Ops → Type 0
ClassTestsAreClasses F =
    (space : Layers) (degree : ℕ) (lefts : List (List (ℕ × ℕ))) (coefficients bound : List (ℕ × ℕ)) (x : List ℕ) → AreEntries F (length lefts) coefficients → AreEntries F (length (chains_below space degree)) bound
    → class_holds F (chains_below space degree) (chains_of space degree) lefts coefficients bound x ≡ true → IsClass F space degree (map (cochain_in space degree) lefts) (cochain_of (length lefts) coefficients) x
