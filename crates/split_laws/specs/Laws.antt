-- What holds of splits. F is the arithmetic of a field.
--   FieldsSplit F                  the pairs of a field, in its order, give a split
--   SubstitutionSolves F           substitution along them solves
--   IsOne P                        exactly one list has P
--   SolutionsAreOne F              there is exactly one extension, one flow and one clearing
--   ExtensionsPair F               the value of an extension on a flow is the pairing of their values on critical cells
--   SolutionsCombine F             the extension and the flow of a combination are the combinations of the extensions and of the flows
--   CellsAreCounted F              each cell is critical, a lower or an upper, and there are as many lowers as uppers of one degree more
--   ReducedRowsAreCoboundaries F   the coboundary of an extension is, at the critical cells, the combination of the reduced rows
--   ExtensionsCommute F            the coboundary of an extension is the extension of the reduced coboundary
--   ReducedIsClosed F              two reduced steps give zero
--   FlowsCommute F                 the boundary of a flow is the flow of the reduced boundary
--   CocyclesClear F .. k x w y     the cocycle x less the coboundary of y is the extension of w, a cocycle of the reduced rows
--   CocyclesAreExtensions F        so it is where y clears x and w is what is left on the critical cells
--   BasesExtend F                  the extensions of a basis of the reduced cohomology are a basis of the cohomology
--   BettiByReducedRanks F          the number of critical cells less the two ranks of the reduced rows is the length of a basis
use Rattle.std.specs.Prelude.{◌≡◌, ℕ, suc, ◌+◌, List, length, replicate}
use Rattle.std.specs.List.{AllByRecursion}
use Rattle.small_field.specs.Field.{Ops}
use Rattle.linear_laws.specs.Vectors.{boundary, combination, dot, IsVector, IsInKernel}
use Rattle.linear_laws.specs.Echelon.{IsReducedTo}
use Rattle.linear_laws.specs.Betti.{IsCohomologyBasis}
use Rattle.split_laws.specs.Kinds.{Kind, criticals, lowers, uppers, part, ZeroOnUppers, ZeroOnLowers}
use Rattle.split_laws.specs.Split.{IsSplit}
use Rattle.split_laws.specs.Solutions.{IsExtension, AreExtensions, IsFlow, AreFlows, IsCleared, IsReducedBy, without}
use Rattle.split_laws.specs.Pairs.{Match, IsMatching, settle, carry}
use Rattle.split_laws.specs.Complex.{IsSplitComplex, AreReduced}

-- ---- one step

abbrev pub FieldsSplit : Ops → Type 0
FieldsSplit F = (n m : ℕ) (rows : List (List ℕ)) (ts us : List Kind) (ps : List Match) → IsMatching F n m rows ts us ps → IsSplit F n m rows ts us

-- forward from any cochain with the values on critical cells that is zero on uppers; backward
-- from any chain with the values that is zero on lowers; and forward from zero
pub record SubstitutionSolves (F : Ops) : Type 0 where
  pub extension : (n m : ℕ) (rows : List (List ℕ)) (ts us : List Kind) (ps : List Match) → IsMatching F n m rows ts us ps → (w y : List ℕ) → IsVector F n y → part ts y ≡ w → ZeroOnUppers ts y
      → IsExtension F n m rows ts us w (settle F rows (replicate m 0) ps y)
  pub flow : (n m : ℕ) (rows : List (List ℕ)) (ts us : List Kind) (ps : List Match) → IsMatching F n m rows ts us ps → (c z : List ℕ) → IsVector F m z → part us z ≡ c → ZeroOnLowers us z
      → IsFlow F n m rows ts us c (carry F rows (replicate n 0) ps z)
  pub clearing : (n m : ℕ) (rows : List (List ℕ)) (ts us : List Kind) (ps : List Match) → IsMatching F n m rows ts us ps → (x : List ℕ) → IsVector F m x
      → (let y = settle F rows x ps (replicate n 0) in IsCleared F n m rows ts us x (part us (without F m rows x y)) y)

abbrev pub IsOne : (List ℕ → Type 0) → Type 0
IsOne P = (x : List ℕ) × P x × ((y : List ℕ) → P y → y ≡ x)

pub record SolutionsAreOne (F : Ops) : Type 0 where
  pub extension : (n m : ℕ) (rows : List (List ℕ)) (ts us : List Kind) → IsSplit F n m rows ts us → (w : List ℕ) → IsVector F (criticals ts) w → IsOne (IsExtension F n m rows ts us w)
  pub flow : (n m : ℕ) (rows : List (List ℕ)) (ts us : List Kind) → IsSplit F n m rows ts us → (c : List ℕ) → IsVector F (criticals us) c → IsOne (IsFlow F n m rows ts us c)
  pub clearing : (n m : ℕ) (rows : List (List ℕ)) (ts us : List Kind) → IsSplit F n m rows ts us → (x : List ℕ) → IsVector F m x
      → (w : List ℕ) × (y : List ℕ) × IsCleared F n m rows ts us x w y × ((v z : List ℕ) → IsCleared F n m rows ts us x v z → (v ≡ w) × (z ≡ y))

abbrev pub ExtensionsPair : Ops → Type 0
ExtensionsPair F =
    (n m l : ℕ) (last next : List (List ℕ)) (ts us vs : List Kind) (w x c z : List ℕ)
    → IsExtension F m l next us vs w x → IsFlow F n m last ts us c z → dot F x z ≡ dot F w c

pub record SolutionsCombine (F : Ops) : Type 0 where
  pub extension : (n m : ℕ) (rows : List (List ℕ)) (ts us : List Kind) → IsSplit F n m rows ts us → (cs : List ℕ) (ws xs : List (List ℕ)) → AreExtensions F n m rows ts us ws xs
      → IsExtension F n m rows ts us (combination F (criticals ts) cs ws) (combination F n cs xs)
  pub flow : (n m : ℕ) (rows : List (List ℕ)) (ts us : List Kind) → IsSplit F n m rows ts us → (cs : List ℕ) (ws zs : List (List ℕ)) → AreFlows F n m rows ts us ws zs
      → IsFlow F n m rows ts us (combination F (criticals us) cs ws) (combination F m cs zs)

pub record CellsAreCounted (F : Ops) : Type 0 where
  pub kinds : (ts : List Kind) → criticals ts + lowers ts + uppers ts ≡ length ts
  pub pairs : (n m : ℕ) (rows : List (List ℕ)) (ts us : List Kind) → IsSplit F n m rows ts us → lowers ts ≡ uppers us

abbrev pub ReducedRowsAreCoboundaries : Ops → Type 0
ReducedRowsAreCoboundaries F =
    (n m : ℕ) (rows reduced : List (List ℕ)) (ts us : List Kind) → IsSplit F n m rows ts us → IsReducedBy F n m rows ts us reduced
    → (w x : List ℕ) → IsExtension F n m rows ts us w x → part us (combination F m x rows) ≡ combination F (criticals us) w reduced

-- ---- a complex

abbrev pub ExtensionsCommute : Ops → Type 0
ExtensionsCommute F =
    (N : ℕ → ℕ) (rows : ℕ → List (List ℕ)) (kinds : ℕ → List Kind) (reduced : ℕ → List (List ℕ)) → IsSplitComplex F N rows kinds → AreReduced F N rows kinds reduced
    → (k : ℕ) (w x : List ℕ) → IsExtension F (N k) (N (suc k)) (rows k) (kinds k) (kinds (suc k)) w x
    → IsExtension F (N (suc k)) (N (suc (suc k))) (rows (suc k)) (kinds (suc k)) (kinds (suc (suc k))) (combination F (criticals (kinds (suc k))) w (reduced k)) (combination F (N (suc k)) x (rows k))

abbrev pub ReducedIsClosed : Ops → Type 0
ReducedIsClosed F =
    (N : ℕ → ℕ) (rows : ℕ → List (List ℕ)) (kinds : ℕ → List Kind) (reduced : ℕ → List (List ℕ)) → IsSplitComplex F N rows kinds → AreReduced F N rows kinds reduced
    → (k : ℕ) → AllByRecursion (λ r. combination F (criticals (kinds (suc (suc k)))) r (reduced (suc k)) ≡ replicate (criticals (kinds (suc (suc k)))) 0) (reduced k)

abbrev pub FlowsCommute : Ops → Type 0
FlowsCommute F =
    (N : ℕ → ℕ) (rows : ℕ → List (List ℕ)) (kinds : ℕ → List Kind) (reduced : ℕ → List (List ℕ)) → IsSplitComplex F N rows kinds → AreReduced F N rows kinds reduced
    → (k : ℕ) (c z : List ℕ) → IsFlow F (N (suc k)) (N (suc (suc k))) (rows (suc k)) (kinds (suc k)) (kinds (suc (suc k))) c z
    → IsFlow F (N k) (N (suc k)) (rows k) (kinds k) (kinds (suc k)) (boundary F (reduced (suc k)) c) (boundary F (rows (suc k)) z)

pub record CocyclesClear (F : Ops) (N : ℕ → ℕ) (rows : ℕ → List (List ℕ)) (kinds : ℕ → List Kind) (reduced : ℕ → List (List ℕ)) (k : ℕ) (x w y : List ℕ) : Type 0 where
  pub extension : IsExtension F (N (suc k)) (N (suc (suc k))) (rows (suc k)) (kinds (suc k)) (kinds (suc (suc k))) w (without F (N (suc k)) (rows k) x y)
  pub cocycle : IsInKernel F (criticals (kinds (suc (suc k)))) (reduced (suc k)) w

abbrev pub CocyclesAreExtensions : Ops → Type 0
CocyclesAreExtensions F =
    (N : ℕ → ℕ) (rows : ℕ → List (List ℕ)) (kinds : ℕ → List Kind) (reduced : ℕ → List (List ℕ)) → IsSplitComplex F N rows kinds → AreReduced F N rows kinds reduced
    → (k : ℕ) (x w y : List ℕ) → IsInKernel F (N (suc (suc k))) (rows (suc k)) x → IsCleared F (N k) (N (suc k)) (rows k) (kinds k) (kinds (suc k)) x w y
    → CocyclesClear F N rows kinds reduced k x w y

abbrev pub BasesExtend : Ops → Type 0
BasesExtend F =
    (N : ℕ → ℕ) (rows : ℕ → List (List ℕ)) (kinds : ℕ → List Kind) (reduced : ℕ → List (List ℕ)) → IsSplitComplex F N rows kinds → AreReduced F N rows kinds reduced
    → (k : ℕ) (ws xs : List (List ℕ)) → IsCohomologyBasis F (criticals (kinds (suc (suc k)))) (reduced k) (reduced (suc k)) ws
    → AreExtensions F (N (suc k)) (N (suc (suc k))) (rows (suc k)) (kinds (suc k)) (kinds (suc (suc k))) ws xs
    → IsCohomologyBasis F (N (suc (suc k))) (rows k) (rows (suc k)) xs

abbrev pub BettiByReducedRanks : Ops → Type 0
BettiByReducedRanks F =
    (N : ℕ → ℕ) (rows : ℕ → List (List ℕ)) (kinds : ℕ → List Kind) (reduced : ℕ → List (List ℕ)) → IsSplitComplex F N rows kinds → AreReduced F N rows kinds reduced
    → (k betti rank_last rank_next : ℕ) (last next : List (List ℕ))
    → IsReducedTo F (criticals (kinds (suc k))) rank_last (criticals (kinds (suc k))) (reduced k) last
    → IsReducedTo F (criticals (kinds (suc (suc k)))) rank_next (criticals (kinds (suc (suc k)))) (reduced (suc k)) next
    → betti + rank_last + rank_next ≡ criticals (kinds (suc k))
    → (zs : List (List ℕ)) × IsCohomologyBasis F (N (suc (suc k))) (rows k) (rows (suc k)) zs × (length zs ≡ betti)
