-- A cocycle of a degree written by the classes of the degree. `levels` are the degrees of a reduced complex, F is the arithmetic of a field.
--   IsInto F levels degree w            w is a combination of the reduced rows into a degree
--   IsBoundFor F levels degree w y bound
--                                       bound is y and the extension of values whose combination of the reduced rows into the degree is w
--   AreValuesOn F n lines x values      the values of a cochain on n cells on the right sides of some lines
--   AreBasesOf F space levels b         what is known of bases of the chains of a space: their class lines are a basis with dual cycles, by
--                                       a reduced complex
--   IsWritten F space degree b x w      the cochain x of a degree is the combination of the classes plus the coboundary of the bound, on all
--                                       chains
use Rattle.std.specs.Prelude.{◌≡◌, ℕ, suc, List, true, length, map}
use Rattle.face_poset.specs.Poset.{Layers}
use Rattle.small_field.specs.Field.{Ops}
use Rattle.linear_laws.specs.Vectors.{combination, dot, plus_scaled, InSpan}
use Rattle.split_laws.specs.Kinds.{criticals}
use Rattle.split_laws.specs.Solutions.{IsExtension}
use Rattle.order_complex.specs.Chains.{chains_of}
use Rattle.critical_complex.specs.Levels.{Level, kinds_at}
use Rattle.chain_laws.specs.Lines.{class_holds, chains_below, cochain_of, AreEntries}
use Rattle.chain_laws.specs.AllLines.{Line, left_sides, lines_of, right_sides}
use Rattle.cohomology.specs.declared.written.Written.{Written}
use Rattle.cohomology.specs.Bases.{cells_with, kinds_with, rows_with, AreCocycleBases, AreExtended, AreFlowed, AreOfCritical, HaveDualCycles, HaveSidesInRange, HomologyLines, IsReducedFrom}

abbrev pub IsInto : Ops → List Level → (degree : ℕ) → (w : List ℕ) → Type 0
IsInto F levels degree w = (last : List (List ℕ)) → IsReducedFrom F levels degree last → InSpan F (criticals (kinds_at levels degree)) last w

pub record IsBoundFor (F : Ops) (levels : List Level) (degree : ℕ) (w y bound : List ℕ) : Type 0 where
  pub values : List ℕ
  pub extended : List ℕ
  pub extension : IsExtension F (cells_with levels degree) (cells_with levels (suc degree)) (rows_with levels degree) (kinds_with levels degree) (kinds_with levels (suc degree)) values extended
  pub same : (last : List (List ℕ)) → IsReducedFrom F levels degree last → combination F (criticals (kinds_at levels degree)) values last ≡ w
  pub is : bound ≡ plus_scaled F 1 extended y

abbrev pub AreValuesOn : Ops → (n : ℕ) → List Line → (x values : List ℕ) → Type 0
AreValuesOn F n lines x values = values ≡ map (λ right. dot F x (cochain_of n right)) (right_sides lines)

pub record AreBasesOf (F : Ops) (space : Layers) (levels : List Level) (b : HomologyLines) : Type 0 where
  pub basis : AreCocycleBases F space b.classes
  pub duals : HaveDualCycles F space b.classes
  pub entries : HaveSidesInRange F space b
  pub extensions : AreExtended F levels b.classes
  pub flows : AreFlowed F levels b.classes
  pub critical : AreOfCritical F levels b.classes

pub record IsWritten (F : Ops) (space : Layers) (degree : ℕ) (b : HomologyLines) (x : List ℕ) (w : Written) : Type 0 where
  pub class : class_holds F (chains_below space degree) (chains_of space degree) (left_sides (lines_of b.classes degree)) w.coefficients w.bound x ≡ true
  pub coefficients : AreEntries F (length (lines_of b.classes degree)) w.coefficients
  pub bound : AreEntries F (length (chains_below space degree)) w.bound
