-- What is proved of covers, for a regular space with one component and any good field on it. m is a number of sheets, n
-- the most sheets, u, w and z are labels, s and t are cells of tables row by row.
--   HasGoodField space pairs        the space is regular and has one component, and the field is good
--   IsGauged space pairs m u        u is isomorphic to the lift of a table, a labelling that is connected if u is
--   LabellingsAreGauged             so is each labelling
--   IsEquivalence space m           isomorphic is an equivalence
--   IsomorphicIsEquivalence         so it is over each regular space
--   IsRenumbered c m s t            t is a renumbering of s
--   IsomorphicLiftsAreRenumbered    the lifts of two tables are isomorphic exactly where it is
--   ListedAreCovers                 the listed tables after the start, or after a live one, are the covers after it
--   IsOneCover space pairs n m u    u is isomorphic to the lift of exactly one of the covers
--   EachClassOnce                   so is each connected labelling of at most n sheets
--   ColumnsAreFew                   the columns and the vertices are at most the edges and one more
use Rattle.std.specs.Prelude.{◌≡◌, ◌↔◌, ℕ, ◌+◌, ◌≤◌, List, true}
use Rattle.number_lists.specs.Members.{In}
use Rattle.face_poset.specs.declared.cells.Pair.{Pair}
use Rattle.face_poset.specs.Poset.{Layers, count, IsSpace}
use Rattle.regular_check.specs.Rules.{IsRegular}
use Rattle.regular_check.specs.Components.{component_count}
use Rattle.vector_field.specs.Maximal.{IsGood}
use Rattle.sheet_laws.specs.Permutations.{InRange, is_permutation}
use Rattle.sheet_laws.specs.Tables.{is_table, renumbered}
use Rattle.sheet_laws.specs.Labellings.{AreLabels, Isomorphic, IsConnected, is_labelling}
use Rattle.sheet_laws.specs.Lifts.{columns_of, lift}
use Rattle.live_laws.specs.Live.{Position, listed}
use Rattle.cover_laws.specs.Covers.{relations_at, covers, covers_after, CanStart}

pub record HasGoodField (space : Layers) (pairs : List Pair) : Type 0 where
  pub is : IsSpace space
  pub regular : IsRegular space
  pub one : component_count space ≡ 1
  pub good : IsGood space pairs

pub record IsGauged (space : Layers) (pairs : List Pair) (m : ℕ) (u : List (List ℕ)) : Type 0 where
  pub table : List ℕ
  pub is : is_table (columns_of space pairs) m table ≡ true
  pub like : Isomorphic space m u (lift space pairs m table)
  pub labelling : is_labelling space m (lift space pairs m table) ≡ true
  pub connected : IsConnected space m u → IsConnected space m (lift space pairs m table)

abbrev pub LabellingsAreGauged : Type 0
LabellingsAreGauged =
    (space : Layers) (pairs : List Pair) (m : ℕ) (u : List (List ℕ))
    → HasGoodField space pairs
    → is_labelling space m u ≡ true
    → IsGauged space pairs m u

pub record IsEquivalence (space : Layers) (m : ℕ) : Type 0 where
  pub itself : (u : List (List ℕ)) → AreLabels space m u → Isomorphic space m u u
  pub turned :
      (u w : List (List ℕ))
      → AreLabels space m u
      → AreLabels space m w
      → Isomorphic space m u w
      → Isomorphic space m w u
  pub joined :
      (u w z : List (List ℕ))
      → AreLabels space m u
      → Isomorphic space m u w
      → Isomorphic space m w z
      → Isomorphic space m u z

abbrev pub IsomorphicIsEquivalence : Type 0
IsomorphicIsEquivalence = (space : Layers) (m : ℕ) → IsSpace space → IsRegular space → IsEquivalence space m

pub record IsRenumbered (c m : ℕ) (s t : List ℕ) : Type 0 where
  pub by : List ℕ
  pub permutes : is_permutation m by ≡ true
  pub is : t ≡ renumbered c m by s

abbrev pub IsomorphicLiftsAreRenumbered : Type 0
IsomorphicLiftsAreRenumbered =
    (space : Layers) (pairs : List Pair) (m : ℕ) (s t : List ℕ)
    → HasGoodField space pairs
    → is_table (columns_of space pairs) m s ≡ true
    → is_table (columns_of space pairs) m t ≡ true
    → (Isomorphic space m (lift space pairs m s) (lift space pairs m t))
    ↔ (IsRenumbered (columns_of space pairs) m s t)

abbrev pub ListedAreCovers : Type 0
ListedAreCovers =
    (space : Layers) (pairs : List Pair) (n : ℕ) (t : Position)
    → HasGoodField space pairs
    → 1 ≤ n
    → CanStart (relations_at space pairs) n t
    → listed (relations_at space pairs) n t ≡ covers_after space pairs n t

pub record IsOneCover (space : Layers) (pairs : List Pair) (n m : ℕ) (u : List (List ℕ)) : Type 0 where
  pub table : List ℕ
  pub listed : In (m, table) (covers space pairs n)
  pub like : Isomorphic space m u (lift space pairs m table)
  pub only :
      (t : List ℕ) → In (m, t) (covers space pairs n) → Isomorphic space m u (lift space pairs m t) → t ≡ table

abbrev pub EachClassOnce : Type 0
EachClassOnce =
    (space : Layers) (pairs : List Pair) (n m : ℕ) (u : List (List ℕ))
    → HasGoodField space pairs
    → InRange n m
    → is_labelling space m u ≡ true
    → IsConnected space m u
    → IsOneCover space pairs n m u

abbrev pub ColumnsAreFew : Type 0
ColumnsAreFew =
    (space : Layers) (pairs : List Pair)
    → HasGoodField space pairs
    → columns_of space pairs + count space 0 ≤ count space 1 + 1
