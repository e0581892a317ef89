-- The lift of a table along a field: a permutation for each edge, the columns on the critical edges, the identity on the edges that are
-- paired with a vertex, and on each edge that is paired with a 2-cell the one with which the walk round that 2-cell ends where it began. And
-- the covers of a space as tables. space is the lists of a space, pairs those of a field, m the number of sheets, cells the cells of a table
-- row by row; cells of the space, sheets and columns are numbered from 1.
--   critical_edges space pairs          the edges that are in no pair: a column for each
--   columns_of space pairs              how many there are
--   IsLift space pairs m cells u        u is the lift of the table
--   round_from e before ss              whether the step along the edge e is forward, and the steps after it and then those before it;
--                                       `before` are steps that were passed
--   forced m u e ss                     the label of e with which the walk along the steps, else by u, ends where it began
--   first_label space pairs m cells e   the label of an edge that is paired with no 2-cell
--   lift_from space m u pairs           the labels u, with that of the lower of each pair of an edge with a 2-cell put anew, in order
--   lift space pairs m cells            the lift, computed
--   is_cover space pairs t              whether t, the sheets and the cells, is a table that is least, with a connected labelling as its lift
-- Laws, for any regular space and any valid field:
--   LiftIsOne                           the computed lift of a table is a lift, and the only one
--   LiftsAreConnected                   where the field leaves one vertex critical, a lift is connected exactly where its table is transitive
use Rattle.std.specs.Prelude.{◌≡◌, ◌↔◌, ℕ, ◌-◌, ◌≤◌, List, [], ◌∷◌, ◌++◌, map, length, set, Bool, true, ◌&&◌, ◌==◌, if◌then◌else◌}
use Rattle.number_lists.specs.Members.{In}
use Rattle.number_lists.specs.Words.{upto, holds}
use Rattle.face_poset.specs.declared.cells.Pair.{Pair}
use Rattle.face_poset.specs.Poset.{Layers, count, IsSpace}
use Rattle.regular_check.specs.declared.cycles.Step.{Step}
use Rattle.regular_check.specs.Rules.{IsRegular}
use Rattle.regular_check.specs.Cycle.{cycle}
use Rattle.vector_field.specs.Pairs.{unpaired, IsValid}
use Rattle.sheet_laws.specs.Permutations.{InRange, at, back, values}
use Rattle.sheet_laws.specs.Tables.{column, is_table, is_least, IsTransitive}
use Rattle.sheet_laws.specs.Labellings.{label, walk, closes, AreLabels, is_labelling, IsConnected, is_connected}

abbrev pub critical_edges : Layers → List Pair → List ℕ
critical_edges space pairs = unpaired pairs 1 (count space 1)

abbrev pub columns_of : Layers → List Pair → ℕ
columns_of space pairs = length (critical_edges space pairs)

pub record IsLift (space : Layers) (pairs : List Pair) (m : ℕ) (cells : List ℕ) (u : List (List ℕ)) : Type 0 where
  pub labels : AreLabels space m u
  pub tree : (p : Pair) → In p pairs → p.dim ≡ 0 → label u p.upper ≡ upto m
  pub columns :
      (g : ℕ)
      → InRange (columns_of space pairs) g
      → label u (at (critical_edges space pairs) g) ≡ column (columns_of space pairs) m cells g
  pub forced : (p : Pair) → In p pairs → p.dim ≡ 1 → closes m u (cycle space p.upper) ≡ true

abbrev pub round_from : (e : ℕ) → (before ss : List Step) → Bool × List Step
round_from e before [] = (true, before)
round_from e before (s ∷ ss) = if s.edge == e then (s.forward, ss ++ before) else round_from e (before ++ s ∷ []) ss

abbrev pub forced : (m : ℕ) → List (List ℕ) → (e : ℕ) → List Step → List ℕ
forced m u e ss =
    let r = round_from e [] ss in
    let g = values m (walk u r.1) in
    if r.0 then values m (back g) else g

abbrev pub first_label : Layers → List Pair → (m : ℕ) → List ℕ → (e : ℕ) → List ℕ
first_label space pairs m cells e =
    if holds (critical_edges space pairs) e
    then column (columns_of space pairs) m cells (back (critical_edges space pairs) e)
    else upto m

abbrev pub lift_from : Layers → (m : ℕ) → List (List ℕ) → List Pair → List (List ℕ)
lift_from space m u [] = u
lift_from space m u (p ∷ ps) =
    lift_from
    space
    m
    (if p.dim == 1 then set u (p.lower - 1) (forced m u p.lower (cycle space p.upper)) else u)
    ps

abbrev pub lift : Layers → List Pair → (m : ℕ) → List ℕ → List (List ℕ)
lift space pairs m cells = lift_from space m (map (first_label space pairs m cells) (upto (count space 1))) pairs

abbrev pub is_cover : Layers → List Pair → ℕ × List ℕ → Bool
is_cover space pairs t =
    is_table (columns_of space pairs) t.0 t.1
    && (is_least (columns_of space pairs) t.0 t.1
    && (let u = lift space pairs t.0 t.1 in is_labelling space t.0 u && is_connected space t.0 u))

pub record IsOnlyLift (space : Layers) (pairs : List Pair) (m : ℕ) (cells : List ℕ) (u : List (List ℕ)) : Type 0 where
  pub is : IsLift space pairs m cells u
  pub only : (w : List (List ℕ)) → IsLift space pairs m cells w → w ≡ u

abbrev pub LiftIsOne : Type 0
LiftIsOne =
    (space : Layers) (pairs : List Pair) (m : ℕ) (cells : List ℕ)
    → IsSpace space
    → IsRegular space
    → IsValid space pairs
    → is_table (columns_of space pairs) m cells ≡ true
    → IsOnlyLift space pairs m cells (lift space pairs m cells)

abbrev pub LiftsAreConnected : Type 0
LiftsAreConnected =
    (space : Layers) (pairs : List Pair) (m : ℕ) (cells : List ℕ) (u : List (List ℕ))
    → IsSpace space
    → IsRegular space
    → IsValid space pairs
    → length (unpaired pairs 0 (count space 0)) ≡ 1
    → 1 ≤ m
    → IsLift space pairs m cells u
    → (IsConnected space m u) ↔ (IsTransitive (columns_of space pairs) m cells)
