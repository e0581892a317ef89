-- Labellings: a permutation of the sheets for each edge, such that the walk round each 2-cell ends where it began. They are the covers of a
-- space, up to the names of the sheets over each vertex. (Covering spaces by monodromy; textbook.) space is the lists of a space, m the
-- number of sheets, u and w are lists of permutations, that of edge e at the place e; cells and sheets are numbered from 1.
--   label u e                    the permutation of an edge
--   step u s x                   where the step s leads from sheet x: by the permutation of its edge, or backward by the inverse
--   walk u ss x                  where steps lead from sheet x, one after another
--   closes m u ss                whether from each sheet the walk along these steps ends where it began
--   AreLabels space m u          one permutation for each edge
--   is_labelling space m u       whether u is a labelling: at least one sheet, one permutation for each edge, and all 2-cells close
--   Carries space m u w f        f, a permutation for each vertex, carries u to w
--   Isomorphic space m u w       some permutations do
--   Joined space u v x w y       steps along edges lead from sheet x over the vertex v to sheet y over the vertex w
--   IsConnected space m u        they lead from each sheet over each vertex to each over each
-- The same, computed. A sheet over a vertex is a number, counted from 1:
--   number_of m v x              the number of sheet x over the vertex v
--   sheet_step space m u p q     whether an edge, taken either way, leads from the one to the other
--   is_connected space m u       whether steps lead from the first to each
--   ConnectedIsExact             the law: the test is exact
use Rattle.std.specs.Prelude.{◌≡◌, ◌↔◌, ℕ, ◌+◌, ◌-◌, ◌*◌, List, [], ◌∷◌, length, Bool, true, ◌&&◌, ◌||◌, ◌==◌, nat_le, if◌then◌else◌, slice_index, slice_index_or}
use Rattle.std.specs.List.{list_all, list_any}
use Rattle.number_lists.specs.Words.{upto}
use Rattle.number_lists.specs.Reach.{reaches}
use Rattle.face_poset.specs.Poset.{Layers, count, facets_of, IsSpace}
use Rattle.regular_check.specs.declared.cycles.Step.{Step}
use Rattle.regular_check.specs.Rules.{IsRegular}
use Rattle.regular_check.specs.Cycle.{start_of, end_of, cycle}
use Rattle.sheet_laws.specs.Permutations.{InRange, is_permutation, at, back}

abbrev pub label : List (List ℕ) → (e : ℕ) → List ℕ
label u e = slice_index_or u (e - 1) []

abbrev pub step : List (List ℕ) → Step → (x : ℕ) → ℕ
step u s x = if s.forward then at (label u s.edge) x else back (label u s.edge) x

abbrev pub walk : List (List ℕ) → List Step → (x : ℕ) → ℕ
walk u [] x = x
walk u (s ∷ ss) x = walk u ss (step u s x)

abbrev pub closes : (m : ℕ) → List (List ℕ) → List Step → Bool
closes m u ss = list_all (λ x. walk u ss x == x) (upto m)

pub record AreLabels (space : Layers) (m : ℕ) (u : List (List ℕ)) : Type 0 where
  pub one_for_each : length u ≡ count space 1
  pub permutations : list_all (is_permutation m) u ≡ true

abbrev pub is_labelling : Layers → (m : ℕ) → List (List ℕ) → Bool
is_labelling space m u =
    nat_le 1 m
    && ((length u == count space 1)
    && (list_all (is_permutation m) u
    && list_all (λ c. closes m u (cycle space c)) (upto (count space 2))))

pub record Carries (space : Layers) (m : ℕ) (u w f : List (List ℕ)) : Type 0 where
  pub one_for_each : length f ≡ count space 0
  pub permutations : list_all (is_permutation m) f ≡ true
  pub agrees :
      (e s : ℕ)
      → InRange (count space 1) e
      → InRange m s
      → at (label f (slice_index (facets_of space 1 e) 1)) (at (label u e) s)
      ≡ at (label w e) (at (label f (slice_index (facets_of space 1 e) 0)) s)

abbrev pub Isomorphic : Layers → (m : ℕ) → (u w : List (List ℕ)) → Type 0
Isomorphic space m u w = (f : List (List ℕ)) × Carries space m u w f

pub data Joined (space : Layers) (u : List (List ℕ)) : (v x w y : ℕ) → Type 0 where
  here : {v x : ℕ} → Joined space u v x v x
  on :
      {x w y : ℕ} (s : Step)
      → InRange (count space 1) s.edge
      → Joined space u (end_of space s) (step u s x) w y
      → Joined space u (start_of space s) x w y

abbrev pub IsConnected : Layers → (m : ℕ) → List (List ℕ) → Type 0
IsConnected space m u =
    (v x w y : ℕ)
    → InRange (count space 0) v
    → InRange m x
    → InRange (count space 0) w
    → InRange m y
    → Joined space u v x w y

abbrev pub number_of : (m v x : ℕ) → ℕ
number_of m v x = m * (v - 1) + x

abbrev pub sheet_step : Layers → (m : ℕ) → List (List ℕ) → (p q : ℕ) → Bool
sheet_step space m u p q =
    list_any
    (λ e.
    list_any
    (λ x.
    let a = number_of m (slice_index (facets_of space 1 e) 0) x in
    let b = number_of m (slice_index (facets_of space 1 e) 1) (at (label u e) x) in
    ((p == a) && (q == b)) || ((p == b) && (q == a)))
    (upto m))
    (upto (count space 1))

abbrev pub is_connected : Layers → (m : ℕ) → List (List ℕ) → Bool
is_connected space m u =
    list_all (reaches (sheet_step space m u) (upto (m * count space 0)) 1) (upto (m * count space 0))

abbrev pub ConnectedIsExact : Type 0
ConnectedIsExact =
    (space : Layers) (m : ℕ) (u : List (List ℕ))
    → IsSpace space
    → IsRegular space
    → AreLabels space m u
    → (is_connected space m u ≡ true) ↔ IsConnected space m u
