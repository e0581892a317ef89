-- The search for the cells that the extension from one critical cell meets, as the code keeps it. Cells above are numbered from 1,
-- places count from 0. s and next are two degrees, ps and qs pairs by places, us the kinds of the cells above, xs their indexes,
-- found the cells above that were found.
--   HasPair ps xs j                    the index at the place j is that of a pair with its upper there
--   HasColumns us xs                   at each critical cell its index among the critical ones
--   AreIndexes ps us xs                at each upper the index of its pair, at each critical cell its index among the critical ones
--   HasMore old new                    what was found is kept, and what is more stands after it
--   HasCofaces space dim place found   the cofaces of the cell at a place were found
--   IsClosed space dim s next xs place found   and those of the lower of each upper that was found
--   upper_index kind k                 the index of a pair, where the cell is an upper
--   IsOrder us xs found order          the indexes at the uppers that were found, each once, increasing
--   Misses rows place qs j             the cell j above has no entry at the cell of the place and at the lowers of the pairs
--   IsReach s next place found qs      these cells and these pairs are all that the extension from the cell at a place meets
--   cleared qs x                       x with zero at the lowers of these pairs
--   IsFound F s next x found           the coboundary of x is zero at the critical cells that were not found
--   IsSettled F s next row found qs x  x is the extension of the mark of the critical cell of a row, and what it meets was found
use Rattle.std.specs.Prelude.{◌≡◌, ◌⊎◌, ℕ, ◌+◌, ◌<◌, ◌≤◌, List, [], ◌∷◌, Bool, All, map, length, replicate, set, slice_index}
use Rattle.std.specs.List.{AllByRecursion}
use Rattle.std.specs.List.Sorted.{IsStrictlyIncreasing}
use Rattle.small_field.specs.Field.{Ops}
use Rattle.linear_laws.specs.Marks.{mark}
use Rattle.linear_laws.specs.Vectors.{dot, column, entry}
use Rattle.number_lists.specs.Members.{In}
use Rattle.face_poset.specs.Poset.{Layers, cofaces_of}
use Rattle.split_laws.specs.declared.kind.Kind.{Kind}
use Rattle.split_laws.specs.declared.kind.Kind.TheVariants.{Critical, Lower, Upper}
use Rattle.split_laws.specs.declared.matching.Match.{Match}
use Rattle.split_laws.specs.Kinds.{criticals}
use Rattle.split_laws.specs.Pairs.{HasUpper, kind_at}
use Rattle.split_laws.specs.Solutions.{IsExtension}
use Rattle.pair_stages.specs.Stages.{Stage, place_of}
use Rattle.pair_stages.specs.Units.{pair_at}

-- ---- indexes

-- the index at a place is that of a pair with its upper there
pub record HasPair (ps : List Match) (xs : List ℕ) (j : ℕ) : Type 0 where
  pub within : slice_index xs j < length ps
  pub upper : (pair_at ps (slice_index xs j)).upper ≡ j

-- at each critical cell its index among the critical ones
abbrev pub HasColumns : (us : List Kind) → (xs : List ℕ) → Type 0
HasColumns us xs = (j : ℕ) → j < length us → kind_at us j ≡ Critical → (slice_index xs j < criticals us) × (place_of us (slice_index xs j) ≡ j)

-- at each upper the index of its pair, and at each critical cell its index among the critical ones
pub record AreIndexes (ps : List Match) (us : List Kind) (xs : List ℕ) : Type 0 where
  pub long : length xs ≡ length us
  pub upper : (j : ℕ) → j < length us → kind_at us j ≡ Upper → HasPair ps xs j
  pub critical : HasColumns us xs

-- ---- the search; cells above are numbered from 1

-- what was found was kept, and what is more stands after it
pub record HasMore (old new : List ℕ) : Type 0 where
  pub long : length old ≤ length new
  pub begins : (k : ℕ) → k < length old → slice_index new k ≡ slice_index old k
  pub kept : (n : ℕ) → In n old → In n new

-- the cofaces of the cell at a place were found
abbrev pub HasCofaces : Layers → (dim place : ℕ) → (found : List ℕ) → Type 0
HasCofaces space dim place found = (n : ℕ) → In n (cofaces_of space dim (place + 1)) → In n found

-- the cofaces of the cell were found, and those of the lower of each upper that was found
pub record IsClosed (space : Layers) (dim : ℕ) (s next : Stage) (xs : List ℕ) (place : ℕ) (found : List ℕ) : Type 0 where
  pub begun : HasCofaces space dim place found
  pub onward : (j : ℕ) → j < length next.kinds → In (j + 1) found → kind_at next.kinds j ≡ Upper → HasCofaces space dim ((pair_at s.pairs (slice_index xs j)).lower) found

-- ---- the pairs that were found

-- the index of a pair, where the cell is an upper
abbrev pub upper_index : Kind → ℕ → List ℕ
upper_index Critical k = []
upper_index Lower k = []
upper_index Upper k = k ∷ []

-- the indexes at the uppers that were found, each once, increasing
pub record IsOrder (us : List Kind) (xs found order : List ℕ) : Type 0 where
  pub rises : IsStrictlyIncreasing order
  pub all : (j : ℕ) → j < length us → In (j + 1) found → kind_at us j ≡ Upper → In (slice_index xs j) order
  pub only : (k : ℕ) → In k order → (j : ℕ) × (j < length us) × (In (j + 1) found) × (kind_at us j ≡ Upper) × (slice_index xs j ≡ k)

-- neither the cell at a place nor the lower of one of the pairs is a facet of the cell j above
abbrev pub Misses : List (List ℕ) → (place : ℕ) → List Match → (j : ℕ) → Type 0
Misses rows place qs j = (entry rows place j ≡ 0) × AllByRecursion (λ q. entry rows q.lower j ≡ 0) qs

-- these pairs are all, and these cells are all, that the extension from the critical cell at a place meets
pub record IsReach (s next : Stage) (place : ℕ) (found : List ℕ) (qs : List Match) : Type 0 where
  pub order : List ℕ
  pub rises : IsStrictlyIncreasing order
  pub within : All (λ k. k < length s.pairs) order
  pub is : qs ≡ map (pair_at s.pairs) order
  pub upper : (j : ℕ) → j < length next.kinds → kind_at next.kinds j ≡ Upper → HasUpper qs j ⊎ Misses s.rows place qs j
  pub critical : (j : ℕ) → j < length next.kinds → kind_at next.kinds j ≡ Critical → (In (j + 1) found) ⊎ Misses s.rows place qs j

-- ---- one row

-- zero at the lowers of these pairs
abbrev pub cleared : List Match → List ℕ → List ℕ
cleared [] x = x
cleared (p ∷ ps) x = cleared ps (set x p.lower 0)

-- the coboundary of x is zero at the critical cells that were not found
abbrev pub IsFound : Ops → (s next : Stage) → (x found : List ℕ) → Type 0
IsFound F s next x found = (j : ℕ) → j < length next.kinds → kind_at next.kinds j ≡ Critical → (In (j + 1) found) ⊎ (dot F x (column j s.rows) ≡ 0)

-- x is the extension of the mark of the critical cell of a row, whose coboundary is zero at the critical cells that were not
-- found, and it is zero but at that cell and at the lowers of these pairs
pub record IsSettled (F : Ops) (s next : Stage) (row : ℕ) (found : List ℕ) (qs : List Match) (x : List ℕ) : Type 0 where
  pub long : length x ≡ length s.kinds
  pub extension : IsExtension F (length s.kinds) (length next.kinds) s.rows s.kinds next.kinds (mark (criticals s.kinds) row) x
  pub meets : IsFound F s next x found
  pub lowers : AllByRecursion (λ p. p.lower < length s.kinds) qs
  pub blank : set (cleared qs x) (place_of s.kinds row) 0 ≡ replicate (length s.kinds) 0
