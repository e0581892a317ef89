-- What is proved of these words, for any regular space and any valid field; m is a number of sheets, cells are the
-- cells of a table with a column for each critical edge, row by row.
--   are_words ws                      whether all are words in letters, and reduced
--   AreForced space pairs ws          the words ws, one for each edge: that of an edge paired with a vertex is empty,
--                                     that of a critical edge is its letter, and that of the cycle of each 2-cell
--                                     paired with an edge reduces to the empty one
--   AreOnlyForced space pairs ws      so they are, and no other words
--   ForcedWordsAreOne                 the words of edges are
--   IsOnlyForced space ws p           at the lower of the pair no other reduced word does that, while the other words
--                                     stay
--   ForcedWordsAreTheOnlyOnes         so it is at each pair of an edge with a 2-cell
--   LabelsAreTheLift                  where the words lead through a table is the lift of the table
--   LiftsAreLabellings                the lift is a labelling, on all edges and all 2-cells, exactly where each relator
--                                     leads each sheet home
--   IsLabellingAt p l                 the labels l are a labelling of each regular space with a valid field whose
--                                     presentation is p
--   Follows space pairs m cells ss x  the walk by the lift along the steps ends where their word leads, and where the
--                                     reduced word does
--   WalksFollowWords                  so it does along all steps of the space, from each sheet
use Rattle.std.specs.Prelude.{◌≡◌, ◌↔◌, ℕ, ◌-◌, ◌≤◌, ℤ, pos, List, [], ◌∷◌, length, set, Bool, true, ◌&&◌}
use Rattle.std.specs.List.{list_all}
use Rattle.number_lists.specs.Members.{In}
use Rattle.face_poset.specs.declared.cells.Pair.{Pair}
use Rattle.face_poset.specs.Poset.{Layers, count, IsSpace}
use Rattle.regular_check.specs.declared.cycles.Step.{Step}
use Rattle.regular_check.specs.Rules.{IsRegular}
use Rattle.vector_field.specs.Pairs.{IsValid}
use Rattle.pair_laws.specs.Letters.{reduced, is_reduced, are_letters, follow}
use Rattle.sheet_laws.specs.Permutations.{InRange, at}
use Rattle.sheet_laws.specs.Tables.{is_table}
use Rattle.sheet_laws.specs.Labellings.{walk, is_labelling}
use Rattle.sheet_laws.specs.Lifts.{critical_edges, columns_of, lift}
use Rattle.live_laws.specs.Walks.{move}
use Rattle.edge_words.specs.Words.{word_at, word_of, words, cycle_word, relators, Presented, presentation_of}
use Rattle.edge_words.specs.Labels.{labels_of, satisfies, Labelled}

abbrev pub are_words : List (List ℤ) → Bool
are_words ws = list_all (λ w. are_letters w && is_reduced w) ws

pub record AreForced (space : Layers) (pairs : List Pair) (ws : List (List ℤ)) : Type 0 where
  pub one_for_each : length ws ≡ count space 1
  pub words : are_words ws ≡ true
  pub tree : (p : Pair) → In p pairs → p.dim ≡ 0 → word_at ws p.upper ≡ []
  pub letters :
      (g : ℕ) → InRange (columns_of space pairs) g → word_at ws (at (critical_edges space pairs) g) ≡ pos g ∷ []
  pub closes : (p : Pair) → In p pairs → p.dim ≡ 1 → cycle_word space ws p.upper ≡ []

pub record AreOnlyForced (space : Layers) (pairs : List Pair) (ws : List (List ℤ)) : Type 0 where
  pub are : AreForced space pairs ws
  pub only : (vs : List (List ℤ)) → AreForced space pairs vs → vs ≡ ws

abbrev pub ForcedWordsAreOne : Type 0
ForcedWordsAreOne =
    (space : Layers) (pairs : List Pair)
    → IsSpace space
    → IsRegular space
    → IsValid space pairs
    → AreOnlyForced space pairs (words space pairs)

abbrev pub IsOnlyForced : Layers → List (List ℤ) → Pair → Type 0
IsOnlyForced space ws p =
    (w : List ℤ)
    → are_letters w ≡ true
    → is_reduced w ≡ true
    → cycle_word space (set ws (p.lower - 1) w) p.upper ≡ []
    → w ≡ word_at ws p.lower

abbrev pub ForcedWordsAreTheOnlyOnes : Type 0
ForcedWordsAreTheOnlyOnes =
    (space : Layers) (pairs : List Pair) (p : Pair)
    → IsSpace space
    → IsRegular space
    → IsValid space pairs
    → In p pairs
    → p.dim ≡ 1
    → IsOnlyForced space (words space pairs) p

abbrev pub LabelsAreTheLift : Type 0
LabelsAreTheLift =
    (space : Layers) (pairs : List Pair) (m : ℕ) (cells : List ℕ)
    → IsSpace space
    → IsRegular space
    → IsValid space pairs
    → is_table (columns_of space pairs) m cells ≡ true
    → labels_of (columns_of space pairs) m cells (words space pairs) ≡ lift space pairs m cells

abbrev pub LiftsAreLabellings : Type 0
LiftsAreLabellings =
    (space : Layers) (pairs : List Pair) (m : ℕ) (cells : List ℕ)
    → IsSpace space
    → IsRegular space
    → IsValid space pairs
    → 1 ≤ m
    → is_table (columns_of space pairs) m cells ≡ true
    → (is_labelling space m (lift space pairs m cells) ≡ true)
    ↔ (satisfies (columns_of space pairs) m cells (relators space pairs) ≡ true)

abbrev pub IsLabellingAt : Presented → Labelled → Type 0
IsLabellingAt p l =
    (space : Layers) (pairs : List Pair)
    → IsSpace space
    → IsRegular space
    → IsValid space pairs
    → p ≡ presentation_of space pairs
    → is_labelling space l.sheets l.labels ≡ true

pub record Follows (space : Layers) (pairs : List Pair) (m : ℕ) (cells : List ℕ) (ss : List Step) (x : ℕ) : Type 0 where
  pub word :
      walk (lift space pairs m cells) ss x
      ≡ follow (move (columns_of space pairs) m cells) (word_of (words space pairs) ss) x
  pub reduced_word :
      walk (lift space pairs m cells) ss x
      ≡ follow (move (columns_of space pairs) m cells) (reduced (word_of (words space pairs) ss)) x

abbrev pub WalksFollowWords : Type 0
WalksFollowWords =
    (space : Layers) (pairs : List Pair) (m : ℕ) (cells : List ℕ) (ss : List Step) (x : ℕ)
    → IsSpace space
    → IsRegular space
    → IsValid space pairs
    → is_table (columns_of space pairs) m cells ≡ true
    → ((s : Step) → In s ss → InRange (count space 1) s.edge)
    → InRange m x
    → Follows space pairs m cells ss x
