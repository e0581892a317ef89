-- Where words lead through a table: each edge's permutation of the sheets. c is the number of columns, m that of
-- sheets, cells are the cells of a table row by row, w is a word in the letters of its columns; sheets and columns are
-- numbered from 1.
--   label_of c m cells w    for each sheet the one where the word leads from it
--   labels_of c m cells ws  so for each of the words
--   leads_home c m cells w  whether the word leads from each sheet to itself
--   satisfies c m cells ws  whether each of the words does
--   Labelled                how many sheets there are, and the permutation of each edge
--   labelled_by p t         those of a table, by the words of a presentation
--   IsRepresentation p t    the table has a column for each generator, in each column is a permutation, and each
--                           relator leads home
--   IsLabel m f             m numbers from 1 to m
use Rattle.std.specs.Prelude.{◌≡◌, ℕ, ℤ, List, map, length, All, Bool, true, ◌==◌}
use Rattle.std.specs.List.{list_all}
use Rattle.number_lists.specs.Words.{upto}
use Rattle.pair_laws.specs.Letters.{follow}
use Rattle.sheet_tables.specs.Tables.{Rows}
use Rattle.sheet_laws.specs.Permutations.{InRange, values}
use Rattle.sheet_laws.specs.Tables.{is_table}
use Rattle.live_laws.specs.Walks.{move}
use Rattle.edge_words.specs.Words.{Presented}

abbrev pub label_of : (c m : ℕ) → List ℕ → List ℤ → List ℕ
label_of c m cells w = values m (follow (move c m cells) w)

abbrev pub labels_of : (c m : ℕ) → List ℕ → List (List ℤ) → List (List ℕ)
labels_of c m cells ws = map (label_of c m cells) ws

abbrev pub leads_home : (c m : ℕ) → List ℕ → List ℤ → Bool
leads_home c m cells w = list_all (λ x. follow (move c m cells) w x == x) (upto m)

abbrev pub satisfies : (c m : ℕ) → List ℕ → List (List ℤ) → Bool
satisfies c m cells ws = list_all (leads_home c m cells) ws

pub record Labelled : Type 0 where
  pub sheets : ℕ
  pub labels : List (List ℕ)

abbrev pub labelled_by : Presented → Rows → Labelled
labelled_by p t = record { sheets = t.sheets; labels = labels_of t.columns t.sheets t.cells p.words }

pub record IsRepresentation (p : Presented) (t : Rows) : Type 0 where
  pub columns : t.columns ≡ length p.generators
  pub permutations : is_table t.columns t.sheets t.cells ≡ true
  pub relators : satisfies t.columns t.sheets t.cells p.relators ≡ true

pub record IsLabel (m : ℕ) (f : List ℕ) : Type 0 where
  pub full : length f ≡ m
  pub within : All (InRange m) f
