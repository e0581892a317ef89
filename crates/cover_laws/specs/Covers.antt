-- The covers of a space as tables: those of which the lift is a connected labelling and that no renumbering makes
-- smaller, in order. space is the lists of a space, pairs those of a field, m a number of sheets, n the most sheets, t a
-- position: the sheets, and cells row by row.
--   relations_at space pairs       the relations of the presentation along the field
--   covers_of space pairs m        the covers of m sheets among all lists of cells, in order
--   covers space pairs n           those of 1 to n sheets
--   covers_after space pairs n t   those of them that come after t
--   CanStart P n t                 t is the start, or a live partial table of at most n sheets
use Rattle.std.specs.Prelude.{◌≡◌, ◌⊎◌, ℕ, ◌*◌, List, [], map, filter, true}
use Rattle.std.specs.List.{flat_map}
use Rattle.number_lists.specs.Words.{upto}
use Rattle.face_poset.specs.declared.cells.Pair.{Pair}
use Rattle.face_poset.specs.Poset.{Layers}
use Rattle.sheet_laws.specs.Permutations.{InRange, lists}
use Rattle.sheet_laws.specs.Lifts.{columns_of, is_cover}
use Rattle.live_laws.specs.Live.{Relations, Position, is_live, comes_after}
use Rattle.edge_words.specs.Words.{presentation_of, relations_of}

abbrev pub relations_at : Layers → List Pair → Relations
relations_at space pairs = relations_of (presentation_of space pairs)

abbrev pub covers_of : Layers → List Pair → (m : ℕ) → List Position
covers_of space pairs m =
    map (λ q. (m, q)) (filter (λ q. is_cover space pairs (m, q)) (lists m (m * columns_of space pairs)))

abbrev pub covers : Layers → List Pair → (n : ℕ) → List Position
covers space pairs n = flat_map (covers_of space pairs) (upto n)

abbrev pub covers_after : Layers → List Pair → (n : ℕ) → Position → List Position
covers_after space pairs n t = filter (comes_after t) (covers space pairs n)

abbrev pub CanStart : Relations → (n : ℕ) → Position → Type 0
CanStart P n t = (t ≡ (0, [])) ⊎ (InRange n t.0 × (is_live P t.0 t.1 ≡ true))
