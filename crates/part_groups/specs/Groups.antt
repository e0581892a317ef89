-- The fundamental groups of the parts of a space, each presented along the chosen field of its part. space is the lists
-- of a space, number one of its components; components, cells and generators are numbered from 1.
--   FieldPiece                 a part with a field of pairs on it
--   GroupPiece                 the same with a presentation
--   chosen_on space            the chosen field of a space with one component
--   field_in space number      the part of a component with its chosen field
--   group_by f                 a part with the presentation that its field gives
--   whole_cell piece cell      the cell of the whole space from which a cell of the part comes
--   long_on piece field        the first cell of a part whose word by the field is too long, as a cell of the whole space
--   long_cell f                the same of a part with its field
--   alone p                    a presentation without the words of edges
--   Generated                  what is told of a group: the edges of the whole space that generate it, and its relators
--   told_of g                  that of the presentation of a part
--   group_in space number      that of the part of a component
--   groups_of space            those of all components, in order
--   long_in space number       the first cell whose word is too long in the part of a component
--   first_of cells             the first of these that is a cell
--   long_word space            the first such cell in the parts of all components, one part after another
--   components_from space first   the numbers of the components from the first one on
--   presented_in space number  the presentation of the part of a component, without the words of edges
--   presented_from space first those of the components from the first one on, in order
--   long_from space first      the first cell whose word is too long in the parts of these
use Rattle.std.specs.Prelude.{ℕ, ◌+◌, ◌-◌, ℤ, List, [], ◌∷◌, map, option_map, Option, Some, None}
use Rattle.std.specs.List.{range_with_len}
use Rattle.number_lists.specs.Words.{upto}
use Rattle.face_poset.specs.declared.cells.Cell.{Cell}
use Rattle.face_poset.specs.Poset.{Layers}
use Rattle.face_poset.specs.Below.{cell_at}
use Rattle.regular_check.specs.Components.{component_count}
use Rattle.space_parts.specs.Parts.{Piece, part_of, piece_of, whole_of}
use Rattle.vector_field.specs.Pairs.{Field, counts_of}
use Rattle.chosen_field.specs.Chosen.{chosen}
use Rattle.edge_words.specs.Words.{Presented, presentation_of}
use Rattle.edge_words.specs.Limits.{too_long}

pub record FieldPiece : Type 0 where
  pub piece : Piece
  pub field : Field

pub record GroupPiece : Type 0 where
  pub piece : Piece
  pub field : Field
  pub presentation : Presented

abbrev pub chosen_on : Layers → Field
chosen_on space = record { pairs = chosen space; counts = counts_of space }

abbrev pub field_in : Layers → (number : ℕ) → FieldPiece
field_in space number =
    record
    { piece = piece_of space number; field = chosen_on (part_of space number) }

abbrev pub group_by : FieldPiece → GroupPiece
group_by f = record { piece = f.piece; field = f.field; presentation = presentation_of f.piece.space f.field.pairs }

abbrev pub whole_cell : Piece → Cell → Cell
whole_cell piece cell = cell_at cell.dim (whole_of piece cell.dim cell.number)

abbrev pub long_on : Piece → Field → Option Cell
long_on piece field = option_map (whole_cell piece) (too_long piece.space field.pairs)

abbrev pub long_cell : FieldPiece → Option Cell
long_cell f = long_on f.piece f.field

abbrev pub alone : Presented → Presented
alone p = record { generators = p.generators; relators = p.relators; words = [] }

-- ---- all components

pub record Generated : Type 0 where
  pub edges : List ℕ
  pub relators : List (List ℤ)

abbrev pub told_of : GroupPiece → Generated
told_of g = record { edges = map (whole_of g.piece 1) g.presentation.generators; relators = g.presentation.relators }

abbrev pub group_in : Layers → (number : ℕ) → Generated
group_in space number = told_of (group_by (field_in space number))

abbrev pub groups_of : Layers → List Generated
groups_of space = map (group_in space) (upto (component_count space))

abbrev pub first_of : List (Option Cell) → Option Cell
first_of [] = None
first_of (None ∷ more) = first_of more
first_of (Some cell ∷ more) = Some cell

abbrev pub long_in : Layers → (number : ℕ) → Option Cell
long_in space number = long_cell (field_in space number)

abbrev pub long_word : Layers → Option Cell
long_word space = first_of (map (long_in space) (upto (component_count space)))

-- ---- the components from one on

abbrev pub components_from : Layers → (first : ℕ) → List ℕ
components_from space first = range_with_len first ((component_count space + 1) - first)

abbrev pub presented_in : Layers → (number : ℕ) → Presented
presented_in space number = alone ((group_by (field_in space number)).presentation)

abbrev pub presented_from : Layers → (first : ℕ) → List Presented
presented_from space first = map (presented_in space) (components_from space first)

abbrev pub long_from : Layers → (first : ℕ) → Option Cell
long_from space first = first_of (map (long_in space) (components_from space first))
