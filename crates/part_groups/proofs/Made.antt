-- Parts with fields and presentations, from what the calls below give.
use Rattle.std.proofs.Common.{◌≡◌, ℕ, ◌≤◌, ◌<◌, List, Option, Some, map, take, length, get_or, ap, ◌∙◌, subst}
use Rattle.std.proofs.lemmas.List.{take_all}
use Rattle.number_lists.specs.Members.{In}
use Rattle.number_lists.proofs.CallerLemmas.{at-In}
use Rattle.face_poset.specs.declared.cells.Cell.{Cell}
use Rattle.face_poset.specs.Poset.{Layers, count}
use Rattle.vector_field.specs.Pairs.{Field, counts_of}
use Rattle.chosen_field.specs.Chosen.{chosen}
use Rattle.space_parts.specs.Parts.{Piece, piece_of, whole_of}
use Rattle.edge_words.specs.Words.{Presented, presentation_of}
use Rattle.edge_words.specs.declared.fault.WordFault.{WordFault}
use Rattle.edge_words.specs.declared.fault.WordFault.TheVariants.{TooLong, Memory}
use Rattle.edge_words.specs.Limits.{IsFault}
use Rattle.part_groups.specs.Groups.{FieldPiece, field_in}
use Rattle.part_groups.proofs.LongCells.{generator-there}

-- a part with its chosen field
abbrev with_chosen : Piece → FieldPiece
with_chosen piece = record { piece = piece; field = record { pairs = chosen piece.space; counts = counts_of piece.space } }

abbrev with_field : Piece → Field → FieldPiece
with_field piece field = record { piece = piece; field = field }

pub field-made : (space : Layers) (number : ℕ) (piece : Piece) (field : Field) → piece ≡ piece_of space number → field.pairs ≡ chosen piece.space → field.counts ≡ counts_of piece.space
    → with_field piece field ≡ field_in space number
field-made space number piece field e pairs counts =
    let fields : field ≡ record { pairs = chosen piece.space; counts = counts_of piece.space } = λ i. record { pairs = pairs i; counts = counts i } in
    ap (with_field piece) fields ∙ ap with_chosen e

-- the cell of a fault that names one
pub fault-cell : (first : Option Cell) (fault : WordFault) (cell : Cell) → fault ≡ TooLong cell → IsFault first fault → first ≡ Some cell
fault-cell first Memory cell e h = absurd (let bad : Memory ≡ TooLong cell = e in cc)
fault-cell first (TooLong other) cell e h = h ∙ ap Some (let same : TooLong other ≡ TooLong cell = e in cc)

-- a generator of a presentation that a field gives is an edge that is there
pub generator-at : (space : Layers) (field : Field) (p : Presented) (edges : List ℕ) (i : ℕ) → p ≡ presentation_of space field.pairs → edges ≡ p.generators → i < length edges
    → (1 ≤ get_or edges i 0) × (get_or edges i 0 ≤ count space 1)
generator-at space field p edges i e same l =
    generator-there space field.pairs (get_or edges i 0) (subst (In (get_or edges i 0)) (same ∙ ap (λ (q : Presented). q.generators) e) (at-In edges i 0 l))

-- all edges are told
pub all-edges : (piece : Piece) (generators edges told : List ℕ) (i : ℕ) → edges ≡ generators → length edges ≤ i → told ≡ map (whole_of piece 1) (take i edges) → told ≡ map (whole_of piece 1) generators
all-edges piece generators edges told i e l h = h ∙ ap (map (whole_of piece 1)) (take_all i edges l ∙ e)
