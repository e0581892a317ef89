-- The laws of the order complex, each the contract of a function of src/laws. `F` is the arithmetic of a field.
--   FacesAreBelow            the faces of a cell, by ids, are exactly the cells below it of a smaller dimension
--   ChainsAreOrdered         the chains of a degree stand in lexicographic order, and none stands twice
--   ChainsAreSequences       they are exactly the sequences of cells, each a face of the next
--   CoboundariesAreClosed F  the coboundary of a coboundary is zero
--   BoundaryAlternates F     the boundary of one chain is the alternating sum of the chains with one entry left out
--   BoundariesAreCycles F    the boundary of a boundary is zero
--   CoboundaryIsAdjoint F    the coboundary of x on c is x on the boundary of c
--   BettiIsOneNumber F       two bases have the same length
--   BettiByRanks F           the Betti number is the number of chains less the ranks of two coboundaries
use Rattle.std.specs.Prelude.{◌≡◌, ◌↔◌, ℕ, suc, ◌+◌, ◌-◌, ◌<◌, List, [], length, map, slice_index_or}
use Rattle.number_lists.specs.Members.{In}
use Rattle.face_poset.specs.declared.cells.Cell.{Cell}
use Rattle.face_poset.specs.Below.{IsBelow}
use Rattle.face_poset.specs.Poset.{Layers, IsSpace}
use Rattle.small_field.specs.Field.{Ops}
use Rattle.linear_laws.specs.Echelon.{IsReducedTo}
use Rattle.order_complex.specs.Chains.{all_faces, chains_of}
use Rattle.order_complex.specs.Cochains.{IsCochain, zeros, coboundary, boundary, evaluation, mark, leave_out, alternating_rows}
use Rattle.order_complex.specs.Complex.{HasId}
use Rattle.order_complex.specs.Homology.{IsBetti}
use Rattle.order_complex.specs.Order.{IsOrdered}
use Rattle.order_complex.specs.Sequences.{IsChain}
use Rattle.order_complex.specs.Ranks.{rows_of, rows_into}

-- the faces of a cell, by ids, are exactly the cells below it of a smaller dimension
abbrev pub FacesAreBelow : Type 0
FacesAreBelow =
    (space : Layers) (cell face : Cell) (id face_id : ℕ) → IsSpace space → HasId space cell id → HasId space face face_id
    → In face_id (slice_index_or (all_faces space) (id - 1) []) ↔ (IsBelow space cell.dim cell.number face.dim face.number × (face.dim < cell.dim))

-- the chains of a degree stand in lexicographic order, and none stands twice
abbrev pub ChainsAreOrdered : Type 0
ChainsAreOrdered = (space : Layers) (degree : ℕ) → IsOrdered (chains_of space degree)

-- the chains of a degree are exactly the sequences of one cell more than the degree, each a face of the next
pub record ChainsAreSequences : Type 0 where
  pub sequences : (space : Layers) (degree : ℕ) (chain : List ℕ) → In chain (chains_of space degree) → IsChain space degree chain
  pub all : (space : Layers) (degree : ℕ) (chain : List ℕ) → IsChain space degree chain → In chain (chains_of space degree)

-- the coboundary of a coboundary is zero
abbrev pub CoboundariesAreClosed : Ops → Type 0
CoboundariesAreClosed F =
    (space : Layers) (degree : ℕ) (x : List ℕ) → coboundary F space (suc degree) (coboundary F space degree x) ≡ zeros space (suc (suc degree))

-- the boundary of one chain is the alternating sum of the chains with one entry left out
abbrev pub BoundaryAlternates : Ops → Type 0
BoundaryAlternates F =
    (space : Layers) (degree : ℕ) (chain : List ℕ) → In chain (chains_of space (suc degree))
    → boundary F space degree (mark (chains_of space (suc degree)) chain) ≡ alternating_rows F (length (chains_of space degree)) (map (mark (chains_of space degree)) (leave_out chain))

-- the boundary of a boundary is zero
abbrev pub BoundariesAreCycles : Ops → Type 0
BoundariesAreCycles F =
    (space : Layers) (degree : ℕ) (c : List ℕ) → IsCochain F space (suc (suc degree)) c → boundary F space degree (boundary F space (suc degree) c) ≡ zeros space degree

-- the coboundary of x on c is x on the boundary of c
abbrev pub CoboundaryIsAdjoint : Ops → Type 0
CoboundaryIsAdjoint F =
    (space : Layers) (degree : ℕ) (x c : List ℕ) → IsCochain F space degree x → IsCochain F space (suc degree) c
    → evaluation F (coboundary F space degree x) c ≡ evaluation F x (boundary F space degree c)

-- two bases have the same length
abbrev pub BettiIsOneNumber : Ops → Type 0
BettiIsOneNumber F = (space : Layers) (degree b c : ℕ) → IsBetti F space degree b → IsBetti F space degree c → b ≡ c

-- the Betti number is the number of chains less the ranks of the coboundaries into and out of the degree
abbrev pub BettiByRanks : Ops → Type 0
BettiByRanks F =
    (space : Layers) (degree betti rank_last rank_next : ℕ) (last next : List (List ℕ))
    → IsReducedTo F (length (chains_of space degree)) rank_last (length (chains_of space degree)) (rows_into F space degree) last
    → IsReducedTo F (length (chains_of space (suc degree))) rank_next (length (chains_of space (suc degree))) (rows_of F space degree) next
    → betti + rank_last + rank_next ≡ length (chains_of space degree) → IsBetti F space degree betti
