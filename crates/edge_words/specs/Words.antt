-- The words of edges along a field of pairs, and the presentation of the fundamental group that they give. (Edge-path
-- groups with a discrete vector field in place of a spanning tree; textbook, R. Forman.) space is the lists of a space,
-- pairs those of a field; ws has the word of edge e at the place e, ss are steps; cells and generators are numbered
-- from 1.
--   word_at ws e                the word of an edge
--   step_word ws s              the word of a step: that of its edge, or backward the inverse
--   word_of ws ss               the words of steps, one after another
--   forced_word ws e ss         the reduced word of the edge e with which the word of the steps, else by ws, reduces to
--                               the empty one
--   own_word critical e         the letter of the edge, if it is one of the critical edges, which are the generators;
--                               else no letter
--   first_word space pairs e    the word of an edge that is paired with no 2-cell
--   words_from space ws pairs   the words ws, with that of the lower of each pair of an edge with a 2-cell put anew, in
--                               order
--   words space pairs           the words of all edges
--   critical_disks space pairs  the 2-cells that are in no pair
--   cycle_word space ws c       the reduced word of the cycle of a 2-cell
--   relators space pairs        those of the critical 2-cells, by number
--   Presented                   a presentation: the edges that are the generators, the relators, and the words of all
--                               edges
--   presentation_of space pairs the critical edges, the relators and the words
--   relations_of p              how many generators there are, and the relators
use Rattle.std.specs.Prelude.{ℕ, ◌-◌, ℤ, pos, List, [], ◌∷◌, ◌++◌, map, length, set, slice_index_or, ◌==◌, if◌then◌else◌}
use Rattle.number_lists.specs.Words.{upto, holds}
use Rattle.face_poset.specs.declared.cells.Pair.{Pair}
use Rattle.face_poset.specs.Poset.{Layers, count}
use Rattle.regular_check.specs.declared.cycles.Step.{Step}
use Rattle.regular_check.specs.Cycle.{cycle}
use Rattle.vector_field.specs.Pairs.{unpaired}
use Rattle.pair_laws.specs.Letters.{reduced, inverted}
use Rattle.sheet_laws.specs.Permutations.{back}
use Rattle.sheet_laws.specs.Lifts.{critical_edges, round_from}
use Rattle.live_laws.specs.Live.{Relations}

abbrev pub word_at : List (List ℤ) → (e : ℕ) → List ℤ
word_at ws e = slice_index_or ws (e - 1) []

abbrev pub step_word : List (List ℤ) → Step → List ℤ
step_word ws s = if s.forward then word_at ws s.edge else inverted (word_at ws s.edge)

abbrev pub word_of : List (List ℤ) → List Step → List ℤ
word_of ws [] = []
word_of ws (s ∷ ss) = step_word ws s ++ word_of ws ss

abbrev pub forced_word : List (List ℤ) → (e : ℕ) → List Step → List ℤ
forced_word ws e ss =
    let r = round_from e [] ss in
    let w = word_of ws r.1 in
    reduced (if r.0 then inverted w else w)

abbrev pub own_word : (critical : List ℕ) → (e : ℕ) → List ℤ
own_word critical e = if holds critical e then pos (back critical e) ∷ [] else []

abbrev pub first_word : Layers → List Pair → (e : ℕ) → List ℤ
first_word space pairs e = own_word (critical_edges space pairs) e

abbrev pub words_from : Layers → List (List ℤ) → List Pair → List (List ℤ)
words_from space ws [] = ws
words_from space ws (p ∷ ps) =
    words_from
    space
    (if p.dim == 1 then set ws (p.lower - 1) (forced_word ws p.lower (cycle space p.upper)) else ws)
    ps

abbrev pub words : Layers → List Pair → List (List ℤ)
words space pairs = words_from space (map (first_word space pairs) (upto (count space 1))) pairs

abbrev pub critical_disks : Layers → List Pair → List ℕ
critical_disks space pairs = unpaired pairs 2 (count space 2)

abbrev pub cycle_word : Layers → List (List ℤ) → (c : ℕ) → List ℤ
cycle_word space ws c = reduced (word_of ws (cycle space c))

abbrev pub relators : Layers → List Pair → List (List ℤ)
relators space pairs = map (cycle_word space (words space pairs)) (critical_disks space pairs)

pub record Presented : Type 0 where
  pub generators : List ℕ
  pub relators : List (List ℤ)
  pub words : List (List ℤ)

abbrev pub presentation_of : Layers → List Pair → Presented
presentation_of space pairs =
    record
    { generators = critical_edges space pairs; relators = relators space pairs; words = words space pairs }

abbrev pub relations_of : Presented → Relations
relations_of p = record { generators = length p.generators; relators = p.relators }
