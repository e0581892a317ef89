-- The group of a space with one component, and that of a part without edges.
use Rattle.std.proofs.Common.{◌≡◌, ℕ, List, [], ◌∷◌, Option, Some, None, map, inl, inr, refl, ap, sym, ◌∙◌, arith}
use Rattle.std.specs.Prelude.{option_map}
use Rattle.std.proofs.lemmas.Bool.{cases_lt}
use Rattle.number_lists.specs.Words.{upto}
use Rattle.face_poset.specs.declared.cells.Cell.{Cell}
use Rattle.face_poset.specs.Poset.{Layers, IsSpace, count}
use Rattle.regular_check.specs.Components.{component_count}
use Rattle.vector_field.specs.Pairs.{IsValid, unpaired}
use Rattle.chosen_field.specs.Chosen.{chosen}
use Rattle.space_parts.specs.Parts.{part_of, piece_of, whole_of}
use Rattle.space_parts.specs.Laws.{OnePartIsTheSpace, OnePartKeepsNumbers}
use Rattle.space_parts.proofs.CallerLemmas.{map_kept}
use Rattle.edge_words.specs.Words.{Presented, presentation_of, words, cycle_word}
use Rattle.edge_words.specs.Limits.{too_long}
use Rattle.part_groups.specs.Groups.{Generated, whole_cell, group_in, groups_of, first_of, long_in, long_word, presented_in}
use Rattle.part_groups.proofs.LongCells.{long-there, none-long, generator-there}

-- ---- one component

first-alone : (o : Option Cell) → first_of (o ∷ []) ≡ o
first-alone None = refl
first-alone (Some cell) = refl

pub groups-alone : (space : Layers) → component_count space ≡ 1 → groups_of space ≡ group_in space 1 ∷ []
groups-alone space one = ap (λ n. map (group_in space) (upto n)) one

pub long-alone : (space : Layers) → component_count space ≡ 1 → long_word space ≡ long_in space 1
long-alone space one = ap (λ n. first_of (map (long_in space) (upto n))) one ∙ first-alone (long_in space 1)

option-kept : (f : Cell → Cell) (o : Option Cell) → ((cell : Cell) → o ≡ Some cell → f cell ≡ cell) → option_map f o ≡ o
option-kept f None h = refl
option-kept f (Some cell) h = ap Some (h cell refl)

module _ (space : Layers) (hs : IsSpace space) (one : component_count space ≡ 1) (only : OnePartIsTheSpace) (keeps : OnePartKeepsNumbers) where
  pub group-whole : (p : Presented) (edges : List ℕ) → p ≡ presentation_of space (chosen space) → edges ≡ p.generators → record { edges = edges; relators = p.relators } ≡ group_in space 1
  group-whole p edges e same =
      let q : Presented = presentation_of space (chosen space) in
      let is : presentation_of (part_of space 1) (chosen (part_of space 1)) ≡ q = ap (λ (s : Layers). presentation_of s (chosen s)) (only space hs one) in
      let kept : map (whole_of (piece_of space 1) 1) q.generators ≡ q.generators =
      map_kept (whole_of (piece_of space 1) 1) q.generators (λ x i. let w = generator-there space (chosen space) x i in keeps space 1 x hs one w.0 w.1) in
      let told : Presented → Generated = λ (r : Presented). record { edges = map (whole_of (piece_of space 1) 1) r.generators; relators = r.relators } in
      let edges_are : edges ≡ q.generators = same ∙ ap (λ (r : Presented). r.generators) e in
      ap (λ (r : Presented). let g : Generated = record { edges = edges; relators = r.relators } in g) e
      ∙ (ap (λ (es : List ℕ). let g : Generated = record { edges = es; relators = q.relators } in g) (edges_are ∙ sym kept) ∙ ap told (sym is))

  pub long-whole : IsValid space (chosen space) → long_in space 1 ≡ too_long space (chosen space)
  long-whole v =
      ap (λ (s : Layers). option_map (whole_cell (piece_of space 1)) (too_long s (chosen s))) (only space hs one)
      ∙ option-kept (whole_cell (piece_of space 1)) (too_long space (chosen space))
      (λ cell e. let i = long-there space (chosen space) cell v e in
      ap (λ (n : ℕ). let c : Cell = record { dim = cell.dim; number = n } in c) (keeps space cell.dim cell.number hs one i.first i.last))

-- ---- no edge

pub no-disks : (space : Layers) → IsSpace space → count space 1 ≡ 0 → count space 2 ≡ 0
no-disks space hs none =
    elim (cases_lt 0 (count space 2)) [
      | inl l ↦
          let h = hs.cells 2 (omega arith) 0 [] l in
          let w = h.within 0 0 (omega (arith, h.some)) in
          absurd (omega (arith, w.0, w.1, none))
      | inr l ↦ omega (arith, l)
    ]

module _ (space : Layers) (number : ℕ) (none : count (part_of space number) 1 ≡ 0) (flat : count (part_of space number) 2 ≡ 0) where
  pub group-trivial : record { edges = []; relators = [] } ≡ group_in space number
  group-trivial =
      let part : Layers = part_of space number in
      let edges : unpaired (chosen part) 1 (count part 1) ≡ [] = ap (unpaired (chosen part) 1) none in
      let disks : unpaired (chosen part) 2 (count part 2) ≡ [] = ap (unpaired (chosen part) 2) flat in
      sym
      (ap (λ (es : List ℕ). let g : Generated = record { edges = map (whole_of (piece_of space number) 1) es; relators = map (cycle_word part (words part (chosen part))) (unpaired (chosen part) 2 (count part 2)) } in g) edges
      ∙ ap (λ (cs : List ℕ). let g : Generated = record { edges = []; relators = map (cycle_word part (words part (chosen part))) cs } in g) disks)

  pub presented-trivial : record { generators = []; relators = []; words = [] } ≡ presented_in space number
  presented-trivial =
      let part : Layers = part_of space number in
      let edges : unpaired (chosen part) 1 (count part 1) ≡ [] = ap (unpaired (chosen part) 1) none in
      let disks : unpaired (chosen part) 2 (count part 2) ≡ [] = ap (unpaired (chosen part) 2) flat in
      sym
      (ap (λ (es : List ℕ). let p : Presented = record { generators = es; relators = map (cycle_word part (words part (chosen part))) (unpaired (chosen part) 2 (count part 2)); words = [] } in p) edges
      ∙ ap (λ (cs : List ℕ). let p : Presented = record { generators = []; relators = map (cycle_word part (words part (chosen part))) cs; words = [] } in p) disks)

  pub long-trivial : IsValid (part_of space number) (chosen (part_of space number)) → long_in space number ≡ None
  long-trivial v = ap (option_map (whole_cell (piece_of space number))) (none-long (part_of space number) (chosen (part_of space number)) v none flat)
