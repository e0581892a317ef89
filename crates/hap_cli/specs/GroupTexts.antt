-- What `group` writes. number counts from 1; a letter is a generator, or backward the negative of its number.
--   word_text word                   the letters with spaces between; a hyphen for the empty word
--   generator_line number edge       a generator and its edge
--   relator_line word                a relator
--   counted_line words count         words and a number
--   numbered_text line number xs     the lines of some things, numbered from this number on
--   group_lines g                    how many generators there are, the generators, how many relators, the relators
--   component_lines number g         the same behind a line with the number of the component
--   groups_text gs                   of one group its lines, of several those of each component
--   group_text space                 of the groups of all components of the space
--   generators_text, relators_text, later_letters: steps
use Rattle.std.specs.Prelude.{ℕ, ◌+◌, ℤ, List, [], ◌∷◌, ◌++◌, codes, decimal, length}
use Rattle.std.specs.Fmt.{signed_decimal}
use Rattle.std.specs.List.{flat_map}
use Rattle.face_poset.specs.Poset.{Layers}
use Rattle.part_groups.specs.Groups.{Generated, groups_of}

-- ---- lines

abbrev pub later_letters : List ℤ → List ℕ
later_letters word = flat_map (λ a. codes " " ++ signed_decimal a) word

abbrev pub word_text : List ℤ → List ℕ
word_text [] = codes "-"
word_text (a ∷ word) = signed_decimal a ++ later_letters word

abbrev pub generator_line : (number edge : ℕ) → List ℕ
generator_line number edge = codes "generator " ++ (decimal number ++ (codes " " ++ (decimal edge ++ codes "\n")))

abbrev pub relator_line : List ℤ → List ℕ
relator_line word = codes "relator " ++ (word_text word ++ codes "\n")

abbrev pub counted_line : (words : List ℕ) → (count : ℕ) → List ℕ
counted_line words count = words ++ (decimal count ++ codes "\n")

abbrev pub numbered_text : {A : Type 0} → (line : ℕ → A → List ℕ) → (number : ℕ) → List A → List ℕ
numbered_text line number [] = []
numbered_text line number (x ∷ xs) = line number x ++ numbered_text line (number + 1) xs

-- ---- groups

abbrev pub generators_text : List ℕ → List ℕ
generators_text edges = counted_line (codes "generators ") (length edges) ++ numbered_text generator_line 1 edges

abbrev pub relators_text : List (List ℤ) → List ℕ
relators_text words = counted_line (codes "relators ") (length words) ++ flat_map relator_line words

abbrev pub group_lines : Generated → List ℕ
group_lines g = generators_text g.edges ++ relators_text g.relators

abbrev pub component_lines : (number : ℕ) → Generated → List ℕ
component_lines number g = counted_line (codes "component ") number ++ group_lines g

abbrev pub groups_text : List Generated → List ℕ
groups_text [] = []
groups_text (g ∷ []) = group_lines g
groups_text (g ∷ h ∷ gs) = numbered_text component_lines 1 (g ∷ h ∷ gs)

abbrev pub group_text : Layers → List ℕ
group_text space = groups_text (groups_of space)
