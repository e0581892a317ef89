-- What `group` writes of small spaces.
use Rattle.std.proofs.Common.{◌≡◌, ◌++◌, [], ◌∷◌, codes, refl}
use Rattle.std.specs.Prelude.{pos, negsuc}
use Rattle.std.specs.Fmt.{digits}
use Rattle.face_poset.specs.Poset.{Layers}
use Rattle.part_groups.specs.Groups.{Generated}
use Rattle.hap_cli.specs.GroupTexts.{groups_text, group_text}

-- the projective plane of three squares
abbrev plane : Layers
plane =
    ([] ∷ [] ∷ [] ∷ [] ∷ [])
    ∷ ((1 ∷ 2 ∷ []) ∷ (1 ∷ 3 ∷ []) ∷ (1 ∷ 4 ∷ []) ∷ (2 ∷ 3 ∷ []) ∷ (2 ∷ 4 ∷ []) ∷ (3 ∷ 4 ∷ []) ∷ [])
    ∷ ((1 ∷ 3 ∷ 4 ∷ 6 ∷ []) ∷ (1 ∷ 2 ∷ 5 ∷ 6 ∷ []) ∷ (2 ∷ 3 ∷ 4 ∷ 5 ∷ []) ∷ [])
    ∷ []
    ∷ []

plane_text : group_text plane ≡ codes "generators 1\ngenerator 1 4\nrelators 1\nrelator 1 1\n"
unfolding digits
plane_text = refl

-- one component and two
abbrev first : Generated
first = record { edges = 6 ∷ 8 ∷ []; relators = (negsuc 1 ∷ pos 1 ∷ []) ∷ [] ∷ [] }

abbrev second : Generated
second = record { edges = []; relators = [] }

one_text : groups_text (first ∷ []) ≡ codes "generators 2\ngenerator 1 6\ngenerator 2 8\nrelators 2\nrelator -2 1\nrelator -\n"
unfolding digits
one_text = refl

two_texts : groups_text (first ∷ second ∷ []) ≡ codes "component 1\n" ++ (groups_text (first ∷ []) ++ codes "component 2\ngenerators 0\nrelators 0\n")
unfolding digits
two_texts = refl
