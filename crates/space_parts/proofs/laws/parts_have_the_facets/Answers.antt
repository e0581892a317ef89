use Rattle.std.proofs.Common.{◌≡◌, ℕ, suc, ◌+◌, ◌≤◌, map, arith, subst}
use Rattle.face_poset.specs.Poset.{count, facets_of}
use Rattle.space_parts.specs.Parts.{part_of, piece_of, whole_of}
use Rattle.space_parts.proofs.Whole.{facets_whole}
use Rattle.space_parts.proofs.laws.parts_have_the_facets.Goals as goal

pub returns : goal.returns
returns c space number dim cell hs regular low high =
    let e : suc dim ≡ dim + 1 = omega arith in
    subst (λ (n : ℕ). cell ≤ count (part_of space number) n → map (whole_of (piece_of space number) dim) (facets_of (part_of space number) n cell) ≡ facets_of space n (whole_of (piece_of space number) n cell)) e
    (λ most. facets_whole space number hs regular c.same_component_is_a_path.ensures dim cell low most) high
