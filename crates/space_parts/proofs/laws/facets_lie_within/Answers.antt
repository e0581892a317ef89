use Rattle.std.proofs.Common.{◌≡◌, ℕ, suc, ◌+◌, ◌≤◌, Contains, arith, subst}
use Rattle.number_lists.proofs.CallerLemmas.{Contains-In}
use Rattle.face_poset.specs.Poset.{count, facets_of}
use Rattle.space_parts.specs.Parts.{component_at}
use Rattle.space_parts.proofs.Within.{lies_within}
use Rattle.space_parts.proofs.laws.facets_lie_within.Goals as goal

pub returns : goal.returns
returns c space dim cell facet hs regular low high has =
    let e : suc dim ≡ dim + 1 = omega arith in
    subst (λ (n : ℕ). cell ≤ count space n → Contains (facets_of space n cell) facet → component_at space dim facet ≡ component_at space n cell) e
    (λ most k. lies_within space hs regular c.same_component_is_a_path.ensures dim cell facet low most (Contains-In k)) high has
