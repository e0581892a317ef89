use Rattle.std.proofs.Common.{◌≡◌, List, sym, ap, subst, ◌∙◌}
use Rattle.std.specs.Prelude.{ℤ}
use Rattle.std.proofs.lemmas.Result.{err_from_is_err_and}
use Rattle.face_poset.specs.declared.cells.Pair.{Pair}
use Rattle.face_poset.specs.Poset.{Layers, IsSpace}
use Rattle.vector_field.specs.Pairs.{IsValid}
use Rattle.chosen_field.specs.Chosen.{chosen}
use Rattle.edge_words.specs.Words.{Presented, presentation_of}
use Rattle.edge_words.specs.Limits.{IsFault, too_long}
use Rattle.part_groups.specs.Groups.{Generated, long_in}
use Rattle.part_groups.proofs.Wholes.{group-whole, long-whole}
use Rattle.part_groups.proofs.listing.whole_group.Goals as goal

pub returns-in_err-presentation-clause-limits : goal.returns-in_err-presentation-clause-limits
returns-in_err-presentation-clause-limits c =
    let p = err_from_is_err_and c.from_residual-in_err-presentation.result c.from_residual-in_err-presentation.ensures.1 in
    let space : Layers = c.args.regular.now in
    let hs : IsSpace space = subst IsSpace c.space.ensures.same c.cells-vertices.ensures.valid in
    let v : IsValid space (chosen space) = subst (IsValid space) c.in_ok-field.ensures.pairs c.in_ok-field.ensures.field.valid in
    let long : long_in space 1 ≡ too_long space c.in_ok-field.field.pairs =
    long-whole space hs c.requires c.one_part_is_the_space.ensures c.one_part_keeps_numbers.ensures v ∙ ap (too_long space) (sym c.in_ok-field.ensures.pairs) in
    rw (p.1, p.2) (subst (λ o. IsFault o c.in_err-presentation.field-0.0) (sym long) c.in_err-presentation.ensures.limits)

pub returns-clause-group : goal.returns-clause-group
returns-clause-group c =
    let space : Layers = c.args.regular.now in
    let hs : IsSpace space = subst IsSpace c.space.ensures.same c.cells-vertices.ensures.valid in
    let is : c.in_ok-presentation.presentation ≡ presentation_of space (chosen space) =
    c.in_ok-presentation.ensures.presentation ∙ ap (λ (ps : List Pair). presentation_of space ps) c.in_ok-field.ensures.pairs in
    ap (λ (rs : List (List ℤ)). let g : Generated = record { edges = c.in_ok-edges.edges.items; relators = rs } in g) (ap (λ (r : Presented). r.relators) c.without_words.ensures)
    ∙ group-whole space hs c.requires c.one_part_is_the_space.ensures c.one_part_keeps_numbers.ensures c.in_ok-presentation.presentation c.in_ok-edges.edges.items is
    (c.in_ok-edges.ensures.items ∙ c.generators.ensures.generators)

pub returns-clause-limits : goal.returns-clause-limits
returns-clause-limits c =
    let space : Layers = c.args.regular.now in
    let hs : IsSpace space = subst IsSpace c.space.ensures.same c.cells-vertices.ensures.valid in
    let v : IsValid space (chosen space) = subst (IsValid space) c.in_ok-field.ensures.pairs c.in_ok-field.ensures.field.valid in
    long-whole space hs c.requires c.one_part_is_the_space.ensures c.one_part_keeps_numbers.ensures v
    ∙ (ap (too_long space) (sym c.in_ok-field.ensures.pairs) ∙ c.in_ok-presentation.ensures.limits)
