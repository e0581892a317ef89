use Rattle.std.proofs.Common.{◌≡◌, ℕ, List, true, get_or, ap, sym, ◌∙◌, subst, arith}
use Rattle.face_poset.specs.Poset.{IsSpace, facets_of}
use Rattle.sphere_collapses.specs.Collapses.{boundary_less, collapses}
use Rattle.local_field.specs.Inside.{IsFull}
use Rattle.local_field.specs.Buildings.{dim_at, is_below, flag_of}
use Rattle.local_field.specs.Listed.{first_disk, IsBuilt}
use Rattle.local_field.proofs.FlagLaw.{full}
use Rattle.local_field.proofs.Layers.{inside-numbers, solid-is-built}
use Rattle.local_field.proofs.field.push_solid.Goals as goal

pub push_inside-requires-clause-full : goal.push_inside-requires-clause-full
push_inside-requires-clause-full c =
    subst (λ (z : List ℕ). IsFull (is_below c.args.regular.now) (dim_at c.args.regular.now) z) (sym (c.deref.ensures.value ∙ (c.in_ok-flag.ensures ∙ ap (λ (s : List (List (List ℕ))). flag_of s 3 c.args.solid) c.space-space.ensures.same))) (full c.args.regular.now (subst IsSpace c.space-space.ensures.same c.facets.ensures.valid) 3 c.args.solid (omega arith) c.requires.first c.requires.last)

pub returns : goal.returns
returns c =
    let face : get_or c.facets.result.now 0 0 ≡ first_disk c.args.regular.now c.args.solid = ap (λ (fs : List ℕ). get_or fs 0 0) c.facets.ensures.facets ∙ ap (λ (s : List (List (List ℕ))). get_or (facets_of s 3 c.args.solid) 0 0) c.space-space.ensures.same in
    record {
      chosen = c.in_ok-collapse.collapse;
      collapsing = subst (λ (f : ℕ). collapses c.args.regular.now (boundary_less c.args.regular.now c.args.solid f) c.in_ok-collapse.collapse ≡ true) face c.in_ok-collapse.ensures;
      put = λ collapse e.
          inside-numbers c.args.regular.now collapse 3 c.args.solid c.deref.result.now c.in_ok-built.built c.args.pairs.now.items c.push_inside.new.pairs.items (c.deref.ensures.value ∙ (c.in_ok-flag.ensures ∙ ap (λ (s : List (List (List ℕ))). flag_of s 3 c.args.solid) c.space-space.ensures.same)) c.in_ok-push_inside.ensures
          (subst (λ (z : List ℕ). IsBuilt c.args.regular.now collapse z c.in_ok-built.built) (sym (c.deref.ensures.value ∙ (c.in_ok-flag.ensures ∙ ap (λ (s : List (List (List ℕ))). flag_of s 3 c.args.solid) c.space-space.ensures.same)))
          (solid-is-built c.args.regular.now (subst IsSpace c.space-space.ensures.same c.facets.ensures.valid) collapse c.args.solid (get_or c.facets.result.now 0 0) c.in_ok-collapse.collapse c.in_ok-built.built c.requires.first c.requires.last face e c.in_ok-built.ensures.built));
    }
