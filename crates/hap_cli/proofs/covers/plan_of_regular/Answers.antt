use Rattle.std.proofs.Common.{◌≡◌, ◌≤◌, ◌+◌, ℕ, None, ap, subst, ◌∙◌, arith}
use Rattle.std.specs.Prelude.{nat_lt}
use Rattle.face_poset.specs.Poset.{Layers, IsLimited, count}
use Rattle.regular_check.specs.Components.{Numbering}
use Rattle.part_groups.specs.Groups.{long_from}
use Rattle.hap_inputs.specs.Spaces.{unless_long}
use Rattle.hap_cli.proofs.CoverEnds.{few-presented}
use Rattle.hap_cli.proofs.covers.plan_of_regular.Goals as goal

pub returns : goal.returns
returns c =
    let space : Layers = c.args.regular.now in
    let none : long_from space c.args.first ≡ None = c.in_ok-presentations.ensures.limits in
    let limited : IsLimited space = subst IsLimited c.space.ensures.same c.cells-vertices.ensures.limited in
    let most : count space 0 + count space 1 + count space 2 + count space 3 ≤ 60000 = limited.most in
    let few : count space 0 ≤ 60000 = omega (arith, most) in
    record {
      space = space;
      past = ap (unless_long space) none;
      presentations = c.in_ok-presentations.ensures.presentations;
      several = ap (λ (n : ℕ). nat_lt 1 n) (c.count.ensures ∙ ap (λ (n : Numbering). n.count) c.in_ok-components.ensures);
      few = few-presented space c.args.first c.in_ok-presentations.presentations.items few c.requires.most c.in_ok-presentations.ensures.presentations;
    }
