use Rattle.std.proofs.Common.{◌≡◌, ◌≤◌, ℕ, List, ap, sym, ◌∙◌, subst, arith}
use Rattle.face_poset.specs.Poset.{count}
use Rattle.cover_space.specs.Making.{stage}
use Rattle.cover_space.proofs.Layered.{some-cell}
use Rattle.cover_space.proofs.making.make_total.Goals as goal

pub finish-requires : goal.finish-requires
finish-requires c =
    let four : c.loop-dim.dim ≡ 4 = omega (arith, c.loop-dim-test.false, c.loop-dim.auto.dim-end) in
    subst (λ (b : List (List (List ℕ))). 1 ≤ count b 0) (sym (c.loop-dim.invariant.0 ∙ ap (λ (d : ℕ). stage c.args.space.now c.args.labels.now d 0) four)) (some-cell c.args.space.now c.args.labels.now c.requires.labelled)
