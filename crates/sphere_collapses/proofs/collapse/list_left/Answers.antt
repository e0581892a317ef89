use Rattle.std.proofs.Common.{◌≡◌, ◌∙◌, ◌+◌, ℕ, List, true, false, map, ap, sym, arith}
use Rattle.number_lists.specs.Words.{holds}
use Rattle.sphere_collapses.specs.declared.tree.Taken.{Taken}
use Rattle.sphere_collapses.proofs.Lists.{links-begun, links-more, links_all, left-more, left_all}
use Rattle.sphere_collapses.proofs.collapse.list_left.Goals as goal
use Rattle.sphere_collapses.proofs.collapse.list_left.Goals.{then-not-holds+in_ok-push, else-not-holds}

pub loop-taken-init : goal.loop-taken-init
loop-taken-init c = (c.in_ok-links.ensures.most, links-begun c.args.tree.now c.in_ok-links.links.found c.in_ok-links.ensures.found)

pub loop-taken-preserved : goal.loop-taken-preserved
loop-taken-preserved c = (
  c.insert.ensures.most ∙ c.loop-taken.invariant.0,
  links-more c.args.tree.now c.loop-taken.taken-index c.loop-taken.links.found c.insert.new.self.found c.loop-taken-test.true c.loop-taken.invariant.1 c.in_ok-insert.ensures.found,
)

pub loop-index-preserved : goal.loop-index-preserved
loop-index-preserved c =
    let law : (p : ℕ) → holds c.loop-taken.links.found p ≡ holds (map (λ (t : Taken). t.link) c.args.tree.now) p = links_all c.args.tree.now c.loop-taken.taken-index c.loop-taken.links.found c.loop-taken-test.false c.loop-taken.invariant.1 in
    let links : List ℕ = map (λ (t : Taken). t.link) c.args.tree.now in
    let h : c.holds.result ≡ holds links (c.loop-index.index + 1) = c.holds.ensures ∙ law (c.loop-index.index + 1) in
    elim c.if-not-holds.branch [
      | then-not-holds+in_ok-push w ↦
          left-more c.args.edges.now links c.loop-index.left.items c.if-not-holds.left.items c.loop-index.index false (sym h ∙ w.if-not-holds.true) c.loop-index.invariant (ap (λ v. v.items) w.left-is ∙ w.in_ok-push.ensures.items)
      | else-not-holds w ↦
          left-more c.args.edges.now links c.loop-index.left.items c.if-not-holds.left.items c.loop-index.index true (sym h ∙ w.if-not-holds.false) c.loop-index.invariant (ap (λ v. v.items) w.left-is)
    ]

pub returns : goal.returns
returns c = left_all c.args.edges.now c.loop-index.left.items c.args.tree.now c.loop-index.index (omega (arith, c.loop-index-test.false, c.loop-index.auto.index-end)) c.loop-index.invariant
