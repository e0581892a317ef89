use Rattle.std.proofs.Common.{ℕ, ◌+◌, List, ap, sym, ◌∙◌, subst, refl}
use Rattle.vector_field.specs.LastPlaces.{pair_at, AreLast}
use Rattle.vector_field.specs.Pairings.{lengths}
use Rattle.vector_field.proofs.Places.{last-put, last-skip}
use Rattle.vector_field.proofs.checking.last_places.Goals as goal
use Rattle.vector_field.proofs.checking.last_places.Goals.{then-has_its_lower, else-has_its_lower}

pub loop-index-preserved : goal.loop-index-preserved
loop-index-preserved g c =
    let space : List (List (List ℕ)) = g.G.Graded.space c.args.graded.now in
    elim c.if-has_its_lower.branch [
      | then-has_its_lower w ↦ (
        ap lengths w.last-is ∙ (w.set.ensures.counts ∙ c.loop-index.invariant.0),
        subst (AreLast space c.args.pairs.now (c.loop-index.index + 1)) (sym w.last-is)
            (last-put space c.args.pairs.now c.loop-index.index (pair_at c.args.pairs.now c.loop-index.index) c.loop-index.last w.set.new.self refl w.set.ensures.put c.loop-index.invariant.1),
      )
      | else-has_its_lower w ↦ (
        ap lengths w.last-is ∙ c.loop-index.invariant.0,
        subst (AreLast space c.args.pairs.now (c.loop-index.index + 1)) (sym w.last-is)
            (last-skip space c.args.pairs.now c.loop-index.index (pair_at c.args.pairs.now c.loop-index.index) c.loop-index.last refl (sym c.has_its_lower.ensures ∙ w.if-has_its_lower.false) c.loop-index.invariant.1),
      )
    ]
