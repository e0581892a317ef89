use Rattle.std.proofs.Common.{◌++◌, ◌∷◌, [], ap, ◌∙◌, arith}
use Rattle.facet_reader.proofs.MadeSets.{adds-pushed, crowded}
use Rattle.facet_reader.proofs.listing.add_place.Goals as goal
use Rattle.facet_reader.proofs.listing.add_place.Goals.{then-len-ge-FULL+else-len-gt-MOST_CELLS, else-len-ge-FULL}

pub returns-then-len-gt-MOST_CELLS-clause-many : goal.returns-then-len-gt-MOST_CELLS-clause-many
returns-then-len-gt-MOST_CELLS-clause-many c =
    λ _. crowded (c.args.place ∷ []) c.args.places.now.items c.sort_indexes_once.new.indexes.items c.sort_indexes_once.ensures.rises c.sort_indexes_once.ensures.adds_none
    (omega (arith, c.len-then-len-ge-FULL.ensures, c.if-len-gt-MOST_CELLS.true))

pub returns-clause-ok : goal.returns-clause-ok
returns-clause-ok c =
    elim c.if-len-ge-FULL.branch [
      | then-len-ge-FULL+else-len-gt-MOST_CELLS w ↦
          adds-pushed c.args.places.now.items w.sort_indexes_once.new.indexes.items c.push.new.self.items c.args.place w.sort_indexes_once.ensures.keeps w.sort_indexes_once.ensures.adds_none
          (c.in_ok-push.ensures.items ∙ ap (λ v. v.items ++ c.args.place ∷ []) w.places-is)
      | else-len-ge-FULL w ↦
          adds-pushed c.args.places.now.items c.args.places.now.items c.push.new.self.items c.args.place (λ z i. i) (λ z i. i)
          (c.in_ok-push.ensures.items ∙ ap (λ v. v.items ++ c.args.place ∷ []) w.places-is)
    ]
