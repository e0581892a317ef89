use Rattle.std.proofs.Common.{ℕ, List, take, ap, sym, ◌∙◌}
use Rattle.std.specs.List.{flat_map}
use Rattle.face_poset.specs.Poset.{facets_of}
use Rattle.number_lists.specs.Found.{inserted_all}
use Rattle.regular_check.proofs.Distinct.{facets-more}
use Rattle.regular_check.proofs.search.insert_facets.Goals as goal

pub loop-cell-preserved : goal.loop-cell-preserved
loop-cell-preserved c =
    let xs : List ℕ = c.args.cells.now in
    let i : ℕ = c.loop-cell.cell-index in
    let f : ℕ → List ℕ = facets_of c.args.space.now c.args.dim in
    let before : List ℕ = c.args.found.now.found in (
      c.insert_all.ensures.most ∙ c.loop-cell.invariant.0,
      c.in_ok-insert_all.ensures.found
          ∙ (ap (λ (ns : List ℕ). inserted_all ns c.facets.result.now) c.loop-cell.invariant.1
          ∙ (ap (inserted_all (inserted_all before (flat_map f (take i xs)))) c.facets.ensures.facets ∙ sym (facets-more f before xs i c.loop-cell-test.true))),
    )
