use Rattle.std.proofs.Common.{◌≡◌, ℕ, ◌+◌, ◌-◌, [], length, get_or, ap, sym, ◌∙◌, arith}
use Rattle.local_field.specs.Flags.{cells_at, facets_at, minus_at}
use Rattle.local_field.proofs.FlagSigns.{numbers-more, number-at, as-many}
use Rattle.local_field.proofs.flag_signs.minus_by_place.Goals as goal

pub get-sides-requires : goal.get-sides-requires
get-sides-requires g c =
    let l = as-many (facets_at (g.S.Graded.space c.args.signed.now) c.args.numbering.now c.args.dim) (length (cells_at c.args.numbering.now c.args.dim)) c.args.facets.now c.requires.facets in
    omega (arith, l, c.loop-index-test.true, c.cells-index-end.ensures.cells, c.requires.cells.counts c.args.dim)

pub list_minus-requires-clause-facets : goal.list_minus-requires-clause-facets
list_minus-requires-clause-facets g c =
    let back : c.loop-index.index + 1 - 1 ≡ c.loop-index.index = omega arith in
    c.get-sides.ensures
    ∙ (ap (λ (k : ℕ). get_or c.args.facets.now k []) (sym back)
    ∙ number-at (facets_at (g.S.Graded.space c.args.signed.now) c.args.numbering.now c.args.dim) (length (cells_at c.args.numbering.now c.args.dim)) (c.loop-index.index + 1) c.args.facets.now [] c.requires.facets (omega arith)
    (omega (arith, c.loop-index-test.true, c.cells-index-end.ensures.cells, c.requires.cells.counts c.args.dim)))

pub loop-index-preserved : goal.loop-index-preserved
loop-index-preserved g c = numbers-more (minus_at (g.S.Graded.space c.args.signed.now) (g.S.Signed.negative c.args.signed.now) c.args.numbering.now c.args.dim) c.loop-index.index c.loop-index.lists c.push.new.self c.deref.result.now c.in_ok-push.ensures.ok c.loop-index.invariant (c.deref.ensures.value ∙ c.in_ok-minus.ensures)
