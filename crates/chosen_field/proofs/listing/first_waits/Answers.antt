use Rattle.std.proofs.Common.{◌≡◌, ℕ, ◌+◌, List, length, ◌∙◌, ap, sym, subst, refl, arith}
use Rattle.face_poset.specs.Poset.{facets_of}
use Rattle.chosen_field.specs.Listings.{at}
use Rattle.chosen_field.proofs.FirstWaits.{AreBegun, at-next, begun-none, begun-pass, begun-put, waits-begun, all-begun, upper-facets, upper-few}
use Rattle.chosen_field.proofs.listing.first_waits.Goals as goal
use Rattle.chosen_field.proofs.listing.first_waits.Goals.{then-upper-ne0+in_ok-put, else-upper-ne0}

pub count_lowers-number-requires-clause-few : goal.count_lowers-number-requires-clause-few
count_lowers-number-requires-clause-few g c =
    upper-few (g.G.Graded.space c.args.graded.now) c.args.dim c.args.uppers.now c.facets.ensures.valid c.requires.uppers c.requires.dim (c.loop-index.index + 1) c.facets.result.now (omega arith)
    (omega (arith, c.if-upper-ne0.true, at-next c.args.uppers.now c.loop-index.index))
    (c.facets.ensures.facets ∙ ap (facets_of (g.G.Graded.space c.args.graded.now) (c.args.dim + 1)) (at-next c.args.uppers.now c.loop-index.index))

pub count_lowers-number-requires-clause-cells : goal.count_lowers-number-requires-clause-cells
count_lowers-number-requires-clause-cells g c =
    upper-facets (g.G.Graded.space c.args.graded.now) c.args.dim c.args.uppers.now c.facets.ensures.valid c.requires.uppers (c.loop-index.index + 1) (length c.args.uppers.now) c.facets.result.now (omega arith)
    (omega (arith, c.if-upper-ne0.true, at-next c.args.uppers.now c.loop-index.index))
    (c.facets.ensures.facets ∙ ap (facets_of (g.G.Graded.space c.args.graded.now) (c.args.dim + 1)) (at-next c.args.uppers.now c.loop-index.index)) refl

pub loop-index-init : goal.loop-index-init
loop-index-init g c = begun-none (facets_of (g.G.Graded.space c.args.graded.now) (c.args.dim + 1)) c.args.uppers.now c.in_ok-waits.waits (length c.args.uppers.now) refl c.in_ok-waits.ensures

pub loop-index-preserved : goal.loop-index-preserved
loop-index-preserved g c =
    let F : ℕ → List ℕ = facets_of (g.G.Graded.space c.args.graded.now) (c.args.dim + 1) in
    let uppers : List ℕ = c.args.uppers.now in
    let i : ℕ = c.loop-index.index in
    elim c.if-upper-ne0.branch [
      | then-upper-ne0+in_ok-put w ↦
          begun-put F uppers c.loop-index.waits c.if-upper-ne0.waits i c.loop-index.invariant (at uppers (i + 1)) w.count_lowers-number.result w.facets.result.now refl (omega (arith, w.if-upper-ne0.true, at-next uppers i))
          (omega (arith, c.loop-index-test.true, c.cells-index-end.ensures.cells, c.requires.uppers.long)) (w.facets.ensures.facets ∙ ap F (at-next uppers i)) w.count_lowers-number.ensures (w.waits-is ∙ w.in_ok-put.ensures.counts)
      | else-upper-ne0 w ↦
          subst (AreBegun F uppers (i + 1)) (sym w.waits-is) (begun-pass F uppers c.loop-index.waits c.loop-index.waits i c.loop-index.invariant (omega (arith, w.if-upper-ne0.false, at-next uppers i)))
    ]

pub returns-clause-waits : goal.returns-clause-waits
returns-clause-waits g c =
    let space : List (List (List ℕ)) = g.G.Graded.space c.args.graded.now in
    let all : c.loop-index.index ≡ length c.args.uppers.now = omega (arith, c.loop-index-test.false, c.loop-index.auto.index-end, c.cells-index-end.ensures.cells, c.requires.uppers.long) in
    waits-begun space c.args.dim c.args.uppers.now c.loop-index.waits c.cells-index-end.ensures.valid c.requires.uppers (subst (λ (n : ℕ). AreBegun (facets_of space (c.args.dim + 1)) c.args.uppers.now n c.loop-index.waits) all c.loop-index.invariant)

pub returns-clause-all : goal.returns-clause-all
returns-clause-all g c =
    let space : List (List (List ℕ)) = g.G.Graded.space c.args.graded.now in
    let all : c.loop-index.index ≡ length c.args.uppers.now = omega (arith, c.loop-index-test.false, c.loop-index.auto.index-end, c.cells-index-end.ensures.cells, c.requires.uppers.long) in
    all-begun space c.args.dim c.args.uppers.now c.loop-index.waits c.cells-index-end.ensures.valid c.requires.uppers (subst (λ (n : ℕ). AreBegun (facets_of space (c.args.dim + 1)) c.args.uppers.now n c.loop-index.waits) all c.loop-index.invariant)
