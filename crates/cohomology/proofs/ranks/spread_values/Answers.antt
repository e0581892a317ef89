use Rattle.std.proofs.Common.{ℕ, length, replicate, ap, ◌∙◌, arith}
use Rattle.cohomology.proofs.ReducedLines.{place_within, places_many, put_before_long, put_first, put_next, spread_all}
use Rattle.cohomology.proofs.ranks.spread_values.Goals as goal

pub loop-index-init : goal.loop-index-init
loop-index-init g c = put_first c.args.reduced.now c.args.dim c.filled-places.result.now c.args.values.now c.in_ok-spread.spread (c.in_ok-spread.ensures ∙ ap (λ (n : ℕ). replicate n 0) c.criticals.ensures)

pub bounds-places-index : goal.bounds-places-index
bounds-places-index g c =
    omega (
      arith,
      c.loop-index-test.true,
      c.len-index-end.ensures.len,
      places_many g.F.Field.ops g.met.F.Field.laws c.args.reduced.now c.args.dim c.filled-places.result.now (length c.args.values.now) c.filled-places.ensures c.requires.count,
    )

pub set-requires : goal.set-requires
set-requires g c =
    omega (
      arith,
      place_within g.F.Field.ops g.met.F.Field.laws c.args.reduced.now c.args.dim c.filled-places.result.now (length c.args.values.now) c.loop-index.index c.filled-places.ensures c.requires.count (omega (
        arith,
        c.loop-index-test.true,
        c.len-index-end.ensures.len,
        places_many g.F.Field.ops g.met.F.Field.laws c.args.reduced.now c.args.dim c.filled-places.result.now (length c.args.values.now) c.filled-places.ensures c.requires.count,
      )),
      put_before_long c.args.reduced.now c.args.dim c.filled-places.result.now c.args.values.now c.loop-index.index c.loop-index.spread c.loop-index.invariant,
    )

pub loop-index-preserved : goal.loop-index-preserved
loop-index-preserved g c =
    put_next c.args.reduced.now c.args.dim c.filled-places.result.now c.args.values.now c.loop-index.spread c.set.new.self c.loop-index.index (g.F.Field.number_of c.get.result) (omega (
      arith,
      c.loop-index-test.true,
      c.len-index-end.ensures.len,
      places_many g.F.Field.ops g.met.F.Field.laws c.args.reduced.now c.args.dim c.filled-places.result.now (length c.args.values.now) c.filled-places.ensures c.requires.count,
    )) (omega (arith, c.loop-index-test.true, c.len-index-end.ensures.len))
    c.get.ensures c.loop-index.invariant c.set.ensures

pub returns : goal.returns
returns g c =
    spread_all g.F.Field.ops g.met.F.Field.laws c.args.reduced.now c.args.dim c.filled-places.result.now c.args.values.now c.loop-index.spread c.filled-places.ensures c.requires.count c.loop-index.index (omega (arith, c.loop-index-test.false, c.len-index-end.ensures.len))
    c.loop-index.invariant
